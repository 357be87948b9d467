-- The lines of a head are one list.
use Rattle.std.proofs.Common.{◌≡◌, ℕ, List, arith, refl}
use Rattle.sonic_paths.specs.Heads.{IsHead}
use Rattle.sonic_paths.specs.Heads.IsHead.{blank_line, blank_end, last_line, one_more_line}

-- from one place on are one list of lines and one document
pub head_one : {t : List ℕ} {i d e : ℕ} {lines more : List (List ℕ)} → IsHead t i lines d → IsHead t i more e → (lines ≡ more) × (d ≡ e)
head_one (blank_line b l q) (blank_line c m p) = (refl, cc)
head_one (blank_line b l q) (blank_end c m p) = absurd (omega arith)
head_one (blank_line b l q) (last_line c m p) = absurd (c b)
head_one (blank_line b l q) (one_more_line c m h) = absurd (c b)
head_one (blank_end b l q) (blank_line c m p) = absurd (omega arith)
head_one (blank_end b l q) (blank_end c m p) = (refl, cc)
head_one (blank_end b l q) (last_line c m p) = absurd (c b)
head_one (blank_end b l q) (one_more_line c m h) = absurd (c b)
head_one (last_line b l q) (blank_line c m p) = absurd (b c)
head_one (last_line b l q) (blank_end c m p) = absurd (b c)
head_one (last_line b l q) (last_line c m p) = (refl, cc)
head_one (last_line b l q) (one_more_line c m h) = absurd (omega arith)
head_one (one_more_line b l h) (blank_line c m p) = absurd (b c)
head_one (one_more_line b l h) (blank_end c m p) = absurd (b c)
head_one (one_more_line b l h) (last_line c m p) = absurd (omega arith)
head_one (one_more_line b l h) (one_more_line c m g) = let r = head_one h g in (cc (r.0), r.1)
