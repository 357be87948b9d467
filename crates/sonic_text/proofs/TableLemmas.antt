-- A table of 256 entries is held against a function at each byte, by computing.
use Rattle.std.proofs.Common.{◌≡◌, ◌∙◌, ap, ℕ, zero, suc, ◌<◌, Bool, true, ◌&&◌, nat_eq, get_or, List, length, arith, inl, inr, Some}
use Rattle.std.proofs.lemmas.Bool.{cases_eq, and_parts, eqb-true}
use Rattle.std.proofs.lemmas.Option.{slice_get-get_or}
use Rattle.std.specs.Prelude.{slice_get}

-- the two functions agree below n
unfoldable pub agree_below : (ℕ → ℕ) → (ℕ → ℕ) → ℕ → Bool
agree_below f g zero = true
agree_below f g (suc n) = nat_eq (f n) (g n) && agree_below f g n

pub agree_at : (f g : ℕ → ℕ) (n : ℕ) → agree_below f g n ≡ true → (b : ℕ) → b < n → f b ≡ g b
unfolding agree_below
agree_at f g zero h b lt = absurd (omega arith)
agree_at f g (suc n) h b lt =
    let both = and_parts (nat_eq (f n) (g n)) (agree_below f g n) h in
    elim (cases_eq b n) [ inl same ↦ rw same (eqb-true (f n) (g n) both.0) | inr other ↦ agree_at f g n both.1 b (omega arith) ]

-- so at each byte the table has what the function says
pub from_table : (table : List ℕ) (f : ℕ → ℕ) (b : ℕ) → b < 256 → agree_below (λ k. get_or table k 0) f 256 ≡ true → get_or table b 0 ≡ f b
from_table table f b lt h = agree_at (λ k. get_or table k 0) f 256 h b lt

-- and a table of that length has it there
pub stands_in_table : (table : List ℕ) (f : ℕ → ℕ) (b : ℕ) → length table ≡ 256 → b < 256 → agree_below (λ k. get_or table k 0) f 256 ≡ true → slice_get table b ≡ Some (f b)
stands_in_table table f b n lt h = slice_get-get_or table b 0 (omega (arith, n, lt)) ∙ ap Some (from_table table f b lt h)
