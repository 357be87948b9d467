-- What memory kept paths own.
use Rattle.std.specs.Prelude.{ℕ, zero, suc, length}
use Rattle.sonic_c.specs.Kept.{PathList, no_list}
use base.Fml.{Fml, feq, fsep}

-- none, where there is no list, else that in which the list is kept
abbrev pub memory : ℕ → PathList → Fml → Fml
memory zero list kept = feq PathList list no_list
memory (suc n) list kept = kept

-- beside it the number of paths is told
abbrev pub owns : ℕ → ℕ → PathList → Fml → Fml
owns held count list kept = fsep (feq ℕ count (length list.paths)) (memory held list kept)
