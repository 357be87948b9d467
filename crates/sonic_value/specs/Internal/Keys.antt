-- Where a key stands among members. Clauses of private calls alone cite this.
use Rattle.std.specs.Prelude.{◌≡◌, ◌≢◌, ◌<◌, ℕ, List, map, Some, slice_get}
use Rattle.std.specs.declared.alloc.Global.{Global}
use Rattle.std.specs.declared.string.String.{String}
use Rattle.sonic_text.specs.Trees.{Tree}
use Rattle.sonic_value.specs.Views.{key_and_tree}
use Rattle.sonic_value.specs.declared.value.Value.{Value}

-- members as the keys' bytes and the values' trees
abbrev pub seen : List (String Global × Value) → List (List ℕ × Tree)
seen ms = map key_and_tree ms

abbrev pub keys : List (List ℕ × Tree) → List (List ℕ)
keys ms = map (λ m. m.0) ms

-- x stands at i, and nowhere before
pub record IsFirstKey (x : List ℕ) (xs : List (List ℕ)) (i : ℕ) : Type 0 where
  pub here : slice_get xs i ≡ Some x
  pub first : (p : ℕ) → p < i → slice_get xs p ≢ Some x
