-- The values around a place of a document.
use Rattle.std.specs.Prelude.{◌≡◌, ℕ, ◌<◌, ◌≤◌, List, Some, slice_get}
use Rattle.sonic_index.specs.declared.entry.Entry.{Entry}

-- the value with this number begins at or before the place, and ends after it
pub record IsAround (es : List Entry) (place i : ℕ) : Type 0 where
  pub entry : Entry
  pub read : slice_get es i ≡ Some entry
  pub begins : entry.start ≤ place
  pub ends : place < entry.end

-- no value with a number from n on, below m, is around the place
abbrev pub NoneAround : List Entry → ℕ → ℕ → ℕ → Type 0
NoneAround es place n m = (i : ℕ) → n ≤ i → i < m → ¬ IsAround es place i
