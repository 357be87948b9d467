-- The brackets of one kind outside the strings of a text, as counted from a place s on, and where they balance.
use Rattle.std.specs.Prelude.{◌≡◌, ℕ, ◌<◌, ◌≤◌, true, List}
use Rattle.sonic_blocks.specs.Outside.{is_inside_at, outside, IsClear}
use Rattle.sonic_text.specs.declared.kind.Kind.{Kind}
use Rattle.sonic_text.specs.Places.{byte}
use Rattle.sonic_text.specs.Values.{opening, closing}

-- how many brackets of the kind are opened outside strings before k, and how many are closed
abbrev pub opened : Kind → List ℕ → ℕ → ℕ → ℕ
opened kind t s k = outside t s k (opening kind)

abbrev pub closed : Kind → List ℕ → ℕ → ℕ → ℕ
closed kind t s k = outside t s k (closing kind)

-- j is the first place after i where as many brackets are closed as opened, and it is clear
pub record Closes (kind : Kind) (t : List ℕ) (i j : ℕ) : Type 0 where
  pub later : i < j
  pub unclosed : (k : ℕ) → i < k → k < j → closed kind t i k < opened kind t i k
  pub level : closed kind t i j ≡ opened kind t i j
  pub clear : IsClear t i j

-- from i to j as many brackets are closed as opened, up to no place more, and j is clear
pub record IsLevel (kind : Kind) (t : List ℕ) (i j : ℕ) : Type 0 where
  pub later : i < j
  pub never_below : (k : ℕ) → i ≤ k → k ≤ j → closed kind t i k ≤ opened kind t i k
  pub level : closed kind t i j ≡ opened kind t i j
  pub clear : IsClear t i j

-- from i to j each backslash is inside a string
abbrev pub KeepsBackslashes : List ℕ → ℕ → ℕ → ℕ → Type 0
KeepsBackslashes t s i j = (k : ℕ) → i ≤ k → k < j → byte t k ≡ 92 → is_inside_at t s k ≡ true

-- j is the first place after i that is outside strings, and it is clear
pub record LeavesString (t : List ℕ) (s i j : ℕ) : Type 0 where
  pub later : i < j
  pub inside : (k : ℕ) → i < k → k < j → is_inside_at t s k ≡ true
  pub clear : IsClear t s j
