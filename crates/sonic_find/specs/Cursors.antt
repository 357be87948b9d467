-- What a cursor knows that goes through a text.
use Rattle.std.specs.Prelude.{ℕ, Bool, List, IsFalse}
use Rattle.sonic_text.specs.declared.kind.Kind.{Kind}
use Rattle.sonic_text.specs.Strings.{strict}
use Rattle.sonic_text.specs.Values.{IsKey, IsValue}
use Rattle.sonic_parser.specs.Containers.{GoesOn}

-- the text, the place that the cursor has come to, and whether it looks at what it skips
pub record CursorState : Type 0 where
  pub text : List ℕ
  pub place : ℕ
  pub checks : Bool

-- a whole value begins at i
abbrev pub HasWhole : List ℕ → ℕ → Type 0
HasWhole t i = (j : ℕ) × IsValue strict t i j

-- where it doesn't look, a whole value begins at the place
abbrev pub IsSkippable : CursorState → Type 0
IsSkippable cursor = IsFalse cursor.checks → HasWhole cursor.text cursor.place

-- where it doesn't look, a key with its colon is at the place
abbrev pub IsAtKey : CursorState → Type 0
IsAtKey cursor = IsFalse cursor.checks → (v : ℕ) × (b : List ℕ) × IsKey strict cursor.text cursor.place v b

-- where it doesn't look, a comma or the closing bracket comes after what ended at the place
abbrev pub IsAfterItem : Kind → CursorState → Type 0
IsAfterItem kind cursor = IsFalse cursor.checks → GoesOn cursor.text kind cursor.place
