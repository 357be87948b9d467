-- What was appended, and which spans lie in a line.
use Rattle.std.specs.Prelude.{◌≡◌, ℕ, Bool, zero, suc, ◌≤◌, List, [], ◌∷◌, ◌++◌, length, Some, slice_get}
use Rattle.sonic_lines.specs.LineRows.{Columns}
use Rattle.sonic_text.specs.Paths.{Path}
use Rattle.sonic_find.specs.declared.outcome.PathOutcome.{PathOutcome}
use Rattle.sonic_find.specs.declared.outcome.PathOutcome.TheVariants.{Found}
use Rattle.sonic_find.specs.declared.span.Span.{Span}

-- bytes were appended
pub record IsMore (before now : List ℕ) : Type 0 where
  pub more : List ℕ
  pub is : now ≡ before ++ more

-- the columns that are asked for
abbrev pub columns_of : List Path → Bool → Columns
columns_of paths each = record { paths = paths; each = each }

-- what an outcome found lies in the line
abbrev pub IsWithin : List ℕ → PathOutcome Span → Type 0
IsWithin line x = (s : Span) → x ≡ Found s → (s.start ≤ s.end) × (s.end ≤ length line)

-- and so of each
abbrev pub AreWithin : List ℕ → List (PathOutcome Span) → Type 0
AreWithin line told = (k : ℕ) (x : PathOutcome Span) → slice_get told k ≡ Some x → IsWithin line x

-- a tab comes before each entry but the first
abbrev pub tab_before : ℕ → List ℕ
tab_before zero = []
tab_before (suc n) = 9 ∷ []
