-- Which spans of a text are values of their own, in UTF-8.
use Rattle.std.specs.Prelude.{◌≡◌, ℕ, ◌≤◌, List, length, slice_get, slice_range}
use Rattle.std.specs.declared.option.Option.{Option}
use Rattle.std.specs.declared.option.Option.TheVariants.{Some}
use Rattle.std.specs.Str.{IsUtf8}
use Rattle.sonic_text.specs.Strings.{strict}
use Rattle.sonic_text.specs.Values.{IsValue}
use Rattle.sonic_find.specs.declared.outcome.PathOutcome.{PathOutcome}
use Rattle.sonic_find.specs.declared.outcome.PathOutcome.TheVariants.{Found}
use Rattle.sonic_find.specs.declared.span.Span.{Span}

-- from i to j is a value, and its bytes are UTF-8
pub record IsPart (t : List ℕ) (i j : ℕ) : Type 0 where
  pub value : IsValue strict t i j
  pub inside : j ≤ length t
  pub utf8 : IsUtf8 (slice_range t i j)

-- and each of these spans is one, where there is one
abbrev pub AreSpans : List ℕ → List (Option Span) → Type 0
AreSpans t xs = (k : ℕ) (x : Span) → slice_get xs k ≡ Some (Some x) → IsPart t x.start x.end

-- and each that was found
abbrev pub AreFoundParts : List ℕ → List (PathOutcome Span) → Type 0
AreFoundParts t xs = (k : ℕ) (x : Span) → slice_get xs k ≡ Some (Found x) → IsPart t x.start x.end
