-- What was found: the slots of paths, with the spans of values.
use Rattle.std.specs.Prelude.{◌≡◌, ℕ, List, map, slice_get}
use Rattle.std.specs.declared.option.Option.{Option}
use Rattle.std.specs.declared.option.Option.TheVariants.{Some, None}
use Rattle.sonic_parser.specs.declared.value_span.ValueSpan.{ValueSpan}
use Rattle.sonic_parser.specs.ValueSpans.{FlagsEscape}
use Rattle.sonic_find.specs.declared.outcome.PathOutcome.{PathOutcome}
use Rattle.sonic_find.specs.declared.outcome.PathOutcome.TheVariants.{Found, Missing, Fails}
use Rattle.sonic_find.specs.declared.span.Span as slot
use Rattle.sonic_find.specs.Answers.{Span}
use Rattle.sonic_find.specs.Parts.{IsPart}

-- the span of a value
abbrev pub span_at : ValueSpan → Span
span_at x = (x.start, x.end)

-- the same, as callers have it
abbrev pub slot_at : ValueSpan → slot.Span
slot_at x = record { start = x.start; end = x.end }

-- what a slot tells, with the span of its value
abbrev pub seen : {V : Type 0} → (V → slot.Span) → PathOutcome V → PathOutcome slot.Span
seen at (Found x) = Found (at x)
seen at (Missing q) = Missing q
seen at (Fails s) = Fails s

-- the same, as callers have it
abbrev pub told_at : PathOutcome ValueSpan → PathOutcome slot.Span
told_at x = seen slot_at x

-- each of them
abbrev pub slots_of : List (PathOutcome ValueSpan) → List (PathOutcome slot.Span)
slots_of xs = map told_at xs

-- what was found, if it was
abbrev pub found_in : {V : Type 0} → PathOutcome V → Option V
found_in (Found v) = Some v
found_in (Missing q) = None
found_in (Fails s) = None

-- the span of a slot's value, if one was found
abbrev pub span_in : PathOutcome ValueSpan → Option Span
span_in (Found x) = Some (span_at x)
span_in (Missing q) = None
span_in (Fails s) = None

-- the same, as callers have it
abbrev pub slot_in : PathOutcome ValueSpan → Option slot.Span
slot_in x = found_in (told_at x)

-- the spans of values, where they were found
abbrev pub spans_of : List (PathOutcome ValueSpan) → List (Option Span)
spans_of xs = map span_in xs

-- each of them says whether it is a string with a backslash
abbrev pub FlagEscapes : List ℕ → List (PathOutcome ValueSpan) → Type 0
FlagEscapes t xs = (k : ℕ) (x : ValueSpan) → slice_get xs k ≡ Some (Found x) → FlagsEscape t x

-- and each is a value of its own, in UTF-8
abbrev pub AreParts : List ℕ → List (PathOutcome ValueSpan) → Type 0
AreParts t xs = (k : ℕ) (x : ValueSpan) → slice_get xs k ≡ Some (Found x) → IsPart t x.start x.end
