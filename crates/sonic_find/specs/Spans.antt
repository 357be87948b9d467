-- Spans as callers have them.
use Rattle.std.specs.Prelude.{ℕ, Bool, List, [], ◌∷◌, map, option_map, Result, IfOk, IfErr, IsOk}
use Rattle.std.specs.declared.option.Option.{Option}
use Rattle.std.specs.declared.option.Option.TheVariants.{Some}
use Rattle.sonic_error.specs.Errors.{IsPlainError}
use Rattle.sonic_error.specs.declared.code.ErrorCode.TheVariants.{NoMemory}
use Rattle.sonic_error.specs.declared.error.Error.{Error}
use Rattle.sonic_text.specs.Paths.{Path}
use Rattle.sonic_find.specs.Answers.{Span as Pair, IsGetAnswer, spans}
use Rattle.sonic_find.specs.Causes.{IsGetRefusal, IsGetError, IsGettable}
use Rattle.sonic_find.specs.declared.span.Span.{Span}

-- from its first byte to after its last
abbrev pub pair_of : Span → Pair
pair_of span = (span.start, span.end)

-- each of them, where there is one
abbrev pub pairs_of : List (Option Span) → List (Option Pair)
pairs_of slots = map (option_map pair_of) slots

-- the span is the answer of the path
abbrev pub IsSpanOf : List ℕ → Bool → Path → Span → Type 0
IsSpanOf t is_bytes path span = IsGetAnswer t is_bytes path (spans (Some (pair_of span) ∷ []))

-- a path is looked up so over the text: by its span or the error that is its answer, or by running out of memory, which alone refuses a value that is there
pub record IsFinding (t : List ℕ) (is_bytes : Bool) (path : Path) (result : Result Span Error) : Type 0 where
  pub ok : IfOk result (IsSpanOf t is_bytes path)
  pub err : IfErr result (IsGetRefusal t is_bytes path)
  pub complete : IsGettable t is_bytes path → IfErr result (λ e. IsPlainError e NoMemory)

-- the same without memory
pub record IsSureFinding (t : List ℕ) (is_bytes : Bool) (path : Path) (result : Result Span Error) : Type 0 where
  pub ok : IfOk result (IsSpanOf t is_bytes path)
  pub err : IfErr result (IsGetError t is_bytes path)
  pub complete : IsGettable t is_bytes path → IsOk result
