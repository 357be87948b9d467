-- Which lazy values show the spans of an answer.
use Rattle.std.specs.Prelude.{◌≡◌, ℕ, Bool, List, [], ◌∷◌, slice_range, Result, IfOk, IfErr, IsOk}
use Rattle.std.specs.declared.option.Option.{Option}
use Rattle.std.specs.declared.option.Option.TheVariants.{Some, None}
use Rattle.sonic_text.specs.Paths.{Path}
use Rattle.sonic_lazy.specs.declared.lazyvalue.LazyValue.{LazyValue}
use Rattle.sonic_find.specs.Answers.{Span, IsAnswerBy, IsGetAnswer, spans}
use Rattle.sonic_lazy.specs.LazyValues.{raw_bytes}
use Rattle.sonic_find.specs.Causes.{IsGetRefusal, IsGetError, IsGettable}
use Rattle.sonic_find.specs.Outcomes.{EachAnswer, IsEachAnswerBy}
use Rattle.sonic_find.specs.Paths.{found, Leads}
use Rattle.sonic_find.specs.declared.outcome.PathOutcome.{PathOutcome}
use Rattle.sonic_find.specs.declared.outcome.PathOutcome.TheVariants.{Found, Missing, Fails}
use Rattle.sonic_find.specs.declared.span.Span as slot
use Rattle.sonic_text.specs.declared.stop.Stop.{Stop}
use Rattle.sonic_pointer.specs.declared.rule.KeyRule.{KeyRule}
use Rattle.sonic_pointer.specs.declared.rule.KeyRule.TheVariants.{First}
use Rattle.sonic_error.specs.Errors.{IsPlainError}
use Rattle.sonic_error.specs.declared.code.ErrorCode.TheVariants.{NoMemory}
use Rattle.sonic_error.specs.declared.error.Error.{Error}

-- the value shows the span, or none shows none
pub data Shows (t : List ℕ) : Option Span → Option LazyValue → Type 0 where
  shows_none : Shows t None None
  shows_span : {i j : ℕ} {value : LazyValue} → raw_bytes value ≡ slice_range t i j → Shows t (Some (i, j)) (Some value)

-- the values show the entries one by one
pub data ShowAll (t : List ℕ) : List (Option Span) → List (Option LazyValue) → Type 0 where
  no_more_values : ShowAll t [] []
  one_more_value : {entry : Option Span} {entries : List (Option Span)} {value : Option LazyValue} {values : List (Option LazyValue)} → Shows t entry value
      → ShowAll t entries values → ShowAll t (entry ∷ entries) (value ∷ values)

-- the values are the answer of the paths under a rule
pub record AreValuesBy (r : KeyRule) (t : List ℕ) (is_bytes : Bool) (paths : List Path) (values : List (Option LazyValue)) : Type 0 where
  pub entries : List (Option Span)
  pub answer : IsAnswerBy r t is_bytes paths (spans entries)
  pub shown : ShowAll t entries values

-- and by first equal keys
abbrev pub AreValues : List ℕ → Bool → List Path → List (Option LazyValue) → Type 0
AreValues t is_bytes paths values = AreValuesBy First t is_bytes paths values

-- the outcome shows what a path is told: the value has the text of its span
pub data ShowsOutcome (t : List ℕ) : PathOutcome slot.Span → PathOutcome LazyValue → Type 0 where
  shows_found : {s : slot.Span} {value : LazyValue} → raw_bytes value ≡ slice_range t s.start s.end → ShowsOutcome t (Found s) (Found value)
  shows_missing : {q : ℕ} → ShowsOutcome t (Missing q) (Missing q)
  shows_fails : {s : Stop} → ShowsOutcome t (Fails s) (Fails s)

-- the outcomes show it one by one
pub data ShowEach (t : List ℕ) : List (PathOutcome slot.Span) → List (PathOutcome LazyValue) → Type 0 where
  no_more_outcomes : ShowEach t [] []
  one_more_outcome : {told : PathOutcome slot.Span} {all : List (PathOutcome slot.Span)} {outcome : PathOutcome LazyValue} {outcomes : List (PathOutcome LazyValue)}
      → ShowsOutcome t told outcome → ShowEach t all outcomes → ShowEach t (told ∷ all) (outcome ∷ outcomes)

-- the outcomes are the answer of the paths, each by itself, under a rule
pub record AreOutcomesBy (r : KeyRule) (t : List ℕ) (is_bytes : Bool) (paths : List Path) (outcomes : List (PathOutcome LazyValue)) : Type 0 where
  pub told : List (PathOutcome slot.Span)
  pub answer : IsEachAnswerBy r t is_bytes paths (EachAnswer.outcomes told)
  pub shown : ShowEach t told outcomes

-- the value is the answer of the path
pub record IsValueOf (t : List ℕ) (is_bytes : Bool) (path : Path) (value : LazyValue) : Type 0 where
  pub start : ℕ
  pub end : ℕ
  pub answer : IsGetAnswer t is_bytes path (spans (Some (start, end) ∷ []))
  pub shown : raw_bytes value ≡ slice_range t start end

-- a path is looked up so over the text: by its value or the error that is its answer, or by running out of memory, which alone refuses a value that is there
pub record IsLookup (t : List ℕ) (is_bytes : Bool) (path : Path) (result : Result LazyValue Error) : Type 0 where
  pub ok : IfOk result (IsValueOf t is_bytes path)
  pub err : IfErr result (IsGetRefusal t is_bytes path)
  pub complete : IsGettable t is_bytes path → IfErr result (λ e. IsPlainError e NoMemory)

-- the same without memory: by its value or the error that is its answer
pub record IsSureLookup (t : List ℕ) (is_bytes : Bool) (path : Path) (result : Result LazyValue Error) : Type 0 where
  pub ok : IfOk result (IsValueOf t is_bytes path)
  pub err : IfErr result (IsGetError t is_bytes path)
  pub complete : IsGettable t is_bytes path → IsOk result

-- the value has the text of what the path finds in the text
pub record IsFoundIn (t : List ℕ) (path : Path) (value : LazyValue) : Type 0 where
  pub start : ℕ
  pub end : ℕ
  pub leads : Leads t path (found start end)
  pub shown : raw_bytes value ≡ slice_range t start end

-- the path finds nothing in the text
abbrev pub FindsNone : List ℕ → Path → Type 0
FindsNone t path = (i j : ℕ) → ¬ Leads t path (found i j)
