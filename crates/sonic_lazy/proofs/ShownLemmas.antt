-- The spans of an answer are shown by lazy values.
use Rattle.std.proofs.Common.{◌≡◌, ℕ, List, [], ◌∷◌, ◌++◌, Bool}
use Rattle.std.specs.Prelude.{Option, Some, None, option_map}
use Rattle.sonic_find.specs.Answers.{IsAnswerBy, Answer, Span, span_text}
use Rattle.sonic_find.specs.declared.outcome.PathOutcome.{PathOutcome}
use Rattle.sonic_find.specs.declared.span.Span as slot
use Rattle.sonic_lazy.specs.LazyValues.{raw_bytes}
use Rattle.sonic_lazy.specs.Shown.{Shows, shows_none, shows_span, ShowAll, no_more_values, one_more_value, AreValuesBy, ShowsOutcome, ShowEach, no_more_outcomes, one_more_outcome}
use Rattle.sonic_lazy.specs.Internal.Shown.{HaveTexts}
use Rattle.sonic_lazy.specs.declared.lazyvalue.LazyValue.{LazyValue}
use Rattle.sonic_pointer.specs.declared.rule.KeyRule.{KeyRule}
use Rattle.sonic_text.specs.Paths.{Path}

-- a value with the text of a span shows it
one_shown : (t : List ℕ) (entry : Option Span) (value : Option LazyValue) → option_map raw_bytes value ≡ option_map (span_text t) entry → Shows t entry value
one_shown t None None e = shows_none
one_shown t None (Some value) e = absurd cc
one_shown t (Some span) None e = absurd cc
one_shown t (Some (i, j)) (Some value) e = shows_span cc

-- values with the texts of the spans show them
all_shown : (t : List ℕ) (entries : List (Option Span)) (values : List (Option LazyValue)) → HaveTexts t values entries → ShowAll t entries values
all_shown t [] [] e = no_more_values
all_shown t [] (value ∷ values) e = absurd cc
all_shown t (entry ∷ entries) [] e = absurd cc
all_shown t (entry ∷ entries) (value ∷ values) e = one_more_value (one_shown t entry value cc) (all_shown t entries values cc)

-- so they are the answer
pub are_values : {t : List ℕ} {is_bytes : Bool} {paths : List Path} {entries : List (Option Span)} {values : List (Option LazyValue)} {rule : KeyRule}
    → IsAnswerBy rule t is_bytes paths (Answer.spans entries) → HaveTexts t values entries → AreValuesBy rule t is_bytes paths values
are_values {t} {entries = entries} {values} x e = record { entries = entries; answer = x; shown = all_shown t entries values e }

pub ruleset answers = are_values

-- one more outcome is shown
pub show_more : {t : List ℕ} {all : List (PathOutcome slot.Span)} {outcomes : List (PathOutcome LazyValue)} {told : PathOutcome slot.Span} {outcome : PathOutcome LazyValue}
    → ShowEach t all outcomes → ShowsOutcome t told outcome → ShowEach t (all ++ told ∷ []) (outcomes ++ outcome ∷ [])
show_more no_more_outcomes x = one_more_outcome x no_more_outcomes
show_more (one_more_outcome y ys) x = one_more_outcome y (show_more ys x)
