-- Spans of what was found, as callers have them.
use Rattle.std.proofs.Common.{◌≡◌, refl, sym, ap, ◌∙◌, ℕ, Bool, List, [], ◌∷◌, length, map}
use Rattle.std.proofs.lemmas.List.{length-map}
use Rattle.std.specs.declared.option.Option.{Option}
use Rattle.std.specs.declared.option.Option.TheVariants.{Some, None}
use Rattle.sonic_text.specs.Paths.{Path}
use Rattle.sonic_parser.specs.declared.value_span.ValueSpan.{ValueSpan}
use Rattle.sonic_find.specs.Answers.{Span, spans, IsAnswer, ComeTo}
use Rattle.sonic_find.specs.Internal.FirstAnswers.{AllLead}
use Rattle.sonic_find.specs.Answers.AllLeadFrom.{no_more, one_more}
use Rattle.sonic_find.specs.Answers.ComeTo.{no_path, finding}
use Rattle.sonic_find.specs.Found.{slot_in, slots_of, spans_of}
use Rattle.sonic_find.specs.Outcomes.{told_span}
use Rattle.sonic_find.specs.declared.outcome.PathOutcome.{PathOutcome}
use Rattle.sonic_find.specs.declared.outcome.PathOutcome.TheVariants.{Found, Missing, Fails}
use Rattle.sonic_find.specs.Paths.{Outcome}
use Rattle.sonic_find.specs.Spans.{pairs_of}

-- what the slots say is what was found
pub slots_say : (xs : List (PathOutcome ValueSpan)) → pairs_of (map slot_in xs) ≡ spans_of xs
slots_say [] = refl
slots_say (Found x ∷ xs) = ap (λ ys. Some (x.start, x.end) ∷ ys) (slots_say xs)
slots_say (Missing q ∷ xs) = ap (λ ys. None ∷ ys) (slots_say xs)
slots_say (Fails s ∷ xs) = ap (λ ys. None ∷ ys) (slots_say xs)

-- and so do the slots that tell more
pub spans_say : (xs : List (PathOutcome ValueSpan)) → map told_span (slots_of xs) ≡ spans_of xs
spans_say [] = refl
spans_say (Found x ∷ xs) = ap (λ ys. Some (x.start, x.end) ∷ ys) (spans_say xs)
spans_say (Missing q ∷ xs) = ap (λ ys. None ∷ ys) (spans_say xs)
spans_say (Fails s ∷ xs) = ap (λ ys. None ∷ ys) (spans_say xs)

-- each path leads to one outcome
lead_long : {t : List ℕ} {paths : List Path} {os : List Outcome} → AllLead t paths os → length os ≡ length paths
lead_long no_more = refl
lead_long (one_more x rest) = rw (lead_long rest) refl

-- and each outcome has one entry
come_long : {t : List ℕ} {is_bytes : Bool} {os : List Outcome} {entries : List (Option Span)} → ComeTo t is_bytes os (spans entries) → length entries ≡ length os
come_long no_path = refl
come_long {os = os} (finding f c r u e) = rw (e, length-map) refl

-- so an answer has one entry for each path
pub answer_long : {t : List ℕ} {is_bytes : Bool} {paths : List Path} {entries : List (Option Span)} → IsAnswer t is_bytes paths (spans entries)
    → length entries ≡ length paths
answer_long x = rw (come_long x.come_to, lead_long x.lead) refl

-- and so has what was found
pub found_long : {t : List ℕ} {is_bytes : Bool} {paths : List Path} (xs : List (PathOutcome ValueSpan)) → IsAnswer t is_bytes paths (spans (spans_of xs))
    → length xs ≡ length paths
found_long xs x = sym (length-map xs _) ∙ answer_long x
