-- What the slots say when all are filled.
use Rattle.std.proofs.Common.{◌≡◌, ◌∙◌, inl, inr, ap, refl, sym, ℕ, List, Bool, true, false, length}
use Rattle.std.proofs.lemmas.List.{length-map, map-id}
use Rattle.std.proofs.lemmas.Option.{slice_get-map}
use Rattle.std.specs.List.{Contains}
use Rattle.std.specs.Prelude.{Option, Some, None, slice_get, option_map, IfSome, IfNone}
use Rattle.sonic_find.proofs.AnswerLemmas.Agree.{answer_of_gathered, spans_of_all}
use Rattle.sonic_find.proofs.AnswerLemmas.Walk.{IsEnd, AreKept, all_kept, spans_told, stop_answers, kept_found, lead_from}
use Rattle.sonic_find.proofs.MarkLemmas.Collect.{none_settled, each_settled, noted_stops}
use Rattle.sonic_find.proofs.UncheckedLemmas.{found_part}
use Rattle.sonic_find.specs.Answers.{Span, Answer, IsAnswerBy}
use Rattle.sonic_find.specs.Internal.Collected.{IsFailBelow, AllCollected}
use Rattle.sonic_find.specs.Internal.Fill.{AreFilled, settled_in, slots_question, told_by_span}
use Rattle.sonic_find.specs.Internal.Walk.{Question, root_point, whole_question, ComesTo, IsCause, path_stops, value_stops, IsStop, IsError}
use Rattle.sonic_find.specs.Outcomes.{told_span}
use Rattle.sonic_find.specs.Paths.{Outcome, found, lacks, fails, cut}
use Rattle.sonic_find.specs.Spans.{pair_of, pairs_of}
use Rattle.sonic_find.specs.Parts.{IsPart, AreSpans}
use Rattle.sonic_find.specs.declared.outcome.PathOutcome.{PathOutcome}
use Rattle.sonic_find.specs.declared.span.Span as slot
use Rattle.sonic_pointer.specs.Paths.{IsUnmixed}
use Rattle.sonic_pointer.specs.declared.rule.KeyRule.{KeyRule}
use Rattle.sonic_pointer.specs.declared.rule.KeyRule.TheVariants.{First}
use Rattle.sonic_text.specs.Documents.{StartsWithUtf8Value}
use Rattle.sonic_text.specs.Paths.{Path}
use Rattle.sonic_text.specs.declared.stop.Stop.{Stop}

-- from the root each path leads as it does
pub root_comes : {q : Question} → ComesTo (root_point q)
root_comes = record { up = λ rest o l. l; fault = λ s f. f }

-- a slot for a span tells it
pair_of_span : (x : Option slot.Span) → told_span (told_by_span x) ≡ option_map pair_of x
pair_of_span (Some s) = refl
pair_of_span None = refl

-- where no path fails and none is cut, each ends
kept_ends : {t : List ℕ} {slots : List (PathOutcome slot.Span)} {paths : List Path} {rule : KeyRule} (g : AreKept rule t false false true slots paths) (o : Outcome)
    → Contains g.outcomes o → IsEnd true o
kept_ends g (found i j) c = tt
kept_ends g (lacks q) c = refl
kept_ends g (fails s) c = g.none_fails refl s c
kept_ends g (cut s) c = g.none_cut s c

-- and so the spans are the answer
pub slots_answer : {t : List ℕ} {paths : List Path} (slots : List (Option slot.Span)) (nearest : Option Stop) → StartsWithUtf8Value t
    → length slots ≡ length paths → AllCollected (root_point (slots_question false t paths)) (settled_in told_by_span slots) nearest
    → IfNone nearest ((is_bytes : Bool) → IsAnswerBy First t is_bytes paths (Answer.spans (pairs_of slots)))
slots_answer {t} {paths} slots None starts long all =
    let settled = none_settled (root_point (slots_question false t paths)) all in
    let g = all_kept First t paths false false {f = settled_in told_by_span slots} (length-map slots told_by_span ∙ long) settled in
    λ is_bytes. answer_of_gathered starts (record {
      outcomes = g.outcomes;
      lead = g.lead;
      entries = spans_told told_by_span (option_map pair_of) false pair_of_span slots g.outcomes g.told;
      ends = kept_ends g;
    })
slots_answer slots (Some s) starts long all = tt

-- slots that tell why there is no value tell where all paths lead
pub slots_filled : {t : List ℕ} {paths : List Path} (slots : List (PathOutcome slot.Span)) (nearest : Option Stop) → length slots ≡ length paths
    → AllCollected (root_point (slots_question true t paths)) (settled_in (λ x. x) slots) nearest → AreFilled t paths slots
slots_filled {t} {paths} slots nearest long all =
    let settled = each_settled (root_point (slots_question true t paths)) refl all in
    let g = all_kept First t paths true true {f = settled_in (λ x. x) slots} (length-map slots (λ x. x) ∙ long) settled in
    record { outcomes = g.outcomes; lead = g.lead; none_cut = g.none_cut; told = sym (map-id slots) ∙ g.told }

-- why a walk stops has no part in what its slots tell
stop_as : {t : List ℕ} {paths : List Path} {s : Stop} → IsStop (root_point (slots_question false t paths)) false s → IsStop (root_point (whole_question First t paths false)) false s
stop_as x = record { nearest = x.nearest; fault = x.fault; cause = cause_as x.cause }
  where
    cause_as : {t : List ℕ} {paths : List Path} {s : Stop} → IsCause (root_point (slots_question false t paths)) false s → IsCause (root_point (whole_question First t paths false)) false s
    cause_as (path_stops k rest is y) = path_stops k rest is y
    cause_as (value_stops f (inl e)) = value_stops f (inl e)
    cause_as (value_stops f (inr l)) = value_stops f (inr (record { number = l.number; path = l.path; place = l.place; is = l.is; leads = l.leads }))

-- but a stop that is noted is the answer
pub noted_answer : {t : List ℕ} {paths : List Path} (slots : List (Option slot.Span)) (nearest : Option Stop) → IsUnmixed paths
    → IfSome nearest (IsFailBelow (root_point (slots_question false t paths))) → AllCollected (root_point (slots_question false t paths)) (settled_in told_by_span slots) nearest
    → IfSome nearest (λ s. (is_bytes : Bool) → IsError First t is_bytes paths s)
noted_answer slots None unmixed below all = tt
noted_answer {t} {paths} slots (Some s) unmixed below all =
    λ is_bytes. stop_answers is_bytes (stop_as (noted_stops (root_point (slots_question false t paths)) refl unmixed root_comes below all))

-- each span of an answer is a part of the text
span_part : {t : List ℕ} {is_bytes : Bool} {paths : List Path} {entries : List (Option Span)} {i j : ℕ} {rule : KeyRule} (k : ℕ) → StartsWithUtf8Value t
    → IsAnswerBy rule t is_bytes paths (Answer.spans entries) → slice_get entries k ≡ Some (Some (i, j)) → IsPart t i j
span_part {i = i} {j} k starts x h =
    let all = spans_of_all x.come_to in
    let path = lead_from (found i j) x.lead (kept_found x.outcomes k (rw all.2 at h)) in
    found_part path.path starts path.leads

-- and so they all are
pub spans_parts : {t : List ℕ} {is_bytes : Bool} {paths : List Path} {rule : KeyRule} (xs : List (Option slot.Span)) → StartsWithUtf8Value t
    → IsAnswerBy rule t is_bytes paths (Answer.spans (pairs_of xs)) → AreSpans t xs
spans_parts xs starts x k y h = span_part k starts x (slice_get-map (option_map pair_of) xs k ∙ ap (option_map (option_map pair_of)) h)
