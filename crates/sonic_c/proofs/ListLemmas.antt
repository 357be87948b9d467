-- What is told of a list of paths is what a call for it comes to.
use Rattle.std.proofs.Common.{◌≡◌, ◌≢◌, inl, inr, refl, ap, ◌∙◌, ℕ, suc, List, [], ◌∷◌, ◌++◌, ◌≤◌, true, length, map, take, drop, take_all, Ok, Err, Result, OnOk, IfErr, arith}
use Rattle.std.proofs.lemmas.List.{length-map, append-nil, nil_from_length}
use Rattle.std.proofs.Math.ListN.{drop_of_length-le}
use Rattle.std.specs.Prelude.{Option}
use Rattle.sonic_error.specs.Errors.{IsPlainError}
use Rattle.sonic_error.specs.declared.code.ErrorCode.TheVariants.{NoMemory}
use Rattle.sonic_error.specs.declared.error.Error.{Error}
use Rattle.sonic_find.specs.Answers.{Span as Found, IsAnswerBy, AllLeadBy, no_more, one_more, ComeTo, no_path, finding, span_of, spans}
use Rattle.sonic_find.specs.Causes.{IsAnswerableBy, IsRefusalBy, out_of_memory, answered}
use Rattle.sonic_find.specs.Paths.{Outcome}
use Rattle.sonic_find.specs.Spans.{pairs_of}
use Rattle.sonic_find.specs.declared.span.Span.{Span as Slot}
use Rattle.sonic_pointer.specs.declared.rule.KeyRule.{KeyRule}
use Rattle.sonic_text.specs.Paths.{Path}
use Rattle.sonic_c.specs.Kept.{PathList}
use Rattle.sonic_c.specs.Lists.{IsListCall, TellsListRefused}
use Rattle.sonic_c.specs.Statuses.{status_ok, status_document_error, status_wrong_count}
use Rattle.sonic_c.specs.Told.{ManyCells, at_line, shown_span}
use Rattle.sonic_find.specs.Outcomes.{told_span}
use Rattle.sonic_find.specs.declared.outcome.PathOutcome.{PathOutcome}
use Rattle.sonic_find.specs.declared.outcome.PathOutcome.TheVariants.{Found as Leads, Missing, Fails}
use Rattle.sonic_c.specs.Internal.Told.{TellsAll, TellsError, no_memory, told, shown_outcome}
use Rattle.sonic_c.specs.declared.fault.Fault.{Fault}
use Rattle.sonic_c.specs.declared.span.Span.{Span}
use Rattle.sonic_c.proofs.ToldLemmas.{numbers_at}

-- each path leads to one outcome
pub lead_long : {r : KeyRule} {t : List ℕ} {paths : List Path} {os : List Outcome} → AllLeadBy r t paths os → length os ≡ length paths
lead_long no_more = refl
lead_long (one_more leads more) = ap suc (lead_long more)

come_long : {t : List ℕ} {os : List Outcome} {entries : List (Option Found)} → ComeTo t true os (spans entries) → length entries ≡ length os
come_long no_path = refl
come_long (finding {os} none whole reach utf8 same) = ap length same ∙ length-map os span_of

-- so there is an entry for each path
pub answer_long : {r : KeyRule} {t : List ℕ} {paths : List Path} {entries : List (Option Found)} → IsAnswerBy r t true paths (spans entries)
    → length entries ≡ length paths
answer_long a = come_long a.come_to ∙ lead_long a.lead

-- no path is answered with nothing
pub none_answered : {rule : KeyRule} {paths : List Path} (t : List ℕ) → paths ≡ [] → IsAnswerBy rule t true paths (spans [])
none_answered t none = record { outcomes = []; lead = rw none no_more; come_to = no_path }

refusal_told : {t : List ℕ} {list : PathList} {e : Error} {before after : Fault} {status : ℕ} → IsRefusalBy list.rule t true list.paths e → TellsError e before after status
    → status ≡ status_document_error → TellsListRefused t list after
refusal_told r (no_memory m is same) d = absurd cc
refusal_told (out_of_memory plain) (told other is numbers) d = absurd (other plain.code)
refusal_told (answered s a at) (told other is numbers) d = record { stop = s; answer = a; numbers = numbers_at at numbers }

told_status : {e : Error} {before after : Fault} {status : ℕ} → TellsError e before after status → (status ≢ status_ok) × (status ≢ status_wrong_count)
told_status (no_memory m is same) = (λ z. absurd cc, λ z. absurd cc)
told_status (told other is numbers) = (λ z. absurd cc, λ z. absurd cc)

module _ {t : List ℕ} {list : PathList} {before after : ManyCells} {status : ℕ} where
  -- spans are told
  pub list_found : (entries : List (Option Found)) → IsAnswerBy list.rule t true list.paths (spans entries) → status ≡ status_ok
      → after.spans ≡ map shown_span entries → after.error ≡ before.error → IsListCall t list before after status
  list_found entries answer is shown same = record {
    ok = λ e. record { entries = entries; answer = answer; shown = shown };
    document_error = λ e. absurd cc;
    wrong_count = λ e. absurd cc;
    no_other = inl is;
    spans_kept = λ other. absurd (other is);
    error_kept = λ e. same;
    complete = λ long can. inl is;
  }

  -- where no spans are asked for, none are
  pub list_of_none : length list.paths ≡ length before.spans → length before.spans ≡ 0 → status ≡ status_ok → after ≡ before → IsListCall t list before after status
  list_of_none long none is same =
      list_found [] (none_answered t (nil_from_length list.paths (long ∙ none))) is (ap (λ (cells : ManyCells). cells.spans) same ∙ nil_from_length before.spans none)
      (ap (λ (cells : ManyCells). cells.error) same)

  -- an error is told
  pub list_refused : (e : Error) → length list.paths ≡ length before.spans → IsRefusalBy list.rule t true list.paths e
      → (IsAnswerableBy list.rule t true list.paths → IsPlainError e NoMemory) → TellsError e before.error after.error status → after.spans ≡ before.spans
      → IsListCall t list before after status
  list_refused e long refusal complete tells kept = let others = told_status tells in record {
    ok = λ is. absurd (others.0 is);
    document_error = λ is. (long, refusal_told refusal tells is);
    wrong_count = λ is. absurd (others.1 is);
    no_other = elim tells [ no_memory m is same ↦ inr (inr (inr is)) | told differs is numbers ↦ inr (inl is) ];
    spans_kept = λ other. kept;
    error_kept = λ either. elim tells [ no_memory m is same ↦ same | told differs is numbers ↦ elim either [ inl x ↦ absurd cc | inr x ↦ absurd cc ] ];
    complete = λ as_long can. elim tells [ no_memory m is same ↦ inr is | told differs is numbers ↦ absurd (differs (complete can).code) ];
  }

  -- there are not as many paths as spans
  pub list_miscounted : length list.paths ≢ length before.spans → status ≡ status_wrong_count → after.error ≡ at_line (length list.paths) → after.spans ≡ before.spans
      → IsListCall t list before after status
  list_miscounted other is line kept = record {
    ok = λ e. absurd cc;
    document_error = λ e. absurd cc;
    wrong_count = λ e. (other, line);
    no_other = inr (inr (inl is));
    spans_kept = λ e. kept;
    error_kept = λ either. elim either [ inl x ↦ absurd cc | inr x ↦ absurd cc ];
    complete = λ long can. absurd (other long);
  }

  -- what a look-up came to is told
  pub list_told : (slots : List (Option Slot)) (found : Result (Unit {0}) Error) → length list.paths ≡ length before.spans
      → OnOk found (IsAnswerBy list.rule t true list.paths (spans (pairs_of slots))) → IfErr found (IsRefusalBy list.rule t true list.paths)
      → (IsAnswerableBy list.rule t true list.paths → IfErr found (λ e. IsPlainError e NoMemory)) → TellsAll found slots before after status
      → IsListCall t list before after status
  list_told slots (Ok done) long answer err complete (is, shown, same) = list_found (pairs_of slots) answer is shown same
  list_told slots (Err e) long answer refusal complete (tells, kept) = list_refused e long refusal complete tells kept

-- as many as there are spans are all that are told
pub all_filled : (room : List (PathOutcome Slot)) (before : List Span) (n : ℕ) → length room ≡ length before → length room ≤ n
    → map shown_outcome (take n room) ++ drop n before ≡ map shown_outcome room
all_filled room before n same past =
    let all : take n room ≡ room = take_all n room past in
    let none : drop n before ≡ [] = drop_of_length-le before {i = n} (omega (arith, same, past)) in
    rw (all, none) (append-nil (map shown_outcome room))

-- which are the spans of what was found
pub outcomes_shown : (room : List (PathOutcome Slot)) → map shown_outcome room ≡ map shown_span (map told_span room)
outcomes_shown [] = refl
outcomes_shown (Leads x ∷ xs) = ap (λ l. shown_outcome (Leads x) ∷ l) (outcomes_shown xs)
outcomes_shown (Missing q ∷ xs) = ap (λ l. shown_outcome (Missing q) ∷ l) (outcomes_shown xs)
outcomes_shown (Fails s ∷ xs) = ap (λ l. shown_outcome (Fails s) ∷ l) (outcomes_shown xs)
