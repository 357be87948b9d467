-- What is told of many paths is what a call for their lines comes to.
use Rattle.std.proofs.Common.{◌≡◌, ◌≢◌, inl, inr, sym, ◌∙◌, ℕ, ◌≤◌, List, true, false, length, Ok, Err, Result, OnOk, IfErr, IsOk, arith}
use Rattle.std.specs.Prelude.{Option}
use Rattle.sonic_error.specs.Errors.{IsPlainError}
use Rattle.sonic_error.specs.declared.code.ErrorCode.TheVariants.{NoMemory}
use Rattle.sonic_error.specs.declared.error.Error.{Error}
use Rattle.sonic_text.specs.Paths.{Path}
use Rattle.sonic_find.specs.Answers.{IsAnswer, spans}
use Rattle.sonic_find.specs.Causes.{IsAnswerable, IsAnswerError, IsRefusal, out_of_memory, answered}
use Rattle.sonic_find.specs.Spans.{pairs_of}
use Rattle.sonic_find.specs.declared.span.Span.{Span as Slot}
use Rattle.sonic_paths.specs.Lines.{SaysPaths}
use Rattle.sonic_paths.specs.declared.lines.Head.{Head}
use Rattle.sonic_paths.specs.declared.lines.Head.TheVariants.{Paths, Bad}
use Rattle.sonic_paths.proofs.LineOutcomes.{head_one_thing}
use Rattle.sonic_c.specs.Told.{ManyCells, IsManyCall, Say, SayBad, bad_path, blank_line, TellAllRefused}
use Rattle.sonic_c.specs.Internal.Told.{RefusesLines, no_room, bad_lines, wrong_count, TellsAll, TellsError, no_memory, told}
use Rattle.sonic_c.specs.Internal.Texts.{OrOutOfMemory, refuses, ran_out}
use Rattle.sonic_c.specs.Rows.{AreNoPaths}
use Rattle.sonic_c.specs.declared.fault.Fault.{Fault}
use Rattle.sonic_c.specs.Statuses.{status_ok, status_document_error, status_wrong_count, status_bad_lines}
use Rattle.sonic_c.proofs.ToldLemmas.{numbers_at}

-- lines say one thing
says_one : (t : List ℕ) (a b : Head) → SaysPaths t a → SaysPaths t b → a ≡ b
says_one t a b x y = let h = head_one_thing t in h.only a x ∙ sym (h.only b y)

-- so they say one list of paths
say_one : {lines : List ℕ} {p q : List Path} → Say lines p → Say lines q → p ≡ q
say_one {lines} {p} {q} x y = let same : Paths p (length lines) ≡ Paths q (length lines) = says_one lines _ _ x y in cc

-- and no line of them is bad
pub never_bad : {lines : List ℕ} {p : List Path} {n : ℕ} → Say lines p → SayBad lines n → ⊥
never_bad {lines} {p} {n} x (bad_path y) = let same : Paths p (length lines) ≡ Bad n = says_one lines _ _ x y in absurd cc
never_bad {lines} {p} x (blank_line {paths} {d} y low e) =
    let same : Paths p (length lines) ≡ Paths paths d = says_one lines _ _ x y in
    let end : length lines ≡ d = cc in
    omega (arith, end, low)

-- lines that are refused are told so
pub refused_told : {t lines : List ℕ} {before after : ManyCells} {status : ℕ} → RefusesLines lines (length before.spans) before.error after.error status
    → after.spans ≡ before.spans → IsManyCall t lines before after status
refused_told (no_room is same) kept = record {
  ok = λ e. absurd cc;
  document_error = λ e. absurd cc;
  wrong_count = λ e. absurd cc;
  bad_lines = λ e. absurd cc;
  no_other = inr (inr (inr (inr is)));
  spans_kept = λ other. kept;
  error_kept = λ e. same;
  complete = λ p says long can. inr is;
}
refused_told (bad_lines {n} is bad line) kept = record {
  ok = λ e. absurd cc;
  document_error = λ e. absurd cc;
  wrong_count = λ e. absurd cc;
  bad_lines = λ e. (n, bad, line);
  no_other = inr (inr (inr (inl is)));
  spans_kept = λ other. kept;
  error_kept = λ e. elim e [ inl x ↦ absurd cc | inr x ↦ absurd cc ];
  complete = λ p says long can. absurd (never_bad says bad);
}
refused_told (wrong_count {paths} is says other line) kept = record {
  ok = λ e. absurd cc;
  document_error = λ e. absurd cc;
  wrong_count = λ e. (paths, says, other, line);
  bad_lines = λ e. absurd cc;
  no_other = inr (inr (inl is));
  spans_kept = λ differs. kept;
  error_kept = λ e. elim e [ inl x ↦ absurd cc | inr x ↦ absurd cc ];
  complete = λ p own long can. absurd (other (rw (say_one says own) long));
}

-- lines that say no paths are refused
pub no_paths_refused : {lines : List ℕ} {count : ℕ} {before after : Fault} {status : ℕ} → OrOutOfMemory (AreNoPaths lines) before after status
    → RefusesLines lines count before after status
no_paths_refused (refuses x) = bad_lines x.says x.bad x.told
no_paths_refused (ran_out is same) = no_room is same

-- what is told of an error with which the paths are refused
refusal_told : {t : List ℕ} {paths : List Path} {e : Error} {before after : Fault} {status : ℕ} → IsRefusal t true paths e → TellsError e before after status
    → status ≡ status_document_error → TellAllRefused t paths after
refusal_told r (no_memory m is same) d = absurd cc
refusal_told (out_of_memory plain) (told other is numbers) d = absurd (other plain.code)
refusal_told (answered s a at) (told other is numbers) d = record { stop = s; answer = a; numbers = numbers_at at numbers }

-- an error that is told is neither of the other statuses
told_status : {e : Error} {before after : Fault} {status : ℕ} → TellsError e before after status → (status ≢ status_ok) × (status ≢ status_wrong_count) × (status ≢ status_bad_lines)
told_status (no_memory m is same) = (λ z. absurd cc, λ z. absurd cc, λ z. absurd cc)
told_status (told other is numbers) = (λ z. absurd cc, λ z. absurd cc, λ z. absurd cc)

module _ {t lines : List ℕ} {paths : List Path} {before after : ManyCells} {status : ℕ} (says : Say lines paths) (long : length paths ≡ length before.spans) where
  -- what is told of a look-up of the paths that the lines say is what a call for the lines comes to
  pub all_told : (slots : List (Option Slot)) (found : Result (Unit {0}) Error) → OnOk found (IsAnswer t true paths (spans (pairs_of slots))) → IfErr found (IsRefusal t true paths)
      → (IsAnswerable t true paths → IfErr found (λ e. IsPlainError e NoMemory)) → TellsAll found slots before after status → IsManyCall t lines before after status
  all_told slots (Ok done) answer err complete (is, shown, same) = record {
    ok = λ e. (paths, says, record { entries = pairs_of slots; answer = answer; shown = shown });
    document_error = λ e. absurd cc;
    wrong_count = λ e. absurd cc;
    bad_lines = λ e. absurd cc;
    no_other = inl is;
    spans_kept = λ other. absurd (other is);
    error_kept = λ e. same;
    complete = λ p own as_long can. inl is;
  }
  all_told slots (Err e) ok refusal complete (tells, kept) =
      let others = told_status tells in
      record {
        ok = λ is. absurd (others.0 is);
        document_error = λ is. (paths, says, long, refusal_told refusal tells is);
        wrong_count = λ is. absurd (others.1 is);
        bad_lines = λ is. absurd (others.2 is);
        no_other = elim tells [ no_memory m is same ↦ inr (inr (inr (inr is))) | told differs is numbers ↦ inr (inl is) ];
        spans_kept = λ other. kept;
        error_kept = λ either. elim tells [ no_memory m is same ↦ same | told differs is numbers ↦ elim either [ inl x ↦ absurd cc | inr x ↦ absurd cc ] ];
        complete = λ p own as_long can.
            let same : p ≡ paths = say_one own says in
            let plain = complete (rw same at can) in
            elim tells [ no_memory m is kept ↦ inr is | told differs is numbers ↦ absurd (differs plain.code) ];
      }

-- an answer that is refused without memory is refused
pub sure_refusal : (t : List ℕ) (paths : List Path) (found : Result (Unit {0}) Error) → IfErr found (IsAnswerError t true paths) → IfErr found (IsRefusal t true paths)
sure_refusal t paths (Ok done) x = tt
sure_refusal t paths (Err e) x = answered x.stop x.answer x.error

-- and never where it is answerable
pub sure_complete : (t : List ℕ) (paths : List Path) (found : Result (Unit {0}) Error) → (IsAnswerable t true paths → IsOk found) → IsAnswerable t true paths
    → IfErr found (λ e. IsPlainError e NoMemory)
sure_complete t paths (Ok done) x can = tt
sure_complete t paths (Err e) x can = let no : false ≡ true = x can in absurd cc

-- lines that are all a head say their paths
pub at_end : {lines : List ℕ} {paths : List Path} {d : ℕ} → SaysPaths lines (Paths paths d) → length lines ≤ d → Say lines paths
at_end {lines} {paths} {d} says past = let e : d ≡ length lines = omega (arith, says.1) in rw e at says
