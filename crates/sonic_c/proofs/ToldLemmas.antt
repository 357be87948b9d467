-- What is told of a look-up is what a call for its path comes to.
use Rattle.std.proofs.Common.{◌≡◌, inl, inr, refl, ℕ, List, true, false, Ok, Err, Result}
use Rattle.sonic_error.specs.Errors.{IsErrorAt}
use Rattle.sonic_error.specs.declared.error.Error.{Error}
use Rattle.sonic_text.specs.Paths.{Path}
use Rattle.sonic_text.specs.declared.stop.Stop.{Stop}
use Rattle.sonic_find.specs.Causes.{IsGetRefusal, no_memory as refused_memory, refused}
use Rattle.sonic_find.specs.Spans.{IsFinding, IsSureFinding}
use Rattle.sonic_find.specs.declared.span.Span.{Span as Slot}
use Rattle.sonic_paths.specs.Lines.{IsNodeLine}
use Rattle.sonic_paths.proofs.LineNodes.{node_line_one}
use Rattle.sonic_c.specs.Internal.Numbers.{numbers_of}
use Rattle.sonic_c.specs.Told.{AreNumbersOf, TellsRefused, Cells, IsGetCall}
use Rattle.sonic_c.specs.Internal.Told.{TellsSlot, TellsError, no_memory, told}
use Rattle.sonic_c.specs.declared.fault.Fault.{Fault}
use Rattle.sonic_c.specs.Statuses.{status_ok, status_document_error, status_bad_lines}

-- the numbers of an error at a stop are those of the stop
pub numbers_at : {t : List ℕ} {e : Error} {s : Stop} {f : Fault} → IsErrorAt e s.code t s.place → f ≡ numbers_of e → AreNumbersOf t s f
numbers_at at is = record { code = rw (is, at.code) refl; line = rw (is, at.line) refl; column = rw (is, at.column) refl; offset = rw (is, at.offset) refl }

-- what is told of an error that is refused so
refusal_told : {t : List ℕ} {path : Path} {e : Error} {before after : Fault} {status : ℕ} → IsGetRefusal t true path e → TellsError e before after status
    → status ≡ status_document_error → TellsRefused t path after
refusal_told r (no_memory m is same) d = absurd cc
refusal_told (refused_memory plain) (told other is numbers) d = absurd (other plain.code)
refusal_told (refused x) (told other is numbers) d = record { stop = x.stop; answer = x.answer; numbers = numbers_at x.error numbers }

-- a look-up that never wants memory is one that may
may_want : {t : List ℕ} {path : Path} (found : Result Slot Error) → IsSureFinding t true path found → IsFinding t true path found
may_want (Ok found) x = record { ok = x.ok; err = tt; complete = λ can. tt }
may_want (Err e) x = record { ok = tt; err = refused x.err; complete = λ can. let no : false ≡ true = x.complete can in absurd cc }

-- no line says two paths
module _ {t line : List ℕ} {path : Path} {before after : Cells} {status : ℕ} (says : IsNodeLine line path) where
  -- what is told of a look-up of the path that a line says is what a call for the line comes to
  pub call_told : (found : Result Slot Error) → IsFinding t true path found → TellsSlot found before after status → IsGetCall t line before after status
  call_told (Ok found) x (is, span, same) = record {
    ok = λ e. (path, says, rw span x.ok);
    document_error = λ e. absurd cc;
    bad_line = λ e. absurd cc;
    no_other = inl is;
    span_kept = λ other. absurd (other is);
    error_kept = λ other. same;
    complete = λ p other can. inl is;
  }
  call_told (Err e) x (tells, kept) = record {
    ok = λ is. absurd (not_ok tells is);
    document_error = λ is. (path, says, refusal_told x.err tells is);
    bad_line = λ is. absurd (not_bad tells is);
    no_other = elim tells [ no_memory m is same ↦ inr (inr (inr is)) | told other is numbers ↦ inr (inl is) ];
    span_kept = λ other. kept;
    error_kept = λ other. elim tells [ no_memory m is same ↦ same | told differs is numbers ↦ absurd (other is) ];
    complete = λ p line_says can.
        let same : p ≡ path = node_line_one line_says says in
        let plain = x.complete (rw same at can) in
        elim tells [ no_memory m is kept ↦ inr is | told differs is numbers ↦ absurd (differs plain.code) ];
  }
    where
      not_ok : TellsError e before.error after.error status → status ≡ status_ok → ⊥
      not_ok (no_memory m is same) z = absurd cc
      not_ok (told other is numbers) z = absurd cc

      not_bad : TellsError e before.error after.error status → status ≡ status_bad_lines → ⊥
      not_bad (no_memory m is same) z = absurd cc
      not_bad (told other is numbers) z = absurd cc

  -- so it is of a look-up without memory
  pub sure_call_told : (found : Result Slot Error) → IsSureFinding t true path found → TellsSlot found before after status → IsGetCall t line before after status
  sure_call_told found x tells = call_told found (may_want found x) tells

-- a line that says no path is told so, and nothing else
pub bad_line_told : {t line : List ℕ} {cells : Cells} → ((p : Path) → ¬ IsNodeLine line p) → IsGetCall t line cells cells status_bad_lines
bad_line_told none = record {
  ok = λ e. absurd cc;
  document_error = λ e. absurd cc;
  bad_line = λ e. none;
  no_other = inr (inr (inl refl));
  span_kept = λ other. refl;
  error_kept = λ other. refl;
  complete = λ p says can. absurd (none p says);
}
