-- An input has one report by `edit`, and what its parts make is that.
use Rattle.std.proofs.Common.{◌≡◌, ◌∙◌, sym, inl, inr, refl, ℕ, List, true, false, drop, Result, Ok, Err}
use Rattle.std.specs.Prelude.{IfErr}
use Rattle.sonic_edits.proofs.LineOutcomes.{head_one_thing}
use Rattle.sonic_edits.proofs.SoundLemmas.{edit_lines_sound}
use Rattle.sonic_error.specs.declared.error.Error.{Error}
use Rattle.sonic_find.proofs.DocumentLemmas.{document_one, reason_one}
use Rattle.sonic_find.specs.Documents.{IsValidDocument, IsInvalid, no_root, text_after, broken_text, IsInvalidError, out_of_memory, invalid as invalid_by}
use Rattle.sonic_find.specs.Laws.{HoldsOrHasOneReason}
use Rattle.sonic_owned.proofs.DocumentLemmas.{raw_document_one, raw_document_some}
use Rattle.sonic_owned.proofs.EditLemmas.{edits_one, refused_one, edits_not_refused, edits_or_refused, edits_mean}
use Rattle.sonic_owned.proofs.ValueLemmas.{sound_means}
use Rattle.sonic_owned.specs.Edits.{AreSoundEdits}
use Rattle.sonic_owned.specs.Forms.{Form, IsSound}
use Rattle.sonic_owned.specs.TreeEdits.{Edit}
use Rattle.sonic_text.specs.declared.stop.Stop.{Stop}
use Rattle.sonic_reports.proofs.GetLemmas.{Same, SomeText}
use Rattle.sonic_reports.proofs.ReplyLemmas.{line_at}
use Rattle.sonic_reports.specs.Commands.Edits.{ReportsMade, refused, made, ReportsEdits, invalid, valid, IsEditReport, bad_edit, edited}
use Rattle.sonic_reports.specs.Internal.Replies.{IsLineOf}
use Rattle.sonic_reports.specs.declared.status.Status.{Status}
use Rattle.sonic_reports.specs.declared.status.Status.TheVariants.{DocumentError}

-- the edits of a value have one report
made_report_one : {f : Form} {es : List (Edit Form)} {text other : List ℕ} {status ending : Status} → ReportsMade f es text status → ReportsMade f es other ending
    → Same text status other ending
made_report_one (refused r q z) (refused s p y) = (p ∙ rw (refused_one s r) (sym q), y ∙ sym z)
made_report_one (refused r q z) (made b p y) = absurd (edits_not_refused b r)
made_report_one (made a q z) (refused s p y) = absurd (edits_not_refused a s)
made_report_one (made a q z) (made b p y) = (p ∙ rw (edits_one b a) (sym q), y ∙ sym z)

-- a document is valid, or it isn't for one reason
pub one_verdict : (document : List ℕ) → HoldsOrHasOneReason (IsValidDocument document) (IsInvalid document true)
one_verdict document = document_one document true (λ e. absurd cc)

-- so the edits of a document have one report
edits_report_one : {document : List ℕ} {es : List (Edit Form)} {text other : List ℕ} {status ending : Status} → ReportsEdits document es text status
    → ReportsEdits document es other ending → Same text status other ending
edits_report_one (invalid s i q z) (invalid r j p y) = (p ∙ rw (reason_one j i) (sym q), y ∙ sym z)
edits_report_one {document} (invalid s i q z) (valid v d r) = absurd ((one_verdict document).never_both s v i)
edits_report_one {document} (valid v d r) (invalid s i q z) = absurd ((one_verdict document).never_both s v i)
edits_report_one {es = es} {other = other} {ending = ending} (valid {f} v d r) (valid w e s) =
    let own : ReportsMade f es other ending = rw (raw_document_one e d) at s in
    made_report_one r own

-- and an input has one by `edit`
pub edit_report_one : {input text other : List ℕ} {status ending : Status} → IsEditReport input text status → IsEditReport input other ending
    → Same text status other ending
edit_report_one {input} (bad_edit {n} b q z) (bad_edit {n = m} c p y) = (p ∙ rw ((head_one_thing input).one_number m n c b) (sym q), y ∙ sym z)
edit_report_one {input} (bad_edit {n} b q z) (edited {es} {d} x r) = absurd ((head_one_thing input).never_both es d n x b)
edit_report_one {input} (edited {es} {d} x r) (bad_edit {n} b q z) = absurd ((head_one_thing input).never_both es d n x b)
edit_report_one {input} {other = other} {ending = ending} (edited {es} {d} x r) (edited {es = fs} {d = e} y s) =
    let same = (head_one_thing input).one_list fs es e d y x in
    let own : ReportsEdits (drop d input) es other ending = rw (same.1, same.0) at s in
    edits_report_one r own

-- the edits of a value have some report
made_report_some : {f : Form} {es : List (Edit Form)} → AreSoundEdits es → IsSound f → SomeText (ReportsMade f es)
made_report_some sound is = elim (edits_or_refused (edits_mean sound).1 (sound_means is).1) [
  | inl (h, a) ↦ (_, _, made a refl refl)
  | inr (n, r) ↦ (_, _, refused r refl refl)
]

-- so do those of a document
edits_report_some : {es : List (Edit Form)} (document : List ℕ) → AreSoundEdits es → SomeText (ReportsEdits document es)
edits_report_some document sound = elim (one_verdict document).some_reason [
  | inl v ↦
      let d = raw_document_some v in
      let r = made_report_some sound d.2 in
      (r.0, r.1, valid v d.1 r.2)
  | inr (s, i) ↦ (_, _, invalid s i refl refl)
]

-- and an input has some by `edit`
pub edit_report_some : (input : List ℕ) → SomeText (IsEditReport input)
edit_report_some input = elim (head_one_thing input).some [
  | inl (es, d, x) ↦ (let r = edits_report_some (drop d input) (edit_lines_sound x.are) in (r.0, r.1, edited x r.2))
  | inr (n, b) ↦ (_, _, bad_edit b refl refl)
]

-- why a text in UTF-8 is no valid document is why its bytes are none
text_invalid : {t : List ℕ} {s : Stop} → IsInvalid t false s → IsInvalid t true s
text_invalid (no_root f) = no_root f
text_invalid (text_after x l e) = text_after x l e
text_invalid (broken_text x b n e) = absurd cc

-- and so with the error that says it
text_error : {t : List ℕ} {e : Error} → IsInvalidError t false e → IsInvalidError t true e
text_error (out_of_memory plain) = out_of_memory plain
text_error (invalid_by s i at) = invalid_by s (text_invalid i) at

pub text_errors : {A : Type 0} (result : Result A Error) {text document : List ℕ} → text ≡ document → IfErr result (IsInvalidError text false)
    → IfErr result (IsInvalidError document true)
text_errors (Ok value) e holds = tt
text_errors (Err error) e holds = text_error (rw e at holds)

-- its line is the report
pub report_invalid : {document : List ℕ} {es : List (Edit Form)} {text : List ℕ} {status : Status} {error : Error} → IsInvalidError document true error
    → IsLineOf text error → status ≡ DocumentError → ReportsEdits document es text status
report_invalid (out_of_memory plain) line e = absurd (line.memory plain.code)
report_invalid (invalid_by s i at) line e = invalid s i (line_at at line) e
