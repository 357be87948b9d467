-- An input has one report by `patch`, and what its parts make is that.
use Rattle.std.proofs.Common.{◌≡◌, ◌≢◌, ◌∙◌, sym, inl, inr, refl, ℕ, List, true, length, codes}
use Rattle.std.specs.Str.{IsUtf8}
use Rattle.sonic_error.specs.declared.error.Error.{Error}
use Rattle.sonic_find.proofs.AnswerLemmas.One.{utf8_or_not}
use Rattle.sonic_find.proofs.DocumentLemmas.{reason_one}
use Rattle.sonic_find.specs.Documents.{IsValidDocument, IsInvalidError}
use Rattle.sonic_owned.proofs.DocumentLemmas.{raw_document_one, raw_document_some}
use Rattle.sonic_owned.specs.Forms.{Form, raw, text as text_of_form, IsSound, FormMeans, raw_means, level_means}
use Rattle.sonic_owned.specs.Owned.{IsRawDocument}
use Rattle.sonic_patch.proofs.OutcomeLemmas.{says_one_thing}
use Rattle.sonic_patch.proofs.SoundLemmas.{patch_sound}
use Rattle.sonic_patch.proofs.UnmadeLemmas.{made_never_unmade, made_one, made_or_unmade, made_text, unmade_one}
use Rattle.sonic_patch.specs.Operations.{Operation}
use Rattle.sonic_patch.specs.Patches.{AreSoundOperations}
use Rattle.sonic_patch.specs.Reading.{IsNoPatch, Reason, HasReason}
use Rattle.sonic_patch.specs.declared.error.PatchError.{PatchError}
use Rattle.sonic_patch.specs.declared.error.PatchError.TheVariants.{Json, NotArray, Shape, Pointer, TooLong, Missing, TestFailed, IntoChild, NoMemory}
use Rattle.sonic_reports.proofs.EditLemmas.{one_verdict}
use Rattle.sonic_reports.proofs.GetLemmas.{Same, SomeText}
use Rattle.sonic_reports.proofs.ReplyLemmas.{invalid_reply}
use Rattle.sonic_reports.specs.Commands.Fills.{first_line, after_first_line}
use Rattle.sonic_reports.specs.Commands.Patches.{ReportsPatched, unmade, made, ReportsPatch, invalid, valid, IsPatchReport, no_text, bad_patch, reports_patch}
use Rattle.sonic_reports.specs.Laws.{WritesPatched}
use Rattle.sonic_reports.specs.Internal.Replies.{text_of, IsErrorReply}
use Rattle.sonic_reports.specs.declared.reply.Reply.{Reply}
use Rattle.sonic_reports.specs.declared.status.Status.{Status}
use Rattle.sonic_reports.specs.declared.status.Status.TheVariants.{Done, BadLines}
use Rattle.sonic_text.specs.Trees.{Tree, Means}

-- operations on a value have one report
patched_report_one : {f : Form} {ops : List (Operation Form)} {text other : List ℕ} {status ending : Status} → AreSoundOperations ops → IsSound f
    → ReportsPatched f ops text status → ReportsPatched f ops other ending → Same text status other ending
patched_report_one sound value (unmade x q z) (unmade y p w) = let same = unmade_one y x in (p ∙ rw (same.0, same.1) (sym q), w ∙ sym z)
patched_report_one sound value (unmade x q z) (made b p w) = absurd (made_never_unmade sound value b x)
patched_report_one sound value (made a q z) (unmade y p w) = absurd (made_never_unmade sound value a y)
patched_report_one sound value (made a q z) (made b p w) = (p ∙ rw (made_one sound value b a) (sym q), w ∙ sym z)

-- the value of a document is sound
pub document_sound : {document : List ℕ} {f : Form} → IsValidDocument document → IsRawDocument document f → IsSound f
document_sound v d = let some = raw_document_some v in rw (raw_document_one d some.1) some.2

-- so operations on a document have one report
document_report_one : {document : List ℕ} {ops : List (Operation Form)} {text other : List ℕ} {status ending : Status} → AreSoundOperations ops
    → ReportsPatch document ops text status → ReportsPatch document ops other ending → Same text status other ending
document_report_one sound (invalid s i q z) (invalid r j p y) = (p ∙ rw (reason_one j i) (sym q), y ∙ sym z)
document_report_one {document} sound (invalid s i q z) (valid v d r) = absurd ((one_verdict document).never_both s v i)
document_report_one {document} sound (valid v d r) (invalid s i q z) = absurd ((one_verdict document).never_both s v i)
document_report_one {ops = ops} {other = other} {ending = ending} sound (valid {f} v d r) (valid w e s) =
    let own : ReportsPatched f ops other ending = rw (raw_document_one e d) at s in
    patched_report_one sound (document_sound v d) r own

-- and an input has one by `patch`
pub patch_report_one : {input text other : List ℕ} {status ending : Status} → IsPatchReport input text status → IsPatchReport input other ending
    → Same text status other ending
patch_report_one (no_text n q z) (no_text m p y) = (p ∙ sym q, y ∙ sym z)
patch_report_one (no_text n q z) (bad_patch u r p y) = (p ∙ sym q, y ∙ sym z)
patch_report_one (no_text n q z) (reports_patch u x r) = absurd (n u)
patch_report_one (bad_patch u r q z) (no_text n p y) = (p ∙ sym q, y ∙ sym z)
patch_report_one (bad_patch u r q z) (bad_patch w s p y) = (p ∙ sym q, y ∙ sym z)
patch_report_one {input} (bad_patch {reason} u r q z) (reports_patch {ops} w x s) = absurd ((says_one_thing (first_line input) u).never_both ops reason x r)
patch_report_one (reports_patch u x r) (no_text n p y) = absurd (n u)
patch_report_one {input} (reports_patch {ops} u x r) (bad_patch {reason} w s p y) = absurd ((says_one_thing (first_line input) u).never_both ops reason x s)
patch_report_one {input} {other = other} {ending = ending} (reports_patch {ops} u x r) (reports_patch {ops = others} w y s) =
    let same = (says_one_thing (first_line input) u).one_list others ops y x in
    let own : ReportsPatch (after_first_line input) ops other ending = rw same at s in
    document_report_one (patch_sound u x) r own

-- operations on a value have some report
patched_report_some : {f : Form} {ops : List (Operation Form)} → AreSoundOperations ops → IsSound f → SomeText (ReportsPatched f ops)
patched_report_some sound value = elim (made_or_unmade sound value) [
  | inl (h, a) ↦ (_, _, made a refl refl)
  | inr (n, cause, x) ↦ (_, _, unmade x refl refl)
]

-- so do those on a document
document_report_some : {ops : List (Operation Form)} (document : List ℕ) → AreSoundOperations ops → SomeText (ReportsPatch document ops)
document_report_some document sound = elim (one_verdict document).some_reason [
  | inl v ↦
      let d = raw_document_some v in
      let r = patched_report_some sound d.2 in
      (r.0, r.1, valid v d.1 r.2)
  | inr (s, i) ↦ (_, _, invalid s i refl refl)
]

-- and an input has some by `patch`
pub patch_report_some : (input : List ℕ) → SomeText (IsPatchReport input)
patch_report_some input = elim (utf8_or_not (first_line input)) [
  | inr none ↦ (_, _, no_text none refl refl)
  | inl utf8 ↦ elim (says_one_thing (first_line input) utf8).some [
    | inl (ops, x) ↦ (let r = document_report_some (after_first_line input) (patch_sound utf8 x) in (r.0, r.1, reports_patch utf8 x r.2))
    | inr (reason, r) ↦ (_, _, bad_patch utf8 r refl refl)
  ]
]

-- an error says why a line says no patch, where memory didn't run out
line_reason : {line : List ℕ} (error : PatchError) → IsNoPatch line error → error ≢ NoMemory → (reason : Reason) × HasReason line reason
line_reason (Json e) x other = (_, x.1)
line_reason NotArray x other = (_, x)
line_reason (Shape op) x other = (_, x)
line_reason (Pointer op) x other = (_, x)
line_reason (TooLong op) x other = (_, x)
line_reason (Missing op) x other = absurd x
line_reason (TestFailed op) x other = absurd x
line_reason (IntoChild op) x other = absurd x
line_reason NoMemory x other = absurd (other refl)

-- so that is the report
pub report_unread : {input text : List ℕ} {status : Status} (error : PatchError) → IsUtf8 (first_line input) → IsNoPatch (first_line input) error → error ≢ NoMemory
    → text ≡ codes "! patch 1\n" → status ≡ BadLines → IsPatchReport input text status
report_unread error utf8 unread other t e = let some = line_reason error unread other in bad_patch utf8 some.1 t e

-- and so is the line of an error of the document
pub report_invalid : {document : List ℕ} {ops : List (Operation Form)} {error : Error} {reply : Reply} → IsInvalidError document true error → IsErrorReply error reply
    → ReportsPatch document ops (text_of reply) reply.status
report_invalid is r = let (s, i, t, e) = invalid_reply is r in invalid s i t e

-- a value that a document is means what its form means
pub raw_means_text : {b : List ℕ} {f : Form} {v : Tree} → FormMeans f v → f ≡ raw b → Means b 0 (length b) v
raw_means_text {b} (raw_means {b = c} m) e = let same : c ≡ b = cc in rw same at m
raw_means_text (level_means m) e = absurd cc

-- what is written where all operations are made
pub writes_patched : {input text : List ℕ} {status : Status} → IsPatchReport input text status → status ≡ Done → WritesPatched input text
writes_patched (no_text n t e) d = let clash = sym e ∙ d in absurd cc
writes_patched (bad_patch u r t e) d = let clash = sym e ∙ d in absurd cc
writes_patched (reports_patch u x (invalid s i t e)) d = let clash = sym e ∙ d in absurd cc
writes_patched (reports_patch u x (valid v f (unmade n t e))) d = let clash = sym e ∙ d in absurd cc
writes_patched (reports_patch {ops} u x (valid v f (made {h} a t e))) d =
    let m = made_text (patch_sound u x) (document_sound v f) a in
    record {
      operations = ops;
      says = x;
      trees = m.trees;
      mean = m.mean;
      value = f.bytes;
      is = f.value;
      tree = m.tree;
      means = raw_means_text m.means f.form;
      result = m.result;
      makes = m.is;
      written = text_of_form h;
      ends = t;
      valid = m.valid;
      meant = m.says;
    }
