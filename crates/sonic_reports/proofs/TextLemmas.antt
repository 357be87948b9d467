-- An input has one report by `min` and by `indent`.
use Rattle.std.proofs.Common.{◌≡◌, ◌∙◌, sym, ap, inl, inr, refl, ℕ, List, ◌++◌, true}
use Rattle.std.specs.Prelude.{codes}
use Rattle.sonic_error.specs.declared.error.Error.{Error}
use Rattle.sonic_find.proofs.DocumentLemmas.{reason_one}
use Rattle.sonic_find.specs.Documents.{IsValidDocument, IsInvalidError}
use Rattle.sonic_min.proofs.DocumentLemmas.{document_one, document_spelled}
use Rattle.sonic_min.specs.Texts.{IsSmallText, small, IsWideText, wide}
use Rattle.sonic_reports.proofs.EditLemmas.{one_verdict}
use Rattle.sonic_reports.proofs.GetLemmas.{Same, SomeText}
use Rattle.sonic_reports.proofs.ReplyLemmas.{invalid_reply}
use Rattle.sonic_reports.specs.Commands.Texts.{ReportsText, invalid, valid, IsMinReport, IsIndentReport}
use Rattle.sonic_reports.specs.Internal.Replies.{text_of, IsErrorReply}
use Rattle.sonic_reports.specs.declared.reply.Reply.{Reply}
use Rattle.sonic_reports.specs.declared.status.Status.{Status}

-- an input has one report where its document has one text
text_report_one : {IsText : List ℕ → Type 0} → ((a b : List ℕ) → IsText a → IsText b → b ≡ a) → {input text other : List ℕ} {status ending : Status}
    → ReportsText IsText input text status → ReportsText IsText input other ending → Same text status other ending
text_report_one one (invalid s i q z) (invalid r j p y) = (p ∙ rw (reason_one j i) (sym q), y ∙ sym z)
text_report_one one {input} (invalid s i q z) (valid b v x p y) = absurd ((one_verdict input).never_both s v i)
text_report_one one {input} (valid a v x q z) (invalid s i p y) = absurd ((one_verdict input).never_both s v i)
text_report_one one (valid a v x q z) (valid b w u p y) = (p ∙ ap (λ l. l ++ codes "\n") (one a b x u) ∙ sym q, y ∙ sym z)

-- and some, where a valid document has a text
text_report_some : {IsText : List ℕ → Type 0} {input : List ℕ} → (IsValidDocument input → (text : List ℕ) × IsText text) → SomeText (ReportsText IsText input)
text_report_some {input = input} some = elim (one_verdict input).some_reason [
  | inl v ↦ (_, _, valid (some v).0 v (some v).1 refl refl)
  | inr (s, i) ↦ (_, _, invalid s i refl refl)
]

-- a document has one small text
small_one : {t : List ℕ} (a b : List ℕ) → IsSmallText t a → IsSmallText t b → b ≡ a
small_one a b x y = y.is ∙ ap small (document_one y.spelled x.spelled) ∙ sym x.is

-- and one wide text
wide_one : {t : List ℕ} {width : ℕ} (a b : List ℕ) → IsWideText t width a → IsWideText t width b → b ≡ a
wide_one {width = width} a b x y = y.is ∙ ap (wide width) (document_one y.spelled x.spelled) ∙ sym x.is

-- an input has one report by `min`
pub min_report_one : {input text other : List ℕ} {status ending : Status} → IsMinReport input text status → IsMinReport input other ending
    → Same text status other ending
min_report_one = text_report_one small_one

-- and some
pub min_report_some : (input : List ℕ) → SomeText (IsMinReport input)
min_report_some input = text_report_some (λ v. let some = document_spelled v in (small some.0, record { spelling = some.0; spelled = some.1; is = refl }))

-- an input has one report by `indent`
pub indent_report_one : (width : ℕ) {input text other : List ℕ} {status ending : Status} → IsIndentReport width input text status
    → IsIndentReport width input other ending → Same text status other ending
indent_report_one width = text_report_one wide_one

-- and some
pub indent_report_some : (width : ℕ) (input : List ℕ) → SomeText (IsIndentReport width input)
indent_report_some width input =
    text_report_some (λ v. let some = document_spelled v in (wide width some.0, record { spelling = some.0; spelled = some.1; is = refl }))

-- the line of the error that says why a document is none is the report
pub report_refused : {IsText : List ℕ → Type 0} {input : List ℕ} {error : Error} {reply : Reply} → IsInvalidError input true error → IsErrorReply error reply
    → ReportsText IsText input (text_of reply) reply.status
report_refused i r = let (s, is, text, status) = invalid_reply i r in invalid s is text status
