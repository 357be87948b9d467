-- An input has one report by `fast`, and what its parts make is that.
use Rattle.std.proofs.Common.{◌∙◌, sym, inl, inr, refl, ℕ, List, true}
use Rattle.sonic_error.specs.declared.error.Error.{Error}
use Rattle.sonic_find.proofs.DocumentLemmas.{reason_one}
use Rattle.sonic_find.specs.Documents.{IsInvalidError}
use Rattle.sonic_text.specs.Paths.{Path}
use Rattle.sonic_reports.proofs.EditLemmas.{one_verdict}
use Rattle.sonic_pointer.specs.declared.rule.KeyRule.TheVariants.{First}
use Rattle.sonic_reports.proofs.GetLemmas.{Same, SomeText, HaveOneReport, paths_report_one, paths_report_some, input_report_one, input_report_some}
use Rattle.sonic_reports.proofs.ReplyLemmas.{invalid_reply}
use Rattle.sonic_reports.specs.Commands.Fast.{ReportsValid, invalid, valid, IsFastReport}
use Rattle.sonic_reports.specs.Internal.Replies.{text_of, IsErrorReply}
use Rattle.sonic_reports.specs.declared.reply.Reply.{Reply}
use Rattle.sonic_reports.specs.declared.status.Status.{Status}

-- paths have one report in a document that is judged whole
valid_report_one : HaveOneReport ReportsValid
valid_report_one document paths text other status ending (invalid s i q z) (invalid r j p y) = (p ∙ rw (reason_one j i) (sym q), y ∙ sym z)
valid_report_one document paths text other status ending (invalid s i q z) (valid v r) = absurd ((one_verdict document).never_both s v i)
valid_report_one document paths text other status ending (valid v r) (invalid s i q z) = absurd ((one_verdict document).never_both s v i)
valid_report_one document paths text other status ending (valid v r) (valid w s) = paths_report_one First document paths text other status ending r s

-- and some
valid_report_some : (document : List ℕ) (paths : List Path) → SomeText (ReportsValid document paths)
valid_report_some document paths = elim (one_verdict document).some_reason [
  | inl v ↦ (let r = paths_report_some First document paths in (r.0, r.1, valid v r.2))
  | inr (s, i) ↦ (_, _, invalid s i refl refl)
]

-- so an input has one by `fast`
pub fast_report_one : {input text other : List ℕ} {status ending : Status} → IsFastReport input text status → IsFastReport input other ending
    → Same text status other ending
fast_report_one = input_report_one valid_report_one

-- and some
pub fast_report_some : (input : List ℕ) → SomeText (IsFastReport input)
fast_report_some = input_report_some valid_report_some

-- the line of the error that says why a document is none is the report
pub report_invalid : {document : List ℕ} {paths : List Path} {error : Error} {reply : Reply} → IsInvalidError document true error → IsErrorReply error reply
    → ReportsValid document paths (text_of reply) reply.status
report_invalid i r = let (s, is, text, status) = invalid_reply i r in invalid s is text status
