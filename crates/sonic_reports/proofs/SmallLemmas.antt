-- What `min` and `indent` write means what the document means.
use Rattle.std.proofs.Common.{◌≡◌, ℕ, List, ◌++◌, codes}
use Rattle.sonic_find.specs.Documents.{IsValidDocument}
use Rattle.sonic_min.proofs.DocumentLemmas.{text_valid, document_means}
use Rattle.sonic_min.proofs.SpreadLemmas.{text_document, tight_spaces, lines_spaces}
use Rattle.sonic_min.specs.Spellings.{Spelling}
use Rattle.sonic_min.specs.Texts.{Gaps, AreSpace, IsDocumentSpelled, spread, tight, wide_gaps}
use Rattle.sonic_reports.specs.Commands.Texts.{invalid, valid, IsMinReport, IsIndentReport}
use Rattle.sonic_reports.specs.Laws.{WritesTheSame}
use Rattle.sonic_reports.specs.declared.status.Status.{Status}
use Rattle.sonic_reports.specs.declared.status.Status.TheVariants.{Done}

-- the text of a valid document's spelling, with white space for the gaps, is such a document
same : {input text own : List ℕ} {x : Spelling} (g : Gaps) → AreSpace g → IsValidDocument input → IsDocumentSpelled input x → own ≡ spread g 0 x
    → text ≡ own ++ codes "\n" → WritesTheSame input text
same {x = x} g spaces v spelled is ends = record {
  written = spread g 0 x;
  ends = rw (← is) ends;
  valid = text_valid g spaces v spelled;
  meant = λ tree means. document_means spelled (text_document g spaces spelled) means;
}

-- so `min` writes one
pub writes_small : {input text : List ℕ} {status : Status} → IsMinReport input text status → status ≡ Done → WritesTheSame input text
writes_small (invalid s i t e) done = absurd cc
writes_small (valid own v own_text t e) done = same tight tight_spaces v own_text.spelled own_text.is t

-- and `indent` one
pub writes_wide : (width : ℕ) {input text : List ℕ} {status : Status} → IsIndentReport width input text status → status ≡ Done → WritesTheSame input text
writes_wide width (invalid s i t e) done = absurd cc
writes_wide width (valid own v own_text t e) done = same (wide_gaps width) (lines_spaces width) v own_text.spelled own_text.is t
