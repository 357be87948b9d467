-- An input has one report by `fill`, and what its parts make is that.
use Rattle.std.proofs.Common.{◌≡◌, ◌≢◌, ◌∙◌, sym, inl, inr, refl, ℕ, List, true, codes}
use Rattle.sonic_error.specs.Errors.{error_code}
use Rattle.sonic_error.specs.declared.code.ErrorCode.TheVariants.{NoMemory}
use Rattle.sonic_error.specs.declared.error.Error.{Error}
use Rattle.sonic_text.specs.Places.{after_space}
use Rattle.sonic_text.specs.Trees.{Tree}
use Rattle.sonic_reports.proofs.GetLemmas.{Same, SomeText}
use Rattle.sonic_reports.proofs.ReplyLemmas.{line_at}
use Rattle.sonic_reports.specs.Commands.Fills.{first_line, after_first_line, ReportsFilled, unfilled, filled, IsFillReport, bad_schema, reports_filled}
use Rattle.sonic_reports.specs.Internal.Replies.{IsLineOf}
use Rattle.sonic_reports.specs.declared.status.Status.{Status}
use Rattle.sonic_reports.specs.declared.status.Status.TheVariants.{DocumentError, BadLines}
use Rattle.sonic_value.proofs.LawLemmas.{bytes_read_one, bytes_filled_one}
use Rattle.sonic_value.specs.Reading.{IsUnreadError, out_of_memory as no_memory, unread as unread_by}
use Rattle.sonic_value.specs.Schemas.{IsFillError, out_of_memory, stopped}

-- a schema that is filled from a document has one report
filled_report_one : {document : List ℕ} {schema : Tree} {text other : List ℕ} {status ending : Status} → ReportsFilled document schema text status
    → ReportsFilled document schema other ending → Same text status other ending
filled_report_one {document} {schema} (unfilled s u q z) (unfilled r v p y) =
    let law = bytes_filled_one document schema (after_space document 0) in
    (p ∙ rw (law.outcome.one_reason r s v u) (sym q), y ∙ sym z)
filled_report_one {document} {schema} (unfilled s u q z) (filled f p y) =
    absurd ((bytes_filled_one document schema (after_space document 0)).outcome.never_both s (_, f) u)
filled_report_one {document} {schema} (filled f q z) (unfilled s u p y) =
    absurd ((bytes_filled_one document schema (after_space document 0)).outcome.never_both s (_, f) u)
filled_report_one {document} {schema} (filled f q z) (filled g p y) =
    let law = bytes_filled_one document schema (after_space document 0) in
    (p ∙ rw (law.one_tree _ _ g f) (sym q), y ∙ sym z)

-- and an input has one by `fill`
pub fill_report_one : {input text other : List ℕ} {status ending : Status} → IsFillReport input text status → IsFillReport input other ending
    → Same text status other ending
fill_report_one (bad_schema s u q z) (bad_schema r v p y) = (p ∙ sym q, y ∙ sym z)
fill_report_one {input} (bad_schema s u q z) (reports_filled x r) = absurd ((bytes_read_one (first_line input)).outcome.never_both s (_, x) u)
fill_report_one {input} (reports_filled x r) (bad_schema s u q z) = absurd ((bytes_read_one (first_line input)).outcome.never_both s (_, x) u)
fill_report_one {input} {other = other} {ending = ending} (reports_filled {schema} x r) (reports_filled {schema = tree} y s) =
    let same = (bytes_read_one (first_line input)).one_tree tree schema y x in
    let own : ReportsFilled (after_first_line input) schema other ending = rw same at s in
    filled_report_one r own

-- a schema has some report
filled_report_some : (document : List ℕ) (schema : Tree) → SomeText (ReportsFilled document schema)
filled_report_some document schema = elim (bytes_filled_one document schema (after_space document 0)).outcome.some_reason [
  | inl (x, f) ↦ (_, _, filled f refl refl)
  | inr (s, u) ↦ (_, _, unfilled s u refl refl)
]

-- and an input has some by `fill`
pub fill_report_some : (input : List ℕ) → SomeText (IsFillReport input)
fill_report_some input = elim (bytes_read_one (first_line input)).outcome.some_reason [
  | inl (x, read) ↦ (let r = filled_report_some (after_first_line input) x in (r.0, r.1, reports_filled read r.2))
  | inr (s, u) ↦ (_, _, bad_schema s u refl refl)
]

-- the line of an error is the report
pub report_unfilled : {document : List ℕ} {schema : Tree} {text : List ℕ} {status : Status} {error : Error} → IsFillError document true schema error
    → IsLineOf text error → status ≡ DocumentError → ReportsFilled document schema text status
report_unfilled (out_of_memory plain) line e = absurd (line.memory plain.code)
report_unfilled (stopped s u at) line e = unfilled s u (line_at at line) e

-- an error of the first line is so where memory didn't run out
pub report_unread : {input text : List ℕ} {status : Status} {error : Error} → IsUnreadError (first_line input) true error → error_code error ≢ NoMemory
    → text ≡ codes "! schema 1\n" → status ≡ BadLines → IsFillReport input text status
report_unread (no_memory plain) other t e = absurd (other plain.code)
report_unread (unread_by s u at) other t e = bad_schema s u t e
