-- An input has one report by `get`, as by each command over paths of which a document has one, and it is of values alone where the input is answerable.
use Rattle.std.proofs.Common.{◌≡◌, inl, inr, ℕ, Bool, true, List, [], map, drop, arith, refl, sym, ◌∙◌}
use Rattle.std.specs.declared.option.Option.{Option}
use Rattle.sonic_text.specs.Paths.{Path}
use Rattle.sonic_find.specs.Answers.{Span, span_of, Answer, IsAnswerBy, no_more, no_path, finding, spans, error}
use Rattle.sonic_find.specs.Causes.{IsAnswerableBy}
use Rattle.sonic_find.specs.Causes.IsAnswerableBy.{nothing_asked, all_reported}
use Rattle.sonic_find.proofs.AnswerLemmas.One.{answer_by_one}
use Rattle.sonic_pointer.specs.declared.rule.KeyRule.{KeyRule}
use Rattle.sonic_reports.specs.declared.status.Status.{Status}
use Rattle.sonic_reports.specs.declared.status.Status.TheVariants.{Done}
use Rattle.sonic_reports.specs.Commands.Get.{IsAnswerReport, ReportsPathsBy, IsPathsReport, IsGetReport, IsAnswerableInput}
use Rattle.sonic_reports.specs.Commands.Get.IsAnswerReport.{entry_lines, error_line}
use Rattle.sonic_reports.specs.Commands.Get.IsPathsReport.{bad_line, answered}
use Rattle.sonic_paths.specs.Lines.{AreLines, IsFirstBadLine}
use Rattle.sonic_paths.proofs.Heads.{some_head}
use Rattle.sonic_paths.proofs.OneHead.{head_one}
use Rattle.sonic_paths.proofs.LineOutcomes.{lines_one, first_bad_line_one, no_bad_line, lines_or_bad}

-- the other text and status are these
abbrev pub Same : List ℕ → Status → List ℕ → Status → Type 0
Same text status other ending = (other ≡ text) × (ending ≡ status)

-- some text and some status make such a report
abbrev pub SomeText : (List ℕ → Status → Type 0) → Type 0
SomeText Report = (text : List ℕ) × (status : Status) × Report text status

-- an answer has one report in a document
answer_report_one : {document : List ℕ} {answer : Answer} {text other : List ℕ} {status ending : Status} → IsAnswerReport document answer text status
    → IsAnswerReport document answer other ending → Same text status other ending
answer_report_one (entry_lines q z) (entry_lines p y) = (p ∙ sym q, y ∙ sym z)
answer_report_one (error_line q z) (error_line p y) = (p ∙ sym q, y ∙ sym z)

-- an answer has some report
answer_report_some : (document : List ℕ) (answer : Answer) → SomeText (IsAnswerReport document answer)
answer_report_some document (spans entries) = (_, _, entry_lines refl refl)
answer_report_some document (error stop) = (_, _, error_line refl refl)

-- paths have one report of a kind in a document
abbrev pub HaveOneReport : (List ℕ → List Path → List ℕ → Status → Type 0) → Type 0
HaveOneReport Reports =
    (document : List ℕ) (paths : List Path) (text other : List ℕ) (status ending : Status) → Reports document paths text status → Reports document paths other ending
    → Same text status other ending

-- so have they by `get`
pub paths_report_one : (rule : KeyRule) → HaveOneReport (ReportsPathsBy rule)
paths_report_one rule document paths text other status ending r s =
    let e : s.answer ≡ r.answer = (answer_by_one rule document true paths).one s.answer r.answer s.answers r.answers in
    let moved : IsAnswerReport document r.answer other ending = rw e at s.report in
    answer_report_one r.report moved

-- and some
pub paths_report_some : (rule : KeyRule) (document : List ℕ) (paths : List Path) → SomeText (ReportsPathsBy rule document paths)
paths_report_some rule document paths =
    let one = answer_by_one rule document true paths in
    let r = answer_report_some document one.some.0 in
    (r.0, r.1, record { answer = one.some.0; answers = one.some.1; report = r.2 })

-- where paths have one report of a kind, an input has one
pub input_report_one : {Reports : List ℕ → List Path → List ℕ → Status → Type 0} → HaveOneReport Reports → {input text other : List ℕ} {status ending : Status}
    → IsPathsReport Reports input text status → IsPathsReport Reports input other ending → Same text status other ending
input_report_one one (bad_line {lines} {n = n} h b q) (bad_line {n = m} g c p) =
    let moved : IsFirstBadLine lines m = rw (head_one g h).0 at c in
    (p ∙ rw (first_bad_line_one moved b) (sym q), refl)
input_report_one one (bad_line {lines} h b q) (answered {paths = paths} g a r) =
    let moved : AreLines lines paths = rw (head_one g h).0 at a in
    absurd (no_bad_line moved b)
input_report_one one (answered {lines} h a r) (bad_line {n = m} g b q) =
    let moved : IsFirstBadLine lines m = rw (head_one g h).0 at b in
    absurd (no_bad_line a moved)
input_report_one {Reports} one {input} {text} {other} {status} {ending} (answered {lines} {paths} {d} h a r) (answered {paths = others} {d = e} g b s) =
    let heads = head_one g h in
    let moved : AreLines lines others = rw heads.0 at b in
    let same : others ≡ paths = lines_one moved a in
    let led : Reports (drop d input) paths other ending = rw (heads.1, same) at s in
    one (drop d input) paths text other status ending r led

-- and some where each document and paths have some
pub input_report_some : {Reports : List ℕ → List Path → List ℕ → Status → Type 0}
    → ((document : List ℕ) (paths : List Path) → SomeText (Reports document paths)) → (input : List ℕ) → SomeText (IsPathsReport Reports input)
input_report_some some input =
    let h = some_head input 0 (omega arith) in
    elim (lines_or_bad [] h.lines) [
      | inr b ↦ (_, _, bad_line h.head b.1 refl)
      | inl a ↦ (let r = some (drop h.document input) a.0 in (r.0, r.1, answered h.head a.1 r.2))
    ]

-- so an input has one report by `get`
pub get_report_one : (rule : KeyRule) {input text other : List ℕ} {status ending : Status} → IsGetReport rule input text status → IsGetReport rule input other ending
    → Same text status other ending
get_report_one rule = input_report_one (paths_report_one rule)

-- an input has some report by `get`
pub get_report_some : (rule : KeyRule) (input : List ℕ) → SomeText (IsGetReport rule input)
get_report_some rule = input_report_some (paths_report_some rule)

-- paths that can be answered are answered with spans
with_spans : {rule : KeyRule} {t : List ℕ} {is_bytes : Bool} {paths : List Path} → IsAnswerableBy rule t is_bytes paths
    → (entries : List (Option Span)) × IsAnswerBy rule t is_bytes paths (spans entries)
with_spans (nothing_asked e) = ([], rw e (record { outcomes = []; lead = no_more; come_to = no_path }))
with_spans (all_reported os r leads fails cuts reach utf8) =
    (map span_of os, record { outcomes = os; lead = leads; come_to = finding fails cuts reach utf8 refl })

-- an input that is answerable has a report with the status 0
pub answerable_report : {rule : KeyRule} {input : List ℕ} → IsAnswerableInput rule input → (text : List ℕ) × IsGetReport rule input text Done
answerable_report {input} i =
    let a = with_spans i.answerable in
    (_, answered i.head i.say (record { answer = spans a.0; answers = a.1; report = entry_lines refl refl }))
