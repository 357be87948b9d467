-- Replies that the parts of the code make are reports.
use Rattle.std.proofs.Common.{◌≡◌, ℕ, true, List, [], ◌++◌, refl, ◌∙◌, append-nil, Result, Ok, Err}
use Rattle.std.specs.Prelude.{IfOk, IfErr}
use Rattle.std.specs.List.{flat_map}
use Rattle.sonic_text.specs.Paths.{Path}
use Rattle.std.specs.declared.option.Option.{Option}
use Rattle.sonic_error.specs.declared.code.ErrorCode.{ErrorCode}
use Rattle.sonic_error.specs.declared.error.Error.{Error}
use Rattle.sonic_error.specs.Errors.{IsErrorAt}
use Rattle.sonic_lazy.specs.declared.lazyvalue.LazyValue.{LazyValue}
use Rattle.sonic_find.specs.Answers.{Span, spans, error}
use Rattle.sonic_find.specs.Documents.{IsInvalid, IsInvalidError, out_of_memory as no_memory, invalid as invalid_by}
use Rattle.sonic_text.specs.declared.stop.Stop.{Stop}
use Rattle.sonic_lazy.specs.Shown.{Shows, shows_none, shows_span, ShowAll, no_more_values, one_more_value, AreValuesBy}
use Rattle.sonic_find.specs.Causes.{IsRefusalBy, out_of_memory}
use Rattle.sonic_pointer.specs.declared.rule.KeyRule.{KeyRule}
use Rattle.sonic_find.specs.Causes.IsRefusalBy.{answered as refused}
use Rattle.std.specs.declared.vec.Vec.{Vec}
use Rattle.sonic_paths.specs.Lines.{SaysPaths}
use Rattle.sonic_paths.specs.declared.lines.Head.TheVariants.{Bad}
use Rattle.sonic_reports.specs.declared.reply.Reply.{Reply}
use Rattle.sonic_reports.specs.declared.status.Status.{Status}
use Rattle.sonic_reports.specs.declared.status.Status.TheVariants.{Done, DocumentError}
use Rattle.sonic_reports.specs.ErrorLines.{line_of_error}
use Rattle.sonic_reports.specs.Internal.Replies.{text_of, line_of_value, IsLineOf, IsBadLineReply, IsValuesReply, IsErrorReply, IsAnswerReply}
use Rattle.sonic_reports.specs.Commands.Get.{ReportsPathsBy, IsPathsReport, line_of_entry}
use Rattle.sonic_reports.specs.Commands.Get.IsAnswerReport.{entry_lines, error_line}
use Rattle.sonic_reports.specs.Commands.Get.IsPathsReport.{bad_line}

-- what follows for each value holds of a result
pub if_ok : {A E : Type 0} (result : Result A E) {P Q : A → Type 0} → ((value : A) → P value → Q value) → IfOk result P → IfOk result Q
if_ok (Ok value) follows holds = follows value holds
if_ok (Err none) follows holds = tt

-- what follows from two facts of each value holds of a result
pub if_both : {A E : Type 0} (result : Result A E) {P Q R : A → Type 0} → ((value : A) → P value → Q value → R value) → IfOk result P → IfOk result Q → IfOk result R
if_both (Ok value) follows p q = follows value p q
if_both (Err none) follows p q = tt

-- the line of a value is the line of the entry that it shows
line_same : {t : List ℕ} {entry : Option Span} {value : Option LazyValue} → Shows t entry value → line_of_value value ≡ line_of_entry t entry
line_same shows_none = refl
line_same (shows_span e) = rw e refl

-- the lines of values are the lines of the entries that they show
lines_same : {t : List ℕ} {entries : List (Option Span)} {values : List (Option LazyValue)} → ShowAll t entries values
    → flat_map line_of_value values ≡ flat_map (line_of_entry t) entries
lines_same no_more_values = refl
lines_same (one_more_value s r) = rw (line_same s, lines_same r) refl

-- a report of these lines is one of the values
pub values_reply : {E : Type 0} (result : Result Reply E) (values : List (Option LazyValue)) → IfOk result (λ reply. text_of reply ≡ flat_map line_of_value values ++ [])
    → IfOk result (λ reply. reply.status ≡ Done) → IfOk result (IsValuesReply values)
values_reply result values = if_both result (λ reply text status. record { text = text ∙ append-nil (flat_map line_of_value values); status = status })

-- the line of an error is that of its code at its place
pub line_at : {document text : List ℕ} {code : ErrorCode} {place : ℕ} {refusal : Error} → IsErrorAt refusal code document place → IsLineOf text refusal
    → text ≡ line_of_error document code place
line_at at line = rw (← at.code, ← at.line, ← at.column, ← at.offset) line.is

-- the line of the error that says why a document is none is that of its reason
pub invalid_reply : {document : List ℕ} {refusal : Error} {reply : Reply} → IsInvalidError document true refusal → IsErrorReply refusal reply
    → (s : Stop) × IsInvalid document true s × (text_of reply ≡ line_of_error document s.code s.place) × (reply.status ≡ DocumentError)
invalid_reply (no_memory plain) r = absurd (r.line.memory plain.code)
invalid_reply (invalid_by s is at) r = (s, is, line_at at r.line, r.status)

module _ {document : List ℕ} {paths : List Path} {reply : Reply} {rule : KeyRule} where
  -- the lines of the values are the report of the paths
  report_values : {values : List (Option LazyValue)} → AreValuesBy rule document true paths values → IsValuesReply values reply
      → ReportsPathsBy rule document paths (text_of reply) reply.status
  report_values v r = record { answer = spans v.entries; answers = v.answer; report = entry_lines (r.text ∙ lines_same v.shown) r.status }

  -- so is the line of the error
  report_refusal : {refusal : Error} → IsRefusalBy rule document true paths refusal → IsErrorReply refusal reply → ReportsPathsBy rule document paths (text_of reply) reply.status
  report_refusal (out_of_memory plain) r = absurd (r.line.memory plain.code)
  report_refusal (refused stop answers at) r = record {
    answer = error stop;
    answers = answers;
    report = error_line (line_at at r.line) r.status;
  }

-- so an answer of the paths is reported
pub report_of_answer : {document : List ℕ} {paths : List Path} {A : Type 0} {rule : KeyRule} (reply : Reply) (answer : Result (Vec (Option LazyValue) A) Error) → IfOk answer (λ values. AreValuesBy rule document true paths values.items)
    → IfErr answer (IsRefusalBy rule document true paths) → IsAnswerReply answer reply → ReportsPathsBy rule document paths (text_of reply) reply.status
report_of_answer reply (Ok values) ok err r = report_values ok r
report_of_answer reply (Err refusal) ok err r = report_refusal err r

-- the line that names the first bad line of a head is the report
pub report_of_bad_line : {Reports : List ℕ → List Path → List ℕ → Status → Type 0} {input : List ℕ} {number : ℕ} {reply : Reply} → SaysPaths input (Bad number)
    → IsBadLineReply number reply → IsPathsReport Reports input (text_of reply) reply.status
report_of_bad_line (lines, d, head, first) r = rw r.status (bad_line head first r.text)
