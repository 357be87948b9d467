-- What a run has done, by what its parts did.
use Rattle.std.proofs.Common.{◌≡◌, ◌≢◌, inl, inr, ℕ, ◌+◌, ◌<◌, ◌≤◌, List, [], ◌++◌, length, length-append, append-nil, drop, arith, refl, ap, ◌∙◌, Some, None}
use Rattle.std.specs.Prelude.{IfSome}
use Rattle.std.specs.declared.option.Option.{Option}
use Rattle.std.specs.Io.KnownBytes.{IsAtEnd}
use Rattle.sonic_find.specs.Answers.{Answer}
use Rattle.sonic_pointer.specs.declared.rule.KeyRule.{KeyRule}
use Rattle.sonic_reports.specs.declared.commands.Command.{Command}
use Rattle.sonic_reports.specs.declared.commands.Command.TheVariants.{Get, List as Items, Edit, Fill, Fast, Indent, Index, Lines, Min, Patch, Gen}
use Rattle.sonic_reports.specs.declared.runs.Request.{Request}
use Rattle.sonic_reports.specs.declared.runs.Request.TheVariants.{Usage, Large, Input}
use Rattle.sonic_reports.specs.declared.status.Status.{Status}
use Rattle.sonic_reports.specs.declared.status.Status.TheVariants.{Done, BadUsage, TooLarge, ReadFault, WriteFault, NoMemory}
use Rattle.sonic_reports.specs.Commands.{Asks, IsListed, Reads, IsReading}
use Rattle.sonic_owned.specs.Forms.{Form}
use Rattle.sonic_owned.specs.TreeEdits as edits
use Rattle.sonic_patch.specs.Operations.{Operation}
use Rattle.sonic_text.specs.Paths.{Path}
use Rattle.sonic_text.specs.Trees.{Tree}
use Rattle.sonic_reports.specs.Commands.Edits.{ReportsMade, refused, made, ReportsEdits, invalid, valid, IsEditReport, bad_edit, edited}
use Rattle.sonic_reports.specs.Commands.Entries as index
use Rattle.sonic_reports.specs.Commands.Entries.{IsIndexReport}
use Rattle.sonic_reports.specs.Commands.Fast as fast
use Rattle.sonic_reports.specs.Commands.Fast.{ReportsValid, IsFastReport}
use Rattle.sonic_reports.specs.Commands.Fills.{ReportsFilled, unfilled, filled, IsFillReport, bad_schema, reports_filled}
use Rattle.sonic_reports.specs.Commands.Generated as gen
use Rattle.sonic_reports.specs.Commands.Generated.{IsGenReport}
use Rattle.sonic_reports.specs.Commands.Get.{IsAnswerReport, IsPathsReport, IsGetReport}
use Rattle.sonic_reports.specs.Commands.Get.IsAnswerReport.{entry_lines, error_line}
use Rattle.sonic_reports.specs.Commands.Get.IsPathsReport.{bad_line, answered}
use Rattle.sonic_lazy.specs.Items.{Ending, closed, stopped}
use Rattle.sonic_reports.specs.Commands.Items.{IsListReport, status_of_ending}
use Rattle.sonic_reports.specs.Commands.Patches as patch
use Rattle.sonic_reports.specs.Commands.Patches.{ReportsPatch, ReportsPatched, IsPatchReport}
use Rattle.sonic_reports.specs.Commands.Rows.{ReportsRows, with_error, without_error, IsLinesReport}
use Rattle.sonic_reports.specs.Commands.Texts as texts
use Rattle.sonic_reports.specs.Commands.Texts.{ReportsText}
use Rattle.sonic_reports.specs.Internal.Requests.{HasWidth, IsAsked, IsAnswered}
use Rattle.sonic_io.specs.Outside.{Gave, Took, TookPrefix, Rose, input_limit}
use Rattle.sonic_reports.specs.Reports.{Writes, IsReport}
use Rattle.sonic_reports.specs.Reports.IsReport.{usage, large, written}
use Rattle.sonic_reports.specs.Sessions.{Session, IsReported, IsOfInput, IsReply, Reports, ReportsOnly, AnswersAll, IsSent, ReadsNoMore, ReadsTooMuch, IsRun}
use Rattle.sonic_reports.proofs.ReportLemmas.{asks_one, has_one_report, answered_done}
use Rattle.sonic_reports.proofs.CommandLemmas.{reads_or_gen, width_within}

-- the input that was left, where that is known
abbrev Known : Option (List ℕ) → List ℕ → Type 0
Known left input = IfSome left (λ bytes. bytes ≡ input)

-- some input was left
some_input : (left : Option (List ℕ)) → (input : List ℕ) × Known left input
some_input None = ([], tt)
some_input (Some bytes) = (bytes, refl)

-- where more bytes than an input may have were read, such an input was left
large_input : (left rest : Option (List ℕ)) (bytes : List ℕ) → length bytes ≡ input_limit + 1 → Gave left rest bytes → (input : List ℕ) × Known left input × (input_limit < length input)
large_input None rest bytes l gave = (bytes, tt, omega arith)
large_input (Some all) None bytes l gave = absurd cc
large_input (Some all) (Some rest) bytes l gave = let e : all ≡ bytes ++ rest = cc in (all, refl, rw e (omega (arith, length-append bytes rest)))

-- bytes that were read to the end are what was left
whole_input : (left rest : Option (List ℕ)) (bytes : List ℕ) → Gave left rest bytes → IsAtEnd rest → Known left bytes
whole_input None rest bytes gave end = tt
whole_input (Some all) None bytes gave end = absurd cc
whole_input (Some all) (Some rest) bytes gave end = let e : all ≡ bytes ++ rest = cc in e ∙ ap (λ l. bytes ++ l) end ∙ append-nil bytes

-- what a run of the whole input doesn't end with
of_input : (ending : Status) → IsOfInput ending → IsReported ending × (ending ≢ BadUsage) × (ending ≢ TooLarge)
of_input ending (inl e) = (record { no_read_fault = λ f. cc; no_write_fault = λ f. cc; memory = λ f. cc }, λ f. cc, λ f. cc)
of_input ending (inr (inl e)) = (record { no_read_fault = λ f. cc; no_write_fault = λ f. cc; memory = λ f. cc }, λ f. cc, λ f. cc)
of_input ending (inr (inr e)) = (record { no_read_fault = λ f. cc; no_write_fault = λ f. cc; memory = λ f. cc }, λ f. cc, λ f. cc)

-- a report of an answer goes with a status of a whole input
answer_status : {document : List ℕ} {answer : Answer} {text : List ℕ} {ending : Status} → IsAnswerReport document answer text ending → IsOfInput ending
answer_status (entry_lines t e) = inl e
answer_status (error_line t e) = inr (inl e)

-- so does one of paths, where each report of its document does
paths_status : {Reports : List ℕ → List Path → List ℕ → Status → Type 0} {input text : List ℕ} {ending : Status}
    → ((document : List ℕ) (paths : List Path) → Reports document paths text ending → IsOfInput ending) → IsPathsReport Reports input text ending → IsOfInput ending
paths_status of_document (bad_line h b t) = inr (inr refl)
paths_status {input = input} of_document (answered {paths = paths} {d = d} h a r) = of_document (drop d input) paths r

-- so does a report by `get`
get_status : {rule : KeyRule} {input text : List ℕ} {ending : Status} → IsGetReport rule input text ending → IsOfInput ending
get_status = paths_status (λ document paths r. answer_status r.report)

-- what comes of a document that is judged whole
valid_status : {document : List ℕ} {paths : List Path} {text : List ℕ} {ending : Status} → ReportsValid document paths text ending → IsOfInput ending
valid_status (fast.invalid s i t e) = inr (inl e)
valid_status (fast.valid v r) = answer_status r.report

-- a report by `fast`
fast_status : {input text : List ℕ} {ending : Status} → IsFastReport input text ending → IsOfInput ending
fast_status = paths_status (λ document paths r. valid_status r)

-- what the items end with goes with one
ended_status : {ending : Status} (end : Ending) → ending ≡ status_of_ending end → IsOfInput ending
ended_status closed e = inl e
ended_status (stopped s) e = inr (inl e)

-- a report by `list`
list_status : {input text : List ℕ} {ending : Status} → IsListReport input text ending → IsOfInput ending
list_status r = ended_status r.listing.ending r.ending

-- what comes of the edits of a value
made_status : {f : Form} {es : List (edits.Edit Form)} {text : List ℕ} {ending : Status} → ReportsMade f es text ending → IsOfInput ending
made_status (refused r t e) = inr (inl e)
made_status (made a t e) = inl e

-- and of a document
edits_status : {document : List ℕ} {es : List (edits.Edit Form)} {text : List ℕ} {ending : Status} → ReportsEdits document es text ending → IsOfInput ending
edits_status (invalid s i t e) = inr (inl e)
edits_status (valid v d r) = made_status r

-- a report by `edit`
edit_status : {input text : List ℕ} {ending : Status} → IsEditReport input text ending → IsOfInput ending
edit_status (bad_edit b t e) = inr (inr e)
edit_status (edited x r) = edits_status r

-- what comes of a schema
filled_status : {document : List ℕ} {schema : Tree} {text : List ℕ} {ending : Status} → ReportsFilled document schema text ending → IsOfInput ending
filled_status (unfilled s u t e) = inr (inl e)
filled_status (filled f t e) = inl e

-- a report by `fill`
fill_status : {input text : List ℕ} {ending : Status} → IsFillReport input text ending → IsOfInput ending
fill_status (bad_schema s u t e) = inr (inr e)
fill_status (reports_filled x r) = filled_status r

-- what comes of a stream
rows_status : {stream : List ℕ} {paths : List Path} {text : List ℕ} {ending : Status} → ReportsRows stream paths text ending → IsOfInput ending
rows_status (with_error r h e) = inr (inl e)
rows_status (without_error r h e) = inl e

-- a report by `lines`
lines_status : {input text : List ℕ} {ending : Status} → IsLinesReport input text ending → IsOfInput ending
lines_status = paths_status (λ stream paths r. rows_status r)

-- a report by `index`
index_status : {input text : List ℕ} {ending : Status} → IsIndexReport input text ending → IsOfInput ending
index_status (index.invalid s i t e) = inr (inl e)
index_status (index.indexed es v a t e) = inl e

-- a report by `min` or `indent`
text_status : {IsText : List ℕ → Type 0} {input text : List ℕ} {ending : Status} → ReportsText IsText input text ending → IsOfInput ending
text_status (texts.invalid s i t e) = inr (inl e)
text_status (texts.valid own v a t e) = inl e

-- what comes of the operations of a value
patched_status : {f : Form} {ops : List (Operation Form)} {text : List ℕ} {ending : Status} → ReportsPatched f ops text ending → IsOfInput ending
patched_status (patch.unmade u t e) = inr (inl e)
patched_status (patch.made a t e) = inl e

-- and of a document
patch_document_status : {document : List ℕ} {ops : List (Operation Form)} {text : List ℕ} {ending : Status} → ReportsPatch document ops text ending → IsOfInput ending
patch_document_status (patch.invalid s i t e) = inr (inl e)
patch_document_status (patch.valid v d r) = patched_status r

-- a report by `patch`
patch_status : {input text : List ℕ} {ending : Status} → IsPatchReport input text ending → IsOfInput ending
patch_status (patch.no_text b t e) = inr (inr e)
patch_status (patch.bad_patch u r t e) = inr (inr e)
patch_status (patch.reports_patch u x r) = patch_document_status r

-- a report by `gen`
gen_status : {n : ℕ} {text : List ℕ} {ending : Status} → IsGenReport n text ending → IsOfInput ending
gen_status (gen.invalid s i t e) = inr (inl e)
gen_status (gen.stopped s v a t e) = inr (inl e)
gen_status (gen.counted v a t e) = inl e

-- a report of what the source had left, and what its status says of the words and of the source
pub record IsPrepared (run : Session) (text : List ℕ) (ending : Status) : Type 0 where
  pub reply : IsReply run text ending
  pub reported : IsReported ending
  pub unlisted : ¬ (IsListed run.words) → ending ≡ BadUsage
  pub listed : ending ≡ BadUsage → ¬ (IsListed run.words)
  pub whole : IsReading run.words → IsOfInput ending → IsAtEnd run.after.left
  pub large : ending ≡ TooLarge → ReadsTooMuch run
  pub large_of_reading : ending ≡ TooLarge → IsReading run.words

-- what a command writes goes with a status of a whole input
written_status : (command : Command) (input text : List ℕ) (ending : Status) → Writes command input text ending → IsOfInput ending
written_status (Get rule) input text ending r = get_status r
written_status Items input text ending r = list_status r
written_status Edit input text ending r = edit_status r
written_status Fill input text ending r = fill_status r
written_status Fast input text ending r = fast_status r
written_status (Indent width) input text ending r = text_status r
written_status Index input text ending r = index_status r
written_status Lines input text ending r = lines_status r
written_status Min input text ending r = text_status r
written_status Patch input text ending r = patch_status r
written_status (Gen n) input text ending r = gen_status r

-- what `gen` writes is so of each input
of_each_input : {command : Command} {n : ℕ} (input other text : List ℕ) (ending : Status) → command ≡ Gen n → Writes command input text ending
    → Writes command other text ending
of_each_input input other text ending e w = rw e (rw e at w)

-- what a command writes of what it read is a report of what was left
written_reply : (run : Session) {text : List ℕ} {ending : Status} {command : Command} (bytes : List ℕ) → Asks run.words command
    → (Reads command → Gave run.before.left run.after.left bytes × IsAtEnd run.after.left × (length bytes ≤ input_limit)) → Writes command bytes text ending
    → IsReply run text ending
written_reply run {command = command} bytes asks read answers = elim (reads_or_gen command) [
  | inl reads ↦ (let (gave, end, within) = read reads in
      record { input = bytes; known = whole_input run.before.left run.after.left bytes gave end; report = written asks (λ _. within) answers })
  | inr (n, e) ↦ (let i = some_input run.before.left in
      record { input = i.0; known = i.1; report = written asks (λ reads. absurd (reads n e)) (of_each_input bytes i.0 _ _ e answers) })
]

-- words ask for a number of blanks that `indent` takes
pub has_width : (words : List (List ℕ)) (before now : Option (List ℕ)) (request : Request) → IsAsked words before now request → HasWidth request
has_width words before now Usage asked = tt
has_width words before now Large asked = tt
has_width words before now (Input command bytes) (asks, read) = λ n e. let own : Asks words (Indent n) = rw e at asks in width_within own

-- what answers the request is such a report
pub prepared : (run : Session) {text : List ℕ} {ending : Status} (request : Request) → IsAsked run.words run.before.left run.after.left request
    → IsAnswered request text ending → IsPrepared run text ending
prepared run {text} {ending} Usage asked (t, e) = let i = some_input run.before.left in record {
  reply = record { input = i.0; known = i.1; report = rw (t, e) (usage asked) };
  reported = record { no_read_fault = λ f. cc; no_write_fault = λ f. cc; memory = λ f. cc };
  unlisted = λ u. e;
  listed = λ u. asked;
  whole = λ r o. absurd ((of_input ending o).1 e);
  large = λ l. absurd cc;
  large_of_reading = λ l. absurd cc;
}
prepared run {text} {ending} Large (bytes, listed, long, gave) (t, e) = let i = large_input run.before.left run.after.left bytes long gave in record {
  reply = record { input = i.0; known = i.1; report = rw (t, e) (large listed i.2) };
  reported = record { no_read_fault = λ f. cc; no_write_fault = λ f. cc; memory = λ f. cc };
  unlisted = λ u. absurd (u (listed.0, listed.1));
  listed = λ u. absurd cc;
  whole = λ r o. absurd ((of_input ending o).2 e);
  large = λ l. (bytes, long, gave);
  large_of_reading = λ l. listed;
}
prepared run {text} {ending} (Input command bytes) (asks, read) answers =
    let o = of_input ending (written_status command bytes.items text ending answers) in record {
      reply = written_reply run bytes.items asks read answers;
      reported = o.0;
      unlisted = λ u. absurd (u (command, asks));
      listed = λ u. absurd (o.1 u);
      whole = λ (asked, others, reads) p. (read (rw (asks_one others asks) at reads)).1;
      large = λ l. absurd (o.2 l);
      large_of_reading = λ l. absurd (o.2 l);
    }

-- what a run reports of an input that is known is the one report of it
the_report : (run : Session) {ending : Status} → Reports run ending → ReportsOnly run ending
the_report run {ending} r input text status known report =
    let same : input ≡ r.reply.input = rw known at r.reply.known in
    let one = has_one_report run.words input in
    let mine : IsReport run.words input r.text ending = rw same r.reply.report in
    let a = one.only r.text ending mine in
    let b = one.only text status report in
    (rw (b.0, ← a.0) r.taken, cc (a.1, b.1))

-- so it says what an input is answered that is answerable
answers_all : (run : Session) {ending : Status} → ReportsOnly run ending → AnswersAll run ending
answers_all run only rule input known asks i = let r = answered_done asks i in (only input r.0 Done known r.1).1

-- a source that is as it was has this left, and its count of faults, as before
pub same_source : {S : Type 0} {old new : S} (left : S → Option (List ℕ)) (faults : S → ℕ) → new ≡ old → (left new ≡ left old) × (faults new ≡ faults old)
same_source left faults e = (ap left e, ap faults e)

-- a run whose report was written
pub delivered : {run : Session} {text : List ℕ} {ending : Status} → IsPrepared run text ending → Took run.before.written run.after.written text
    → IsSent run → run.after.read_faults ≡ run.before.read_faults → run.after.write_faults ≡ run.before.write_faults → (¬ IsReading run.words → ReadsNoMore run)
    → IsRun run ending
delivered {run} {text} {ending} p taken sent reads writes unread =
    let reports : Reports run ending = record { text = text; reply = p.reply; taken = taken } in
    record {
      reports = λ _. reports;
      the_only_one = λ _. the_report run reports;
      sends = λ _. sent;
      complete = λ _. answers_all run (the_report run reports);
      breaks_off = λ e. absurd (p.reported.no_write_fault e);
      read_fault_is_silent = λ e. absurd (p.reported.no_read_fault e);
      no_memory_is_silent = λ e. absurd (p.reported.memory e);
      read_cause = λ e. absurd (p.reported.no_read_fault e);
      no_read_cause = λ _. reads;
      write_cause = λ e. absurd (p.reported.no_write_fault e);
      no_write_cause = λ _. writes;
      unlisted = λ u. inl (p.unlisted u);
      listed = p.listed;
      whole = p.whole;
      large = p.large;
      fault_of_reading = λ e. absurd (p.reported.no_read_fault e);
      large_of_reading = p.large_of_reading;
      unread = unread;
    }

-- a run that a failed write ended
pub broken : {run : Session} {text : List ℕ} {status : Status} → IsPrepared run text status → TookPrefix run.before.written run.after.written text
    → run.after.read_faults ≡ run.before.read_faults → Rose run.before.write_faults run.after.write_faults → (¬ IsReading run.words → ReadsNoMore run)
    → IsRun run WriteFault
broken {run} {text} {status} p taken reads rose unread = record {
  reports = λ r. absurd (r.no_write_fault refl);
  the_only_one = λ r. absurd (r.no_write_fault refl);
  sends = λ r. absurd (r.no_write_fault refl);
  complete = λ r. absurd (r.no_write_fault refl);
  breaks_off = λ _. record { text = text; status = status; reply = p.reply; taken = taken };
  read_fault_is_silent = λ e. absurd cc;
  no_memory_is_silent = λ e. absurd cc;
  read_cause = λ e. absurd cc;
  no_read_cause = λ _. reads;
  write_cause = λ _. rose;
  no_write_cause = λ e. absurd (e refl);
  unlisted = λ _. inr refl;
  listed = λ e. absurd cc;
  whole = λ r o. absurd ((of_input WriteFault o).0.no_write_fault refl);
  large = λ e. absurd cc;
  fault_of_reading = λ e. absurd cc;
  large_of_reading = λ e. absurd cc;
  unread = unread;
}

-- a run that a failed read ended
pub read_failed : {run : Session} → run.after.written ≡ run.before.written → Rose run.before.read_faults run.after.read_faults
    → run.after.write_faults ≡ run.before.write_faults → IsReading run.words → IsRun run ReadFault
read_failed silent rose writes (asked, asks, reads) = record {
  reports = λ r. absurd (r.no_read_fault refl);
  the_only_one = λ r. absurd (r.no_read_fault refl);
  sends = λ r. absurd (r.no_read_fault refl);
  complete = λ r. absurd (r.no_read_fault refl);
  breaks_off = λ e. absurd cc;
  read_fault_is_silent = λ _. silent;
  no_memory_is_silent = λ e. absurd cc;
  read_cause = λ _. rose;
  no_read_cause = λ e. absurd (e refl);
  write_cause = λ e. absurd cc;
  no_write_cause = λ _. writes;
  unlisted = λ u. absurd (u (asked, asks));
  listed = λ e. absurd cc;
  whole = λ r o. absurd ((of_input ReadFault o).0.no_read_fault refl);
  large = λ e. absurd cc;
  fault_of_reading = λ _. (asked, asks, reads);
  large_of_reading = λ e. absurd cc;
  unread = λ u. absurd (u (asked, asks, reads));
}

-- a run that ran out of memory
pub out_of_memory : {run : Session} → run.after.written ≡ run.before.written → run.after.read_faults ≡ run.before.read_faults
    → run.after.write_faults ≡ run.before.write_faults → ¬ ¬ IsListed run.words → (¬ IsReading run.words → ReadsNoMore run) → IsRun run NoMemory
out_of_memory silent reads writes listed unread = record {
  reports = λ r. absurd (r.memory refl);
  the_only_one = λ r. absurd (r.memory refl);
  sends = λ r. absurd (r.memory refl);
  complete = λ r. absurd (r.memory refl);
  breaks_off = λ e. absurd cc;
  read_fault_is_silent = λ e. absurd cc;
  no_memory_is_silent = λ _. silent;
  read_cause = λ e. absurd cc;
  no_read_cause = λ _. reads;
  write_cause = λ e. absurd cc;
  no_write_cause = λ _. writes;
  unlisted = λ u. absurd (listed u);
  listed = λ e. absurd cc;
  whole = λ r o. absurd ((of_input NoMemory o).0.memory refl);
  large = λ e. absurd cc;
  fault_of_reading = λ e. absurd cc;
  large_of_reading = λ e. absurd cc;
  unread = unread;
}
