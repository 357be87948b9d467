-- What a run has done.
use Rattle.std.specs.Prelude.{◌≡◌, ◌≢◌, ◌⊎◌, ℕ, ◌+◌, List, length, IfSome, Some}
use Rattle.std.specs.Io.KnownBytes.{IsAtEnd}
use Rattle.std.specs.declared.option.Option.{Option}
use Rattle.sonic_pointer.specs.declared.rule.KeyRule.{KeyRule}
use Rattle.sonic_reports.specs.declared.commands.Command.TheVariants.{Get}
use Rattle.sonic_reports.specs.declared.status.Status.{Status}
use Rattle.sonic_reports.specs.declared.status.Status.TheVariants.{Done, DocumentError, BadUsage, BadLines, TooLarge, ReadFault, WriteFault, NoMemory}
use Rattle.sonic_reports.specs.Commands.{Asks, IsListed, IsReading}
use Rattle.sonic_reports.specs.Commands.Get.{IsAnswerableInput}
use Rattle.sonic_io.specs.Outside.{Rose, Gave, Took, TookPrefix, input_limit}
use Rattle.sonic_reports.specs.Reports.{IsReport}

-- what the source has left, and what the sink has written and sent on, where that is known, and how many of their calls failed, up to the greatest number of 64 bits
pub record Outside : Type 0 where
  pub left : Option (List ℕ)
  pub read_faults : ℕ
  pub written : Option (List ℕ)
  pub sent : Option (List ℕ)
  pub write_faults : ℕ

-- a run: the words of its command line, and the outside before and after it
pub record Session : Type 0 where
  pub words : List (List ℕ)
  pub before : Outside
  pub after : Outside

-- the outside, where the source has this left and has failed so often, and the sink has written this, has sent this on and has failed so often
abbrev pub outside_of : Option (List ℕ) → ℕ → Option (List ℕ) → Option (List ℕ) → ℕ → Outside
outside_of left read_faults written sent write_faults = record { left = left; read_faults = read_faults; written = written; sent = sent; write_faults = write_faults }

-- the run of these words
abbrev pub session_of : List (List ℕ) → Outside → Outside → Session
session_of words before after = record { words = words; before = before; after = after }

-- the run ended with a report, and not with a fault or out of memory
pub record IsReported (ending : Status) : Type 0 where
  pub no_read_fault : ending ≢ ReadFault
  pub no_write_fault : ending ≢ WriteFault
  pub memory : ending ≢ NoMemory

-- the run ended with a report of its whole input
abbrev pub IsOfInput : Status → Type 0
IsOfInput ending = (ending ≡ Done) ⊎ (ending ≡ DocumentError) ⊎ (ending ≡ BadLines)

-- a report of the input that the source had left, where that is known
pub record IsReply (run : Session) (text : List ℕ) (ending : Status) : Type 0 where
  pub input : List ℕ
  pub known : IfSome run.before.left (λ bytes. bytes ≡ input)
  pub report : IsReport run.words input text ending

-- the sink took a whole report of the input, and the status is the report's
pub record Reports (run : Session) (ending : Status) : Type 0 where
  pub text : List ℕ
  pub reply : IsReply run text ending
  pub taken : Took run.before.written run.after.written text

-- where the input is known, whatever is its report is what the sink took, and its status is the run's
abbrev pub ReportsOnly : Session → Status → Type 0
ReportsOnly run ending =
    (input text : List ℕ) (status : Status) → run.before.left ≡ Some input → IsReport run.words input text status
    → Took run.before.written run.after.written text × (ending ≡ status)

-- where the input is known and the words ask for `get` under a rule, and each path finds a value or lacks its key by that, the status is 0
abbrev pub AnswersAll : Session → Status → Type 0
AnswersAll run ending =
    (rule : KeyRule) (input : List ℕ) → run.before.left ≡ Some input → Asks run.words (Get rule) → IsAnswerableInput rule input → ending ≡ Done

-- a prefix of a report of the input was written
pub record BreaksOff (run : Session) : Type 0 where
  pub text : List ℕ
  pub status : Status
  pub reply : IsReply run text status
  pub taken : TookPrefix run.before.written run.after.written text

-- all that was written was sent on
abbrev pub IsSent : Session → Type 0
IsSent run = run.after.sent ≡ run.after.written

-- what the source has left, and how often it failed, is as before
abbrev pub ReadsNoMore : Session → Type 0
ReadsNoMore run = (run.after.left ≡ run.before.left) × (run.after.read_faults ≡ run.before.read_faults)

-- nothing was written
abbrev pub IsSilent : Session → Type 0
IsSilent run = run.after.written ≡ run.before.written

-- one byte more than an input may have was read
abbrev pub ReadsTooMuch : Session → Type 0
ReadsTooMuch run = (bytes : List ℕ) × (length bytes ≡ input_limit + 1) × Gave run.before.left run.after.left bytes

-- what a run has done that ended with this status
pub record IsRun (run : Session) (ending : Status) : Type 0 where
  -- the sink took a whole report of the input, and the status is the report's
  pub reports : IsReported ending → Reports run ending
  -- it is the only report, where the input is known
  pub the_only_one : IsReported ending → ReportsOnly run ending
  -- and the sink was finished after it
  pub sends : IsReported ending → IsSent run
  -- where each path finds a value or lacks its key, the status says so, whatever comes after the last of them
  pub complete : IsReported ending → AnswersAll run ending
  -- after a failed write no more than a prefix of the report was written
  pub breaks_off : ending ≡ WriteFault → BreaksOff run
  -- after a failed read, and out of memory, nothing was written
  pub read_fault_is_silent : ending ≡ ReadFault → IsSilent run
  pub no_memory_is_silent : ending ≡ NoMemory → IsSilent run
  -- a fault is reported where its count rose, or stands at the greatest number, and otherwise the count stays
  pub read_cause : ending ≡ ReadFault → Rose run.before.read_faults run.after.read_faults
  pub no_read_cause : ending ≢ ReadFault → run.after.read_faults ≡ run.before.read_faults
  pub write_cause : ending ≡ WriteFault → Rose run.before.write_faults run.after.write_faults
  pub no_write_cause : ending ≢ WriteFault → run.after.write_faults ≡ run.before.write_faults
  -- words that ask for no command are answered so: such a run never ends for want of memory
  pub unlisted : ¬ IsListed run.words → (ending ≡ BadUsage) ⊎ (ending ≡ WriteFault)
  pub listed : ending ≡ BadUsage → ¬ IsListed run.words
  -- a report of an input that is read was made of all of it
  pub whole : IsReading run.words → IsOfInput ending → IsAtEnd run.after.left
  pub large : ending ≡ TooLarge → ReadsTooMuch run
  -- only words that ask for a command that reads end with the status of a failed read or of a large input
  pub fault_of_reading : ending ≡ ReadFault → IsReading run.words
  pub large_of_reading : ending ≡ TooLarge → IsReading run.words
  -- other words leave the source unread
  pub unread : ¬ IsReading run.words → ReadsNoMore run
