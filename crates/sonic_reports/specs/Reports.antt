-- What a run writes, and the status that goes with it.
use Rattle.std.specs.Prelude.{ℕ, ◌<◌, ◌≤◌, List, length, codes}
use Rattle.sonic_reports.specs.declared.commands.Command.{Command}
use Rattle.sonic_reports.specs.declared.commands.Command.TheVariants as command
use Rattle.sonic_io.specs.Outside.{input_limit}
use Rattle.sonic_reports.specs.declared.status.Status.{Status}
use Rattle.sonic_reports.specs.declared.status.Status.TheVariants.{BadUsage, TooLarge}
use Rattle.sonic_reports.specs.Commands.{Asks, IsListed, Reads, IsReading}
use Rattle.sonic_reports.specs.Commands.Edits.{IsEditReport}
use Rattle.sonic_reports.specs.Commands.Entries.{IsIndexReport}
use Rattle.sonic_reports.specs.Commands.Fast.{IsFastReport}
use Rattle.sonic_reports.specs.Commands.Fills.{IsFillReport}
use Rattle.sonic_reports.specs.Commands.Generated.{IsGenReport}
use Rattle.sonic_reports.specs.Commands.Get.{IsGetReport}
use Rattle.sonic_reports.specs.Commands.Items.{IsListReport}
use Rattle.sonic_reports.specs.Commands.Patches.{IsPatchReport}
use Rattle.sonic_reports.specs.Commands.Rows.{IsLinesReport}
use Rattle.sonic_reports.specs.Commands.Texts.{IsMinReport, IsIndentReport}

-- what each command writes of an input
abbrev pub Writes : Command → List ℕ → List ℕ → Status → Type 0
Writes (command.Get rule) input text status = IsGetReport rule input text status
Writes command.List input text status = IsListReport input text status
Writes command.Edit input text status = IsEditReport input text status
Writes command.Fill input text status = IsFillReport input text status
Writes command.Fast input text status = IsFastReport input text status
Writes (command.Indent width) input text status = IsIndentReport width input text status
Writes command.Index input text status = IsIndexReport input text status
Writes command.Lines input text status = IsLinesReport input text status
Writes command.Min input text status = IsMinReport input text status
Writes command.Patch input text status = IsPatchReport input text status
Writes (command.Gen n) input text status = IsGenReport n text status

-- what a run with these words writes of an input
pub data IsReport (words : List (List ℕ)) (input : List ℕ) : List ℕ → Status → Type 0 where
  -- words that ask for no command are answered so, whatever the input is
  usage : ¬ IsListed words → IsReport words input (codes "! usage\n") BadUsage
  -- an input of more than 256 MiB is answered by its size alone, where it is read
  large : IsReading words → input_limit < length input → IsReport words input (codes "! large\n") TooLarge
  -- each command writes its own report of the others
  written : {asked : Command} {text : List ℕ} {status : Status} → Asks words asked → (Reads asked → length input ≤ input_limit) → Writes asked input text status
      → IsReport words input text status
