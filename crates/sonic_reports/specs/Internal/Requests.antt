-- What a run is to answer, and what answers it.
use Rattle.std.specs.Prelude.{◌≡◌, ℕ, ◌+◌, ◌≤◌, List, length, codes, ⊤}
use Rattle.std.specs.Io.KnownBytes.{IsAtEnd}
use Rattle.std.specs.declared.option.Option.{Option}
use Rattle.sonic_reports.specs.declared.runs.Request.{Request}
use Rattle.sonic_reports.specs.declared.runs.Request.TheVariants.{Usage, Large, Input}
use Rattle.sonic_reports.specs.declared.status.Status.{Status}
use Rattle.sonic_reports.specs.declared.status.Status.TheVariants.{BadUsage, TooLarge}
use Rattle.sonic_reports.specs.Commands.{Asks, IsListed, Reads, IsReading, most_blanks}
use Rattle.sonic_reports.specs.declared.commands.Command.TheVariants as command
use Rattle.sonic_io.specs.Outside.{Gave, input_limit}
use Rattle.sonic_reports.specs.Reports.{Writes}

-- what is to be answered, by the words and by what the source had left and has
abbrev pub IsAsked : List (List ℕ) → Option (List ℕ) → Option (List ℕ) → Request → Type 0
IsAsked words before now Usage = ¬ IsListed words
IsAsked words before now Large = (bytes : List ℕ) × IsReading words × (length bytes ≡ input_limit + 1) × Gave before now bytes
IsAsked words before now (Input command bytes) = Asks words command × (Reads command → Gave before now bytes.items × IsAtEnd now × (length bytes.items ≤ input_limit))

-- where `indent` is asked for, it takes the number of blanks
abbrev pub HasWidth : Request → Type 0
HasWidth Usage = ⊤
HasWidth Large = ⊤
HasWidth (Input asked bytes) = (n : ℕ) → asked ≡ command.Indent n → n ≤ most_blanks

-- the text and the status that answer it
abbrev pub IsAnswered : Request → List ℕ → Status → Type 0
IsAnswered Usage text status = (text ≡ codes "! usage\n") × (status ≡ BadUsage)
IsAnswered Large text status = (text ≡ codes "! large\n") × (status ≡ TooLarge)
IsAnswered (Input command bytes) text status = Writes command bytes.items text status
