-- How the program ends, by what it was given.
use Rattle.std.specs.Prelude.{◌≡◌, ℕ, List, None}
use Rattle.sonic_reports.specs.declared.status.Status.{Status}
use Rattle.sonic_reports.specs.declared.status.Status.TheVariants.{Done, DocumentError, BadUsage, BadLines, TooLarge, ReadFault, WriteFault, NoMemory}
use Rattle.sonic_reports.specs.Sessions.{Outside, outside_of, session_of, IsRun}
use Rattle.sonic_tool.specs.Words.{Arguments, HasBrokenWord, IsWords}

-- the number that the process ends with
abbrev pub number_of_status : Status → ℕ
number_of_status Done = 0
number_of_status DocumentError = 1
number_of_status BadUsage = 2
number_of_status BadLines = 3
number_of_status TooLarge = 4
number_of_status ReadFault = 5
number_of_status WriteFault = 6
number_of_status NoMemory = 7

-- what the program has done that was given these arguments, with the outside before and after it, and ended with this number
pub data IsProgram (arguments : Arguments) (before after : Outside) (number : ℕ) : Type 0 where
  -- the words ran, and the number is that of the run's status
  ran : {words : List (List ℕ)} {status : Status} → IsWords arguments words → IsRun (session_of words before after) status → number ≡ number_of_status status
      → IsProgram arguments before after number
  -- there was no memory for the words; that an argument is no text takes none
  no_words : ¬ HasBrokenWord arguments → number ≡ 7 → after ≡ before → IsProgram arguments before after number

-- the outside of a reader and a writer of the system, of whose bytes nothing is known, where so many calls of each failed
abbrev pub outside_of_system : ℕ → ℕ → Outside
outside_of_system read_faults write_faults = outside_of None read_faults None None write_faults

-- what the program has done over such a reader and such a writer, of which no call had failed before, and ended with this number
abbrev pub IsProcess : Arguments → ℕ → Type 0
IsProcess arguments number = (read_faults write_faults : ℕ) × IsProgram arguments (outside_of_system 0 0) (outside_of_system read_faults write_faults) number
