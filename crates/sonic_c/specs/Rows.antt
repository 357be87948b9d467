-- What the call that makes the rows of lines comes to, in the caller's memory.
use Rattle.std.specs.Prelude.{◌≡◌, ℕ, ◌+◌, ◌-◌, ◌^◌, ◌<◌, List, length}
use Rattle.sonic_lines.specs.LineRows.{AreRows, together}
use Rattle.sonic_text.specs.Paths.{Path}
use Rattle.sonic_c.specs.Statuses.{status_bad_lines, status_bad_number}
use Rattle.sonic_c.specs.Texts.{IsMadeCall}
use Rattle.sonic_c.specs.Told.{Say, SayBad, at_line}
use Rattle.sonic_c.specs.Values.{TextCells}
use Rattle.sonic_c.specs.declared.fault.Fault.{Fault}

-- the lines say no paths, and that is told
pub record AreNoPaths (lines : List ℕ) (before after : Fault) (status : ℕ) : Type 0 where
  pub number : ℕ
  pub bad : SayBad lines number
  pub told : after ≡ at_line number
  pub says : status ≡ status_bad_lines

-- the lines of a stream can be numbered, where n come before them: each number fits 64 bits
abbrev pub CanBeNumbered : List ℕ → ℕ → Type 0
CanBeNumbered stream n = n + length stream < 2 ^ 64 - 1

-- these are the rows of the stream's lines for the paths that are said, where n lines come before them
pub record AreSaidRows (stream lines : List ℕ) (n : ℕ) (rows : List ℕ) : Type 0 where
  pub numbered : CanBeNumbered stream n
  pub paths : List Path
  pub say : Say lines paths
  pub are : AreRows (together paths) n stream rows

-- there are none: too many lines come before, or the lines of paths say none
pub data AreNoRows (stream lines : List ℕ) (n : ℕ) (before after : Fault) (status : ℕ) : Type 0 where
  not_numbered : ¬ CanBeNumbered stream n → status ≡ status_bad_number → after ≡ before → AreNoRows stream lines n before after status
  no_paths : CanBeNumbered stream n → AreNoPaths lines before after status → AreNoRows stream lines n before after status

-- what a call for the rows of a stream's lines comes to
abbrev pub IsRowsCall : List ℕ → List ℕ → ℕ → TextCells → TextCells → ℕ → Type 0
IsRowsCall stream lines n = IsMadeCall (AreSaidRows stream lines n) (AreNoRows stream lines n)
