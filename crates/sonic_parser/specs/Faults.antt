-- Why a reader goes no further, and what error says so.
use Rattle.std.specs.Prelude.{List, ℕ}
use Rattle.sonic_error.specs.declared.error.Error.{Error}
use Rattle.sonic_error.specs.declared.code.ErrorCode.TheVariants.{NoMemory}
use Rattle.sonic_error.specs.Errors.{IsErrorAt, IsPlainError}
use Rattle.sonic_text.specs.declared.stop.Stop.{Stop}
use Rattle.sonic_parser.specs.declared.fault.Fault.{Fault}
use Rattle.sonic_parser.specs.declared.fault.Fault.TheVariants.{OutOfMemory, At}

-- what a fault says: of the text nothing where memory ran out, and of a stop this
abbrev pub IsStopFor : (Stop → Type 0) → Fault → Type 0
IsStopFor Says OutOfMemory = Unit {0}
IsStopFor Says (At s) = Says s

-- the error that reports a fault of the text
abbrev pub IsErrorOf : List ℕ → Fault → Error → Type 0
IsErrorOf t OutOfMemory e = IsPlainError e NoMemory
IsErrorOf t (At s) e = IsErrorAt e s.code t s.place
