-- The forms over memory: what a call of them gives or takes, and how their calls are numbered.
use Rattle.std.specs.Prelude.{ℕ, List, length, drop, min, Contains}
use Rattle.sonic_io.specs.Outside.{raised}

-- the calls of a form: the numbers, from 1, of those that are to fail, the number of the last one, and how many failed
pub record CallState : Type 0 where
  pub fails : List ℕ
  pub number : ℕ
  pub faults : ℕ

-- before the first call
abbrev pub uncalled : List ℕ → CallState
uncalled fails = record { fails = fails; number = 0; faults = 0 }

-- the number of the next call is one of those that are to fail
abbrev pub IsToFail : CallState → Type 0
IsToFail calls = Contains calls.fails (raised calls.number)

-- after one more call, that did its work
abbrev pub worked : CallState → CallState
worked calls = record { fails = calls.fails; number = raised calls.number; faults = calls.faults }

-- after the fault of a call that has its number
abbrev pub faulted : CallState → CallState
faulted calls = record { fails = calls.fails; number = calls.number; faults = raised calls.faults }

-- after one more call, that failed
abbrev pub failed : CallState → CallState
failed calls = faulted (worked calls)

-- bytes that are given a piece at a time: what is left, and how many of them a call gives at most
pub record Supply : Type 0 where
  pub left : List ℕ
  pub piece : ℕ

-- how many bytes a call gives, into a room for so many
abbrev pub portion : Supply → ℕ → ℕ
portion supply room = min room (min supply.piece (length supply.left))

-- the bytes without the first so many
abbrev pub without : Supply → ℕ → Supply
without supply count = record { left = drop count supply.left; piece = supply.piece }

-- a source: its bytes, and its calls
pub record Stocked : Type 0 where
  pub stock : Supply
  pub calls : CallState

-- one byte, and how many times it is still to be given
pub record Repeated : Type 0 where
  pub byte : ℕ
  pub times : ℕ

-- a sink: the bytes that it has taken, for how many it has room in all and memory, how many a call takes at most, and its calls
pub record Holding : Type 0 where
  pub held : List ℕ
  pub room : ℕ
  pub reserved : ℕ
  pub piece : ℕ
  pub calls : CallState
