-- What a buffer holds, and what a sink took of bytes that went through one.
use Rattle.std.specs.Prelude.{◌≡◌, ℕ, List, ◌++◌, take, Result, Ok, Err}
use Rattle.std.specs.declared.option.Option.{Option}
use Rattle.sonic_io.specs.declared.buffer.Buffer.{Buffer}
use Rattle.sonic_io.specs.declared.sink.Sink.{Ghosts}
use Rattle.sonic_io.specs.Outside.{Rose, Took, TookPrefix}

-- the bytes that a buffer holds
abbrev pub held : Buffer → List ℕ
held buffer = take buffer.filled buffer.room.items

-- a sink took all of these bytes but the last, and those are held
pub record TookBut (before after : Option (List ℕ)) (holding bytes : List ℕ) : Type 0 where
  pub prefix : List ℕ
  pub parts : bytes ≡ prefix ++ holding
  pub taken : Took before after prefix

-- a sink took what the buffer before it held and these bytes, but for what is held now
pub record IsHandedOn {K : Type 0} (g : Ghosts K) (before after : K × Buffer) (bytes : List ℕ) : Type 0 where
  pub taken : TookBut (g.written before.0) (g.written after.0) (held after.1) (held before.1 ++ bytes)
  pub calm : g.faults after.0 ≡ g.faults before.0

-- a fault came when the sink had taken a prefix of them
pub record IsCutOff {K : Type 0} (g : Ghosts K) (before after : K × Buffer) (bytes : List ℕ) : Type 0 where
  pub prefix : TookPrefix (g.written before.0) (g.written after.0) (held before.1 ++ bytes)
  pub cause : Rose (g.faults before.0) (g.faults after.0)

-- the one or the other, by the result
abbrev pub IsWritten : {K V E : Type 0} → Ghosts K → K × Buffer → K × Buffer → List ℕ → Result V E → Type 0
IsWritten g before after bytes (Ok value) = IsHandedOn g before after bytes
IsWritten g before after bytes (Err error) = IsCutOff g before after bytes
