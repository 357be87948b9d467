-- The forms over the system: a reader or a writer, and how many calls of it failed.
use Rattle.std.specs.Prelude.{ℕ}

-- a source over a reader
pub record Reading (R : Type 0) : Type 0 where
  pub reader : R
  pub faults : ℕ

-- a sink over a writer
pub record Writing (W : Type 0) : Type 0 where
  pub writer : W
  pub faults : ℕ
