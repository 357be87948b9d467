-- Integers of 64 bits, with a sign or without one.
use Rattle.std.specs.Prelude.{ℤ, pos}
use Rattle.sonic_owned.specs.declared.integer.Kept.{Kept}
use Rattle.sonic_owned.specs.declared.integer.Kept.TheVariants.{Unsigned, Signed}

-- the value
abbrev pub value : Kept → ℤ
value (Unsigned n) = pos n
value (Signed z) = z
