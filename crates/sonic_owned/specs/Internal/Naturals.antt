-- Integers that are no less than 0.
use Rattle.std.specs.Prelude.{ℕ, Option, Some, None, ℤ, pos, negsuc}

-- the value of an integer that has no sign
abbrev pub natural : ℤ → Option ℕ
natural (pos n) = Some n
natural (negsuc n) = None
