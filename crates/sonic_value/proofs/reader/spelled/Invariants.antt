-- The bytes that were passed are spelled.
use Rattle.std.proofs.Common.{◌≡◌, take, string_bytes}
use Rattle.sonic_value.proofs.reader.spelled.Given as goal
use Rattle.sonic_value.specs.Internal.Keeping.{spelling}

abbrev pub invariant-loop-byte : goal.invariant-loop-byte
invariant-loop-byte l = string_bytes l.letters ≡ spelling (take l.byte-index l.bytes)
