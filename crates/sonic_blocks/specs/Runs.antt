-- Bytes that are themselves in a string, and bytes that escape nothing.
use Rattle.std.specs.Prelude.{ℕ, ◌==◌, ◌&&◌, Bool, not, nat_lt}

-- a byte that a string has without an escape: from 0x20 up, and neither a quote nor a backslash
abbrev pub is_plain : ℕ → Bool
is_plain b = not (nat_lt b 32) && not (b == 34) && not (b == 92)

-- any byte but a backslash
abbrev pub is_no_backslash : ℕ → Bool
is_no_backslash b = not (b == 92)
