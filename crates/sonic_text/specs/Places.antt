-- A text is a list of bytes, and a place in it is a number from 0 to its length.
use Rattle.std.specs.Prelude.{ℕ, ◌+◌, ◌≤◌, List, length, drop, slice_index, nat_lt, if◌then◌else◌}
use Rattle.std.specs.List.{prefix_len}
use Rattle.std.specs.Char.{is_ascii_digit}
-- white space (RFC 8259, section 2)
pub use Rattle.sonic_blocks.specs.Bits.{is_space}
use Rattle.sonic_error.specs.declared.code.ErrorCode.{ErrorCode}
use Rattle.sonic_error.specs.declared.code.ErrorCode.TheVariants.{EofWhileParsing}
use Rattle.sonic_text.specs.declared.stop.Stop.{Stop}

-- the byte at p, and 0 after the end, where no rule asks for a 0
abbrev pub byte : List ℕ → ℕ → ℕ
byte t p = slice_index t p

-- the least place from i on that holds no white space, or the end
abbrev pub after_space : List ℕ → ℕ → ℕ
after_space t i = i + prefix_len is_space (drop i t)

-- a digit from 0 to 9
abbrev pub IsDigit : ℕ → Type 0
IsDigit b = (48 ≤ b) × (b ≤ 57)

-- the least place from i on that holds no digit, or the end
abbrev pub digits_end : List ℕ → ℕ → ℕ
digits_end t i = i + prefix_len is_ascii_digit (drop i t)

-- the stop at p for this reason; where p is no place of a byte, the end of the input is the reason
abbrev pub stop_at : List ℕ → ℕ → ErrorCode → Stop
stop_at t p code =
    if nat_lt p (length t) then record { place = p; code = code }
    else record { place = length t; code = EofWhileParsing }
