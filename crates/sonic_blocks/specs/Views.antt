-- The masks of a block of 64 bytes.
use Rattle.std.specs.Prelude.{◌≡◌, ℕ, ◌+◌, ◌<◌, ◌==◌, ◌&&◌, not, List, length, nat_lt, slice_index}
use Rattle.sonic_blocks.specs.Bits.{is_set, is_space}
use Rattle.sonic_blocks.specs.declared.tape.Masks.{Masks}

-- of the 64 places from p on, a bit is set for those that hold the byte b
abbrev pub IsMask : List ℕ → ℕ → ℕ → ℕ → Type 0
IsMask t p b mask = (k : ℕ) → k < 64 → is_set mask k ≡ (slice_index t (p + k) == b)

-- each word has the bits of its byte, and the last one those of the places in the text that hold no white space
pub record AreMasks (t : List ℕ) (p : ℕ) (m : Masks) : Type 0 where
  pub backslash : IsMask t p 0x5C m.backslash
  pub quote : IsMask t p 0x22 m.quote
  pub open_brace : IsMask t p 0x7B m.open_brace
  pub close_brace : IsMask t p 0x7D m.close_brace
  pub open_bracket : IsMask t p 0x5B m.open_bracket
  pub close_bracket : IsMask t p 0x5D m.close_bracket
  pub comma : IsMask t p 0x2C m.comma
  pub nonspace : (k : ℕ) → k < 64 → is_set m.nonspace k ≡ (nat_lt (p + k) (length t) && not (is_space (slice_index t (p + k))))
