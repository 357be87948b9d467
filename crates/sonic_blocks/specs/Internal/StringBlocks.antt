-- What the words of a `StringBlock` say: serves its invariant alone.
use Rattle.std.specs.Prelude.{◌≡◌, bit_and, bit_or}
use Rattle.std.specs.Int.{trailing_zeros}
use mir.Syntax.{w32}
use Rattle.sonic_blocks.specs.declared.string_block.StringBlock.TheInside.{Inside}
use Rattle.sonic_blocks.specs.Firsts.{FirstPlaces}

-- the lowest bit of each word, and all bits of the three
abbrev pub first_places : Inside → FirstPlaces
first_places block = record {
  backslash = trailing_zeros w32 block.bs_bits;
  quote = trailing_zeros w32 block.quote_bits;
  control = trailing_zeros w32 block.unescaped_bits;
  special = bit_or (bit_or block.bs_bits block.quote_bits) block.unescaped_bits;
}

-- no two of the words have a bit in common
pub record AreApart (block : Inside) : Type 0 where
  pub backslash_quote : bit_and block.bs_bits block.quote_bits ≡ 0
  pub quote_backslash : bit_and block.quote_bits block.bs_bits ≡ 0
  pub quote_control : bit_and block.quote_bits block.unescaped_bits ≡ 0
  pub control_quote : bit_and block.unescaped_bits block.quote_bits ≡ 0
