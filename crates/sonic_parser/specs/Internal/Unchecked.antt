-- What is known of a string and of separators that are known to be whole: no public clause rests on it.
use Rattle.std.specs.Prelude.{◌≡◌, ℕ, ◌<◌, ◌≤◌, true, false, List, length}
use Rattle.sonic_blocks.specs.Bits.{is_space}
use Rattle.sonic_blocks.specs.Outside.{is_escaped_at, is_inside_at, IsClear}
use Rattle.sonic_text.specs.Places.{byte}

-- a string begins at i, and the text has a place after it that is outside strings
pub record IsWholeString (t : List ℕ) (i : ℕ) : Type 0 where
  pub from : ℕ
  pub place : ℕ
  pub clear : IsClear t from i
  pub opens : byte t i ≡ 34
  pub later : i < place
  pub within : place ≤ length t
  pub outside : is_inside_at t from place ≡ false

-- p is inside a string, and no escape is open there
pub record IsInsideString (t : List ℕ) (s p : ℕ) : Type 0 where
  pub from : s ≤ p
  pub no_escape : is_escaped_at t s p ≡ false
  pub in_string : is_inside_at t s p ≡ true

-- p is inside a string, and the text has a place after it that is outside strings
pub record IsOpenString (t : List ℕ) (p : ℕ) : Type 0 where
  pub from : ℕ
  pub place : ℕ
  pub inside : IsInsideString t from p
  pub later : p < place
  pub within : place ≤ length t
  pub outside : is_inside_at t from place ≡ false

-- a byte that separates: it is no white space, and no text has it after its end
pub record IsMark (b : ℕ) : Type 0 where
  pub no_space : is_space b ≡ false
  pub some : 0 < b
