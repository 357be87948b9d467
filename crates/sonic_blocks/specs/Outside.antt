-- Which bytes of a text are escaped, and which are inside a string, as counted from a place s on.
use Rattle.std.specs.Prelude.{◌≡◌, ℕ, ◌+◌, ◌-◌, ◌≤◌, ◌==◌, ◌&&◌, Bool, false, not, List, slice_index}
use Rattle.sonic_blocks.specs.Bits.{is_odd, count_below, is_escaped, is_quote, is_inside}

-- the n-th place from s on holds the byte b
abbrev pub holds : List ℕ → ℕ → ℕ → ℕ → Bool
holds t s b n = slice_index t (s + n) == b

-- the n-th place from s on holds a quote that isn't escaped
abbrev pub holds_quote : List ℕ → ℕ → ℕ → Bool
holds_quote t s = is_quote (holds t s 92) (holds t s 34) 0

-- the n-th place from s on holds the byte b outside strings
abbrev pub holds_outside : List ℕ → ℕ → ℕ → ℕ → Bool
holds_outside t s b n = holds t s b n && not (is_inside (holds t s 92) (holds t s 34) 0 0 n)

-- an odd number of backslashes comes directly before k, from s on
unfoldable pub is_escaped_at : List ℕ → ℕ → ℕ → Bool
is_escaped_at t s k = is_escaped (holds t s 92) 0 (k - s)

-- of the quotes from s on and before k an odd number isn't escaped
unfoldable pub is_inside_at : List ℕ → ℕ → ℕ → Bool
is_inside_at t s k = is_odd (count_below (holds_quote t s) 0 (k - s))

-- how many places from s on and before k hold the byte b outside strings
unfoldable pub outside : List ℕ → ℕ → ℕ → ℕ → ℕ
outside t s k b = count_below (holds_outside t s b) 0 (k - s)

-- k is outside strings, and no escape is open there
pub record IsClear (t : List ℕ) (s k : ℕ) : Type 0 where
  pub from : s ≤ k
  pub no_escape : is_escaped_at t s k ≡ false
  pub no_string : is_inside_at t s k ≡ false
