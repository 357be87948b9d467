-- Bytes of a text as bits: which are escaped, and which are inside a string.
use Rattle.std.specs.Prelude.{◌≡◌, ℕ, zero, suc, ◌%◌, ◌<◌, ◌≤◌, ◌==◌, ◌&&◌, ◌||◌, Bool, true, false, not, if◌then◌else◌}
use Rattle.std.specs.Int.{bit_at}

-- bit k of n is set
unfoldable pub is_set : ℕ → ℕ → Bool
is_set n k = bit_at n k == 1

-- from `from` on, k is the lowest bit of n that is set
pub record IsNextBit (n from k : ℕ) : Type 0 where
  pub later : from ≤ k
  pub within : k < 64
  pub here : is_set n k ≡ true
  pub before : (j : ℕ) → from ≤ j → j < k → is_set n j ≡ false

-- the number is odd
abbrev pub is_odd : ℕ → Bool
is_odd n = n % 2 == 1

-- how many of the places below n pass the test, and c more
unfoldable pub count_below : (ℕ → Bool) → ℕ → ℕ → ℕ
count_below test c zero = c
count_below test c (suc n) = if test n then suc (count_below test c n) else count_below test c n

-- how many places directly before n pass the test, without a gap; c more come before 0
unfoldable pub run_before : (ℕ → Bool) → ℕ → ℕ → ℕ
run_before test c zero = c
run_before test c (suc n) = if test n then suc (run_before test c n) else 0

-- the place n is escaped: an odd number of backslashes comes directly before it; c more come before 0
abbrev pub is_escaped : (ℕ → Bool) → ℕ → ℕ → Bool
is_escaped backslash c n = is_odd (run_before backslash c n)

-- at k is a quote that isn't escaped
abbrev pub is_quote : (ℕ → Bool) → (ℕ → Bool) → ℕ → ℕ → Bool
is_quote backslash quote c k = quote k && not (is_escaped backslash c k)

-- the byte at k is inside a string, or opens one: of the quotes up to it and with it that aren't escaped the number is odd; s more come before 0
abbrev pub is_inside : (ℕ → Bool) → (ℕ → Bool) → ℕ → ℕ → ℕ → Bool
is_inside backslash quote c s k = is_odd (count_below (is_quote backslash quote c) s (suc k))

-- white space: a blank, a tab, a line feed or a carriage return (RFC 8259, section 2)
abbrev pub is_space : ℕ → Bool
is_space b = b == 0x20 || b == 0x09 || b == 0x0A || b == 0x0D
