-- Elements with numbers that have no exponent, by a test of each byte after those before it.
use Rattle.std.specs.Prelude.{◌≡◌, ℕ, zero, suc, ◌-◌, ◌<◌, ◌≤◌, ◌==◌, ◌&&◌, ◌||◌, Bool, true, false, not}
use Rattle.std.specs.Char.{is_ascii_digit}

-- the place before k passes the test; `first` says whether the one before 0 does
abbrev pub passes_before : (ℕ → Bool) → Bool → ℕ → Bool
passes_before test first zero = first
passes_before test first (suc k) = test k

-- the byte at k is this one
abbrev pub is_at : (ℕ → ℕ) → ℕ → ℕ → Bool
is_at bytes b k = bytes k == b

-- it is a digit
abbrev pub is_digit_at : (ℕ → ℕ) → ℕ → Bool
is_digit_at bytes k = is_ascii_digit (bytes k)

-- it is a 0 that neither a digit nor a dot comes before
abbrev pub is_first_zero : (ℕ → ℕ) → ℕ → Bool
is_first_zero bytes k = is_at bytes 48 k && not (passes_before (is_digit_at bytes) false k || passes_before (is_at bytes 46) false k)

-- directly before the place k is a digit of a fraction: digits, the first of them behind a dot
abbrev pub is_behind_fraction : (ℕ → ℕ) → ℕ → Bool
is_behind_fraction bytes zero = false
is_behind_fraction bytes (suc k) = is_digit_at bytes k && (passes_before (is_at bytes 46) false k || is_behind_fraction bytes k)

-- the byte at k fits after those before it, before the first of which a comma comes, in elements that are each perhaps a blank, a number without an exponent, and a comma:
-- a comma after a digit, a blank after a comma, a minus sign after one of these two, a dot after a digit that is in no fraction, and a digit where no first 0 comes before it
abbrev pub fits_after : (ℕ → ℕ) → ℕ → Bool
fits_after bytes k =
    (((is_at bytes 44 k && passes_before (is_digit_at bytes) false k
    || is_at bytes 32 k && passes_before (is_at bytes 44) true k)
    || is_at bytes 45 k && (passes_before (is_at bytes 44) true k || passes_before (is_at bytes 32) false k))
    || (is_at bytes 46 k && passes_before (is_digit_at bytes) false k) && not (is_behind_fraction bytes k))
    || is_digit_at bytes k && not (passes_before (is_first_zero bytes) false k)

-- the first n of 64 bytes fit, and the last of them is a comma. This is a test of bytes alone: that they are whole elements of an
-- array (RFC 8259, sections 5 and 6) is proved in `sonic_parser`, where they are passed
pub record AreWholeElements (bytes : ℕ → ℕ) (n : ℕ) : Type 0 where
  pub within : n ≤ 64
  pub fit : (k : ℕ) → k < n → fits_after bytes k ≡ true
  pub comma : 0 < n → bytes (n - 1) ≡ 44
