-- A value ends with a byte that is no white space.
use Rattle.std.proofs.Common.{◌≡◌, ℕ, ◌+◌, ◌-◌, ◌∙◌, Bool, true, false, List, inl, inr, refl, ap, arith}
use Rattle.std.proofs.lemmas.Bool.Decides.{nat_tests}
use Rattle.std.specs.Char.{is_ascii_digit}
use Rattle.sonic_blocks.proofs.RunLemmas.{run_passes}
use Rattle.sonic_text.specs.Numbers.{IsInt, IsFraction, IsExponent, IsNumber, after_minus, after_sign}
use Rattle.sonic_text.specs.Places.{byte, is_space, IsDigit, digits_end}
use Rattle.sonic_text.specs.Values.{closing, IsValue}
use Rattle.sonic_text.specs.Values.IsValue.{null_literal, true_literal, false_literal, number, string, empty, filled}
use Rattle.sonic_text.proofs.Items.{closing_no_space}
use Rattle.sonic_text.proofs.Places.{digits_end_later}

digit_is_solid : (b : ℕ) → IsDigit b → is_space b ≡ false
digit_is_solid b h = grind (arith, nat_tests)

tested_digit : (b : ℕ) → is_ascii_digit b ≡ true → IsDigit b
tested_digit b e = grind (arith, nat_tests)

-- the last byte of a run of digits, which has one at least
last_digit : (t : List ℕ) (d j : ℕ) → IsDigit (byte t d) → j ≡ digits_end t d → IsDigit (byte t (j - 1))
last_digit t d j first end =
    let later = digits_end_later t d first in
    tested_digit (byte t (j - 1)) (run_passes is_ascii_digit t d (j - 1) (omega (arith, later, end)) (omega (arith, later, end)))

int_ends : (t : List ℕ) (i j : ℕ) → IsInt t i j → IsDigit (byte t (j - 1))
int_ends t i j (inl h) = let same : j - 1 ≡ i = omega (arith, h.2) in omega (arith, ap (byte t) same, h.0)
int_ends t i j (inr h) = last_digit t i j (omega (arith, h.0), omega (arith, h.1)) h.2

fraction_ends : (t : List ℕ) (i j : ℕ) → IsDigit (byte t (i - 1)) → IsFraction t i j → IsDigit (byte t (j - 1))
fraction_ends t i j before (inl h) = last_digit t (i + 1) j h.1 h.2
fraction_ends t i j before (inr h) = rw h.1 before

exponent_ends : (t : List ℕ) (i j : ℕ) → IsDigit (byte t (i - 1)) → IsExponent t i j → IsDigit (byte t (j - 1))
exponent_ends t i j before (inl h) = last_digit t (after_sign t (i + 1)) j h.1 h.2
exponent_ends t i j before (inr h) = rw h.1 before

number_ends : (t : List ℕ) (i j : ℕ) → IsNumber t i j → IsDigit (byte t (j - 1))
number_ends t i j h =
    exponent_ends t h.fraction_end j (fraction_ends t h.int_end h.fraction_end (int_ends t (after_minus t i) h.int_end h.int) h.fraction) h.exponent

-- the byte at p is b, which is no white space, and the value ends behind it
ends_at : (t : List ℕ) (p j b : ℕ) → j ≡ p + 1 → byte t p ≡ b → is_space b ≡ false → is_space (byte t (j - 1)) ≡ false
ends_at t p j b end is solid = let same : j - 1 ≡ p = omega (arith, end) in ap (λ q. is_space (byte t q)) same ∙ ap is_space is ∙ solid

-- a value ends with no white space
pub value_ends_solid : {m : Bool} {t : List ℕ} {i j : ℕ} → IsValue m t i j → is_space (byte t (j - 1)) ≡ false
value_ends_solid {t = t} {i} {j} (null_literal h) = ends_at t (i + 3) j 108 (omega (arith, h.1)) (h.0.1 3 (omega arith)) refl
value_ends_solid {t = t} {i} {j} (true_literal h) = ends_at t (i + 3) j 101 (omega (arith, h.1)) (h.0.1 3 (omega arith)) refl
value_ends_solid {t = t} {i} {j} (false_literal h) = ends_at t (i + 4) j 101 (omega (arith, h.1)) (h.0.1 4 (omega arith)) refl
value_ends_solid {t = t} {i} {j} (number h) = digit_is_solid (byte t (j - 1)) (number_ends t i j h)
value_ends_solid {t = t} {j = j} (string h) = ends_at t h.close j 34 h.end h.closes refl
value_ends_solid {t = t} {i} {j} (empty kind b c q) = ends_at t _ j (closing kind) q c (closing_no_space kind)
value_ends_solid {t = t} {i} {j} (filled {kind} is y x c q) = ends_at t _ j (closing kind) q c (closing_no_space kind)
