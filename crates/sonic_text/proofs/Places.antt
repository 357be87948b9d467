-- Places of a text: how far white space and digits lead, and where a byte is.
use Rattle.std.proofs.Common.{◌≡◌, ◌≢◌, ℕ, ◌<◌, ◌≤◌, true, false, inl, inr, length, arith}
use Rattle.std.proofs.lemmas.Bool.{cases_lt}
use Rattle.std.proofs.lemmas.Bool.Decides.{nat_tests}
use Rattle.std.proofs.lemmas.List.{get_or_past}
use Rattle.std.proofs.lemmas.List.Sums.{prefix_len-drop_yes, prefix_len-drop_no}
use Rattle.std.specs.Prelude.{List}
use Rattle.std.specs.Char.{is_ascii_digit}
use Rattle.sonic_text.specs.Places.{byte, is_space, after_space, digits_end, IsDigit}

-- white space leads on
pub after_space_later : (t : List ℕ) (i : ℕ) → i ≤ after_space t i
after_space_later t i = omega arith

-- another byte is where it is
pub space_stays : (t : List ℕ) (i : ℕ) → i < length t → is_space (byte t i) ≡ false → after_space t i ≡ i
space_stays t i l e = omega (arith, prefix_len-drop_no is_space t i 0 l e)

-- after the end the byte is 0
pub byte_after : (t : List ℕ) (p : ℕ) → length t ≤ p → byte t p ≡ 0
byte_after t p l = get_or_past t p 0 l

-- a byte that isn't 0 comes before the end
pub byte_within : (t : List ℕ) (p : ℕ) → byte t p ≢ 0 → p < length t
byte_within t p h = elim (cases_lt p (length t)) [ inl l ↦ l | inr l ↦ absurd (h (byte_after t p l)) ]

-- the number of a digit is that of an ASCII digit
pub digit_passes : (b : ℕ) → IsDigit b → is_ascii_digit b ≡ true
digit_passes b h = grind (arith, nat_tests)

-- digits end after a digit
pub digits_end_later : (t : List ℕ) (i : ℕ) → IsDigit (byte t i) → i < digits_end t i
digits_end_later t i h =
    let l : i < length t = byte_within t i (λ e. grind arith) in
    omega (arith, prefix_len-drop_yes is_ascii_digit t i 0 l (digit_passes _ h))
