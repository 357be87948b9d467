-- The bytes of a number are no white space, no control bytes and no brackets, commas or colons.
use Rattle.std.proofs.Common.{◌≡◌, ℕ, ◌<◌, ◌≤◌, true, false, List, arith}
use Rattle.std.proofs.lemmas.Bool.Decides.{nat_tests}
use Rattle.sonic_text.proofs.NumberBytes as numbers
use Rattle.sonic_text.proofs.NumberBytes.{in_number}
use Rattle.sonic_text.specs.Places.{byte}
use Rattle.sonic_text.specs.Numbers.{IsNumber}
use Rattle.sonic_min.specs.Internal.Marks.{is_structural}

-- a byte above the blank that is no bracket, no comma and no colon
abbrev pub IsOrdinary : ℕ → Type 0
IsOrdinary b = (32 < b) × (is_structural b ≡ false)

in_number_ordinary : (b : ℕ) → in_number b ≡ true → IsOrdinary b
in_number_ordinary b h = (grind (arith, nat_tests), grind (arith, nat_tests))

-- each byte of a number is one
pub number_bytes : (t : List ℕ) (i j : ℕ) → IsNumber t i j → (p : ℕ) → i ≤ p → p < j → IsOrdinary (byte t p)
number_bytes t i j n p l h = in_number_ordinary (byte t p) (numbers.number_bytes t i j n p l h)
