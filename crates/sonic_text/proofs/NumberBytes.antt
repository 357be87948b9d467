-- The bytes of a number: digits, signs, a dot and an e.
use Rattle.std.proofs.Common.{◌≡◌, ◌∙◌, ℕ, ◌+◌, ◌<◌, ◌≤◌, ◌==◌, ◌||◌, Bool, true, inl, inr, List, ap, arith, refl}
use Rattle.std.proofs.lemmas.Bool.{cases_lt}
use Rattle.std.proofs.lemmas.Bool.Decides.{nat_tests}
use Rattle.std.specs.Char.{is_ascii_digit}
use Rattle.sonic_blocks.proofs.RunLemmas.{run_passes}
use Rattle.sonic_text.specs.Places.{byte, digits_end}
use Rattle.sonic_text.specs.Numbers.{after_minus, after_sign, IsInt, IsFraction, IsExponent, IsE, IsNumber}

-- a byte that may be in a number
abbrev pub in_number : ℕ → Bool
in_number b = is_ascii_digit b || b == 43 || b == 45 || b == 46 || b == 69 || b == 101

-- from i to j are such bytes alone
abbrev pub AreInNumber : List ℕ → ℕ → ℕ → Type 0
AreInNumber t i j = (p : ℕ) → i ≤ p → p < j → in_number (byte t p) ≡ true

-- what is one after the other is together
joined : (t : List ℕ) (i j k : ℕ) → AreInNumber t i j → AreInNumber t j k → AreInNumber t i k
joined t i j k a b p l h = elim (cases_lt p j) [ inl m ↦ a p l m | inr m ↦ b p m h ]

none : (t : List ℕ) (i j : ℕ) → j ≡ i → AreInNumber t i j
none t i j e p l h = absurd (omega arith)

one : (t : List ℕ) (i b : ℕ) → byte t i ≡ b → in_number b ≡ true → AreInNumber t i (i + 1)
one t i b e o p l h = let same : p ≡ i = omega arith in ap (λ q. in_number (byte t q)) same ∙ ap in_number e ∙ o

digits : (t : List ℕ) (i j : ℕ) → j ≡ digits_end t i → AreInNumber t i j
digits t i j e p l h = rw (run_passes is_ascii_digit t i p l (omega arith)) refl

minus : (t : List ℕ) (i : ℕ) → AreInNumber t i (after_minus t i)
minus t i p l h = grind (arith, nat_tests)

sign : (t : List ℕ) (i : ℕ) → AreInNumber t i (after_sign t i)
sign t i p l h = grind (arith, nat_tests)

int : (t : List ℕ) (i j : ℕ) → IsInt t i j → AreInNumber t i j
int t i j (inl h) = rw h.2 (one t i 48 h.0 refl)
int t i j (inr h) = digits t i j h.2

fraction : (t : List ℕ) (i j : ℕ) → IsFraction t i j → AreInNumber t i j
fraction t i j (inl h) = joined t i (i + 1) j (one t i 46 h.0 refl) (digits t (i + 1) j h.2)
fraction t i j (inr h) = none t i j h.1

letter : (t : List ℕ) (i : ℕ) → IsE (byte t i) → AreInNumber t i (i + 1)
letter t i (inl e) = one t i 101 e refl
letter t i (inr e) = one t i 69 e refl

exponent : (t : List ℕ) (i j : ℕ) → IsExponent t i j → AreInNumber t i j
exponent t i j (inl h) =
    let d = after_sign t (i + 1) in
    joined t i (i + 1) j (letter t i h.0) (joined t (i + 1) d j (sign t (i + 1)) (digits t d j h.2))
exponent t i j (inr h) = none t i j h.1

-- each byte of a number is one
pub number_bytes : (t : List ℕ) (i j : ℕ) → IsNumber t i j → AreInNumber t i j
number_bytes t i j n =
    let d = after_minus t i in
    let rest = joined t n.int_end n.fraction_end j (fraction t n.int_end n.fraction_end n.fraction) (exponent t n.fraction_end j n.exponent) in
    joined t i d j (minus t i) (joined t d n.int_end j (int t d n.int_end n.int) rest)
