-- A number of the grammar that is an integer is what std reads as decimal digits.
use Rattle.std.proofs.Common.{◌≡◌, ◌≢◌, ℕ, ◌+◌, ◌-◌, ◌<◌, ◌≤◌, ◌^◌, ◌==◌, ◌⊎◌, Bool, true, false, cond, List, [], ◌∷◌, length, drop, arith, refl, add-zero, lit≤, inl, inr, Result, Ok, Err, length-drop}
use Rattle.std.proofs.lemmas.Bool.{cases_lt}
use Rattle.std.proofs.lemmas.Bool.Decides.{nat_tests}
use Rattle.std.proofs.lemmas.List.{get_or-drop}
use Rattle.std.proofs.lemmas.Str.Parse.{digit_at}
use Rattle.std.proofs.Math.IntN.{ℤ}
use Rattle.std.specs.Prelude.{FitsSigned}
use Rattle.std.specs.Int.{w64}
use Rattle.std.specs.List.{prefix_len}
use Rattle.std.specs.Option.{SomeIff}
use Rattle.std.specs.Result.{result_ok}
use Rattle.std.specs.Char.{is_ascii_digit, digit_value}
use Rattle.std.specs.Str.Parse.{AllDigits, IsNumeral, without_leading_plus, without_leading_sign, digits_value, signed_digits_value, ParsesUnsigned, ParsesSigned}
use Rattle.sonic_text.specs.Places.{byte, digits_end, IsDigit}
use Rattle.sonic_text.specs.Numbers.{IsNumber, IsInt, IsFraction, IsExponent, IsWholeText, after_minus}
use Rattle.sonic_text.proofs.Places.{byte_after, digits_end_later}
use Rattle.sonic_text.proofs.Numbers.{int_longer}

-- what a digit denotes
digit_below_ten : (c : ℕ) → is_ascii_digit c ≡ true → digit_value c < 10
digit_below_ten c h = grind (arith, nat_tests)

-- where the digits reach to the end, all bytes are digits
all_digits : (t : List ℕ) → prefix_len is_ascii_digit t ≡ length t → AllDigits 10 t
all_digits [] e = tt
all_digits (c ∷ cs) e =
    let here : is_ascii_digit c ≡ true = grind (arith, nat_tests) in
    let rest : prefix_len is_ascii_digit cs ≡ length cs = grind (arith, nat_tests) in
    (digit_below_ten c here, all_digits cs rest)

-- a zero alone is one digit
one_digit : (t : List ℕ) → byte t 0 ≡ 48 → length t ≡ 1 → AllDigits 10 t
one_digit [] e l = tt
one_digit (c ∷ []) e l = (let d : digit_value c < 10 = rw e (lit≤ tt) in d, tt)
one_digit (c ∷ d ∷ ds) e l = absurd (omega arith)

-- no minus sign is a digit
no_minus : (t : List ℕ) → byte t 0 ≡ 45 → 0 < length t → AllDigits 10 t → ⊥
no_minus [] e l h = absurd (omega arith)
no_minus (c ∷ cs) e l h = let d : digit_value c < 10 = h.0 in let f = rw e at d in omega arith

-- where there is no minus sign, the digits begin at once
pub unsigned : (t : List ℕ) (i : ℕ) → byte t i ≢ 45 → after_minus t i ≡ i
unsigned t i plain = grind (arith, nat_tests)

-- no number begins with a plus sign
no_plus : (t : List ℕ) (j : ℕ) → IsInt t (after_minus t 0) j → byte t 0 ≢ 43
no_plus t j n e =
    let plain : byte t 0 ≢ 45 = omega arith in
    let m : IsInt t 0 j = rw (unsigned t 0 plain) at n in
    elim m [ inl z ↦ omega (arith, z.0) | inr d ↦ omega (arith, d.0) ]

-- the byte at a place is the first of what is there
first_byte : (t : List ℕ) (i : ℕ) → byte (drop i t) 0 ≡ byte t i
first_byte t i = rw (get_or-drop, add-zero)

-- an integer from a place up to the end is a numeral of std
numeral_from : (t : List ℕ) (i : ℕ) → IsInt t i (length t) → IsNumeral 10 (drop i t)
numeral_from t i n =
    let l = length-drop i t in
    elim n [
      | inl z ↦ (omega (arith, z.2), one_digit (drop i t) (rw first_byte z.0) (omega (arith, z.2)))
      | inr d ↦
          let p : i < digits_end t i = digits_end_later t i (grind arith) in
          (omega (arith, d.2), all_digits (drop i t) (omega (arith, d.2)))
    ]

-- an integer without a sign is a numeral of std
pub numeral : (t : List ℕ) → byte t 0 ≢ 45 → IsWholeText t → IsNumeral 10 t
numeral t plain n = numeral_from t 0 (rw (unsigned t 0 plain) at n)

-- in a text of digits up to the end is a digit or the end
digit_or_end : (t : List ℕ) (i p : ℕ) → AllDigits 10 (drop i t) → i ≤ p → IsDigit (byte t p) ⊎ (byte t p ≡ 0)
digit_or_end t i p h l = elim (cases_lt p (length t)) [
  | inr b ↦ inr (byte_after t p b)
  | inl b ↦
      let n = length-drop i t in
      let d = digit_at (drop i t) (p - i) h (omega arith) in
      let e : i + (p - i) ≡ p = omega arith in
      inl (rw (get_or-drop, e) at d)
]

-- where a digit or the end is, neither a fraction nor an exponent begins
no_more : (t : List ℕ) (w f j : ℕ) → IsDigit (byte t w) ⊎ (byte t w ≡ 0) → IsFraction t w f → IsExponent t f j → w ≡ j
no_more t w f j d a b = grind arith

-- a number that is digits after its sign is an integer
whole_of_digits : (t : List ℕ) → IsNumber t 0 (length t) → AllDigits 10 (drop (after_minus t 0) t) → IsWholeText t
whole_of_digits t n h =
    let l = int_longer t (after_minus t 0) n.int_end n.int in
    let d = digit_or_end t (after_minus t 0) n.int_end h (omega arith) in
    let e : n.int_end ≡ length t = no_more t n.int_end n.fraction_end (length t) d n.fraction n.exponent in
    rw e at n.int

-- where there is no plus sign, std reads the text as it is
plain_text : (t : List ℕ) → byte t 0 ≢ 43 → without_leading_plus t ≡ t
plain_text t plain = let no : (byte t 0 == 43) ≡ false = grind (arith, nat_tests) in rw no refl

-- one byte less, or none
one_less : (b : Bool) (t : List ℕ) → cond b (drop 1 t) t ≡ drop (cond b 1 0) t
one_less true t = refl
one_less false t = refl

-- where there is no plus sign, std reads the text after the minus sign
after_sign : (t : List ℕ) → byte t 0 ≢ 43 → without_leading_sign t ≡ drop (after_minus t 0) t
after_sign t plain = let no : (byte t 0 == 43) ≡ false = grind (arith, nat_tests) in rw no (one_less (byte t 0 == 45) t)

-- std's reading of a number of the grammar is its value, where it is an integer that has no sign and fits
pub whole_parsed : {E : Type 0} (t : List ℕ) (r : Result ℕ E) → IsNumber t 0 (length t) → ParsesUnsigned 64 10 t r
    → SomeIff (result_ok r) (IsWholeText t × (byte t 0 ≢ 45) × (digits_value 10 t < 2 ^ 64)) (digits_value 10 t)
whole_parsed t (Ok x) n h =
    let k = rw (plain_text t (no_plus t n.int_end n.int)) at h in
    let plain : byte t 0 ≢ 45 = λ minus. no_minus t minus k.0.0.0 k.0.0.1 in
    ((whole_of_digits t n (rw (unsigned t 0 plain) k.0.0.1), plain, k.0.1), k.1)
whole_parsed t (Err e) n h =
    let k = rw (plain_text t (no_plus t n.int_end n.int)) at h in
    λ p. k (numeral t p.1 p.0, p.2)

-- std's reading of a number of the grammar is its value, where it is an integer that fits
pub signed_parsed : {E : Type 0} (t : List ℕ) (r : Result ℤ E) → IsNumber t 0 (length t) → ParsesSigned w64 10 t r
    → SomeIff (result_ok r) (IsWholeText t × FitsSigned w64 (signed_digits_value 10 t)) (signed_digits_value 10 t)
signed_parsed t (Ok x) n h =
    let digits : AllDigits 10 (drop (after_minus t 0) t) = rw (← after_sign t (no_plus t n.int_end n.int)) h.0.0.1 in
    ((whole_of_digits t n digits, h.0.1), h.1)
signed_parsed t (Err e) n h =
    λ p. h (rw (after_sign t (no_plus t n.int_end n.int)) (numeral_from t (after_minus t 0) p.0), p.1)
