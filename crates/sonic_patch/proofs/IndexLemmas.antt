-- Which tokens are an index.
use Rattle.std.proofs.Common.{◌≡◌, ◌≢◌, ◌<◌, ◌≤◌, ◌^◌, ◌==◌, refl, inl, inr, ℕ, true, not, [], ◌∷◌, length, get_or, Some, None, arith, nat_lt}
use Rattle.std.proofs.lemmas.Bool.{cases_Bool, and_parts, eqb-true}
use Rattle.std.proofs.lemmas.Bool.Decides.{nat_tests}
use Rattle.std.proofs.lemmas.Str.Parse.{tells_all_ascii_digits, numerals_by_value, without_leading_plus_none}
use Rattle.std.specs.Char.{is_ascii_digit}
use Rattle.std.specs.Str.{all_ascii_digits}
use Rattle.std.specs.Str.Parse.{IsNumeral, digits_value, without_leading_plus}
use Rattle.sonic_patch.specs.Pointers.{Token}
use Rattle.sonic_patch.specs.Resolution.{is_index, index_of}

-- an index is digits
index_digits : (t : Token) → is_index t ≡ true → all_ascii_digits t ≡ true
index_digits [] e = absurd cc
index_digits (b ∷ []) e = rw e refl
index_digits (b ∷ c ∷ t) e = (and_parts (not (b == 48)) (all_ascii_digits (b ∷ c ∷ t)) e).1

index_numeral : (t : Token) → is_index t ≡ true → IsNumeral 10 t
index_numeral [] e = absurd cc
index_numeral (b ∷ t) e = (omega arith, (numerals_by_value _ tells_all_ascii_digits).to (b ∷ t) (index_digits (b ∷ t) e))

-- and digits are one that don't begin with 0, but for that alone
numeral_index : (t : Token) → IsNumeral 10 t → (get_or t 0 0 ≡ 48 → length t ≤ 1) → is_index t ≡ true
numeral_index [] n short = absurd (omega (arith, n.0))
numeral_index (b ∷ []) n short = let all = (numerals_by_value _ tells_all_ascii_digits).from (b ∷ []) n.1 in (and_parts (is_ascii_digit b) true all).0
numeral_index (b ∷ c ∷ t) n short = elim (cases_Bool (b == 48)) [
  | inl zero ↦ absurd (omega (arith, short (eqb-true b 48 zero)))
  | inr other ↦ rw (other, (numerals_by_value _ tells_all_ascii_digits).from (b ∷ c ∷ t) n.1) refl
]

-- a sign is no digit, and a number that begins with 0 is no index
pub index_signed : (t : Token) → get_or t 0 0 ≡ 43 → index_of t ≡ None
index_signed t e = elim (cases_Bool (is_index t)) [
  | inr no_index ↦ rw no_index refl
  | inl index ↦ absurd (first t index e)
]
  where
    first : (t : Token) → is_index t ≡ true → get_or t 0 0 ≡ 43 → ⊥
    first [] index e = cc
    first (b ∷ t) index e = let digit = (tells_all_ascii_digits.parts b t (index_digits (b ∷ t) index)).0 in omega (arith, digit.0, e)

pub index_led : (t : Token) → get_or t 0 0 ≡ 48 → 1 < length t → index_of t ≡ None
index_led [] e long = absurd (omega (arith, long))
index_led (b ∷ []) e long = absurd (omega (arith, long))
index_led (b ∷ c ∷ t) e long = rw e refl

-- what is read as a number of 64 bits is one
pub index_read : (t : Token) (n : ℕ) → get_or t 0 0 ≢ 43 → (get_or t 0 0 ≡ 48 → length t ≤ 1)
    → IsNumeral 10 (without_leading_plus t) × (digits_value 10 (without_leading_plus t) < 2 ^ 64) → n ≡ digits_value 10 (without_leading_plus t) → Some n ≡ index_of t
index_read t n sign short numeral is =
    let own = rw (without_leading_plus_none t sign) at numeral in
    let value : n ≡ digits_value 10 t = rw (without_leading_plus_none t sign) at is in
    let fits : nat_lt (digits_value 10 t) (2 ^ 64) ≡ true = grind (arith, nat_tests, own.1) in
    rw (numeral_index t own.0 short, fits, value) refl

pub index_unread : (t : Token) → get_or t 0 0 ≢ 43 → ¬ (IsNumeral 10 (without_leading_plus t) × (digits_value 10 (without_leading_plus t) < 2 ^ 64)) → None ≡ index_of t
index_unread t sign none = elim (cases_Bool (is_index t)) [
  | inr no_index ↦ rw no_index refl
  | inl index ↦ elim (cases_Bool (nat_lt (digits_value 10 t) (2 ^ 64))) [
    | inr large ↦ rw (index, large) refl
    | inl fits ↦
        let less : digits_value 10 t < 2 ^ 64 = grind (arith, nat_tests, fits) in
        let own = rw (without_leading_plus_none t sign) at none in
        absurd (own (index_numeral t index, less))
  ]
]
