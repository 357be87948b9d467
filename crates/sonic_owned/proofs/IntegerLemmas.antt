-- What is written of an integer is a number, whose value is the integer.
use Rattle.std.proofs.Common.{◌≡◌, ◌≢◌, ◌==◌, ◌∙◌, ap, sym, inl, inr, refl, ℕ, zero, suc, ◌<◌, ◌^◌, ℤ, pos, negsuc, neg_ℤ, List, [], ◌∷◌, length, Option, Some, None, true, false, decimal, arith}
use Rattle.std.proofs.lemmas.Bool.{cases_eq}
use Rattle.std.proofs.lemmas.Bool.Decides.{nat_tests}
use Rattle.std.proofs.lemmas.Fmt.{decimal_digit, decimal_is_IsNumeral, decimal_nonempty, first_decimal}
use Rattle.std.proofs.lemmas.Str.Parse.{digit_from_value}
use Rattle.std.specs.Char.{is_ascii_digit}
use Rattle.std.specs.Fmt.{signed_decimal}
use Rattle.std.specs.Int.{w64}
use Rattle.std.specs.List.{prefix_len}
use Rattle.std.specs.Option.{SomeIff}
use Rattle.std.specs.Prelude.{FitsSigned, unsigned_abs}
use Rattle.std.specs.Str.Parse.{AllDigits, digits_value, signed_digits_value}
use Rattle.sonic_lazy.specs.RawNumbers.{IsNumberText, IsNumberDocument, a_number}
use Rattle.sonic_lazy.specs.Scalars.{numeral, scalar_of, IsI64, IsU64, integer_of, natural_of}
use Rattle.sonic_text.specs.Numbers.{IsInt, IsWholeText}
use Rattle.sonic_text.specs.Places.{byte, after_space}
use Rattle.sonic_text.proofs.Decimals.{unsigned}
use Rattle.sonic_text.proofs.Numbers.{number_begins}
use Rattle.std.proofs.Math.Seq.{take-length}
use Rattle.std.proofs.lemmas.Slice.{between_from_start}
use Rattle.sonic_text.proofs.Places.{after_space_later, byte_after}
use Rattle.sonic_text.proofs.Within.{after_space_within}
use Rattle.sonic_owned.specs.Internal.Naturals.{natural}
use Rattle.sonic_owned.specs.Integers.{value}
use Rattle.sonic_text.proofs.Values.{value_starts}
use Rattle.sonic_text.specs.Values.IsValue.{number}
use Rattle.sonic_text.specs.Strings.{strict}
use Rattle.sonic_owned.specs.declared.integer.Integer.{Integer}

-- a run of digits is as long as they are
digits_run : (ds : List ℕ) → AllDigits 10 ds → prefix_len is_ascii_digit ds ≡ length ds
digits_run [] h = refl
digits_run (c ∷ cs) h =
    let d = digit_from_value c h.0 in
    let digit : is_ascii_digit c ≡ true = grind (arith, nat_tests) in
    let rest = digits_run cs h.1 in
    rw digit (omega (arith, rest))

-- digits are an integer, where the first is 0 alone or none
digits_int : (ds : List ℕ) → 0 < length ds → AllDigits 10 ds → (byte ds 0 ≡ 48 → length ds ≡ 1) → IsInt ds 0 (length ds)
digits_int [] some h lead = absurd (omega (arith, some))
digits_int (c ∷ cs) some h lead =
    let d = digit_from_value c h.0 in
    let run = digits_run (c ∷ cs) h in
    elim (cases_eq c 48) [
      | inl is ↦ (let one = lead is in let past = byte_after (c ∷ cs) 1 (omega (arith, one)) in inl (is, λ digit. omega (arith, digit.0, past), omega (arith, one)))
      | inr other ↦ inr (omega (arith, d.0), omega (arith, d.1), omega (arith, run))
    ]

-- so are those of a number
decimal_int : (n : ℕ) → n < 2 ^ 64 → IsInt (decimal n) 0 (length (decimal n))
decimal_int zero l = digits_int (decimal 0) (decimal_nonempty 0 l) (decimal_is_IsNumeral 0 l).0.1 (λ z. ap length (decimal_digit 0 (omega arith)))
decimal_int (suc n) l =
    let first = first_decimal (suc n) (omega arith) l in
    digits_int (decimal (suc n)) (decimal_nonempty (suc n) l) (decimal_is_IsNumeral (suc n) l).0.1 (λ z. omega (arith, z, first))

-- and after a minus sign
int_after_minus : (ds : List ℕ) → IsInt ds 0 (length ds) → IsInt (45 ∷ ds) 1 (length (45 ∷ ds))
int_after_minus ds int = elim int [
  | inl z ↦ inl (z.0, z.1, omega (arith, z.2))
  | inr d ↦ inr (d.0, d.1, omega (arith, d.2))
]

-- where no sign is written
no_sign : (ds : List ℕ) → IsInt ds 0 (length ds) → (byte ds 0 ≢ 45) × (byte ds 0 ≢ 43)
no_sign ds int = elim int [
  | inl z ↦ (λ e. omega (arith, e, z.0), λ e. omega (arith, e, z.0))
  | inr d ↦ (λ e. omega (arith, e, d.0), λ e. omega (arith, e, d.0))
]

-- so what is written is an integer with no fraction and no exponent
pub integer_whole : (z : ℤ) → unsigned_abs z < 2 ^ 64 → IsWholeText (signed_decimal z)
integer_whole (pos n) l = let int = decimal_int n l in rw (unsigned (decimal n) 0 (no_sign (decimal n) int).0) int
integer_whole (negsuc n) l = int_after_minus (decimal (suc n)) (decimal_int (suc n) l)

-- and a number
pub integer_number : (z : ℤ) → unsigned_abs z < 2 ^ 64 → IsNumberText (signed_decimal z)
integer_number z l =
    let t = signed_decimal z in
    let past = byte_after t (length t) (omega arith) in
    record {
      int_end = length t;
      fraction_end = length t;
      int = integer_whole z l;
      fraction = inr (λ e. omega (arith, e, past), refl);
      exponent = inr (λ e. elim e [ inl a ↦ omega (arith, a, past) | inr a ↦ omega (arith, a, past) ], refl);
    }

-- digits without a sign denote what they denote
unsigned_value : (ds : List ℕ) → byte ds 0 ≢ 45 → byte ds 0 ≢ 43 → signed_digits_value 10 ds ≡ pos (digits_value 10 ds)
unsigned_value ds minus plus =
    let no_minus : (byte ds 0 == 45) ≡ false = grind (arith, nat_tests) in
    let no_plus : (byte ds 0 == 43) ≡ false = grind (arith, nat_tests) in
    rw (no_minus, no_plus) refl

-- the number's value is the integer
pub integer_value : (z : ℤ) → unsigned_abs z < 2 ^ 64 → signed_digits_value 10 (signed_decimal z) ≡ z
integer_value (pos n) l =
    let plain = no_sign (decimal n) (decimal_int n l) in
    unsigned_value (decimal n) plain.0 plain.1 ∙ ap pos (decimal_is_IsNumeral n l).1
integer_value (negsuc n) l = ap (λ m. neg_ℤ (pos m)) (decimal_is_IsNumeral (suc n) l).1

-- and it is known as a number
pub integer_scalar : (z : ℤ) → unsigned_abs z < 2 ^ 64 → scalar_of (signed_decimal z) ≡ numeral (signed_decimal z)
integer_scalar z l = elim (number_begins (integer_number z l)) [ inl e ↦ rw e refl | inr d ↦ grind (arith, nat_tests) ]

-- what is answered of an integer is what is to be answered of its text
pub integer_i64 : (z : ℤ) (r : Option ℤ) → unsigned_abs z < 2 ^ 64 → SomeIff r (FitsSigned w64 z) z
    → SomeIff r (IsI64 (scalar_of (signed_decimal z))) (integer_of (scalar_of (signed_decimal z)))
integer_i64 z None l unfit = rw (integer_scalar z l, integer_value z l) (λ is. unfit is.1)
integer_i64 z (Some x) l is = rw (integer_scalar z l, integer_value z l) ((integer_whole z l, is.0), is.1)

-- no text that begins with a minus sign is such a number
no_u64 : (t : List ℕ) → byte t 0 ≡ 45 → ¬ IsU64 (scalar_of t)
no_u64 t minus is = (rw minus at is).1 minus

pub integer_u64 : (z : ℤ) → unsigned_abs z < 2 ^ 64 → SomeIff (natural z) (IsU64 (scalar_of (signed_decimal z))) (natural_of (scalar_of (signed_decimal z)))
integer_u64 (pos n) l =
    let plain = no_sign (decimal n) (decimal_int n l) in
    rw (integer_scalar (pos n) l, (decimal_is_IsNumeral n l).1) ((integer_whole (pos n) l, plain.0, l), refl)
integer_u64 (negsuc n) l =
    let minus : byte (signed_decimal (negsuc n)) 0 ≡ 45 = refl in
    no_u64 (signed_decimal (negsuc n)) minus

-- an integer is known as a number
pub known : (z : Integer) → scalar_of (signed_decimal (value z.kept)) ≡ numeral (signed_decimal (value z.kept))
known z = integer_scalar (value z.kept) z.short

-- its text is a document, which is this number
pub integer_document : (z : Integer) → IsNumberDocument (signed_decimal (value z.kept)) (signed_decimal (value z.kept))
integer_document z =
    let t = signed_decimal (value z.kept) in
    let n : IsNumberText t = integer_number (value z.kept) z.short in
    let start : after_space t 0 ≡ 0 = value_starts {m = strict} (number n) in
    let end : after_space t (length t) ≡ length t = omega (arith, after_space_later t (length t), after_space_within t (length t) (omega arith)) in
    a_number (record { start = start; root = rw start (number n); end = end }) (sym (take-length t) ∙ sym (between_from_start t (length t))) n
