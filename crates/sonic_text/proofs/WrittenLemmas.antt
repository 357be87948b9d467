-- What is written as a string is one, for the bytes that were written.
use Rattle.std.proofs.Common.{◌≡◌, ◌≢◌, ℕ, ◌+◌, ◌/◌, ◌%◌, ◌<◌, ◌≤◌, ◌++◌, Some, None, Option, List, [], ◌∷◌, length, inl, inr, arith, refl, sym, ap}
use Rattle.std.proofs.lemmas.Bool.{cases_eq, cases_lt}
use Rattle.std.proofs.lemmas.Bool.Decides.{nat_tests}
use Rattle.std.proofs.lemmas.List.{append_assoc, append-nil, length-append}
use Rattle.std.specs.Prelude.{unwrap_or}
use Rattle.sonic_text.proofs.TableLemmas.{agree_below, agree_at}
use Rattle.sonic_text.specs.Places.{byte}
use Rattle.sonic_text.specs.Quoting.{digit, quoted_byte, quoted_bytes, quoted}
use Rattle.sonic_text.specs.Strings.{strict, hex_digit, escaped, IsHex4, IsEscape, IsChar, AreChars, IsString}
use Rattle.sonic_text.specs.Strings.IsUnicodeChar.{scalar}
use Rattle.sonic_text.specs.Strings.IsChar.{unescaped, short_escape, unicode_escape}
use Rattle.sonic_text.specs.Strings.AreChars.{no_char, one_more}
use Rattle.sonic_text.proofs.CodepointLemmas.{one_byte}
use Rattle.sonic_text.proofs.Parts.{IsPart, part_between, part_byte, part_left, part_right}

-- what an option holds, where it isn't the default
held : (o : Option ℕ) (d n : ℕ) → unwrap_or o d ≡ n → n < d → o ≡ Some n
held None d n e l = absurd (omega (arith, e, l))
held (Some m) d n e l = ap Some e

-- a digit that is written denotes its number
digit_denotes : (n : ℕ) → n < 16 → hex_digit (digit n) ≡ Some n
unfolding agree_below hex_digit digit
digit_denotes n l = held (hex_digit (digit n)) 16 n (agree_at (λ k. unwrap_or (hex_digit (digit k)) 16) (λ k. k) 16 refl n l) l

-- the first byte of a part
first_byte : {t : List ℕ} {i b : ℕ} {x : List ℕ} → IsPart t (b ∷ x) i → byte t i ≡ b
first_byte {i = i} h = sym (h.bytes i 0 (omega arith) (omega arith))

-- a backslash and a letter denote what the letter does
short_stands : (t : List ℕ) (i letter b : ℕ) → escaped letter ≡ Some b → IsPart t (92 ∷ letter ∷ []) i → IsChar strict t i (i + 2) (b ∷ [])
short_stands t i letter b e h = short_escape (first_byte h) (rw (part_byte h 1 (omega arith)) e) refl refl

-- the digit 0 denotes 0
zero_denotes : hex_digit 48 ≡ Some 0
unfolding hex_digit
zero_denotes = refl

-- and a control byte's number, the byte
control_stands : (t : List ℕ) (i b : ℕ) → b < 32 → IsPart t (92 ∷ 117 ∷ 48 ∷ 48 ∷ digit (b / 16) ∷ digit (b % 16) ∷ []) i → IsChar strict t i (i + 6) (b ∷ [])
control_stands t i b l h =
    let second : i + 2 + 1 ≡ i + 3 = omega arith in
    let third : i + 2 + 2 ≡ i + 4 = omega arith in
    let fourth : i + 2 + 3 ≡ i + 5 = omega arith in
    let digits : IsHex4 t (i + 2) b = record {
      a = 0;
      b = 0;
      c = b / 16;
      d = b % 16;
      first = rw (part_byte h 2 (omega arith)) zero_denotes;
      second = rw (second, part_byte h 3 (omega arith)) zero_denotes;
      third = rw (third, part_byte h 4 (omega arith)) (digit_denotes (b / 16) (omega arith));
      fourth = rw (fourth, part_byte h 5 (omega arith)) (digit_denotes (b % 16) (omega arith));
      number = omega arith;
    } in
    let escape : IsEscape t i b = (first_byte h, part_byte h 1 (omega arith), digits) in
    unicode_escape escape (scalar (λ high. omega (arith, high, l)) (λ low. omega (arith, low, l)) refl (sym (one_byte b (omega arith))))

-- what other bytes are written as
control_quoted : (b : ℕ) → b ≢ 8 → b ≢ 9 → b ≢ 10 → b ≢ 12 → b ≢ 13 → b < 32 → quoted_byte b ≡ 92 ∷ 117 ∷ 48 ∷ 48 ∷ digit (b / 16) ∷ digit (b % 16) ∷ []
unfolding quoted_byte
control_quoted b b8 b9 b10 b12 b13 l = grind (arith, nat_tests)

plain_quoted : (b : ℕ) → b ≢ 34 → b ≢ 92 → 32 ≤ b → quoted_byte b ≡ b ∷ []
unfolding quoted_byte
plain_quoted b quote slash l = grind (arith, nat_tests)

-- a byte with a letter of its own
named : (t : List ℕ) (i b n letter : ℕ) → quoted_byte n ≡ 92 ∷ letter ∷ [] → escaped letter ≡ Some n → b ≡ n → IsPart t (quoted_byte b) i
    → IsChar strict t i (i + length (quoted_byte b)) (b ∷ [])
named t i b n letter q l e h = rw (e, q) (short_stands t i letter n l (rw (e, q) at h))

-- what a byte is written as is a char that denotes it
byte_stands : (t : List ℕ) (i b : ℕ) → IsPart t (quoted_byte b) i → IsChar strict t i (i + length (quoted_byte b)) (b ∷ [])
unfolding quoted_byte escaped
byte_stands t i b h = elim (cases_eq b 34) [
  | inl e ↦ named t i b 34 34 refl refl e h
  | inr quote ↦ elim (cases_eq b 92) [
    | inl e ↦ named t i b 92 92 refl refl e h
    | inr slash ↦ elim (cases_lt b 32) [
      | inr l ↦ (
          let q = plain_quoted b quote slash l in
          let here = first_byte (rw q at h) in
          rw q (unescaped (rw here (l, quote, slash)) refl (rw here refl))
          )
      | inl l ↦ elim (cases_eq b 8) [
        | inl e ↦ named t i b 8 98 refl refl e h
        | inr b8 ↦ elim (cases_eq b 9) [
          | inl e ↦ named t i b 9 116 refl refl e h
          | inr b9 ↦ elim (cases_eq b 10) [
            | inl e ↦ named t i b 10 110 refl refl e h
            | inr b10 ↦ elim (cases_eq b 12) [
              | inl e ↦ named t i b 12 102 refl refl e h
              | inr b12 ↦ elim (cases_eq b 13) [
                | inl e ↦ named t i b 13 114 refl refl e h
                | inr b13 ↦ (let q = control_quoted b b8 b9 b10 b12 b13 l in rw q (control_stands t i b l (rw q at h)))
              ]
            ]
          ]
        ]
      ]
    ]
  ]
]

-- so what bytes are written as, after chars, are chars
chars_stand : (t : List ℕ) (s i : ℕ) (c b : List ℕ) → AreChars strict t s i c → IsPart t (quoted_bytes b) i → AreChars strict t s (i + length (quoted_bytes b)) (c ++ b)
chars_stand t s i c [] before h =
    let here : i + 0 ≡ i = omega arith in
    let place : i + length (quoted_bytes []) ≡ i = here in
    rw (append-nil c, place) before
chars_stand t s i c (x ∷ xs) before h =
    let one = one_more before (byte_stands t i x (part_left (quoted_byte x) (quoted_bytes xs) h)) refl in
    let rest = chars_stand t s (i + length (quoted_byte x)) (c ++ x ∷ []) xs one (part_right (quoted_byte x) (quoted_bytes xs) h) in
    let place : i + length (quoted_bytes (x ∷ xs)) ≡ i + length (quoted_byte x) + length (quoted_bytes xs) = omega (arith, length-append (quoted_byte x) (quoted_bytes xs)) in
    rw (place, ← append_assoc c (x ∷ []) xs) rest

-- and with its quotes it is a string
pub string_part : {t : List ℕ} {i : ℕ} (b : List ℕ) → IsPart t (quoted b) i → IsString strict t i (i + length (quoted b)) b
string_part {t} {i} b all =
    let inner = quoted_bytes b in
    let between : IsPart t (inner ++ 34 ∷ []) (i + 1) = part_right (34 ∷ []) (inner ++ 34 ∷ []) all in
    record {
      close = i + 1 + length inner;
      opens = first_byte all;
      chars = chars_stand t (i + 1) (i + 1) [] b (no_char refl refl) (part_left inner (34 ∷ []) between);
      closes = first_byte (part_right inner (34 ∷ []) between);
      end = omega (arith, length-append inner (34 ∷ []));
    }

-- wherever it is written
pub string_stands : (front b back : List ℕ) → IsString strict (front ++ quoted b ++ back) (length front) (length front + length (quoted b)) b
string_stands front b back = rw (append_assoc front (quoted b) back) (string_part b (part_between front (quoted b) back))
