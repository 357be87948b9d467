-- Hexadecimal digits, and the number of four of them.
use Rattle.std.proofs.Common.{◌≡◌, ℕ, zero, suc, ◌+◌, ◌*◌, ◌==◌, ◌<◌, ◌≤◌, ◌&&◌, true, false, inl, inr, List, length, arith, refl}
use Rattle.std.proofs.lemmas.Bool.{cases_lt}
use Rattle.std.proofs.lemmas.Bool.Decides.{nat_tests}
use Rattle.std.specs.Prelude.{nat_le, is_some, unwrap_or, Some, None}
use Rattle.std.specs.declared.option.Option.{Option}
use Rattle.std.proofs.lemmas.Nat.{le_or_l, le_or_r}
use lib.Bits.{bit_or, or_lt}
use Rattle.sonic_text.specs.Places.{byte}
use Rattle.sonic_text.specs.Strings.{hex_digit, hex_within, is_low_surrogate_byte, IsHex4, IsEscape, IsHigh, IsLow, IsLowEscape}
use Rattle.sonic_text.proofs.Places.{byte_within}

-- a digit denotes less than 16
pub hex_small : (b a : ℕ) → hex_digit b ≡ Some a → a < 16
unfolding hex_digit
hex_small b a h = grind (arith, nat_tests)

-- the byte 0 is no digit
pub hex_some : (b a : ℕ) → hex_digit b ≡ Some a → 0 < b
unfolding hex_digit
hex_some b a h = grind (arith, nat_tests)

-- what is below 16 is a digit, where the table has 255 for each other byte
pub table_digit : (b x : ℕ) → x ≡ unwrap_or (hex_digit b) 255 → x < 16 → hex_digit b ≡ Some x
unfolding hex_digit
table_digit b x e l = grind (arith, nat_tests)

-- and what isn't below 16 is none
pub table_other : (b x : ℕ) → x ≡ unwrap_or (hex_digit b) 255 → 15 < x → hex_digit b ≡ None
unfolding hex_digit
table_other b x e l = grind (arith, nat_tests)

-- so what a digit denotes is below 16
pub not_other : (b a x : ℕ) → hex_digit b ≡ Some a → (15 < x → hex_digit b ≡ None) → x < 16
not_other b a x h other = elim (cases_lt x 16) [ inl l ↦ l | inr l ↦ (let none = other (omega arith) in absurd (cc)) ]

-- a digit in a range
pub hex_of : (b : ℕ) {a : ℕ} (low high : ℕ) → hex_digit b ≡ Some a → low ≤ a → a ≤ high → hex_within low high b ≡ true
unfolding hex_within
hex_of b {a} low high h l k =
    let e : (nat_le low a && nat_le a high) ≡ true = grind (arith, nat_tests) in
    rw h e

-- a digit out of a range
pub hex_out : (b : ℕ) {a : ℕ} (low high : ℕ) → hex_digit b ≡ Some a → (low ≤ a → high < a) → hex_within low high b ≡ false
unfolding hex_within
hex_out b {a} low high h l =
    let e : (nat_le low a && nat_le a high) ≡ false = grind (arith, nat_tests) in
    rw h e

-- no digit
pub hex_none : (low high b : ℕ) → hex_digit b ≡ None → hex_within low high b ≡ false
unfolding hex_within
hex_none low high b h = rw h refl

-- a number in a range
within : (o : Option ℕ) (low high : ℕ) → (is_some o && nat_le low (unwrap_or o 0) && nat_le (unwrap_or o 0) high) ≡ true
    → (a : ℕ) × (o ≡ Some a) × (low ≤ a) × (a ≤ high)
within None low high h = absurd (cc)
within (Some a) low high h = (a, refl, grind (arith, nat_tests), grind (arith, nat_tests))

-- a byte in a range is a digit
pub hex_in : (low high b : ℕ) → hex_within low high b ≡ true → (a : ℕ) × (hex_digit b ≡ Some a) × (low ≤ a) × (a ≤ high)
unfolding hex_within
hex_in low high b h = within (hex_digit b) low high h

-- the four digits after the two bytes at k
pub record Digits (t : List ℕ) (k a b c d : ℕ) : Type 0 where
  pub first : hex_digit (byte t (k + 2)) ≡ Some a
  pub second : hex_digit (byte t (k + 3)) ≡ Some b
  pub third : hex_digit (byte t (k + 4)) ≡ Some c
  pub fourth : hex_digit (byte t (k + 5)) ≡ Some d

-- they are those of the escape's number
pub digits_of : {t : List ℕ} {k n : ℕ} (h : IsHex4 t (k + 2) n) → Digits t k h.a h.b h.c h.d
digits_of {t} {k} h =
    let e : k + 2 + 1 ≡ k + 3 = omega arith in
    let f : k + 2 + 2 ≡ k + 4 = omega arith in
    let g : k + 2 + 3 ≡ k + 5 = omega arith in
    record { first = h.first; second = rw e at h.second; third = rw f at h.third; fourth = rw g at h.fourth }

-- and back
pub hex4_of : {t : List ℕ} {k a b c d : ℕ} → Digits t k a b c d → IsHex4 t (k + 2) (((a * 16 + b) * 16 + c) * 16 + d)
hex4_of {t} {k} {a} {b} {c} {d} h =
    let e : k + 3 ≡ k + 2 + 1 = omega arith in
    let f : k + 4 ≡ k + 2 + 2 = omega arith in
    let g : k + 5 ≡ k + 2 + 3 = omega arith in
    record { a = a; b = b; c = c; d = d; first = h.first; second = rw e at h.second; third = rw f at h.third; fourth = rw g at h.fourth; number = refl }

-- four numbers below 16
abbrev pub Small : ℕ → ℕ → ℕ → ℕ → Type 0
Small a b c d = (a < 16) × (b < 16) × (c < 16) × (d < 16)

-- have an OR below 16
pub or_small : (a b c d : ℕ) → Small a b c d → bit_or (bit_or (bit_or a b) c) d < 16
or_small a b c d h = or_lt 4 (bit_or (bit_or a b) c) d (or_lt 4 (bit_or a b) c (or_lt 4 a b h.0 h.1) h.2) h.3

-- and no others have
pub or_each : (a b c d : ℕ) → bit_or (bit_or (bit_or a b) c) d < 16 → Small a b c d
or_each a b c d l =
    let x = le_or_l (bit_or (bit_or a b) c) d in
    let y = le_or_l (bit_or a b) c in
    (omega (arith, x, y, le_or_l a b), omega (arith, x, y, le_or_r a b), omega (arith, x, le_or_r (bit_or a b) c), omega (arith, le_or_r (bit_or (bit_or a b) c) d))

-- four digits have one number
pub hex4_one : {t : List ℕ} {p n l : ℕ} → IsHex4 t p n → IsHex4 t p l → n ≡ l
hex4_one h g = cc

-- they come before the end
pub hex4_within : {t : List ℕ} {p n : ℕ} → IsHex4 t p n → p + 4 ≤ length t
hex4_within {t} {p} h =
    let some = hex_some (byte t (p + 3)) h.d h.fourth in
    let l : p + 3 < length t = byte_within t (p + 3) (λ z. omega (arith, some, z)) in
    omega arith

-- an escape has one number
pub escape_one : (t : List ℕ) (p : ℕ) {n l : ℕ} → IsEscape t p n → IsEscape t p l → n ≡ l
escape_one t p h g = hex4_one h.2 g.2

-- each digit is below 16
small : {t : List ℕ} {k a b c d : ℕ} → Digits t k a b c d → Small a b c d
small {t} {k} {a} {b} {c} {d} h = (
  hex_small (byte t (k + 2)) a h.first,
  hex_small (byte t (k + 3)) b h.second,
  hex_small (byte t (k + 4)) c h.third,
  hex_small (byte t (k + 5)) d h.fourth,
)

-- the first two digits tell a first half
pub high_digits : {t : List ℕ} {k a b c d n : ℕ} → Digits t k a b c d → n ≡ ((a * 16 + b) * 16 + c) * 16 + d → IsHigh n → (a ≡ 13) × (8 ≤ b) × (b < 12)
high_digits h e w = let s = small h in (omega arith, omega arith, omega arith)

-- and back
pub digits_high : {t : List ℕ} {k a b c d n : ℕ} → Digits t k a b c d → n ≡ ((a * 16 + b) * 16 + c) * 16 + d → a ≡ 13 → 8 ≤ b → b < 12 → IsHigh n
digits_high h e f g l = let s = small h in (omega arith, omega arith)

-- the first two digits tell a second half
pub low_digits : {t : List ℕ} {k a b c d n : ℕ} → Digits t k a b c d → n ≡ ((a * 16 + b) * 16 + c) * 16 + d → IsLow n → (a ≡ 13) × (12 ≤ b)
low_digits h e w = let s = small h in (omega arith, omega arith)

-- and back
pub digits_low : {t : List ℕ} {k a b c d n : ℕ} → Digits t k a b c d → n ≡ ((a * 16 + b) * 16 + c) * 16 + d → a ≡ 13 → 12 ≤ b → IsLow n
digits_low h e f g = let s = small h in (omega arith, omega arith)

-- six places, one by one
six : (P : ℕ → Type 0) → P 0 → P 1 → P 2 → P 3 → P 4 → P 5 → (d : ℕ) → d < 6 → P d
six P a b c d e f zero l = a
six P a b c d e f (suc zero) l = b
six P a b c d e f (suc (suc zero)) l = c
six P a b c d e f (suc (suc (suc zero))) l = d
six P a b c d e f (suc (suc (suc (suc zero)))) l = e
six P a b c d e f (suc (suc (suc (suc (suc zero))))) l = f
six P a b c d e f (suc (suc (suc (suc (suc (suc n)))))) l = absurd (omega arith)

-- the byte 0 is at none of the six places of an escape of a second half
pub low_some : (n b : ℕ) → is_low_surrogate_byte n b ≡ true → 0 < b
unfolding is_low_surrogate_byte hex_within hex_digit
low_some n b h = grind (arith, nat_tests)

-- the bytes of an escape of a second half fit each at its place
pub low_right : (t : List ℕ) (p : ℕ) {l : ℕ} → IsEscape t p l → IsLow l → (d : ℕ) → d < 6 → is_low_surrogate_byte d (byte t (p + d)) ≡ true
unfolding is_low_surrogate_byte
low_right t p e w =
    let g = digits_of e.2 in
    let k = low_digits g e.2.number w in
    let (a, b, c, d) = small g in
    let z : p + 0 ≡ p = omega arith in
    six (λ d. is_low_surrogate_byte d (byte t (p + d)) ≡ true) (rw (z, e.0) refl) (rw e.1 refl) (hex_of _ 13 13 g.first (omega arith) (omega arith))
    (hex_of _ 12 15 g.second (omega arith) (omega arith)) (hex_of _ 0 15 g.third (omega arith) (omega arith)) (hex_of _ 0 15 g.fourth (omega arith) (omega arith))

-- and bytes that fit each at its place are one
pub low_all : (t : List ℕ) (p : ℕ) → ((d : ℕ) → d < 6 → is_low_surrogate_byte d (byte t (p + d)) ≡ true) → IsLowEscape t p
unfolding is_low_surrogate_byte
low_all t p h =
    let z : p + 0 ≡ p = omega arith in
    let e : (byte t p == 92) ≡ true = rw z at (h 0 (omega arith)) in
    let f : (byte t (p + 1) == 117) ≡ true = h 1 (omega arith) in
    let (a, ea, la, ma) = hex_in 13 13 (byte t (p + 2)) (h 2 (omega arith)) in
    let (b, eb, lb, mb) = hex_in 12 15 (byte t (p + 3)) (h 3 (omega arith)) in
    let (c, ec, lc, mc) = hex_in 0 15 (byte t (p + 4)) (h 4 (omega arith)) in
    let (d, ed, ld, md) = hex_in 0 15 (byte t (p + 5)) (h 5 (omega arith)) in
    let g : Digits t p a b c d = record { first = ea; second = eb; third = ec; fourth = ed } in
    (_, (grind (arith, nat_tests), grind (arith, nat_tests), hex4_of g), digits_low g refl (omega arith) lb)
