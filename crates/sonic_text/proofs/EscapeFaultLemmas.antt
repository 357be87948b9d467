-- The first wrong byte after a backslash.
use Rattle.std.proofs.Common.{◌≡◌, ◌≢◌, ◌⊎◌, ℕ, ◌+◌, ◌-◌, ◌<◌, ◌≤◌, ◌==◌, ◌&&◌, not, Bool, true, false, inl, inr, List, arith, refl}
use Rattle.std.proofs.lemmas.Bool.{cases_lt, cases_eq}
use Rattle.std.proofs.lemmas.Bool.Decides.{nat_tests}
use Rattle.std.specs.Prelude.{is_some, Some, None, if◌then◌else◌}
use Rattle.std.specs.declared.option.Option.{Option}
use Rattle.sonic_error.specs.declared.code.ErrorCode.{ErrorCode}
use Rattle.sonic_error.specs.declared.code.ErrorCode.TheVariants.{InvalidEscape, InvalidUnicodeCodePoint, InvalidSurrogateUnicodeCodePoint}
use Rattle.sonic_text.specs.declared.stop.Stop.{Stop}
use Rattle.sonic_text.specs.Places.{byte, stop_at}
use Rattle.sonic_text.specs.Strings.{hex_digit, hex_within, is_low_surrogate_byte, escaped, escape_fault, IsHex4, IsHigh, IsLow, IsEscapeFault}
use Rattle.sonic_text.proofs.HexDigitLemmas.{hex_small, hex_of, hex_none, Digits, digits_of, hex4_of, high_digits, low_digits}

-- the first n - 1 bytes after the backslash at k are right
abbrev pub Right : Bool → List ℕ → ℕ → ℕ → Type 0
Right m t k n = (d : ℕ) → 0 < d → d < n → escape_fault m t k d ≡ None

-- the first byte after the backslash
pub right_none : (m : Bool) (t : List ℕ) (k : ℕ) → Right m t k 1
right_none m t k d l h = absurd (omega arith)

-- and one more
pub right_more : (m : Bool) (t : List ℕ) (k n : ℕ) → Right m t k n → escape_fault m t k n ≡ None → Right m t k (n + 1)
right_more m t k n h e d l g = elim (cases_lt d n) [ inl f ↦ h d l f | inr f ↦ (let q : d ≡ n = omega arith in rw q e) ]

-- the first wrong byte
pub fault_at : {m : Bool} {t : List ℕ} {k n : ℕ} {s : Stop} {code : ErrorCode} → Right m t k n → 0 < n → n < 12 → escape_fault m t k n ≡ Some code
    → s ≡ stop_at t (k + n) code → IsEscapeFault m t k s
fault_at {n = n} {code = code} h l g w e = record { n = n; code = code; after = (l, g); right = h; wrong = w; stop = e }

-- a letter that may be alone after a backslash
pub letter_right : (m : Bool) (t : List ℕ) (k : ℕ) {c : ℕ} → escaped (byte t (k + 1)) ≡ Some c → escape_fault m t k 1 ≡ None
unfolding escape_fault
letter_right m t k e = rw e refl

-- is an ASCII byte and no u, and denotes an ASCII byte
pub escaped_letter : (b c : ℕ) → escaped b ≡ Some c → (b ≢ 0) × (b ≢ 117) × (b < 128) × (c < 128)
unfolding escaped
escaped_letter b c h = grind (arith, nat_tests)

-- so nothing is wrong where such a letter follows a backslash
pub short_right : (m : Bool) (t : List ℕ) (k : ℕ) {c : ℕ} → escaped (byte t (k + 1)) ≡ Some c → (n : ℕ) → escape_fault m t k n ≡ None
unfolding escape_fault
short_right m t k e n =
    let l = escaped_letter _ _ e in
    elim (cases_eq n 1) [ inl q ↦ rw (q, e) refl | inr q ↦ grind (arith, nat_tests) ]

-- a letter that may not follow a backslash
wrong_letter : (m : Bool) (t : List ℕ) (k : ℕ) → escaped (byte t (k + 1)) ≡ None → byte t (k + 1) ≢ 117 → escape_fault m t k 1 ≡ Some InvalidEscape
unfolding escape_fault
wrong_letter m t k e u = let f : (byte t (k + 1) == 117) ≡ false = grind (arith, nat_tests) in rw (e, f) refl

-- is the fault
pub letter_fault : (m : Bool) (t : List ℕ) (k : ℕ) → escaped (byte t (k + 1)) ≡ None → byte t (k + 1) ≢ 117 → IsEscapeFault m t k (stop_at t (k + 1) InvalidEscape)
letter_fault m t k e u = fault_at (right_none m t k) (omega arith) (omega arith) (wrong_letter m t k e u) refl

-- no value
no_value : (o : Option ℕ) → is_some o ≡ false → o ≡ None
no_value None h = refl
no_value (Some c) h = absurd (cc)

-- a value, or none
pub known : (o : Option ℕ) → (o ≡ None) ⊎ ((a : ℕ) × (o ≡ Some a))
known None = inl refl
known (Some a) = inr (a, refl)

-- such a letter, by its test
pub letter_missing : (m : Bool) (t : List ℕ) (k : ℕ) → is_some (escaped (byte t (k + 1))) ≡ false → byte t (k + 1) ≢ 117
    → IsEscapeFault m t k (stop_at t (k + 1) InvalidEscape)
letter_missing m t k e u = letter_fault m t k (no_value (escaped (byte t (k + 1))) e) u

-- no second half, or none that is wrong
no_half : (m : Bool) (x y : ℕ) {a b : ℕ} → hex_digit x ≡ Some a → hex_digit y ≡ Some b → (m ≡ false → a ≡ 13 → b < 12)
    → (not m && hex_within 13 13 x && hex_within 12 15 y) ≡ false
unfolding hex_within
no_half true x y e f l = refl
no_half false x y e f l = let w = l refl in rw (e, f) (grind (arith, nat_tests))

-- no first half, or the byte fits after it
no_wrong : (m : Bool) (x y : ℕ) (z : Bool) {a b : ℕ} → hex_digit x ≡ Some a → hex_digit y ≡ Some b
    → (m ≡ false → a ≡ 13 → 8 ≤ b → b < 12 → z ≡ true) → (not m && hex_within 13 13 x && hex_within 8 11 y && not z) ≡ false
unfolding hex_within
no_wrong true x y z e f w = refl
no_wrong false x y z e f w = let v = w refl in rw (e, f) (grind (arith, nat_tests))

-- after a backslash and a u
module _ (m : Bool) (t : List ℕ) (k : ℕ) (u : byte t (k + 1) ≡ 117) where
  -- after the digits of a first half
  later_fault : (n : ℕ) → 6 ≤ n → escape_fault m t k n
      ≡ (if not m && hex_within 13 13 (byte t (k + 2)) && hex_within 8 11 (byte t (k + 3)) && not (is_low_surrogate_byte (n - 6) (byte t (k + n)))
      then Some InvalidSurrogateUnicodeCodePoint else None)
  unfolding escape_fault
  later_fault n l = grind (arith, nat_tests)

  -- a digit is right
  digit_right : (n : ℕ) {a : ℕ} → (n ≡ 2) ⊎ (n ≡ 4) ⊎ (n ≡ 5) → hex_digit (byte t (k + n)) ≡ Some a → escape_fault m t k n ≡ None
  unfolding escape_fault
  digit_right n {a} h e =
      let l = hex_small (byte t (k + n)) a e in
      let w = hex_of (byte t (k + n)) 0 15 e (omega arith) (omega arith) in
      grind (arith, nat_tests)

  -- and no other byte
  digit_wrong : (n : ℕ) → (n ≡ 2) ⊎ (n ≡ 4) ⊎ (n ≡ 5) → hex_digit (byte t (k + n)) ≡ None → escape_fault m t k n ≡ Some InvalidUnicodeCodePoint
  unfolding escape_fault
  digit_wrong n h e = let w = hex_none 0 15 (byte t (k + n)) e in grind (arith, nat_tests)

  -- a u is right
  right_u : escape_fault m t k 1 ≡ None
  unfolding escape_fault escaped
  right_u = rw u refl

  -- all is right up to the first digit
  pub right_two : Right m t k 2
  right_two = right_more m t k 1 (right_none m t k) right_u

  -- no digit where one is expected
  pub digit_missing : (n : ℕ) → (n ≡ 2) ⊎ (n ≡ 4) ⊎ (n ≡ 5) → Right m t k n → hex_digit (byte t (k + n)) ≡ None → IsEscapeFault m t k (stop_at t (k + n) InvalidUnicodeCodePoint)
  digit_missing n h r e = fault_at r (omega arith) (omega arith) (digit_wrong n h e) refl

  -- all is right up to the second digit
  right_three : {a : ℕ} → hex_digit (byte t (k + 2)) ≡ Some a → Right m t k 3
  right_three e = right_more m t k 2 right_two (digit_right 2 (inl refl) e)

  -- no digit at the second place
  pub second_missing : {a : ℕ} → hex_digit (byte t (k + 2)) ≡ Some a → hex_digit (byte t (k + 3)) ≡ None
      → IsEscapeFault m t k (stop_at t (k + 3) InvalidUnicodeCodePoint)
  unfolding escape_fault
  second_missing e f =
      let none = hex_none 12 15 (byte t (k + 3)) f in
      let n : (not m && hex_within 13 13 (byte t (k + 2)) && hex_within 12 15 (byte t (k + 3))) ≡ false = grind (arith, nat_tests) in
      let w : escape_fault m t k 3 ≡ Some InvalidUnicodeCodePoint = rw (u, n, hex_none 0 15 (byte t (k + 3)) f) refl in
      fault_at (right_three e) (omega arith) (omega arith) w refl

  -- a second half in a strict reader
  pub second_half : {b : ℕ} → m ≡ false → hex_digit (byte t (k + 2)) ≡ Some 13 → hex_digit (byte t (k + 3)) ≡ Some b → 12 ≤ b
      → IsEscapeFault m t k (stop_at t (k + 3) InvalidSurrogateUnicodeCodePoint)
  unfolding escape_fault
  second_half {b} s e f l =
      let h = hex_of (byte t (k + 2)) 13 13 e (omega arith) (omega arith) in
      let v = hex_small (byte t (k + 3)) b f in
      let g = hex_of (byte t (k + 3)) 12 15 f l (omega arith) in
      let w : escape_fault m t k 3 ≡ Some InvalidSurrogateUnicodeCodePoint = rw (u, s, h, g) refl in
      fault_at (right_three e) (omega arith) (omega arith) w refl

  -- all is right up to the third digit
  pub right_four : {a b : ℕ} → hex_digit (byte t (k + 2)) ≡ Some a → hex_digit (byte t (k + 3)) ≡ Some b → (m ≡ false → a ≡ 13 → b < 12) → Right m t k 4
  unfolding escape_fault
  right_four {a} {b} e f l =
      let n = no_half m (byte t (k + 2)) (byte t (k + 3)) e f l in
      let v = hex_small (byte t (k + 3)) b f in
      let w : escape_fault m t k 3 ≡ None = rw (u, n, hex_of (byte t (k + 3)) 0 15 f (omega arith) (omega arith)) refl in
      right_more m t k 3 (right_three e) w

  -- all is right up to the fourth digit
  pub right_five : {a b c : ℕ} → hex_digit (byte t (k + 2)) ≡ Some a → hex_digit (byte t (k + 3)) ≡ Some b → (m ≡ false → a ≡ 13 → b < 12)
      → hex_digit (byte t (k + 4)) ≡ Some c → Right m t k 5
  right_five e f l g = right_more m t k 4 (right_four e f l) (digit_right 4 (inr (inl refl)) g)

  -- no digit at the fourth place, where the four bytes are none of a number that may be there
  pub last_missing : {a b c : ℕ} → hex_digit (byte t (k + 2)) ≡ Some a → hex_digit (byte t (k + 3)) ≡ Some b → (m ≡ false → a ≡ 13 → b < 12)
      → hex_digit (byte t (k + 4)) ≡ Some c → ((n : ℕ) → IsHex4 t (k + 2) n → (m ≡ false) × IsLow n) → IsEscapeFault m t k (stop_at t (k + 5) InvalidUnicodeCodePoint)
  last_missing e f l g wrong = elim (known (hex_digit (byte t (k + 5)))) [
    | inl h ↦ digit_missing 5 (inr (inr refl)) (right_five e f l g) h
    | inr (d, h) ↦
        let z : Digits t k _ _ _ d = record { first = e; second = f; third = g; fourth = h } in
        let w = wrong _ (hex4_of z) in
        let v = low_digits z refl w.1 in
        absurd (omega (arith, l w.0 v.0, v.1))
  ]

  -- all is right up to the end of the four digits
  right_six : {a b c d : ℕ} → Digits t k a b c d → (m ≡ false → a ≡ 13 → b < 12) → Right m t k 6
  right_six h l = right_more m t k 5 (right_five h.first h.second l h.third) (digit_right 5 (inr (inr refl)) h.fourth)

  -- a byte after the digits is right, where it fits after a first half
  later_right : {a b c d : ℕ} → Digits t k a b c d → (n : ℕ) → 6 ≤ n
      → (m ≡ false → a ≡ 13 → 8 ≤ b → b < 12 → is_low_surrogate_byte (n - 6) (byte t (k + n)) ≡ true) → escape_fault m t k n ≡ None
  later_right h n l w = rw (later_fault n l, no_wrong m (byte t (k + 2)) (byte t (k + 3)) (is_low_surrogate_byte (n - 6) (byte t (k + n))) h.first h.second w) refl

  -- all is right up to the byte j places after the digits, where those before it fit after a first half
  pub all_right : {a b c d : ℕ} → Digits t k a b c d → (m ≡ false → a ≡ 13 → b < 12) → (j : ℕ)
      → (m ≡ false → a ≡ 13 → 8 ≤ b → b < 12 → (d : ℕ) → d < j → is_low_surrogate_byte d (byte t (k + 6 + d)) ≡ true) → Right m t k (6 + j)
  all_right h l j w n o g = elim (cases_lt n 6) [
    | inl f ↦ right_six h l n o f
    | inr f ↦
        let e : k + 6 + (n - 6) ≡ k + n = omega arith in
        later_right h n f (λ s x y z. rw e at (w s x y z (n - 6) (omega arith)))
  ]

  -- in a strict reader a byte is wrong after a first half
  pub half_missing : {n : ℕ} → m ≡ false → IsHex4 t (k + 2) n → IsHigh n → (j : ℕ) → j < 6
      → ((d : ℕ) → d < j → is_low_surrogate_byte d (byte t (k + 6 + d)) ≡ true) → is_low_surrogate_byte j (byte t (k + 6 + j)) ≡ false
      → IsEscapeFault m t k (stop_at t (k + 6 + j) InvalidSurrogateUnicodeCodePoint)
  half_missing s h i j o w x =
      let g = digits_of h in
      let r = high_digits g h.number i in
      let q : k + (6 + j) ≡ k + 6 + j = omega arith in
      let z : 6 + j - 6 ≡ j = omega arith in
      let v = hex_of (byte t (k + 2)) 13 13 g.first (omega arith) (omega arith) in
      let y = hex_of (byte t (k + 3)) 8 11 g.second (omega arith) (omega arith) in
      let f : escape_fault m t k (6 + j) ≡ Some InvalidSurrogateUnicodeCodePoint = rw (later_fault (6 + j) (omega arith), s, v, y, z, q, x) refl in
      fault_at (all_right g (λ v e. r.2) j (λ v e x y. w)) (omega arith) (omega arith) f (rw q refl)
