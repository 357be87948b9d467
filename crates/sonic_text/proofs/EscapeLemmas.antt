-- After a backslash is a char of a string, or a first wrong byte, and never both.
use Rattle.std.proofs.Common.{◌≡◌, ◌⊎◌, ℕ, zero, suc, ◌+◌, ◌<◌, ◌≤◌, Bool, true, false, inl, inr, List, arith, refl}
use Rattle.std.proofs.lemmas.Bool.{cases_Bool, cases_lt, cases_eq, cases_order}
use Rattle.std.proofs.lemmas.Bool.Decides.{nat_tests}
use Rattle.std.specs.Prelude.{is_some, unwrap_or, Some}
use Rattle.sonic_text.specs.declared.stop.Stop.{Stop}
use Rattle.sonic_text.specs.Places.{byte, stop_at}
use Rattle.sonic_text.specs.Strings.{hex_digit, is_low_surrogate_byte, escaped, escape_fault, IsEscape, IsHigh, IsLow, IsLowEscape, IsUnicodeChar, IsChar, IsEscapeFault}
use Rattle.sonic_text.specs.Strings.IsUnicodeChar.{scalar, pair, lone_high, lone_low}
use Rattle.sonic_text.specs.Strings.IsChar.{unescaped, short_escape, unicode_escape}
use Rattle.sonic_text.proofs.HexDigitLemmas.{escape_one, Digits, digits_of, hex4_of, high_digits, digits_high, low_digits, digits_low, low_right, low_all}
use Rattle.sonic_text.proofs.EscapeFaultLemmas.{Right, escaped_letter, short_right, letter_fault, right_two, right_four, right_five, digit_missing, second_missing, second_half, half_missing, all_right, known}

-- an escape denotes one char
unicode_one : (m : Bool) (t : List ℕ) (p n : ℕ) {q r : ℕ} {b c : List ℕ} → IsUnicodeChar m t p n q b → IsUnicodeChar m t p n r c → (q ≡ r) × (b ≡ c)
unicode_one m t p n (scalar h l e f) (scalar x y g i) = (cc, cc)
unicode_one m t p n (scalar h l e f) (pair x y z g i) = absurd (h x)
unicode_one m t p n (scalar h l e f) (lone_high o x y g i) = absurd (h x)
unicode_one m t p n (scalar h l e f) (lone_low o x g i) = absurd (l x)
unicode_one m t p n (pair h k l e f) (scalar x y g i) = absurd (x h)
unicode_one m t p n (pair {l = v} h k l e f) (pair {l = w} x y z g i) = let d : v ≡ w = escape_one t (p + 6) k y in (cc, cc)
unicode_one m t p n (pair {l = v} h k l e f) (lone_high o x y g i) = absurd (y (v, k, l))
unicode_one m t p n (pair h k l e f) (lone_low o x g i) = absurd (omega arith)
unicode_one m t p n (lone_high s h l e f) (scalar x y g i) = absurd (x h)
unicode_one m t p n (lone_high s h l e f) (pair {l = w} x y z g i) = absurd (l (w, y, z))
unicode_one m t p n (lone_high s h l e f) (lone_high o x y g i) = (cc, cc)
unicode_one m t p n (lone_high s h l e f) (lone_low o x g i) = absurd (omega arith)
unicode_one m t p n (lone_low s h e f) (scalar x y g i) = absurd (y h)
unicode_one m t p n (lone_low s h e f) (pair x y z g i) = absurd (omega arith)
unicode_one m t p n (lone_low s h e f) (lone_high o x y g i) = absurd (omega arith)
unicode_one m t p n (lone_low s h e f) (lone_low o x g i) = (cc, cc)

-- one char is at a place
pub char_one : {m : Bool} {t : List ℕ} {p q r : ℕ} {b c : List ℕ} → IsChar m t p q b → IsChar m t p r c → (q ≡ r) × (b ≡ c)
char_one (unescaped h e f) (unescaped x g i) = (cc, cc)
char_one (unescaped h e f) (short_escape x y g i) = absurd (h.2 x)
char_one (unescaped h e f) (unicode_escape x y) = absurd (h.2 x.0)
char_one (short_escape h k e f) (unescaped x g i) = absurd (x.2 h)
char_one (short_escape {c = v} h k e f) (short_escape {c = w} x y g i) = let d : v ≡ w = cc in (cc, cc)
char_one {t = t} {p} (short_escape h k e f) (unicode_escape x y) = absurd ((escaped_letter _ _ k).1 x.1)
char_one (unicode_escape h k) (unescaped x g i) = absurd (x.2 h.0)
char_one {t = t} {p} (unicode_escape h k) (short_escape x y g i) = absurd ((escaped_letter _ _ y).1 h.1)
char_one {m} {t} {p} (unicode_escape {n = n} h k) (unicode_escape {n = l} x y) = let d : l ≡ n = escape_one t p x h in unicode_one m t p n k (rw d at y)

-- a char that an escape begins is at least as long as the escape
pub unicode_longer : {m : Bool} {t : List ℕ} {p n q : ℕ} {b : List ℕ} → IsUnicodeChar m t p n q b → p + 6 ≤ q
unicode_longer (scalar h l e f) = omega arith
unicode_longer (pair h k l e f) = omega arith
unicode_longer (lone_high s h l e f) = omega arith
unicode_longer (lone_low s h e f) = omega arith

-- a char leads on
pub char_longer : {m : Bool} {t : List ℕ} {p q : ℕ} {b : List ℕ} → IsChar m t p q b → p < q
char_longer (unescaped h e f) = omega arith
char_longer (short_escape h k e f) = omega arith
char_longer (unicode_escape h k) = omega (arith, unicode_longer k)

-- after a whole escape nothing is wrong
unicode_right : (m : Bool) (t : List ℕ) (p n : ℕ) {q : ℕ} {b : List ℕ} → IsEscape t p n → IsUnicodeChar m t p n q b → Right m t p 12
unicode_right m t p n h (scalar x y e f) =
    let g = digits_of h.2 in
    all_right m t p h.1 g (λ s o. elim (cases_lt h.2.b 12) [ inl l ↦ l | inr l ↦ absurd (y (digits_low g h.2.number o l)) ]) 6
    (λ s o l w d k. absurd (x (digits_high g h.2.number o l w)))
unicode_right m t p n h (pair x y z e f) =
    let g = digits_of h.2 in
    all_right m t p h.1 g (λ s o. (high_digits g h.2.number x).2) 6 (λ s o l w. low_right t (p + 6) y z)
unicode_right m t p n h (lone_high v x y e f) = all_right m t p h.1 (digits_of h.2) (λ s o. absurd (cc)) 6 (λ s o l w d k. absurd (cc))
unicode_right m t p n h (lone_low v x e f) = all_right m t p h.1 (digits_of h.2) (λ s o. absurd (cc)) 6 (λ s o l w d k. absurd (cc))

-- a char that is somewhere has no wrong byte
pub char_never : {m : Bool} {t : List ℕ} {p q : ℕ} {b : List ℕ} {s : Stop} → byte t p ≡ 92 → IsChar m t p q b → IsEscapeFault m t p s → ⊥
char_never o (unescaped h e f) g = h.2 o
char_never {m} {t} {p} o (short_escape h k e f) g = let r = short_right m t p k g.n in let w = g.wrong in absurd (cc)
char_never {m} {t} {p} o (unicode_escape {n = n} h k) g = let r = unicode_right m t p n h k g.n g.after.0 g.after.1 in let w = g.wrong in absurd (cc)

-- the first wrong byte is right in no other fault
not_before : {m : Bool} {t : List ℕ} {p : ℕ} {s r : Stop} (f : IsEscapeFault m t p s) (g : IsEscapeFault m t p r) → f.n < g.n → ⊥
not_before f g l = let e = g.right f.n f.after.0 l in let w = f.wrong in absurd (cc)

-- one byte is the first wrong one
pub escape_fault_one : {m : Bool} {t : List ℕ} {p : ℕ} {s r : Stop} → IsEscapeFault m t p s → IsEscapeFault m t p r → s ≡ r
escape_fault_one {m} {t} {p} f g = elim (cases_order f.n g.n) [
  | inr (inl l) ↦ absurd (not_before f g l)
  | inr (inr l) ↦ absurd (not_before g f l)
  | inl e ↦
      let w : escape_fault m t p g.n ≡ Some f.code = rw e at f.wrong in
      let v = g.wrong in
      let c : f.code ≡ g.code = cc in
      let d : stop_at t (p + f.n) f.code ≡ stop_at t (p + g.n) g.code = rw (e, c) refl in
      cc (f.stop, g.stop)
]

-- what a letter denotes after a backslash is no 0
pub escaped_some : (b : ℕ) → 0 < unwrap_or (escaped b) 0 → is_some (escaped b) ≡ true
escaped_some b h = elim (known (escaped b)) [
  | inl e ↦ absurd (let none : unwrap_or (escaped b) 0 ≡ 0 = rw e refl in omega arith)
  | inr (c, e) ↦ rw e refl
]

pub escaped_nonzero : (b : ℕ) → 0 < unwrap_or (escaped b) 0 → 0 < b
unfolding escaped
escaped_nonzero zero h = absurd (omega arith)
escaped_nonzero (suc b) h = omega arith

pub escaped_none : (b : ℕ) → unwrap_or (escaped b) 0 ≡ 0 → is_some (escaped b) ≡ false
unfolding escaped
escaped_none b h = grind (arith, nat_tests)

-- a letter that denotes a char after a backslash
pub short_char : {m : Bool} {t : List ℕ} {k : ℕ} → is_some (escaped (byte t (k + 1))) ≡ true → byte t k ≡ 92 → (q : ℕ) → q ≡ k + 2 → (b : List ℕ) × IsChar m t k q b
short_char {t = t} {k} h o q f = elim (known (escaped (byte t (k + 1)))) [
  | inl e ↦ absurd (let g = rw e at h in cc)
  | inr (c, e) ↦ (_, short_escape o e f refl)
]

-- a second half alone denotes a char in a lossy reader
low_char : (m : Bool) {t : List ℕ} {k n : ℕ} → IsEscape t k n → IsLow n → (m ≡ false → ¬ IsLow n) → (q : ℕ) → q ≡ k + 6 → (b : List ℕ) × IsChar m t k q b
low_char true h x y q e = (_, unicode_escape h (lone_low refl x e refl))
low_char false h x y q e = absurd (y refl x)

-- an escape that is no first half denotes a char, in a strict reader if it is no second half either
pub plain_char : {m : Bool} {t : List ℕ} {k n : ℕ} → IsEscape t k n → ¬ IsHigh n → (m ≡ false → ¬ IsLow n) → (q : ℕ) → q ≡ k + 6 → (b : List ℕ) × IsChar m t k q b
plain_char {m} {n = n} h x y q e = elim (cases_lt n 0xDC00) [
  | inl l ↦ (_, unicode_escape h (scalar x (λ w. omega arith) e refl))
  | inr l ↦ elim (cases_lt 0xDFFF n) [
    | inl o ↦ (_, unicode_escape h (scalar x (λ w. omega arith) e refl))
    | inr o ↦ low_char m h (l, o) y q e
  ]
]

-- the escapes of both halves denote a char
pub paired_char : {m : Bool} {t : List ℕ} {k n : ℕ} → IsEscape t k n → IsHigh n → IsLowEscape t (k + 6) → (q : ℕ) → q ≡ k + 12 → (b : List ℕ) × IsChar m t k q b
paired_char h x (l, y, z) q e = (_, unicode_escape h (pair x y z e refl))

-- the escape of a first half that no second one follows denotes a char in a lossy reader
pub lone_char : {m : Bool} {t : List ℕ} {k n : ℕ} → m ≡ true → IsEscape t k n → IsHigh n → ¬ IsLowEscape t (k + 6) → (q : ℕ) → q ≡ k + 6 → (b : List ℕ) × IsChar m t k q b
lone_char s h x none q e = (_, unicode_escape h (lone_high s x none e refl))

-- what is expected after a backslash: a char, or a first wrong byte
abbrev pub Outcome : Bool → List ℕ → ℕ → Type 0
Outcome m t k = ((q : ℕ) × ((b : List ℕ) × IsChar m t k q b)) ⊎ ((s : Stop) × IsEscapeFault m t k s)

-- a test passes everywhere, or fails at a first place
pub first_false : (P : ℕ → Bool) (n : ℕ) → ((d : ℕ) → d < n → P d ≡ true) ⊎ ((j : ℕ) × (j < n) × ((d : ℕ) → d < j → P d ≡ true) × (P j ≡ false))
first_false P zero = inl (λ d l. absurd (omega arith))
first_false P (suc n) = elim (first_false P n) [
  | inr (j, l, h, e) ↦ inr (j, omega arith, h, e)
  | inl h ↦ elim (cases_Bool (P n)) [
    | inr e ↦ inr (n, omega arith, h, e)
    | inl e ↦ inl (λ d l. elim (cases_lt d n) [ inl o ↦ h d o | inr o ↦ (let q : d ≡ n = omega arith in rw q e) ])
  ]
]

-- after a first half without a second one
lone_some : (m : Bool) {t : List ℕ} {k n : ℕ} → IsEscape t k n → IsHigh n → (j : ℕ) → j < 6 → ((d : ℕ) → d < j → is_low_surrogate_byte d (byte t (k + 6 + d)) ≡ true)
    → is_low_surrogate_byte j (byte t (k + 6 + j)) ≡ false → Outcome m t k
lone_some true {t} {k} h x j l w e = inl (k + 6, lone_char refl h x (λ (n, y, z). (let v = low_right t (k + 6) y z j l in absurd (cc))) (k + 6) refl)
lone_some false {t} {k} h x j l w e = inr (_, half_missing false t k h.1 refl h.2 x j l w e)

-- after four digits
number_some : (m : Bool) {t : List ℕ} {k n : ℕ} → IsEscape t k n → (m ≡ false → ¬ IsLow n) → Outcome m t k
number_some m {t} {k} {n} h x = elim (cases_lt n 0xD800) [
  | inl l ↦ inl (k + 6, plain_char h (λ w. omega arith) x (k + 6) refl)
  | inr l ↦ elim (cases_lt 0xDBFF n) [
    | inl o ↦ inl (k + 6, plain_char h (λ w. omega arith) x (k + 6) refl)
    | inr o ↦ elim (first_false (λ d. is_low_surrogate_byte d (byte t (k + 6 + d))) 6) [
      | inl w ↦ inl (k + 12, paired_char h (l, o) (low_all t (k + 6) w) (k + 12) refl)
      | inr (j, v, w, e) ↦ lone_some m h (l, o) j v w e
    ]
  ]
]

-- a second half in a strict reader, or not
half_or_not : (m : Bool) (a b : ℕ) → ((m ≡ false) × (a ≡ 13) × (12 ≤ b)) ⊎ (m ≡ false → a ≡ 13 → b < 12)
half_or_not true a b = inr (λ s. absurd (cc))
half_or_not false a b = elim (cases_eq a 13) [
  | inr e ↦ inr (λ s o. absurd (e o))
  | inl e ↦ elim (cases_lt b 12) [ inl l ↦ inr (λ s o. l) | inr l ↦ inl (refl, e, l) ]
]

-- after a u
digits_some : (m : Bool) (t : List ℕ) (k : ℕ) → byte t k ≡ 92 → byte t (k + 1) ≡ 117 → Outcome m t k
digits_some m t k o u = elim (known (hex_digit (byte t (k + 2)))) [
  | inl e ↦ inr (_, digit_missing m t k u 2 (inl refl) (right_two m t k u) e)
  | inr (a, e) ↦ elim (known (hex_digit (byte t (k + 3)))) [
    | inl f ↦ inr (_, second_missing m t k u e f)
    | inr (b, f) ↦ elim (half_or_not m a b) [
      | inl (s, q, l) ↦ inr (_, second_half m t k u s (rw q at e) f l)
      | inr w ↦ elim (known (hex_digit (byte t (k + 4)))) [
        | inl g ↦ inr (_, digit_missing m t k u 4 (inr (inl refl)) (right_four m t k u e f w) g)
        | inr (c, g) ↦ elim (known (hex_digit (byte t (k + 5)))) [
          | inl h ↦ inr (_, digit_missing m t k u 5 (inr (inr refl)) (right_five m t k u e f w g) h)
          | inr (d, h) ↦
              let z : Digits t k a b c d = record { first = e; second = f; third = g; fourth = h } in
              number_some m (o, u, hex4_of z) (λ s v. let (x, y) = low_digits z refl v in let r = w s x in omega arith)
        ]
      ]
    ]
  ]
]

-- after a backslash is a char or a first wrong byte
pub escape_some : (m : Bool) (t : List ℕ) (k : ℕ) → byte t k ≡ 92 → Outcome m t k
escape_some m t k o = elim (known (escaped (byte t (k + 1)))) [
  | inr (c, e) ↦ inl (_, (_, short_escape o e refl refl))
  | inl e ↦ elim (cases_eq (byte t (k + 1)) 117) [
    | inr u ↦ inr (_, letter_fault m t k e u)
    | inl u ↦ digits_some m t k o u
  ]
]
