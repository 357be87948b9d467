-- A text that holds bytes of another one: strings that end there are in both, and so are wrong bytes of escapes.
use Rattle.std.proofs.Common.{◌≡◌, ◌≢◌, ◌⊎◌, ◌∙◌, ℕ, ◌+◌, ◌-◌, ◌<◌, ◌≤◌, Bool, inl, inr, List, arith, refl, sym}
use Rattle.std.proofs.lemmas.Bool.{cases_lt}
use Rattle.std.proofs.lemmas.Bool.Decides.{nat_tests}
use Rattle.sonic_text.specs.Places.{byte}
use Rattle.sonic_text.specs.Strings.{lossy, escape_fault, is_low_surrogate_byte, IsHigh, IsEscape, IsLowEscape, IsUnicodeChar, IsChar, AreChars, IsString}
use Rattle.sonic_text.specs.Strings.IsUnicodeChar.{scalar, pair, lone_high, lone_low}
use Rattle.sonic_text.specs.Strings.IsChar.{unescaped, short_escape, unicode_escape}
use Rattle.sonic_text.specs.Strings.AreChars.{no_char, one_more}
use Rattle.sonic_text.proofs.EscapeLemmas.{unicode_longer, char_longer, char_one, first_false}
use Rattle.sonic_text.proofs.HexDigitLemmas.{low_all, low_right}
use Rattle.sonic_text.proofs.EscapeFaultLemmas.{escaped_letter}
use Rattle.sonic_text.proofs.Strings.{chars_later}
use Rattle.sonic_text.proofs.Same.{Shared, Same, same_byte, same_less}

-- where six bytes are the same, so is the escape
escape_as : (t : List ℕ) (p : ℕ) (u : List ℕ) (q n : ℕ) → ((x y k : ℕ) → k < 6 → x ≡ p + k → y ≡ q + k → byte u y ≡ byte t x) → IsEscape t p n → IsEscape u q n
escape_as t p u q n same h =
    let g = h.2 in (
      same p q 0 (omega arith) (omega arith) (omega arith) ∙ h.0,
      same (p + 1) (q + 1) 1 (omega arith) refl refl ∙ h.1,
      record {
        a = g.a;
        b = g.b;
        c = g.c;
        d = g.d;
        first = rw (same (p + 2) (q + 2) 2 (omega arith) refl refl) g.first;
        second = rw (same (p + 2 + 1) (q + 2 + 1) 3 (omega arith) (omega arith) (omega arith)) g.second;
        third = rw (same (p + 2 + 2) (q + 2 + 2) 4 (omega arith) (omega arith) (omega arith)) g.third;
        fourth = rw (same (p + 2 + 3) (q + 2 + 3) 5 (omega arith) (omega arith) (omega arith)) g.fourth;
        number = g.number;
      },
    )

-- where a lossy reader looks on for a second half, u has none that t doesn't have
abbrev pub NoNewLow : Bool → List ℕ → List ℕ → ℕ → ℕ → Type 0
NoNewLow m t u j k = m ≡ lossy → IsLowEscape u k → IsLowEscape t j

-- there is none where no backslash is
pub no_new_low : (m : Bool) (t u : List ℕ) (j k : ℕ) → byte u k ≢ 92 → NoNewLow m t u j k
no_new_low m t u j k n e z = absurd (n z.1.0)

-- a second half is at a place, or none is
low_or_not : (t : List ℕ) (p : ℕ) → IsLowEscape t p ⊎ ¬ IsLowEscape t p
low_or_not t p = elim (first_false (λ d. is_low_surrogate_byte d (byte t (p + d))) 6) [
  | inl w ↦ inl (low_all t p w)
  | inr (j, l, w, e) ↦ inr (λ (x, y, z). (let v = low_right t p y z j l in absurd (cc)))
]

-- the first half at x is alone in t, and in u a second half follows
record IsPaired (m : Bool) (t u : List ℕ) (j x k : ℕ) : Type 0 where
  n : ℕ
  reads : m ≡ lossy
  escape : IsEscape u x n
  high : IsHigh n
  end : k ≡ x + 6
  low : IsLowEscape u k
  alone : ¬ IsLowEscape t j

module _ {t u : List ℕ} {d added k : ℕ} (h : Shared t u d added k) where
  -- an escape
  pub escape_same : (p x n : ℕ) → p + added ≡ d + x → x + 6 ≤ k → IsEscape t p n → IsEscape u x n
  escape_same p x n a l e = escape_as t p u x n (λ y z i s f g. h.bytes y z (omega arith) (omega arith)) e

  -- an escape of u is one of t
  pub escape_back : (p x n : ℕ) → p + added ≡ d + x → x + 6 ≤ k → IsEscape u x n → IsEscape t p n
  escape_back p x n a l e = escape_as u x t p n (λ z y i s f g. sym (h.bytes y z (omega arith) (omega arith))) e

  -- where a whole char of t is, there is no new second half
  low_before : {m : Bool} {p j : ℕ} {c : List ℕ} (x : ℕ) → p + added ≡ d + x → j + added ≡ d + k → IsChar m t p j c → NoNewLow m t u p x
  low_before {p = p} x a s (unescaped g e f) r z = absurd (g.2 (sym (h.bytes p x a (omega arith)) ∙ z.1.0))
  low_before {p = p} x a s (short_escape g o e f) r z =
      absurd ((escaped_letter _ _ o).1 (sym (h.bytes (p + 1) (x + 1) (omega arith) (omega arith)) ∙ z.1.1))
  low_before {p = p} x a s (unicode_escape g o) r z = (z.0, escape_back p x z.0 a (omega (arith, unicode_longer o)) z.1, z.2)

  -- an escape's char
  unicode_same : {m : Bool} {p n x j : ℕ} {b : List ℕ} → p + added ≡ d + x → j + added ≡ d + k → IsEscape t p n → IsUnicodeChar m t p n j b
      → IsChar m u x k b ⊎ IsPaired m t u j x k
  unicode_same {p = p} {n} {x} a s y (scalar g f e o) = inl (unicode_escape (escape_same p x n a (omega arith) y) (scalar g f (omega arith) o))
  unicode_same {p = p} {n} {x} a s y (pair {l = w} g z f e o) =
      inl (unicode_escape (escape_same p x n a (omega arith) y) (pair {l = w} g (escape_same (p + 6) (x + 6) w (omega arith) (omega arith) z) f (omega arith) o))
  unicode_same {p = p} {n} {x} a s y (lone_high r g f e o) =
      let q : k ≡ x + 6 = omega arith in
      let v : IsEscape u x n = escape_same p x n a (omega arith) y in
      elim (low_or_not u k) [
        | inl z ↦ inr (record { n = n; reads = r; escape = v; high = g; end = q; low = z; alone = rw e f })
        | inr z ↦ inl (unicode_escape v (lone_high r g (rw q at z) q o))
      ]
  unicode_same {p = p} {n} {x} a s y (lone_low r g e o) = inl (unicode_escape (escape_same p x n a (omega arith) y) (lone_low r g (omega arith) o))

  -- a char, or the first half of a pair
  char_or_pair : {m : Bool} {p x j : ℕ} {b : List ℕ} → p + added ≡ d + x → j + added ≡ d + k → IsChar m t p j b → IsChar m u x k b ⊎ IsPaired m t u j x k
  char_or_pair {p = p} {x} a s (unescaped g e o) =
      let b : byte u x ≡ byte t p = h.bytes p x a (omega arith) in
      inl (unescaped (rw b g) (omega arith) (rw b o))
  char_or_pair {p = p} {x} a s (short_escape {c = c} g f e o) =
      let b : byte u (x + 1) ≡ byte t (p + 1) = h.bytes (p + 1) (x + 1) (omega arith) (omega arith) in
      inl (short_escape {c = c} (h.bytes p x a (omega arith) ∙ g) (rw b f) (omega arith) o)
  char_or_pair a s (unicode_escape g o) = unicode_same a s g o

  -- a char
  pub char_same : {m : Bool} {p x j : ℕ} {b : List ℕ} → p + added ≡ d + x → j + added ≡ d + k → NoNewLow m t u j k → IsChar m t p j b → IsChar m u x k b
  char_same a s low c = elim (char_or_pair a s c) [ inl y ↦ y | inr g ↦ absurd (g.alone (low g.reads g.low)) ]

-- chars
pub chars_same : {m : Bool} {t u : List ℕ} {d added i x j k : ℕ} {b : List ℕ} → Shared t u d added k → i + added ≡ d + x → j + added ≡ d + k → NoNewLow m t u j k → AreChars m t i j b
    → AreChars m u x k b
chars_same h a s low (no_char e o) = no_char (omega arith) o
chars_same {d = d} {added} h a s low (one_more {p = p} us c o) =
    let n = chars_later us in
    let l = char_longer c in
    let q = p + added - d in
    let e : p + added ≡ d + q = omega arith in
    one_more (chars_same (same_less q h (omega arith)) a e (low_before h q e s c) us) (char_same h e s low c) o

-- chars, and one more that is in u after them
pub chars_then : {m : Bool} {t u : List ℕ} {i k q : ℕ} {b c : List ℕ} → Same t u k → AreChars m t i k b → IsChar m u k q c → (d : List ℕ) × AreChars m u i q d
chars_then h (no_char e o) c = (_, one_more (no_char e o) c refl)
chars_then {m} {t} {u} {i} {k} {q} h (one_more {p = p} {b = b} us v o) c =
    let l = char_longer v in
    let vs : AreChars m u i p b = chars_same (same_less p h (omega arith)) (omega arith) (omega arith) (low_before h p (omega arith) (omega arith) v) us in
    elim (char_or_pair h (omega arith) (omega arith) v) [
      | inl x ↦ (_, one_more (one_more vs x refl) c refl)
      | inr g ↦
          let (n, y, z) = g.low in
          let a = g.end in
          let e : q ≡ k + 6 = (char_one c (unicode_escape y (lone_low g.reads z refl refl))).0 in
          let f : IsEscape u (p + 6) n = rw a at y in
          (_, one_more vs (unicode_escape g.escape (pair g.high f z (omega arith) refl)) refl)
    ]

-- a string
pub string_same : {m : Bool} {t u : List ℕ} {d added i x j k : ℕ} {b : List ℕ} → Shared t u d added k → i + added ≡ d + x → j + added ≡ d + k → IsString m t i j b → IsString m u x k b
string_same {m} {t} {u} {d} {added} {i} {x} h a s g =
    let l = chars_later g.chars in
    let e = g.end in
    let z = g.close + added - d in
    let f : g.close + added ≡ d + z = omega arith in
    let c : byte u z ≡ 34 = h.bytes g.close z f (omega arith) ∙ g.closes in
    record {
      close = z;
      opens = h.bytes i x a (omega arith) ∙ g.opens;
      chars = chars_same (same_less z h (omega arith)) (omega arith) f (no_new_low m t u g.close z (λ y. omega arith)) g.chars;
      closes = c;
      end = omega arith;
    }

-- what is wrong n places after a backslash
pub escape_fault_same : (m : Bool) {t u : List ℕ} (k n : ℕ) → 0 < n → Same t u (k + n + 1) → escape_fault m u k n ≡ escape_fault m t k n
unfolding escape_fault
escape_fault_same m {t} {u} k n l h =
    let b : byte u (k + 1) ≡ byte t (k + 1) = same_byte h (k + 1) (omega arith) in
    let z : byte u (k + n) ≡ byte t (k + n) = same_byte h (k + n) (omega arith) in
    elim (cases_lt n 3) [
      | inl o ↦ grind (arith, nat_tests)
      | inr o ↦ rw (b, same_byte h (k + 2) (omega arith), same_byte h (k + 3) (omega arith), z) refl
    ]
