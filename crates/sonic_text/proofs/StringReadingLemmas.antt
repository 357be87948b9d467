-- The chars of a string are read one by one, from the first on: which char is at a place that was reached, and what was read at the end.
use Rattle.std.proofs.Common.{◌≡◌, ◌≢◌, ℕ, zero, suc, ◌+◌, ◌-◌, ◌<◌, ◌≤◌, Bool, inl, inr, List, [], ◌∷◌, ◌++◌, length, arith, refl, sym, ◌∙◌}
use Rattle.std.proofs.lemmas.Bool.{cases_lt}
use Rattle.std.proofs.lemmas.List.{append_assoc, append-nil}
use Rattle.std.proofs.lemmas.List.Edits.{between_none, between_more}
use Rattle.std.specs.Prelude.{unwrap_or}
use Rattle.std.specs.List.{slice_range}
use Rattle.std.specs.Char.{encode_utf8}
use Rattle.sonic_text.specs.Places.{byte}
use Rattle.sonic_text.specs.Strings.{escaped, replacement, IsEscape, IsHigh, IsLowEscape, IsChar, IsUnicodeChar, AreChars, IsString}
use Rattle.sonic_text.proofs.Places.{byte_within}
use Rattle.sonic_text.proofs.HexDigitLemmas.{hex4_within}
use Rattle.sonic_text.proofs.CodepointLemmas.{one_byte}
use Rattle.sonic_text.proofs.EscapeFaultLemmas.{escaped_letter}
use Rattle.sonic_text.proofs.EscapeLemmas.{char_longer}
use Rattle.sonic_text.proofs.Strings.{Chain, chain_of, chain_later}
use Rattle.sonic_text.proofs.Strings.Chain.{done, more}

-- in the string from start to end, which denotes b, the chars before p denote c
pub record IsReached (m : Bool) (t : List ℕ) (start end p : ℕ) (b c : List ℕ) : Type 0 where
  pub close : ℕ
  pub rest : List ℕ
  pub opens : byte t start ≡ 34
  pub read : AreChars m t (start + 1) p c
  pub left : Chain m t p close rest
  pub both : b ≡ c ++ rest
  pub closes : byte t close ≡ 34
  pub ends : end ≡ close + 1

-- after the opening quote
pub reached_start : {m : Bool} {t : List ℕ} {start end : ℕ} {b : List ℕ} → IsString m t start end b → IsReached m t start end (start + 1) b []
reached_start {b = b} s = record { close = s.close; rest = b; opens = s.opens; read = AreChars.no_char refl refl; left = chain_of s.chars; both = refl; closes = s.closes; ends = s.end }

-- the closing quote is at p or after it, and before the end of the text
pub reached_before : {m : Bool} {t : List ℕ} {start end p : ℕ} {b c : List ℕ} → IsReached m t start end p b c → (p < end) × (end ≤ length t)
reached_before {t = t} r =
    let l : r.close < length t = byte_within t r.close (λ e. cc (e, r.closes)) in
    (omega (arith, chain_later r.left, r.ends), omega (arith, r.ends))

-- the char at a place that was reached, and the place after it
pub record IsNext (m : Bool) (t : List ℕ) (start end p : ℕ) (b c : List ℕ) : Type 0 where
  pub q : ℕ
  pub d : List ℕ
  pub char : IsChar m t p q d
  pub next : IsReached m t start end q b (c ++ d)

-- before the closing quote a char is at each place that was reached
pub reached_char : {m : Bool} {t : List ℕ} {start end p : ℕ} {b c : List ℕ} → IsReached m t start end p b c → p + 1 ≢ end → IsNext m t start end p b c
reached_char {c = c} r n = elim r.left [
  | done e x ↦ absurd (n (omega (arith, r.ends)))
  | more {b = d} {c = f} char left x ↦ record {
    q = _;
    d = d;
    char = char;
    next = record {
      close = r.close;
      rest = f;
      opens = r.opens;
      read = AreChars.one_more r.read char refl;
      left = left;
      both = r.both ∙ (rw x (sym (append_assoc c d f)));
      closes = r.closes;
      ends = r.ends;
    };
  }
]

-- at the closing quote all is read
pub reached_all : {m : Bool} {t : List ℕ} {start end p : ℕ} {b c : List ℕ} → IsReached m t start end p b c → p + 1 ≡ end → c ≡ b
reached_all {c = c} r n = elim r.left [
  | done e x ↦ sym (r.both ∙ (rw x (append-nil c)))
  | more char left x ↦ absurd (omega (arith, chain_later left, char_longer char, r.ends))
]

-- and the string denotes that
pub reached_string : {m : Bool} {t : List ℕ} {start end p : ℕ} {b c : List ℕ} → IsReached m t start end p b c → p + 1 ≡ end → IsString m t start end c
reached_string {p = p} r n =
    let e : r.close ≡ p = omega (arith, r.ends) in
    record { close = r.close; opens = r.opens; chars = rw e r.read; closes = r.closes; end = r.ends }

-- a char that doesn't begin with a backslash is one byte
char_plain : {m : Bool} {t : List ℕ} {p q : ℕ} {b : List ℕ} → byte t p ≢ 92 → IsChar m t p q b → (q ≡ p + 1) × (b ≡ byte t p ∷ [])
char_plain e (IsChar.unescaped u x y) = (x, y)
char_plain e (IsChar.short_escape o l x y) = absurd (e o)
char_plain e (IsChar.unicode_escape u x) = absurd (e u.0)

-- so the string goes on with this byte
pub reached_byte : {m : Bool} {t : List ℕ} {start end p : ℕ} {b c : List ℕ} → byte t p ≢ 92 → p + 1 ≢ end → IsReached m t start end p b c
    → (rest : List ℕ) × (b ≡ c ++ byte t p ∷ rest)
reached_byte {t = t} {p = p} {b = b} {c = c} e o s =
    let v = reached_char s o in
    let w = char_plain e v.char in
    let x : b ≡ (c ++ byte t p ∷ []) ++ v.next.rest = rw (← w.1) v.next.both in
    (v.next.rest, x ∙ append_assoc c (byte t p ∷ []) v.next.rest)

-- bytes before the closing quote of which none is a backslash denote themselves
pub reached_run : {m : Bool} {t : List ℕ} {start end p : ℕ} {b c : List ℕ} (n r : ℕ) → r ≡ p + n → r < end → ((k : ℕ) → p ≤ k → k < r → byte t k ≢ 92)
    → IsReached m t start end p b c → IsReached m t start end r b (c ++ slice_range t p r)
reached_run {t = t} {p = p} {c = c} zero r e l h s =
    let o : r ≡ p = omega arith in
    rw (o, between_none t p, append-nil c) s
reached_run {m} {t} {start} {end} {p} {b} {c} (suc n) r e l h s =
    let o : r ≡ p + n + 1 = omega arith in
    let u = reached_run n (p + n) refl (omega arith) (λ k g i. h k g (omega arith)) s in
    let v = reached_char u (omega arith) in
    let w = char_plain (h (p + n) (omega arith) (omega arith)) v.char in
    let a : p + n < length t = omega (arith, reached_before u) in
    let x : slice_range t p r ≡ slice_range t p (p + n) ++ byte t (p + n) ∷ [] = rw o (between_more t p (p + n) 0 (omega arith) a) in
    let y : IsReached m t start end r b ((c ++ slice_range t p (p + n)) ++ byte t (p + n) ∷ []) = rw (o, ← w.0, ← w.1) v.next in
    rw (x, ← append_assoc c (slice_range t p (p + n)) (byte t (p + n) ∷ [])) y

pub reached_plain : {m : Bool} {t : List ℕ} {start end p : ℕ} {b c : List ℕ} (r : ℕ) → (p ≤ r) × (r < end) → ((k : ℕ) → p ≤ k → k < r → byte t k ≢ 92)
    → IsReached m t start end p b c → IsReached m t start end r b (c ++ slice_range t p r)
reached_plain {p = p} r l h s = reached_run (r - p) r (omega arith) l.1 h s

-- the char at p, if all readings of it are this one
pub reached_escape : {m : Bool} {t : List ℕ} {start end p : ℕ} {b c : List ℕ} (n : ℕ) (x : List ℕ) → ((m : Bool) (q : ℕ) (d : List ℕ) → IsChar m t p q d → (q ≡ n) × (d ≡ x))
    → p + 1 ≢ end → IsReached m t start end p b c → (p < n) × IsReached m t start end n b (c ++ x)
reached_escape {m} {t} {start} {end} {p} {b} {c} n x one o s =
    let v = reached_char s o in
    let w = one m v.q v.d v.char in
    let y : IsReached m t start end n b (c ++ x) = rw (← w.0, ← w.1) v.next in
    (omega (arith, char_longer v.char, w.0), y)

-- an escape comes before the end of the text
pub escape_within : (t : List ℕ) (p n : ℕ) → IsEscape t p n → p + 6 ≤ length t
escape_within t p n e = omega (arith, hex4_within e.2)

-- the bytes of a single surrogate are those of U+FFFD
replacement_bytes : replacement ≡ encode_utf8 0xFFFD
unfolding encode_utf8
replacement_bytes = refl

-- a surrogate that is no half of a pair
pub unicode_single : {m : Bool} {t : List ℕ} {p n q : ℕ} {b : List ℕ} → 0xD800 ≤ n → n ≤ 0xDFFF → (IsHigh n → ¬ IsLowEscape t (p + 6))
    → IsUnicodeChar m t p n q b → (q ≡ p + 6) × (b ≡ encode_utf8 0xFFFD)
unicode_single {n = n} l u s (IsUnicodeChar.scalar h o e x) = absurd (elim (cases_lt n 0xDC00) [ inl a ↦ h (l, omega arith) | inr a ↦ o (a, u) ])
unicode_single l u s (IsUnicodeChar.pair {l = k} h g o e x) = absurd (s h (k, g, o))
unicode_single l u s (IsUnicodeChar.lone_high m h n e x) = (e, x ∙ replacement_bytes)
unicode_single l u s (IsUnicodeChar.lone_low m h e x) = (e, x ∙ replacement_bytes)

-- after a backslash that begins a char is a letter
pub escape_letter : {m : Bool} {t : List ℕ} {p q : ℕ} {b : List ℕ} → byte t p ≡ 92 → IsChar m t p q b → p + 1 < length t
escape_letter e (IsChar.unescaped u x y) = absurd (u.2 e)
escape_letter {t = t} {p} e (IsChar.short_escape {c = c} o l x y) = byte_within t (p + 1) (escaped_letter _ c l).0
escape_letter {t = t} {p} e (IsChar.unicode_escape {n = n} u x) = omega (arith, escape_within t p n u)

-- and if it is a u, four digits after it
pub record IsUnicode (m : Bool) (t : List ℕ) (p q : ℕ) (b : List ℕ) : Type 0 where
  pub n : ℕ
  pub escape : IsEscape t p n
  pub char : IsUnicodeChar m t p n q b

pub escape_unicode : {m : Bool} {t : List ℕ} {p q : ℕ} {b : List ℕ} → byte t p ≡ 92 → byte t (p + 1) ≡ 117 → IsChar m t p q b → IsUnicode m t p q b
escape_unicode e f (IsChar.unescaped u x y) = absurd (u.2 e)
escape_unicode e f (IsChar.short_escape {c = c} o l x y) = absurd ((escaped_letter _ c l).1 f)
escape_unicode e f (IsChar.unicode_escape {n = n} u x) = record { n = n; escape = u; char = x }

-- and if it is another letter, it denotes one byte
pub escape_short : {m : Bool} {t : List ℕ} {p q : ℕ} {b : List ℕ} → byte t p ≡ 92 → byte t (p + 1) ≢ 117 → IsChar m t p q b
    → (q ≡ p + 2) × (b ≡ encode_utf8 (unwrap_or (escaped (byte t (p + 1))) 0))
escape_short e f (IsChar.unescaped u x y) = absurd (u.2 e)
escape_short e f (IsChar.short_escape {c = c} o l x y) = (x, rw l (y ∙ sym (one_byte c (escaped_letter _ c l).3)))
escape_short e f (IsChar.unicode_escape u x) = absurd (f u.1)

-- what one more append leaves
pub appended : {x y : List ℕ} (o c d : List ℕ) → x ≡ o ++ c → y ≡ x ++ d → y ≡ o ++ (c ++ d)
appended o c d e f = f ∙ (rw e (append_assoc o c d))
