-- A string of a text that is UTF-8 denotes bytes that are UTF-8.
use Rattle.std.proofs.Common.{◌≡◌, ◌≢◌, Bool, ℕ, zero, suc, ◌+◌, ◌*◌, ◌-◌, ◌<◌, ◌≤◌, List, [], ◌∷◌, ◌++◌, Some, length, append_assoc, append-nil, arith, refl}
use Rattle.std.proofs.lemmas.Bool.Decides.{nat_tests}
use Rattle.std.proofs.lemmas.List.Edits.{between_none, between_more}
use Rattle.std.proofs.lemmas.Str.{IsUtf8-nil, IsUtf8-append, IsUtf8-between, IsUtf8-encode, IsUtf8-from_ascii, IsCharBoundary-before_ascii, IsCharBoundary-after_ascii, IsCharBoundary-start, IsCharBoundary-end}
use Rattle.std.specs.Prelude.{slice_range}
use Rattle.std.specs.Char.{IsScalar}
use Rattle.std.specs.Str.{IsUtf8, IsAscii, IsCharBoundary}
use Rattle.sonic_text.specs.Places.{byte}
use Rattle.sonic_text.specs.Strings.{hex_digit, strict, IsHigh, IsLow, IsEscape, IsUnicodeChar, AreChars, IsString}
use Rattle.sonic_text.specs.Strings.IsChar.{unescaped, short_escape, unicode_escape}
use Rattle.sonic_text.specs.Strings.IsUnicodeChar.{scalar, pair, lone_high, lone_low}
use Rattle.sonic_text.specs.Strings.AreChars.{no_char, one_more}
use Rattle.sonic_text.proofs.Places.{byte_after, byte_within}
use Rattle.sonic_text.proofs.EscapeFaultLemmas.{escaped_letter}
use Rattle.sonic_text.proofs.HexDigitLemmas.{hex_small}
use Rattle.sonic_text.proofs.Parts.{part_is, part_length}
use Rattle.sonic_text.proofs.SameStrings.{no_new_low, chars_same}
use Rattle.sonic_text.proofs.StringReadingLemmas.{escape_within}
use Rattle.sonic_text.proofs.Strings.{chars_later}

-- a hexadecimal digit is an ASCII byte
digit_ascii : (b a : ℕ) → hex_digit b ≡ Some a → b < 128
unfolding hex_digit
digit_ascii b a h = grind (arith, nat_tests)

-- a number up to 0x10FFFF that is no half of a pair is the code of a char
scalar_code : (c : ℕ) → c < 0x110000 → ¬ IsHigh c → ¬ IsLow c → IsScalar c
scalar_code c small high low = grind (arith, nat_tests)

-- an escape ends with an ASCII byte, and its number has at most four digits
escape_end : (t : List ℕ) (p : ℕ) {n : ℕ} → IsEscape t p n → (byte t (p + 5) < 128) × (p + 5 < length t) × (n < 0x10000)
escape_end t p {n} e =
    let h = e.2 in
    let last = digit_ascii _ h.d h.fourth in
    let a = hex_small _ h.a h.first in
    let b = hex_small _ h.b h.second in
    let c = hex_small _ h.c h.third in
    let d = hex_small _ h.d h.fourth in
    let place : p + 2 + 3 ≡ p + 5 = omega arith in
    (rw place at last, omega (arith, escape_within t p n e), omega (arith, h.number, a, b, c, d))

-- after an escape a char begins
after_escape : (t : List ℕ) (p : ℕ) {n q : ℕ} → IsUtf8 t → IsEscape t p n → q ≡ p + 6 → IsCharBoundary t q
after_escape t p {n} {q} utf8 e after =
    let l = escape_end t p e in
    let place : q ≡ p + 5 + 1 = omega arith in
    rw place (IsCharBoundary-after_ascii t (p + 5) utf8 l.1 l.0)

-- what an escape denotes is UTF-8, and after it a char begins
unicode_text : {t : List ℕ} {p n q : ℕ} {b : List ℕ} → IsUtf8 t → IsEscape t p n → IsUnicodeChar strict t p n q b → IsUtf8 b × IsCharBoundary t q
unicode_text {t} {p} {n} utf8 e (scalar high low after is) =
    let l = (escape_end t p e).2 in
    (rw is (IsUtf8-encode n (scalar_code n (omega arith) high low)), after_escape t p utf8 e after)
unicode_text {t} {p} {n} {q} utf8 e (pair {l = m} high f low after is) =
    let place : q ≡ p + 6 + 6 = omega arith in
    let l = (escape_end t (p + 6) f).2 in
    let code = scalar_code (0x10000 + (n - 0xD800) * 0x400 + (m - 0xDC00)) (omega (arith, high.1, low.1)) (λ h. omega (arith, h.1)) (λ h. omega (arith, h.1)) in
    (rw is (IsUtf8-encode _ code), after_escape t (p + 6) utf8 f place)
unicode_text utf8 e (lone_high m high f after is) = absurd cc
unicode_text utf8 e (lone_low m low after is) = absurd cc

-- from i to k are chars for text, and then for the bytes from the boundary place on, as they are
record IsCut (t : List ℕ) (k : ℕ) (b : List ℕ) : Type 0 where
  pub prefix : List ℕ
  pub utf8 : IsUtf8 prefix
  pub place : ℕ
  pub boundary : IsCharBoundary t place
  pub order : place ≤ k
  pub is : b ≡ prefix ++ slice_range t place k

-- up to a boundary all of it is text
cut_here : {t : List ℕ} {k : ℕ} {b : List ℕ} → IsUtf8 t → IsCut t k b → IsCharBoundary t k → IsUtf8 b
cut_here {t} {k} utf8 h end = rw h.is (IsUtf8-append h.prefix (slice_range t h.place k) h.utf8 (IsUtf8-between t h.place k utf8 h.order h.boundary end))

-- text up to a boundary is cut there
cut_at : {t : List ℕ} {k : ℕ} {b : List ℕ} → IsUtf8 b → IsCharBoundary t k → IsCut t k b
cut_at {t} {k} {b} utf8 end =
    record { prefix = b; utf8 = utf8; place = k; boundary = end; order = omega arith; is = rw (between_none t k, append-nil b) refl }

-- one more byte is as it is
cut_more : {t : List ℕ} {k : ℕ} {b : List ℕ} → k < length t → IsCut t k b → IsCut t (k + 1) (b ++ byte t k ∷ [])
cut_more {t} {k} {b} within h =
    let order = h.order in
    let more = between_more t h.place k 0 order within in
    record {
      prefix = h.prefix;
      utf8 = h.utf8;
      place = h.place;
      boundary = h.boundary;
      order = omega arith;
      is = rw (more, h.is) (append_assoc h.prefix (slice_range t h.place k) (byte t k ∷ []));
    }

-- where an ASCII byte is a char begins
before_byte : (t : List ℕ) (k c : ℕ) → byte t k ≡ c → c ≢ 0 → c < 128 → (k < length t) × IsCharBoundary t k
before_byte t k c e some ascii =
    let within : k < length t = byte_within t k (rw e some) in
    (within, IsCharBoundary-before_ascii t k within (rw e ascii))

-- one ASCII byte
one_ascii : (c : ℕ) → c < 128 → IsAscii (c ∷ [])
one_ascii c l zero = l
one_ascii c l (suc i) = omega arith

-- chars after a boundary
chars_cut : {t : List ℕ} {i k : ℕ} {b : List ℕ} → IsUtf8 t → IsCharBoundary t i → AreChars strict t i k b → IsCut t k b
chars_cut utf8 start (no_char e f) = rw (e, f) (cut_at IsUtf8-nil start)
chars_cut {t} utf8 start (one_more {p = p} {b = b} h (unescaped u e f) is) =
    let low = u.0 in
    let within : p < length t = byte_within t p (λ z. omega arith) in
    rw (e, is, f) (cut_more within (chars_cut utf8 start h))
chars_cut {t} utf8 start (one_more {p = p} {b = b} h (short_escape {c = c} o l e f) is) =
    let here = before_byte t p 92 o (λ z. omega arith) (omega arith) in
    let prefix = cut_here utf8 (chars_cut utf8 start h) here.1 in
    let letter = escaped_letter _ c l in
    let within : p + 1 < length t = byte_within t (p + 1) letter.0 in
    let place : p + 2 ≡ p + 1 + 1 = omega arith in
    let after : IsCharBoundary t (p + 2) = rw place (IsCharBoundary-after_ascii t (p + 1) utf8 within letter.2) in
    let one : IsUtf8 (c ∷ []) = IsUtf8-from_ascii (c ∷ []) (one_ascii c letter.3) in
    rw (e, is, f) (cut_at (IsUtf8-append b (c ∷ []) prefix one) after)
chars_cut {t} utf8 start (one_more {p = p} {b = b} {c = c} h (unicode_escape x u) is) =
    let here = before_byte t p 92 x.0 (λ z. omega arith) (omega arith) in
    let prefix = cut_here utf8 (chars_cut utf8 start h) here.1 in
    let char = unicode_text utf8 x u in
    rw is (cut_at (IsUtf8-append b c prefix char.0) char.1)

-- a string of a text that is UTF-8 denotes text
pub string_utf8 : {t : List ℕ} {i j : ℕ} {b : List ℕ} → IsUtf8 t → IsString strict t i j b → IsUtf8 b
string_utf8 {t} {i} utf8 s =
    let begin = before_byte t i 34 s.opens (λ z. omega arith) (omega arith) in
    let start = IsCharBoundary-after_ascii t i utf8 begin.0 (rw s.opens (omega arith)) in
    let close = before_byte t s.close 34 s.closes (λ z. omega arith) (omega arith) in
    cut_here utf8 (chars_cut utf8 start s.chars) close.1

-- and so does one whose contents are UTF-8
pub contents_text : {t : List ℕ} {i j : ℕ} {b : List ℕ} → IsString strict t i j b → j ≤ length t → IsUtf8 (slice_range t (i + 1) (j - 1)) → IsUtf8 b
contents_text {t} {i} {j} {b} s within utf8 =
    let end = s.end in
    let later = chars_later s.chars in
    let u = slice_range t (i + 1) (j - 1) in
    let part = part_is t (i + 1) (j - 1) (omega arith) (omega arith) in
    let long = part_length t (i + 1) (j - 1) (omega arith) (omega arith) in
    let low = no_new_low strict t u s.close (length u) (λ e. omega (arith, e, byte_after u (length u) (omega arith))) in
    let own : AreChars strict u 0 (length u) b = chars_same part (omega arith) (omega arith) low s.chars in
    cut_here utf8 (chars_cut utf8 (IsCharBoundary-start u utf8) own) (IsCharBoundary-end u)

-- the contents of a string of a text that is UTF-8
pub contents_utf8 : {m : Bool} {t : List ℕ} {i j : ℕ} {b : List ℕ} → IsUtf8 t → IsString m t i j b → IsUtf8 (slice_range t (i + 1) (j - 1))
contents_utf8 {t = t} {i} {j} utf8 s =
    let end = s.end in
    let later = chars_later s.chars in
    let begin = before_byte t i 34 s.opens (λ z. omega arith) (omega arith) in
    let start = IsCharBoundary-after_ascii t i utf8 begin.0 (rw s.opens (omega arith)) in
    let close = before_byte t s.close 34 s.closes (λ z. omega arith) (omega arith) in
    let last : s.close ≡ j - 1 = omega arith in
    IsUtf8-between t (i + 1) (j - 1) utf8 (omega arith) start (rw last at close.1)
