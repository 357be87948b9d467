-- What a text holds ends within it.
use Rattle.std.proofs.Common.{◌≡◌, ◌≢◌, inl, inr, ℕ, ◌+◌, ◌<◌, ◌≤◌, List, Bool, length, drop, arith}
use Rattle.std.proofs.lemmas.List.{length-drop}
use Rattle.std.proofs.lemmas.List.Sums.{prefix_len-le-length}
use Rattle.std.specs.Prelude.{Option}
use Rattle.std.specs.Char.{is_ascii_digit}
use Rattle.sonic_text.specs.declared.kind.Kind.{Kind}
use Rattle.sonic_text.specs.Places.{byte, is_space, after_space, digits_end}
use Rattle.sonic_text.specs.Numbers.{after_minus, after_sign, IsInt, IsNumber, IsE}
use Rattle.sonic_text.specs.Strings.{IsEscape, IsUnicodeChar, IsChar, AreChars}
use Rattle.sonic_text.specs.Strings.IsUnicodeChar.{scalar, pair, lone_high, lone_low}
use Rattle.sonic_text.specs.Strings.IsChar.{unescaped, short_escape, unicode_escape}
use Rattle.sonic_text.specs.Strings.AreChars.{no_char, one_more}
use Rattle.sonic_text.specs.Values.{IsValue, IsKey, ItemHead, no_head, key_head, ItemsFit, first_item, next_item}
use Rattle.sonic_text.specs.Values.IsValue.{null_literal, true_literal, false_literal, number, string, empty, filled}
use Rattle.sonic_text.proofs.EscapeFaultLemmas.{escaped_letter}
use Rattle.sonic_text.proofs.HexDigitLemmas.{hex4_within}
use Rattle.sonic_text.proofs.Numbers.{Tail}
use Rattle.sonic_text.proofs.Items.{opening_not_end, closing_not_end}
use Rattle.sonic_text.proofs.Places.{byte_within}

-- white space ends within the text
pub after_space_within : (t : List ℕ) (i : ℕ) → i ≤ length t → after_space t i ≤ length t
after_space_within t i l = omega (arith, prefix_len-le-length is_space (drop i t), length-drop i t)

-- digits end within the text
digits_within : (t : List ℕ) (i : ℕ) → i ≤ length t → digits_end t i ≤ length t
digits_within t i l = omega (arith, prefix_len-le-length is_ascii_digit (drop i t), length-drop i t)

-- so does an integer
int_within : (t : List ℕ) (i j : ℕ) → IsInt t i j → j ≤ length t
int_within t i j (inl h) = let l = byte_within t i (λ z. omega (arith, h.0, z)) in omega (arith, h.2)
int_within t i j (inr h) =
    let l = byte_within t i (λ z. omega (arith, h.0, z)) in
    omega (arith, h.2, digits_within t i (omega arith))

-- a fraction or an exponent
tail_within : (t : List ℕ) (Starts : Type 0) (d i j : ℕ) → Tail t Starts d i j → i ≤ length t → j ≤ length t
tail_within t Starts d i j (inl h) l =
    let m = byte_within t d (λ z. omega (arith, h.1, z)) in
    omega (arith, h.2, digits_within t d (omega arith))
tail_within t Starts d i j (inr h) l = omega (arith, h.1)

-- a number
number_within : (t : List ℕ) (i j : ℕ) → IsNumber t i j → j ≤ length t
number_within t i j h =
    let w = int_within t (after_minus t i) h.int_end h.int in
    let f = tail_within t (byte t h.int_end ≡ 46) (h.int_end + 1) h.int_end h.fraction_end h.fraction w in
    tail_within t (IsE (byte t h.fraction_end)) (after_sign t (h.fraction_end + 1)) h.fraction_end j h.exponent f

-- a char that an escape begins
unicode_within : {m : Bool} {t : List ℕ} {p n q : ℕ} {b : List ℕ} → IsEscape t p n → IsUnicodeChar m t p n q b → q ≤ length t
unicode_within x (scalar h l e o) = omega (arith, hex4_within x.2)
unicode_within x (pair h y l e o) = omega (arith, hex4_within y.2)
unicode_within x (lone_high r h l e o) = omega (arith, hex4_within x.2)
unicode_within x (lone_low r h e o) = omega (arith, hex4_within x.2)

-- a char
pub char_within : {m : Bool} {t : List ℕ} {p q : ℕ} {b : List ℕ} → IsChar m t p q b → q ≤ length t
char_within {t = t} {p} (unescaped h e o) = let l : p < length t = byte_within t p (λ z. omega arith) in omega arith
char_within {t = t} {p} (short_escape h f e o) = let l = byte_within t (p + 1) (escaped_letter _ _ f).0 in omega arith
char_within (unicode_escape x y) = unicode_within x y

-- chars
pub chars_within : {m : Bool} {t : List ℕ} {i k : ℕ} {b : List ℕ} → i ≤ length t → AreChars m t i k b → k ≤ length t
chars_within l (no_char e o) = omega arith
chars_within l (one_more us c o) = char_within c

-- what ends after a byte that isn't 0 ends within the text
byte_ends : (t : List ℕ) (q j : ℕ) → byte t q ≢ 0 → j ≡ q + 1 → j ≤ length t
byte_ends t q j b e = let l = byte_within t q b in omega arith

-- and so does a value
pub value_within : {m : Bool} {t : List ℕ} {i j : ℕ} → IsValue m t i j → j ≤ length t
value_within (null_literal h) = omega (arith, h.0.0, h.1)
value_within (true_literal h) = omega (arith, h.0.0, h.1)
value_within (false_literal h) = omega (arith, h.0.0, h.1)
value_within {t = t} {i} {j} (number h) = number_within t i j h
value_within {t = t} {j = j} (string h) = byte_ends t h.close j (λ z. let c = h.closes in omega arith) h.end
value_within {t = t} {i} {j} (empty kind b c q) = byte_ends t (after_space t (i + 1)) j (λ z. closing_not_end kind (omega (arith, c, z))) q
value_within {t = t} {j = j} (filled {kind} {e = e} is y x c q) = byte_ends t (after_space t e) j (λ z. closing_not_end kind (omega (arith, c, z))) q

-- what is expected after white space that follows a byte that isn't 0 is expected within the text
value_start_within : (t : List ℕ) (q v : ℕ) → byte t q ≢ 0 → v ≡ after_space t (q + 1) → v ≤ length t
value_start_within t q v b e = let l = byte_within t q b in omega (arith, after_space_within t (q + 1) (omega arith))

-- an item
pub items_within : {m : Bool} {t : List ℕ} {kind : Kind} {i n h : ℕ} → ItemsFit m t kind i n h → h ≤ length t
items_within {t = t} {kind} {i} {h = h} (first_item b q d e) = value_start_within t i h (λ z. opening_not_end kind (omega arith)) q
items_within {t = t} {h = h} (next_item {e = e} is y x c q o) = value_start_within t (after_space t e) h (λ z. omega (arith, c, z)) q

-- a member's value
pub key_within : {m : Bool} {t : List ℕ} {k v : ℕ} {b : List ℕ} → IsKey m t k v b → v ≤ length t
key_within {t = t} {v = v} h = value_start_within t (after_space t h.end) v (λ z. let c = h.colon in omega arith) h.value_start

-- an item's value
pub head_within : {m : Bool} {t : List ℕ} {kind : Kind} {h v : ℕ} {l : Option (List ℕ)} → ItemHead m t kind h v l → h ≤ length t → v ≤ length t
head_within (no_head e) l = omega arith
head_within (key_head y) l = key_within y
