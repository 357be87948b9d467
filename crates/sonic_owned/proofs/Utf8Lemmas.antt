-- The text of a sound form is UTF-8.
use Rattle.std.proofs.Common.{◌≡◌, ap, refl, sym, ℕ, zero, suc, ◌<◌, ◌≤◌, ◌&&◌, Bool, true, List, [], ◌∷◌, ◌++◌, length, get_or, inl, inr, nat_lt, arith, Some, None}
use Rattle.std.proofs.lemmas.Bool.{and_parts, cases_eq, cases_lt, ltb-true}
use Rattle.std.proofs.lemmas.Bool.Decides.{nat_tests}
use Rattle.std.proofs.lemmas.Grind.{flat_map-append}
use Rattle.std.proofs.lemmas.List.{append-nil}
use Rattle.std.proofs.lemmas.Str.{encode_ascii, inside_one, IsUtf8-append, IsUtf8-encode, IsUtf8-from_ascii, IsUtf8-nil}
use Rattle.std.proofs.Math.Utf8.{encode, encodes, scalar, scalars}
use Rattle.std.specs.Char.{IsScalar}
use Rattle.std.specs.Str.{IsAscii, IsUtf8}
use Rattle.sonic_owned.specs.Forms.{Form, Members, IsLabel, IsSound, raw_sound, level_sound, AreSound, none_sound, item_sound, label_text, members_text, text}
use Rattle.sonic_text.specs.Quoting.{digit, quoted_byte, quoted_bytes, quoted}
use Rattle.sonic_text.specs.Values.{opening, closing}
use Rattle.sonic_text.specs.declared.kind.Kind.{Kind}
use Rattle.sonic_text.specs.declared.kind.Kind.TheVariants.{Array, Object}
use Rattle.std.specs.Prelude.{Option}

-- all of these are ASCII
unfoldable all_ascii : List ℕ → Bool
all_ascii [] = true
all_ascii (x ∷ xs) = nat_lt x 128 && all_ascii xs

ascii_all : (xs : List ℕ) → all_ascii xs ≡ true → IsAscii xs
unfolding all_ascii
ascii_all [] h i = omega arith
ascii_all (x ∷ xs) h zero = ltb-true x 128 (and_parts (nat_lt x 128) (all_ascii xs) h).0
ascii_all (x ∷ xs) h (suc i) = ascii_all xs (and_parts (nat_lt x 128) (all_ascii xs) h).1 i

-- so is each quoted byte below n
unfoldable all_quoted : ℕ → Bool
all_quoted zero = true
all_quoted (suc n) = all_ascii (quoted_byte n) && all_quoted n

quoted_below : (n : ℕ) → all_quoted n ≡ true → (b : ℕ) → b < n → all_ascii (quoted_byte b) ≡ true
unfolding all_quoted
quoted_below zero h b l = absurd (omega arith)
quoted_below (suc n) h b l =
    let both = and_parts (all_ascii (quoted_byte n)) (all_quoted n) h in
    elim (cases_eq b n) [ inl same ↦ rw same both.0 | inr other ↦ quoted_below n both.1 b (omega arith) ]

-- an ASCII byte is quoted in ASCII
byte_ascii : (b : ℕ) → b < 128 → IsAscii (quoted_byte b)
unfolding all_ascii all_quoted quoted_byte digit
byte_ascii b l = ascii_all (quoted_byte b) (quoted_below 128 refl b l)

-- another byte as it is
byte_kept : (b : ℕ) → 128 ≤ b → quoted_byte b ≡ b ∷ []
unfolding quoted_byte
byte_kept b l = grind (arith, nat_tests)

bytes_kept : (xs : List ℕ) → ((i : ℕ) → i < length xs → 128 ≤ get_or xs i 0) → quoted_bytes xs ≡ xs
bytes_kept [] h = refl
bytes_kept (x ∷ xs) h = rw (byte_kept x (h 0 (omega arith))) (ap (λ ys. x ∷ ys) (bytes_kept xs (λ i l. h (suc i) (omega arith))))

-- no byte of another character is ASCII
char_high : (c : ℕ) → 128 ≤ c → (i : ℕ) → i < length (encode c) → 128 ≤ get_or (encode c) i 0
char_high c high i l = elim (cases_lt (get_or (encode c) i 0) 128) [
  | inl low ↦ (let same = inside_one c [] (encode c) i (sym (append-nil (encode c))) l low in absurd (omega (arith, same, low, high)))
  | inr other ↦ other
]

-- a character
char_utf8 : (c : ℕ) → IsScalar c → IsUtf8 (quoted_bytes (encode c))
char_utf8 c is = elim (cases_lt c 128) [
  | inl low ↦ rw (encode_ascii c low, append-nil (quoted_byte c)) (IsUtf8-from_ascii (quoted_byte c) (byte_ascii c low))
  | inr high ↦ rw (bytes_kept (encode c) (char_high c high)) (IsUtf8-encode c is)
]

-- characters
chars_utf8 : (cs : List ℕ) → scalars cs ≡ true → IsUtf8 (quoted_bytes (encodes cs))
chars_utf8 [] h = IsUtf8-nil
chars_utf8 (c ∷ cs) h =
    let both = and_parts (scalar c) (scalars cs) h in
    rw (flat_map-append quoted_byte (encode c) (encodes cs)) (IsUtf8-append _ _ (char_utf8 c both.0) (chars_utf8 cs both.1))

-- a mark
one_ascii : (b : ℕ) → b < 128 → IsAscii (b ∷ [])
one_ascii b l zero = l
one_ascii b l (suc i) = omega arith

mark_utf8 : (b : ℕ) → b < 128 → IsUtf8 (b ∷ [])
mark_utf8 b l = IsUtf8-from_ascii (b ∷ []) (one_ascii b l)

-- what is quoted of a text in UTF-8 is UTF-8
pub quoted_utf8 : {b : List ℕ} → IsUtf8 b → IsUtf8 (quoted b)
quoted_utf8 {b} u =
    let contents : IsUtf8 (quoted_bytes b) = rw u.1.1 at (chars_utf8 u.0 u.1.0) in
    let quote = mark_utf8 34 (omega arith) in
    IsUtf8-append (34 ∷ []) (quoted_bytes b ++ 34 ∷ []) quote (IsUtf8-append (quoted_bytes b) (34 ∷ []) contents quote)

-- so is what comes before an item's value
label_utf8 : (kind : Kind) (l : Option (List ℕ)) → IsLabel kind l → IsUtf8 (label_text l)
label_utf8 kind None label = IsUtf8-nil
label_utf8 Array (Some k) label = absurd cc
label_utf8 Object (Some k) label =
    let same : label.0 ≡ k = cc in
    let utf8 : IsUtf8 k = rw same at label.2 in
    IsUtf8-append (quoted k) (58 ∷ []) (quoted_utf8 utf8) (mark_utf8 58 (omega arith))

opening_ascii : (kind : Kind) → opening kind < 128
opening_ascii Array = omega arith
opening_ascii Object = omega arith

closing_ascii : (kind : Kind) → closing kind < 128
closing_ascii Array = omega arith
closing_ascii Object = omega arith

mutual
  -- and the text of a sound form
  pub text_utf8 : {f : Form} → IsSound f → IsUtf8 (text f)
  text_utf8 (raw_sound x u) = u
  text_utf8 (level_sound {kind} ms) =
      IsUtf8-append (opening kind ∷ []) _ (mark_utf8 _ (opening_ascii kind)) (IsUtf8-append _ (closing kind ∷ []) (members_utf8 IsUtf8-nil ms) (mark_utf8 _ (closing_ascii kind)))

  members_utf8 : {before : List ℕ} {kind : Kind} {ms : Members} → IsUtf8 before → AreSound kind ms → IsUtf8 (members_text before ms)
  members_utf8 u none_sound = IsUtf8-nil
  members_utf8 u (item_sound {kind} {l} label f ms) =
      IsUtf8-append _ _ u (IsUtf8-append _ _ (label_utf8 kind l label) (IsUtf8-append _ _ (text_utf8 f) (members_utf8 (mark_utf8 44 (omega arith)) ms)))
