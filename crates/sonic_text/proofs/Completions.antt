-- What is missing at the end of a text: bytes that complete an escape, a string, a number or a word.
use Rattle.std.proofs.Common.{◌≡◌, ◌⊎◌, ◌∙◌, ℕ, zero, suc, ◌+◌, ◌-◌, ◌<◌, ◌≤◌, ◌==◌, Bool, true, false, inl, inr, List, [], ◌∷◌, ◌++◌, length, drop, append_assoc, arith, refl, if◌then◌else◌}
use Rattle.std.proofs.lemmas.Bool.{cases_lt, cases_eq}
use Rattle.std.proofs.lemmas.Bool.Decides.{nat_tests}
use Rattle.std.proofs.lemmas.List.{get_or_push, get_or-append_right, get_or-drop, length-append, length-drop}
use Rattle.std.proofs.lemmas.List.Sums.{prefix_len-drop_yes, prefix_len-drop_all}
use Rattle.std.specs.Prelude.{None}
use Rattle.std.specs.Char.{is_ascii_digit}
use Rattle.sonic_error.specs.declared.code.ErrorCode.TheVariants.{EofWhileParsing}
use Rattle.sonic_text.specs.declared.stop.Stop.{Stop}
use Rattle.sonic_text.specs.Places.{byte, digits_end, IsDigit}
use Rattle.sonic_text.specs.Literals.{IsLiteral, IsLiteralFault}
use Rattle.sonic_text.specs.Numbers.{after_minus, after_sign, IsInt, IsFraction, IsExponent, IsE, IsNumber, IsNumberFault}
use Rattle.sonic_text.specs.Numbers.IsNumberFault.{in_int, in_fraction, in_exponent}
use Rattle.sonic_text.specs.Strings.{hex_digit, hex_within, is_low_surrogate_byte, escaped, escape_fault, IsChar, AreChars, IsString, IsEscapeFault, IsStringFault}
use Rattle.sonic_text.specs.Strings.AreChars.{no_char}
use Rattle.sonic_text.specs.Strings.IsStringFault.{control_char, in_escape}
use Rattle.sonic_text.proofs.Places.{byte_after, byte_within, digit_passes}
use Rattle.sonic_text.proofs.Numbers.{fraction_later}
use Rattle.sonic_text.proofs.EscapeFaultLemmas.{Right, right_more}
use Rattle.sonic_text.proofs.EscapeLemmas.{char_never, escape_some}
use Rattle.sonic_text.proofs.StringReadingLemmas.{escape_within}
use Rattle.sonic_text.proofs.Stops.{stop_at_end, escape_known}
use Rattle.sonic_text.proofs.Within.{char_within, chars_within}
use Rattle.sonic_text.proofs.Same.{same_back, same_longer, same_whole, same_byte, agree_at, int_same, fraction_same}
use Rattle.sonic_text.proofs.SameStrings.{NoNewLow, escape_same, no_new_low, char_same, chars_same, chars_then, escape_fault_same}

-- some more bytes complete what ends at the end of the text
pub record Completes (E : List ℕ → ℕ → Type 0) (t : List ℕ) : Type 0 where
  pub missing : List ℕ
  pub complete : E (t ++ missing) (length (t ++ missing))

-- so do these and what completes the text with them
pub complete_more : (E : List ℕ → ℕ → Type 0) (t a : List ℕ) → Completes E (t ++ a) → Completes E t
complete_more E t a h = record { missing = a ++ h.missing; complete = rw (← append_assoc) h.complete }

-- what completes the one completes the other, where the one is the other
pub complete_as : {E F : List ℕ → ℕ → Type 0} {t : List ℕ} → ((u : List ℕ) (j : ℕ) → E u j → F u j) → Completes E t → Completes F t
complete_as f h = record { missing = h.missing; complete = f _ _ h.complete }

-- the byte after the end of the text
pub pushed : (t : List ℕ) (b p : ℕ) → length t ≡ p → byte (t ++ b ∷ []) p ≡ b
pushed t b p e = get_or_push t b 0 p e

-- and the length
pub pushed_length : (t : List ℕ) (b : ℕ) → length (t ++ b ∷ []) ≡ length t + 1
pushed_length t b = omega (arith, length-append t (b ∷ []))

-- a byte that is right n places after a backslash, whatever is before it
unfoldable filler : ℕ → ℕ
filler n = if n == 1 then 34 else if n == 6 then 92 else if n == 7 then 117 else if n == 8 then 100 else if n == 9 then 99 else 48

-- after the digits it is one of a second half
filler_low : (n : ℕ) → 6 ≤ n → is_low_surrogate_byte (n - 6) (filler n) ≡ true
unfolding filler is_low_surrogate_byte hex_within hex_digit
filler_low n l = grind (arith, nat_tests)

-- a 0 is a digit, and the second one of no second half
zero_hex : (b : ℕ) → b ≡ 48 → (hex_within 0 15 b ≡ true) × (hex_within 12 15 b ≡ false)
unfolding hex_within hex_digit
zero_hex b e = (rw e refl, rw e refl)

-- the byte at n
filler_right : (m : Bool) (t : List ℕ) (k n : ℕ) → 0 < n → n < 12 → byte t (k + n) ≡ filler n → escape_fault m t k n ≡ None
unfolding filler escape_fault escaped
filler_right m t k n l o e = elim (cases_eq n 1) [
  | inl q ↦ let f : byte t (k + 1) ≡ 34 = rw q at e in rw (q, f) refl
  | inr q ↦ elim (cases_lt n 6) [
    | inl s ↦ let z : byte t (k + n) ≡ 48 = grind (arith, nat_tests) in let f = zero_hex _ z in grind (arith, nat_tests)
    | inr s ↦ let f : is_low_surrogate_byte (n - 6) (byte t (k + n)) ≡ true = rw e (filler_low n s) in grind (arith, nat_tests)
  ]
]

-- a char from p on
abbrev CharFrom : Bool → ℕ → List ℕ → ℕ → Type 0
CharFrom m p t q = (b : List ℕ) × IsChar m t p q b

-- bytes up to n places after the backslash are right in a longer text, and so is the one after them
right_longer : (m : Bool) (t : List ℕ) (k n : ℕ) → length t ≡ k + n → 0 < n → n < 12 → Right m t k n → Right m (t ++ filler n ∷ []) k (n + 1)
right_longer m t k n e l o r =
    let u = t ++ filler n ∷ [] in
    right_more m u k n
    (λ d y z. escape_fault_same m k d y (same_longer t (filler n ∷ []) (k + d + 1) (omega arith)) ∙ r d y z)
    (filler_right m u k n l o (pushed t (filler n) (k + n) e))

-- a char that is new in a longer text ends after the shorter one
char_new : {m : Bool} {t : List ℕ} {k q : ℕ} {s : Stop} {b : List ℕ} (w : List ℕ) → byte t k ≡ 92 → IsEscapeFault m t k s → IsChar m (t ++ w) k q b → length t < q
char_new {m} {t} {k} {q} w b f c = elim (cases_lt (length t) q) [
  | inl l ↦ l
  | inr l ↦
      let h = same_back (same_longer t w q l) in
      let low : NoNewLow m (t ++ w) t q q = λ r z. (z.0, escape_same (same_longer t w (q + 6) (escape_within t q z.0 z.1)) q q z.0 (omega arith) (omega arith) z.1, z.2) in
      absurd (char_never b (char_same h (omega arith) (omega arith) low c) f)
]

-- an escape that ends too early is completed byte by byte
escape_completes : (m : Bool) (fuel : ℕ) (t : List ℕ) (k : ℕ) (s : Stop) (f : IsEscapeFault m t k s) → length t ≤ k + f.n → byte t k ≡ 92 → k + 12 ≤ length t + fuel
    → Completes (CharFrom m k) t
escape_completes m zero t k s f l b o = absurd (omega (arith, f.after.1))
escape_completes m (suc fuel) t k s f l b o =
    let y : k < length t = byte_within t k (λ z. omega arith) in
    let n = length t - k in
    let u = t ++ filler n ∷ [] in
    let g = f.after in
    let a = pushed_length t (filler n) in
    let r : Right m u k (n + 1) = right_longer m t k n (omega arith) (omega arith) (omega arith) (λ d x z. f.right d x (omega arith)) in
    let z : byte u k ≡ 92 = same_byte (same_whole t (filler n ∷ [])) k y ∙ b in
    elim (escape_some m u k z) [
      | inl (q, (d, c)) ↦
          let i : length t < q = char_new (filler n ∷ []) b f c in
          let j : q ≤ length u = char_within c in
          let p : q ≡ length u = omega arith in
          record { missing = filler n ∷ []; complete = (d, rw p at c) }
      | inr (v, x) ↦
          let j : length u ≤ k + x.n = elim (cases_lt x.n (n + 1)) [
            | inr i ↦ omega arith
            | inl i ↦ (let q = r x.n x.after.0 i in let w = x.wrong in absurd (cc))
          ] in
          complete_more (CharFrom m k) t (filler n ∷ []) (escape_completes m fuel u k v x j z (omega arith))
    ]

-- a string from i on
abbrev pub StringFrom : Bool → ℕ → List ℕ → ℕ → Type 0
StringFrom m i t j = (b : List ℕ) × IsString m t i j b

-- chars after a quote at i
abbrev CharsFrom : Bool → ℕ → List ℕ → ℕ → Type 0
CharsFrom m i t k = (b : List ℕ) × AreChars m t (i + 1) k b

-- a quote completes a string
close_string : (m : Bool) (t : List ℕ) (i : ℕ) → byte t i ≡ 34 → CharsFrom m i t (length t) → Completes (StringFrom m i) t
close_string m t i o (b, cs) =
    let u = t ++ 34 ∷ [] in
    let h = same_whole t (34 ∷ []) in
    let e : byte u (length t) ≡ 34 = pushed t 34 (length t) refl in
    let s : IsString m u i (length u) b = record {
      close = length t;
      opens = same_byte h i (byte_within t i (λ z. omega arith)) ∙ o;
      chars = chars_same h (omega arith) (omega arith) (no_new_low m t u _ (length t) (λ z. omega arith)) cs;
      closes = e;
      end = pushed_length t 34;
    } in
    record { missing = 34 ∷ []; complete = (b, s) }

-- two quotes are a string
pub quotes : (m : Bool) (t : List ℕ) → Completes (StringFrom m (length t)) t
quotes m t =
    complete_more (StringFrom m (length t)) t (34 ∷ [])
    (close_string m (t ++ 34 ∷ []) (length t) (pushed t 34 (length t) refl) ([], no_char (pushed_length t 34) refl))

-- a string that ends too early is completed
pub string_completes : {m : Bool} {t : List ℕ} {i : ℕ} {s : Stop} → byte t i ≡ 34 → IsStringFault m t i s → s.code ≡ EofWhileParsing → Completes (StringFrom m i) t
string_completes {m} {t} {i} {s} o (control_char {k} {b} cs g e) c =
    let l : i < length t = byte_within t i (λ z. omega arith) in
    let n : length t ≤ k = stop_at_end t k _ s e c (λ z. cc) in
    let d : k ≤ length t = chars_within (omega arith) cs in
    let p : k ≡ length t = omega arith in
    close_string m t i o (b, rw p at cs)
string_completes {m} {t} {i} {s} o (in_escape {k} {b} cs g f) c =
    let l : i < length t = byte_within t i (λ z. omega arith) in
    let r : k < length t = byte_within t k (λ z. omega arith) in
    let n : length t ≤ k + f.n = stop_at_end t (k + f.n) f.code s f.stop c (escape_known m t k f.n f.wrong).1 in
    let x = escape_completes m 12 t k s f n g (omega arith) in
    let u = t ++ x.missing in
    let y = chars_then (same_longer t x.missing k (omega arith)) cs x.complete.1 in
    complete_more (StringFrom m i) t x.missing (close_string m u i (same_byte (same_whole t x.missing) i l ∙ o) y)

-- a number from i on
abbrev pub NumberFrom : ℕ → List ℕ → ℕ → Type 0
NumberFrom i t j = IsNumber t i j

-- after the end is no digit
no_digit_after : (t : List ℕ) (p : ℕ) → length t ≤ p → ¬ IsDigit (byte t p)
no_digit_after t p l d = omega (arith, byte_after t p l, d)

-- at the end is no fraction, and no exponent
no_fraction : (t : List ℕ) → IsFraction t (length t) (length t)
no_fraction t = inr (rw (byte_after t (length t) (omega arith)) (λ z. omega arith), refl)

no_exponent : (t : List ℕ) → IsExponent t (length t) (length t)
no_exponent t = let e = byte_after t (length t) (omega arith) in inr ((λ z. elim z [ inl x ↦ omega arith | inr x ↦ omega arith ]), refl)

-- a minus sign is one byte
minus_at_most : (t : List ℕ) (i : ℕ) → after_minus t i ≤ i + 1
minus_at_most t i = grind (arith, nat_tests)

module _ (t : List ℕ) where
  -- the text and a 0
  abbrev zeroed : List ℕ
  zeroed = t ++ 48 ∷ []

  -- the 0 is a digit, and the last one
  zero_digit : (d : ℕ) → length t ≡ d → IsDigit (byte zeroed d) × (length zeroed ≡ digits_end zeroed d)
  zero_digit d e =
      let b : byte zeroed d ≡ 48 = pushed t 48 d e in
      let l = pushed_length t 48 in
      let g : IsDigit (byte zeroed d) = (omega arith, omega arith) in (
        g,
        omega (arith, prefix_len-drop_yes is_ascii_digit zeroed d 0 (omega arith) (digit_passes _ g), prefix_len-drop_all is_ascii_digit zeroed (d + 1) (omega arith)),
      )

  -- a sign that ends at the end of the text does so before the 0
  zero_sign : (i : ℕ) → i ≤ length t → length t ≤ after_sign t i → (length t ≡ after_sign t i) × (after_sign zeroed i ≡ length t)
  zero_sign i l o = elim (cases_lt i (length t)) [
    | inl g ↦ let b = same_byte (same_whole t (48 ∷ [])) i g in (grind (arith, nat_tests), grind (arith, nat_tests))
    | inr g ↦ let b = byte_after t i g in let c = pushed t 48 i (omega arith) in (grind (arith, nat_tests), grind (arith, nat_tests))
  ]

  -- where the parts of a number end with the 0, it completes the number
  zero_completes : (i w v : ℕ) → i < length t → IsInt zeroed (after_minus t i) w → IsFraction zeroed w v → IsExponent zeroed v (length zeroed)
      → Completes (NumberFrom i) t
  zero_completes i w v l n f e =
      let q : after_minus zeroed i ≡ after_minus t i = rw (same_byte (same_whole t (48 ∷ [])) i l) refl in
      record { missing = 48 ∷ []; complete = record { int_end = w; fraction_end = v; int = rw q n; fraction = f; exponent = e } }

-- a number begins within the text
number_starts_within : (t : List ℕ) (i : ℕ) → (byte t i ≡ 45) ⊎ IsDigit (byte t i) → i < length t
number_starts_within t i (inl e) = byte_within t i (λ z. omega arith)
number_starts_within t i (inr h) = byte_within t i (λ z. omega arith)

-- a 0 completes a number
pub number_completes : {t : List ℕ} {i : ℕ} {s : Stop} → (byte t i ≡ 45) ⊎ IsDigit (byte t i) → IsNumberFault t i s → s.code ≡ EofWhileParsing
    → Completes (NumberFrom i) t
number_completes {t} {i} {s} b (in_int (inr f)) c = absurd (no_digit_after t (after_minus t i + 1) (stop_at_end t _ _ s f.2 c (λ z. cc)) f.1)
number_completes {t} {i} {s} b (in_int (inl f)) c =
    let u = zeroed t in
    let l = number_starts_within t i b in
    let p = after_minus t i in
    let n : length t ≤ p = stop_at_end t p _ s f.1 c (λ z. cc) in
    let a = minus_at_most t i in
    let r = pushed_length t 48 in
    zero_completes t i (length u) (length u) l (inl (pushed t 48 p (omega arith), no_digit_after u (p + 1) (omega arith), omega arith)) (no_fraction u) (no_exponent u)
number_completes {t} {i} {s} b (in_fraction {w} d f) c =
    let u = zeroed t in
    let h = same_whole t (48 ∷ []) in
    let y = f.0 in
    let o : w < length t = byte_within t w (λ z. omega arith) in
    let n : length t ≤ w + 1 = stop_at_end t (w + 1) _ s f.2 c (λ z. cc) in
    let g : IsInt u (after_minus t i) w = int_same _ _ (omega arith) (agree_at h w w (omega arith) o) d in
    let (k, q) = zero_digit t (w + 1) (omega arith) in
    zero_completes t i w (length u) (number_starts_within t i b) g (inl (same_byte h w o ∙ y, k, q)) (no_exponent u)
number_completes {t} {i} {s} b (in_exponent {w} {f = v} d a f) c =
    let u = zeroed t in
    let h = same_whole t (48 ∷ []) in
    let o : v < length t = byte_within t v (λ z. elim f.0 [ inl q ↦ omega arith | inr q ↦ omega arith ]) in
    let n : length t ≤ after_sign t (v + 1) = stop_at_end t _ _ s f.2 c (λ z. cc) in
    let (y, z) = zero_sign t (v + 1) (omega arith) n in
    let m = fraction_later t w v a in
    let g : IsInt u (after_minus t i) w = int_same _ _ (omega arith) (agree_at h w w (omega arith) (omega arith)) d in
    let j : IsFraction u w v = fraction_same w w (omega arith) (agree_at h v v (omega arith) o) a in
    let starts : IsE (byte u v) = rw (same_byte h v o) f.0 in
    let (k, q) = zero_digit t (length t) refl in
    zero_completes t i w v (number_starts_within t i b) g j (inl (starts, rw z k, rw z q))

-- a word from i on
abbrev pub LiteralFrom : List ℕ → ℕ → List ℕ → ℕ → Type 0
LiteralFrom word i t j = IsLiteral word t i j

-- the letters that are missing complete a word
pub literal_completes : {word t : List ℕ} {i : ℕ} {s : Stop} → IsLiteralFault word t i s → s.code ≡ EofWhileParsing → Completes (LiteralFrom word i) t
literal_completes {word} {t} {i} {s} f c =
    let rest = drop f.n word in
    let u = t ++ rest in
    let n : length t ≤ i + f.n = stop_at_end t (i + f.n) _ s f.stop c (λ z. cc) in
    let l = f.letters.0 in
    let o = f.shorter in
    let e : length u ≡ i + length word = omega (arith, length-append t rest, length-drop f.n word) in
    let letter : (k : ℕ) → k < length word → byte u (i + k) ≡ byte word k = λ k z. elim (cases_lt k f.n) [
      | inl g ↦ same_byte (same_whole t rest) (i + k) (omega arith) ∙ f.letters.1 k g
      | inr g ↦
          let a = get_or-append_right t rest (i + f.n) (i + k) 0 (omega arith) (omega arith) in
          let q : f.n + (i + k - (i + f.n)) ≡ k = omega arith in
          a ∙ get_or-drop f.n word (i + k - (i + f.n)) 0 ∙ rw q refl
    ] in
    record { missing = rest; complete = ((omega arith, letter), e) }
