-- The steps of the loops that read a string: what is known before a step and what the step found give what is known after it.
use Rattle.std.proofs.Common.{◌≡◌, ◌≢◌, inl, inr, ℕ, zero, suc, ◌+◌, ◌-◌, ◌^◌, ◌/◌, ◌%◌, ◌<◌, ◌≤◌, ◌==◌, ap, Bool, true, false, not, List, length, arith, refl, sym, ◌∙◌, subst}
use Rattle.std.proofs.lemmas.Nat.{shr-shr}
use Rattle.std.proofs.lemmas.Bool.{cases_lt}
use Rattle.std.proofs.lemmas.Bool.Decides.{nat_tests}
use Rattle.sonic_error.specs.declared.code.ErrorCode.TheVariants.{ControlCharacterWhileParsingString}
use Rattle.sonic_text.specs.declared.stop.Stop.{Stop}
use Rattle.sonic_text.specs.Places.{byte, stop_at}
use Rattle.sonic_blocks.specs.Bits.{is_set, IsNextBit}
use Rattle.sonic_blocks.specs.Runs.{is_plain}
use Rattle.sonic_text.specs.Internal.Reading.{AreSpecial, IsLeftOf, IsInString, EndsString}
use Rattle.sonic_text.specs.Strings.{AreChars, IsChar, IsEscapeFault, IsEscapedString, IsStringFault, IsUnescaped}
use Rattle.sonic_text.proofs.Places.{byte_within}
use Rattle.sonic_text.proofs.Strings.{chars_later}
use Rattle.sonic_text.specs.Strings.IsChar.{unescaped}
use Rattle.sonic_text.specs.Strings.AreChars.{no_char, one_more}
use Rattle.sonic_text.specs.Strings.IsStringFault.{control_char, in_escape}

-- the bytes that the tests by lanes pass are those that denote themselves
pub plain_unescaped : (b : ℕ) → is_plain b ≡ true → IsUnescaped b
plain_unescaped b h = grind (arith, nat_tests)

pub unescaped_plain : (b : ℕ) → IsUnescaped b → is_plain b ≡ true
unescaped_plain b h = grind (arith, nat_tests)

-- bytes from p to q that denote themselves
abbrev pub ArePlain : List ℕ → ℕ → ℕ → Type 0
ArePlain t p q = (k : ℕ) → p ≤ k → k < q → IsUnescaped (byte t k)

not_special : (b : Bool) → not b ≡ false → b ≡ true
not_special true h = refl
not_special false h = absurd cc

-- a byte of a block without a bit
no_special : {t : List ℕ} {p word k : ℕ} → AreSpecial t p word → p ≤ k → k < p + 32 → is_set word (k - p) ≡ false → IsUnescaped (byte t k)
no_special {t} {p} {k = k} special from to clear =
    let here : p + (k - p) ≡ k = omega arith in
    plain_unescaped (byte t k) (subst (λ q. is_plain (byte t q) ≡ true) here (not_special _ (sym (special.bits (k - p) (omega arith)) ∙ clear)))

-- up to the next bit of a block, or to its end
pub plain_to_special : {t : List ℕ} {p word n k : ℕ} → AreSpecial t p word → IsNextBit word n k → ArePlain t (p + n) (p + k)
plain_to_special {p = p} {k = k} special next q from to =
    let few = special.few k next.here in
    no_special special (omega arith) (omega arith) (next.before (q - p) (omega arith) (omega arith))

pub plain_to_end : {t : List ℕ} {p word n : ℕ} → AreSpecial t p word → ((k : ℕ) → n ≤ k → k < 64 → is_set word k ≡ false) → ArePlain t (p + n) (p + 32)
plain_to_end {p = p} special clear q from to = no_special special (omega arith) to (clear (q - p) (omega arith) (omega arith))

-- a word that is shifted has the bits from there on
set_shr : (n s k : ℕ) → is_set (n / 2 ^ s) k ≡ is_set n (s + k)
unfolding is_set
set_shr n s k = ap (λ q. q % 2 == 1) (shr-shr n s k)

pub left_after : {word n left m : ℕ} (s : ℕ) → m ≡ n + s → IsLeftOf word n left → IsLeftOf word m (left / 2 ^ s)
left_after {word} {n} {left} {m} s e same = record {
  bits = λ k.
      let there : n + (s + k) ≡ m + k = omega arith in
      set_shr left s k ∙ same.bits (s + k) ∙ ap (is_set word) there;
}

-- so its lowest bit is the next one of the other
pub next_of_left : {t : List ℕ} {p word n left k : ℕ} → AreSpecial t p word → IsLeftOf word n left → IsNextBit left 0 k → IsNextBit word n (n + k)
next_of_left {word = word} {n} {k = k} special same next =
    let here : is_set word (n + k) ≡ true = sym (same.bits k) ∙ next.here in
    let few = special.few (n + k) here in
    record {
      later = omega arith;
      within = omega (arith, few);
      here = here;
      before = λ j from to.
          let back : n + (j - n) ≡ j = omega arith in
          subst (λ q. is_set word q ≡ false) back (sym (same.bits (j - n)) ∙ next.before (j - n) (omega arith) (omega arith));
    }

-- and where it has none, the other has none from n on
pub none_of_left : {word n left : ℕ} → IsLeftOf word n left → ((k : ℕ) → 0 ≤ k → k < 64 → is_set left k ≡ false) → (k : ℕ) → n ≤ k → k < 64 → is_set word k ≡ false
none_of_left {word} {n} same clear k from to =
    let back : n + (k - n) ≡ k = omega arith in
    subst (λ q. is_set word q ≡ false) back (sym (same.bits (k - n)) ∙ clear (k - n) (omega arith) (omega arith))

-- are chars
plain_chars : {m : Bool} {t : List ℕ} {i p : ℕ} (n : ℕ) → ArePlain t p (p + n) → ((b : List ℕ) × AreChars m t i p b) → (b : List ℕ) × AreChars m t i (p + n) b
plain_chars {m} {t} {i} zero plain fits = subst (λ k. (b : List ℕ) × AreChars m t i k b) (omega arith) fits
plain_chars {p = p} (suc n) plain fits =
    (_, one_more (plain_chars n (λ k from to. plain k from (omega arith)) fits).1 (unescaped (plain (p + n) (omega arith) (omega arith)) (omega arith) refl) refl)

-- after the opening quote
pub opened : {m : Bool} {t : List ℕ} {i : ℕ} → byte t i ≡ 34 → IsInString m t i (i + 1)
opened {t = t} {i} quote =
    let inside = byte_within t i (λ e. omega arith) in
    record { opens = quote; later = omega arith; within = omega (arith, inside); bytes = List.[]; chars = no_char refl refl }

-- past plain bytes
pub past_plain : {m : Bool} {t : List ℕ} {i p q : ℕ} → p ≤ q → q ≤ length t → ArePlain t p q → IsInString m t i p → IsInString m t i q
past_plain {m} {t} {i} {p} {q} later within plain s =
    let back : p + (q - p) ≡ q = omega arith in
    let chars = plain_chars (q - p) (λ k from to. plain k from (omega arith)) (s.bytes, s.chars) in
    record { opens = s.opens; later = omega (arith, s.later); within = within; bytes = chars.0; chars = subst (λ k. AreChars m t (i + 1) k chars.0) back chars.1 }

-- past those before the next special byte of a block
pub past_special : {m : Bool} {t : List ℕ} {i p word n k : ℕ} → AreSpecial t p word → IsNextBit word n k → IsInString m t i (p + n) → IsInString m t i (p + k)
past_special special next s =
    let few = special.few _ next.here in
    past_plain (omega (arith, next.later)) (omega (arith, special.within, few)) (plain_to_special special next) s

-- the same where a word has the bits from a place on
pub past_left : {m : Bool} {t : List ℕ} {i p q word left k : ℕ} → p ≤ q → AreSpecial t p word → IsLeftOf word (q - p) left → IsNextBit left 0 k → IsInString m t i q
    → (q + k < p + 32) × IsInString m t i (q + k)
past_left {m} {t} {i} {p} {q} {k = k} later special same next s =
    let stop = next_of_left special same next in
    let few = special.few _ stop.here in
    let here : q ≡ p + (q - p) = omega arith in
    let there : p + (q - p + k) ≡ q + k = omega arith in
    (omega arith, subst (λ j. IsInString m t i j) there (past_special special stop (subst (λ j. IsInString m t i j) here s)))

-- and to the end of the block, where it has no bit
pub past_block : {m : Bool} {t : List ℕ} {i p q word left : ℕ} → p ≤ q → q ≤ p + 32 → AreSpecial t p word → IsLeftOf word (q - p) left → ((k : ℕ) → 0 ≤ k → k < 64 → is_set left k ≡ false)
    → IsInString m t i q → IsInString m t i (p + 32)
past_block {t = t} {p = p} {q} later within special same clear s =
    let here : p + (q - p) ≡ q = omega arith in
    past_plain within special.within (subst (λ j. ArePlain t j (p + 32)) here (plain_to_end special (none_of_left same clear))) s

-- past a char
pub past_char : {m : Bool} {t : List ℕ} {i p q : ℕ} {b : List ℕ} → p < q → q ≤ length t → IsChar m t p q b → IsInString m t i p → IsInString m t i q
past_char later within char s = record { opens = s.opens; later = omega (arith, s.later); within = within; bytes = _; chars = one_more s.chars char refl }

-- at the closing quote
pub closed : {m : Bool} {t : List ℕ} {i p : ℕ} → byte t p ≡ 34 → p + 1 ≤ length t → IsInString m t i p → EndsString m t i (p + 1)
closed {p = p} quote within s = (omega (arith, s.later), within, s.bytes, record { close = p; opens = s.opens; chars = s.chars; closes = quote; end = refl })

-- at a byte that is neither plain, nor a quote or a backslash
pub control_here : {m : Bool} {t : List ℕ} {i p : ℕ} {s : Stop} → ¬ IsUnescaped (byte t p) → byte t p ≢ 34 → byte t p ≢ 92 → s ≡ stop_at t p ControlCharacterWhileParsingString
    → IsInString m t i p → IsStringFault m t i s
control_here {t = t} {p = p} other quote backslash e s =
    let low : byte t p < 32 = elim (cases_lt (byte t p) 32) [ inl l ↦ l | inr h ↦ absurd (other (h, quote, backslash)) ] in
    control_char s.chars low e

-- at a backslash whose escape has a fault
pub escape_here : {m : Bool} {t : List ℕ} {i p : ℕ} {s : Stop} → byte t p ≡ 92 → IsEscapeFault m t p s → IsInString m t i p → IsStringFault m t i s
escape_here backslash f s = in_escape s.chars backslash f

-- a string with plain bytes up to its end has no backslash
pub none_escaped : (t : List ℕ) {i p : ℕ} → ArePlain t (i + 1) p → ¬ IsEscapedString t i (p + 1)
none_escaped t plain (quote, k, later, before, backslash) = (plain k (omega arith) (omega arith)).2 backslash

-- and one with plain bytes up to a backslash has one
pub some_escaped : {m : Bool} {t : List ℕ} {i p j : ℕ} → i + 1 ≤ p → ArePlain t (i + 1) p → byte t p ≡ 92 → EndsString m t i j → IsEscapedString t i j
some_escaped {t = t} {i} {p} later plain backslash (longer, within, b, string) =
    let from = chars_later string.chars in
    let no_quote : string.close ≡ p → ⊥ = λ e. (let same : byte t p ≡ 34 = subst (λ k. byte t k ≡ 34) e string.closes in let no : ⊥ = omega arith in no) in
    let after : p ≤ string.close = elim (cases_lt string.close p) [ inl before ↦ absurd ((plain string.close from before).1 string.closes) | inr l ↦ l ] in
    (string.opens, p, omega arith, omega (arith, string.end, after, no_quote), backslash)
