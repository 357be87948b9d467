-- What a string without a backslash denotes.
use Rattle.std.proofs.Common.{◌≡◌, ◌≢◌, inl, inr, ℕ, ◌+◌, ◌-◌, ◌≤◌, Bool, List, length, arith, refl, sym}
use Rattle.std.proofs.lemmas.Bool.{cases_eq}
use Rattle.std.proofs.lemmas.List.Edits.{between_none, between_more}
use Rattle.std.specs.Prelude.{slice_range}
use Rattle.sonic_text.specs.Places.{byte}
use Rattle.sonic_text.specs.Strings.{AreChars, IsString, IsEscapedString}
use Rattle.sonic_text.specs.Strings.IsChar.{unescaped, short_escape, unicode_escape}
use Rattle.sonic_text.specs.Strings.AreChars.{no_char, one_more}
use Rattle.sonic_text.proofs.Strings.{chars_later}

-- no backslash is from i to k
abbrev HasNone : List ℕ → ℕ → ℕ → Type 0
HasNone t i k = (p : ℕ) → i ≤ p → p ≤ k → byte t p ≢ 92

-- chars without a backslash denote themselves
plain_chars : {m : Bool} {t : List ℕ} {i k : ℕ} {b : List ℕ} → AreChars m t i k b → HasNone t i k → k ≤ length t → b ≡ slice_range t i k
plain_chars {t = t} {i} (no_char e f) plain within = rw (e, f) (sym (between_none t i))
plain_chars {t = t} {i} (one_more {p = p} h (unescaped u e f) is) plain within =
    let start = chars_later h in
    let before = plain_chars h (λ q l n. plain q l (omega arith)) (omega arith) in
    rw (is, before, f, e) (sym (between_more t i p 0 start (omega arith)))
plain_chars (one_more {p = p} h (short_escape o l e f) is) plain within = absurd (plain p (chars_later h) (omega arith) o)
plain_chars {m} {t} {k = k} (one_more {p = p} {c = c} h (unicode_escape x u) is) plain within =
    let last : AreChars m t p k c = one_more (no_char refl refl) (unicode_escape x u) refl in
    absurd (plain p (chars_later h) (chars_later last) x.0)

-- a string without a backslash denotes all between its quotes
pub plain_string : {m : Bool} {t b : List ℕ} {i j : ℕ} → IsString m t i j b → ¬ IsEscapedString t i j → j ≤ length t → b ≡ slice_range t (i + 1) (j - 1)
plain_string {m} {t} {b} {i} {j} s none within =
    let end = s.end in
    let later = chars_later s.chars in
    let plain : HasNone t (i + 1) s.close = λ p l n e. elim (cases_eq p s.close) [
      | inl last ↦ (let q = rw last at e in omega (arith, s.closes))
      | inr other ↦ none (s.opens, p, omega arith, omega arith, e)
    ] in
    let is : b ≡ slice_range t (i + 1) s.close = plain_chars s.chars plain (omega arith) in
    let close : s.close ≡ j - 1 = omega arith in
    rw close at is
