-- What is known of a string's text before it is read.
use Rattle.std.proofs.Common.{◌≡◌, ℕ, ◌+◌, ◌<◌, ◌≤◌, Bool, true, false, not, List, length, arith, refl, sym}
use Rattle.std.proofs.lemmas.Str.{utf8_lossy-IsUtf8}
use Rattle.std.specs.Prelude.{◌↔◌, IsTrue}
use Rattle.std.specs.Str.{IsUtf8}
use Rattle.sonic_text.proofs.PlainStrings.{plain_string}
use Rattle.sonic_text.proofs.Strings.{chars_later}
use Rattle.sonic_text.specs.Strings.{contents, IsString, IsEscapedString}
use Rattle.sonic_parser.specs.Internal.StringsAhead.{IsAhead}
use Rattle.sonic_parser.specs.Texts.{text_of, IsTextThere}

-- of two facts the second is whether a test fails
both_tested : (b : Bool) {X Y : Type 0} → X → (IsTrue b ↔ Y) → IsTrue (not b) ↔ (X × ¬ Y)
both_tested true x h = (λ e. absurd cc, λ p. absurd (p.1 (h.0 refl)))
both_tested false x h = (λ e. (x, λ y. let f = h.1 y in absurd cc), λ p. refl)

-- a string is two bytes long at least
pub string_long : {m : Bool} {t : List ℕ} {i j : ℕ} {b : List ℕ} → IsString m t i j b → i + 1 < j
string_long s = omega (arith, s.end, chars_later s.chars)

-- a string whose contents are UTF-8 has its text there where it has no backslash
pub utf8_ahead : {m : Bool} {t : List ℕ} {i j : ℕ} {b : List ℕ} (escaped : Bool) → IsString m t i j b → j ≤ length t → (IsTrue escaped ↔ IsEscapedString t i j)
    → IsUtf8 (contents t i j) → IsAhead m t i (record { end = j; direct = not escaped })
utf8_ahead {b = b} escaped s within h utf8 = record { bytes = b; string = s; order = string_long s; within = within; utf8 = λ _. utf8; direct = both_tested escaped utf8 h }

-- the contents are the text where the text is there
pub there_text : {m : Bool} {t b : List ℕ} {i j : ℕ} → IsString m t i j b → j ≤ length t → IsTextThere t i j → contents t i j ≡ text_of m b
there_text {m = false} s within there = sym (plain_string s there.1 within)
there_text {m = true} s within there = rw (plain_string s there.1 within) (sym (utf8_lossy-IsUtf8 _ there.0))
