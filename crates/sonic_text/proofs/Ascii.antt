-- A number is ASCII, and so UTF-8.
use Rattle.std.proofs.Common.{◌≡◌, ◌∙◌, ℕ, ◌+◌, ◌-◌, ◌<◌, ◌≤◌, true, inl, inr, length, drop, arith}
use Rattle.std.proofs.lemmas.Bool.{cases_lt}
use Rattle.std.proofs.lemmas.Bool.Decides.{nat_tests}
use Rattle.std.proofs.lemmas.List.{get_or-drop, get_or-take, get_or_past, length-take}
use Rattle.std.proofs.lemmas.Str.{IsUtf8-from_ascii}
use Rattle.std.specs.Prelude.{List, slice_range, slice_index}
use Rattle.std.specs.Str.{IsUtf8}
use Rattle.sonic_text.specs.Places.{byte}
use Rattle.sonic_text.specs.Numbers.{IsNumber}
use Rattle.sonic_text.proofs.NumberBytes.{in_number, number_bytes}

-- from i to j are ASCII bytes alone
abbrev pub AreAscii : List ℕ → ℕ → ℕ → Type 0
AreAscii t i j = (p : ℕ) → i ≤ p → p < j → byte t p < 128

in_number_ascii : (b : ℕ) → in_number b ≡ true → b < 128
in_number_ascii b h = grind (arith, nat_tests)

-- each byte of a number is ASCII
pub number_ascii : (t : List ℕ) (i j : ℕ) → IsNumber t i j → AreAscii t i j
number_ascii t i j n p l h = in_number_ascii (byte t p) (number_bytes t i j n p l h)

-- a part of ASCII bytes alone is UTF-8
part_utf8 : (t : List ℕ) (i j : ℕ) → AreAscii t i j → IsUtf8 (slice_range t i j)
part_utf8 t i j a = IsUtf8-from_ascii (slice_range t i j) (λ k. elim (cases_lt k (length (slice_range t i j))) [
  | inr h ↦ let e : slice_index (slice_range t i j) k ≡ 0 = get_or_past (slice_range t i j) k 0 h in omega (arith, e)
  | inl h ↦
      let l : k < j - i = omega (arith, h, length-take (j - i) (drop i t)) in
      let e : slice_index (slice_range t i j) k ≡ byte t (i + k) = get_or-take (j - i) (drop i t) k 0 l ∙ get_or-drop i t k 0 in
      rw e (a (i + k) (omega arith) (omega arith))
])

-- a number is UTF-8
pub number_utf8 : {t : List ℕ} {i j : ℕ} → IsNumber t i j → IsUtf8 (slice_range t i j)
number_utf8 {t} {i} {j} n = part_utf8 t i j (number_ascii t i j n)
