-- Text in UTF-8 is written as a string in pieces that are UTF-8.
use Rattle.std.proofs.Common.{◌≡◌, ℕ, zero, suc, ◌+◌, ◌<◌, ◌≤◌, ◌&&◌, Bool, true, false, List, [], ◌∷◌, ◌++◌, length, drop, take, inl, inr, nat_lt, if◌then◌else◌, ap, arith, refl, sym, ◌∙◌}
use Rattle.std.proofs.lemmas.Bool.{and_parts, cases_eq, ltb-true}
use Rattle.std.proofs.lemmas.Bool.Decides.{nat_tests}
use Rattle.std.proofs.lemmas.Str.{IsUtf8-from_ascii, IsCharBoundary-before_ascii, IsCharBoundary-after_ascii, IsCharBoundary-end}
use Rattle.std.specs.List.{prefix_len, slice_range}
use Rattle.std.specs.Str.{IsAscii, IsCharBoundary, IsUtf8}
use Rattle.sonic_blocks.proofs.RunLemmas.{run_fails}
use Rattle.sonic_blocks.specs.Runs.{is_plain}
use Rattle.sonic_text.proofs.QuoteLemmas.{run_quoted, byte_quoted}
use Rattle.sonic_text.proofs.TableLemmas.{agree_below, agree_at}
use Rattle.sonic_text.specs.Places.{byte}
use Rattle.sonic_text.specs.Quoting.{digit, quoted_byte, quoted_bytes}

-- a byte that isn't plain is ASCII
special_ascii : (b : ℕ) → is_plain b ≡ false → b < 128
special_ascii b special = grind (arith, nat_tests)

-- all of these are ASCII
unfoldable all_ascii : List ℕ → Bool
all_ascii [] = true
all_ascii (x ∷ xs) = nat_lt x 128 && all_ascii xs

ascii_all : (xs : List ℕ) → all_ascii xs ≡ true → IsAscii xs
unfolding all_ascii
ascii_all [] h i = omega arith
ascii_all (x ∷ xs) h zero = ltb-true x 128 (and_parts (nat_lt x 128) (all_ascii xs) h).0
ascii_all (x ∷ xs) h (suc i) = ascii_all xs (and_parts (nat_lt x 128) (all_ascii xs) h).1 i

-- a test as a number, which is 1 where it succeeds
abbrev count : Bool → ℕ
count x = if x then 1 else 0

counted : (x : Bool) → count x ≡ 1 → x ≡ true
counted true h = refl
counted false h = absurd cc

-- and so is each byte of an escape
pub escape_utf8 : (b : ℕ) → is_plain b ≡ false → IsUtf8 (quoted_byte b)
unfolding agree_below all_ascii quoted_byte digit
escape_utf8 b special =
    let one = agree_at (λ k. count (all_ascii (quoted_byte k))) (λ k. 1) 128 refl b (special_ascii b special) in
    IsUtf8-from_ascii _ (ascii_all _ (counted _ one))

-- a run of plain bytes ends where a char begins
pub run_boundary : (t : List ℕ) (i e : ℕ) → i ≤ length t → e ≤ length t → e ≡ i + prefix_len is_plain (drop i t) → IsCharBoundary t e
run_boundary t i e l within run = elim (cases_eq e (length t)) [
  | inl is ↦ rw is (IsCharBoundary-end t)
  | inr other ↦ (
      let inside : e < length t = omega arith in
      IsCharBoundary-before_ascii t e inside (special_ascii _ (run_fails is_plain t i e l run inside))
      )
]

-- and after the byte that ends it another one does
pub escape_boundary : (t : List ℕ) (i e : ℕ) → IsUtf8 t → i ≤ length t → e < length t → e ≡ i + prefix_len is_plain (drop i t) → IsCharBoundary t (e + 1)
escape_boundary t i e utf8 l inside run = IsCharBoundary-after_ascii t e utf8 inside (special_ascii _ (run_fails is_plain t i e l run inside))

-- what was written, a run and an escape are what is read then, quoted
pub pieces_quoted : (t : List ℕ) (i e : ℕ) → e < length t → e ≡ i + prefix_len is_plain (drop i t)
    → (quoted_bytes (take i t) ++ slice_range t i e) ++ quoted_byte (byte t e) ≡ quoted_bytes (take (e + 1) t)
pieces_quoted t i e inside run = sym (byte_quoted t e inside ∙ ap (λ b. b ++ quoted_byte (byte t e)) (run_quoted t i e run))
