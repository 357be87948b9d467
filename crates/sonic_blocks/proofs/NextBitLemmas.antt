-- The bits of a word from one on, and the lowest of them.
use Rattle.std.proofs.Common.{◌≡◌, ℕ, ◌-◌, ◌^◌, ◌<◌, ◌≤◌, ◌==◌, ◌&&◌, Bool, inl, inr, true, false, refl, sym, ap, ◌∙◌, arith, w64}
use Rattle.std.specs.Int.{trailing_zeros}
use Rattle.std.proofs.lemmas.Bool.{cases_lt, false≢true}
use Rattle.std.proofs.lemmas.Nat.Bits.{bit_at_ones}
use lib.Bits.{bit_and, and_le_l}
use Rattle.sonic_blocks.specs.Bits.{is_set, IsNextBit}
use Rattle.sonic_blocks.proofs.BitLemmas.{shifted, set_and, set_zero, set_shifted, set_shifted_low}
use Rattle.sonic_blocks.proofs.LowestLemmas.{lowest_within, lowest_set, none_lower}

and_true : (b : Bool) → (b && true) ≡ b
and_true true = refl
and_true false = refl

and_false : (b : Bool) → (b && false) ≡ false
and_false true = refl
and_false false = refl

module _ (n first : ℕ) (less : first < 64) (small : n < 2 ^ 64) where
  -- the word without the bits below the first
  abbrev pub left : ℕ
  left = bit_and n (shifted first (2 ^ 64 - 1))

  all_ones : (k : ℕ) → k < 64 → is_set (2 ^ 64 - 1) k ≡ true
  unfolding is_set
  all_ones k h = ap (λ b. b == 1) (bit_at_ones 64 k h)

  kept : (k : ℕ) → first ≤ k → k < 64 → is_set left k ≡ is_set n k
  kept k later h =
      set_and n (shifted first (2 ^ 64 - 1)) k ∙ ap (λ b. is_set n k && b) (set_shifted first (2 ^ 64 - 1) k later h ∙ all_ones (k - first) (omega arith)) ∙ and_true (is_set n k)

  lost : (k : ℕ) → k < first → is_set left k ≡ false
  lost k low = set_and n (shifted first (2 ^ 64 - 1)) k ∙ ap (λ b. is_set n k && b) (set_shifted_low first (2 ^ 64 - 1) k low (omega arith)) ∙ and_false (is_set n k)

  pub none_left : left ≡ 0 → (k : ℕ) → first ≤ k → k < 64 → is_set n k ≡ false
  none_left empty k later h = sym (kept k later h) ∙ ap (λ x. is_set x k) empty ∙ set_zero k

  pub next_left : 0 < left → IsNextBit n first (trailing_zeros w64 left)
  next_left some =
      let fits : left < 2 ^ 64 = omega (arith, small, and_le_l n (shifted first (2 ^ 64 - 1))) in
      let k = trailing_zeros w64 left in
      let within : k < 64 = lowest_within w64 left some fits in
      let later : first ≤ k = elim (cases_lt k first) [
        | inl low ↦ absurd (false≢true (sym (lost k low) ∙ lowest_set w64 left some fits))
        | inr high ↦ high
      ] in
      record {
        later = later;
        within = within;
        here = sym (kept k later within) ∙ lowest_set w64 left some fits;
        before = λ j from to. sym (kept j from (omega (arith, to, within))) ∙ none_lower w64 left some fits j to;
      }
