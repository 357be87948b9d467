-- The lowest bit of a word, and the word without it.
use Rattle.std.proofs.Common.{◌≡◌, ℕ, suc, ◌+◌, ◌-◌, ◌*◌, ◌/◌, ◌%◌, ◌^◌, ◌<◌, ◌≤◌, ◌⊎◌, inl, inr, Bool, true, false, ◌==◌, ◌&&◌, nat_lt, refl, sym, ap, ◌∙◌, arith, w32, pow_pos, pow-suc}
use Rattle.std.specs.Int.{bit_at, trailing_zeros, Width}
use mir.Val.{bits}
use Rattle.std.proofs.lemmas.Bool.{cases_lt, cases_order, false≢true}
use Rattle.std.proofs.lemmas.Nat.Bits.{bit_at-trailing_zeros, bit_at-pow_same, bit_at-pow_other, bit_at_ones, bit_at_ones_above, bit_at_cat_low, bit_at_cat_high, same_from_bits}
use lib.Bits.{bit_and}
use Rattle.std.proofs.lemmas.Bool.Decides.{nat_tests}
use Rattle.sonic_blocks.proofs.BitLemmas.{set_and}
use lib.Count.{trailing_of_zero, trailing_le}
use lib.Pow.{shr-shr}
use Rattle.sonic_blocks.specs.Bits.{is_set}

module _ (w : Width) (n : ℕ) (some : 0 < n) (small : n < 2 ^ bits w) where
  abbrev lowest : ℕ
  lowest = trailing_zeros w n

  pub lowest_within : lowest < bits w
  lowest_within = (bit_at-trailing_zeros w n some small).0

  pub lowest_set : is_set n lowest ≡ true
  unfolding is_set
  lowest_set = ap (λ b. b == 1) (bit_at-trailing_zeros w n some small).1

  pub none_lower : (k : ℕ) → k < lowest → is_set n k ≡ false
  unfolding is_set
  none_lower k h = ap (λ b. b == 1) ((bit_at-trailing_zeros w n some small).2 k h)

  -- no set bit is lower
  pub lowest_first : (k : ℕ) → is_set n k ≡ true → lowest ≤ k
  lowest_first k set = elim (cases_lt k lowest) [
    | inl lower ↦ absurd (false≢true (sym (none_lower k lower) ∙ set))
    | inr other ↦ other
  ]

  abbrev above : ℕ
  above = n / 2 ^ suc lowest

  bit_above : (k : ℕ) → lowest < k → bit_at above (k - suc lowest) ≡ bit_at n k
  bit_above k h =
      let whole : suc lowest + (k - suc lowest) ≡ k = omega arith in
      ap (λ x. x % 2) (shr-shr n (suc lowest) (k - suc lowest)) ∙ ap (bit_at n) whole

  -- the word is the bits above its lowest, a one and zeros
  parts : n ≡ above * 2 ^ suc lowest + 2 ^ lowest
  parts = same_from_bits n _ (λ k. at k (cases_order k lowest))
    where
      at : (k : ℕ) → (k ≡ lowest) ⊎ ((k < lowest) ⊎ (lowest < k)) → bit_at n k ≡ bit_at (above * 2 ^ suc lowest + 2 ^ lowest) k
      at k (inl same) =
          ap (bit_at n) same ∙ (bit_at-trailing_zeros w n some small).1
          ∙ sym (ap (bit_at (above * 2 ^ suc lowest + 2 ^ lowest)) same ∙ bit_at_cat_low above (suc lowest) (2 ^ lowest) lowest (omega arith) ∙ bit_at-pow_same lowest)
      at k (inr (inl lower)) =
          (bit_at-trailing_zeros w n some small).2 k lower ∙ sym (bit_at_cat_low above (suc lowest) (2 ^ lowest) k (omega arith) ∙ bit_at-pow_other lowest k (λ e. omega arith))
      at k (inr (inr higher)) =
          let less : 2 ^ lowest < 2 ^ suc lowest = omega (arith, pow-suc 2 lowest, pow_pos lowest) in
          sym (bit_at_cat_high above (suc lowest) (2 ^ lowest) k less (omega arith) ∙ bit_above k higher)

  one_less : n - 1 ≡ above * 2 ^ suc lowest + (2 ^ lowest - 1)
  one_less = omega (arith, parts, pow_pos lowest)

  -- one less has all bits below the lowest, and the same above it
  pub one_less_below : (k : ℕ) → k < lowest → is_set (n - 1) k ≡ true
  unfolding is_set
  one_less_below k h = ap (λ b. b == 1) (ap (λ x. bit_at x k) one_less ∙ bit_at_cat_low above (suc lowest) (2 ^ lowest - 1) k (omega arith) ∙ bit_at_ones lowest k h)

  pub one_less_above : (k : ℕ) → lowest < k → is_set (n - 1) k ≡ is_set n k
  unfolding is_set
  one_less_above k h =
      let less : 2 ^ lowest - 1 < 2 ^ suc lowest = omega (arith, pow-suc 2 lowest, pow_pos lowest) in
      ap (λ b. b == 1) (ap (λ x. bit_at x k) one_less ∙ bit_at_cat_high above (suc lowest) (2 ^ lowest - 1) k less (omega arith) ∙ bit_above k h)

  pub lowest_cleared : is_set (n - 1) lowest ≡ false
  unfolding is_set
  lowest_cleared = ap (λ b. b == 1) (ap (λ x. bit_at x lowest) one_less ∙ bit_at_cat_low above (suc lowest) (2 ^ lowest - 1) lowest (omega arith) ∙ bit_at_ones_above lowest lowest (omega arith))

  -- the word and one less share the bits above the lowest
  pub cleared : (k : ℕ) → is_set (bit_and n (n - 1)) k ≡ (is_set n k && nat_lt lowest k)
  cleared k = set_and n (n - 1) k ∙ at (cases_order k lowest)
    where
      alone : (a : Bool) → (a && a) ≡ (a && true)
      alone true = refl
      alone false = refl

      lt_true : lowest < k → nat_lt lowest k ≡ true
      lt_true h = grind (arith, nat_tests)

      lt_false : k ≤ lowest → nat_lt lowest k ≡ false
      lt_false h = grind (arith, nat_tests)

      at : (k ≡ lowest) ⊎ ((k < lowest) ⊎ (lowest < k)) → (is_set n k && is_set (n - 1) k) ≡ (is_set n k && nat_lt lowest k)
      at (inl same) = ap (λ b. is_set n k && b) (ap (is_set (n - 1)) same ∙ lowest_cleared ∙ sym (lt_false (omega arith)))
      at (inr (inl lower)) = ap (λ b. b && is_set (n - 1) k) (none_lower k lower) ∙ sym (ap (λ b. b && nat_lt lowest k) (none_lower k lower))
      at (inr (inr higher)) = ap (λ b. is_set n k && b) (one_less_above k higher) ∙ alone (is_set n k) ∙ ap (λ b. is_set n k && b) (sym (lt_true higher))

-- the same of a word of 32 bits that wraps, and so of 0, whose lowest bit is said to be 32
module _ (a : ℕ) (small : a < 2 ^ 32) where
  abbrev wrapped : ℕ
  wrapped = (a + (2 ^ 32 - 1)) % 2 ^ 32

  of_some : 0 < a → wrapped ≡ a - 1
  of_some h = omega (arith, small)

  of_none : a ≤ 0 → wrapped ≡ 2 ^ 32 - 1
  of_none h = omega arith

  pub wrapped_below : (k : ℕ) → k < trailing_zeros w32 a → is_set wrapped k ≡ true
  unfolding is_set
  wrapped_below k h = elim (cases_lt 0 a) [
    | inl some ↦ ap (λ x. bit_at x k == 1) (of_some some) ∙ one_less_below w32 a some small k h
    | inr none ↦ ap (λ x. bit_at x k == 1) (of_none none) ∙ ap (λ b. b == 1) (bit_at_ones 32 k (omega (arith, h, trailing_le 32 a)))
  ]

  pub wrapped_above : (k : ℕ) → trailing_zeros w32 a ≤ k → k < 32 → is_set wrapped k ≡ true → is_set a k ≡ true
  wrapped_above k from h set = elim (cases_lt 0 a) [
    | inl some ↦ elim (cases_lt (trailing_zeros w32 a) k) [
      | inl higher ↦ sym (one_less_above w32 a some small k higher) ∙ ap (λ x. is_set x k) (sym (of_some some)) ∙ set
      | inr same ↦ (let e : k ≡ trailing_zeros w32 a = omega arith in ap (is_set a) e ∙ lowest_set w32 a some small)
    ]
    | inr none ↦ (let zero : a ≡ 0 = omega arith in let all : trailing_zeros w32 a ≡ 32 = ap (trailing_zeros w32) zero ∙ trailing_of_zero 32 in let no : ⊥ = omega (arith, all) in absurd no)
  ]
