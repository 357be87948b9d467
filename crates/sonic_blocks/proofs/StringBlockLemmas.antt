-- The first places of kinds of bytes, by the words of a `StringBlock`.
use Rattle.std.proofs.Common.{◌≡◌, ◌≢◌, inl, inr, ◌↔◌, ℕ, zero, suc, ◌+◌, ◌-◌, ◌%◌, ◌^◌, ◌<◌, ◌≤◌, ◌==◌, ◌&&◌, ◌||◌, nat_lt, Bool, true, false, not, eqb, List, [], ◌∷◌, map, length, get_or, refl, sym, ap, ap₂, ◌∙◌, arith, subst, w32, IsTrue}
use Rattle.std.proofs.lemmas.Bool.{cases_lt, false≢true}
use Rattle.std.proofs.lemmas.Bool.Decides.{nat_tests}
use Rattle.std.proofs.lemmas.List.{length-map, get_or_past}
use Rattle.std.proofs.lemmas.Simd.{mask_l-lt, leading_from_mask_l, trailing_mask_l}
use Rattle.std.proofs.lemmas.Nat.Bits.{bit_at-zero, bit_at-lt, same_from_bits}
use Rattle.std.specs.Int.{bit_at, trailing_zeros}
use lib.Bits.{bit_and, bit_or, and_le_r}
use lib.Count.{trailing_of_zero, trailing_le}
use lib.Lanes.{mask_l}
use Rattle.sonic_blocks.specs.Bits.{is_set}
use Rattle.sonic_blocks.specs.Firsts.{first_place}
use Rattle.sonic_blocks.specs.Runs.{is_plain}
use Rattle.sonic_blocks.proofs.BitLemmas.{zero_or_one, set_and, set_or, set_zero, set_mask}
use Rattle.sonic_blocks.proofs.LaneLemmas.{set_tested}
use Rattle.sonic_blocks.proofs.LowestLemmas.{lowest_within, lowest_set, lowest_first, wrapped_below, wrapped_above}

pub mask_small : (test : ℕ → Bool) (xs : List ℕ) → length xs ≡ 32 → mask_l (map test xs) < 2 ^ 32
mask_small test xs long = subst (λ n. mask_l (map test xs) < 2 ^ n) (length-map xs test ∙ long) (mask_l-lt (map test xs))

-- the lowest bit of a mask is the first place
pub mask_lowest : (test : ℕ → Bool) (xs : List ℕ) → length xs ≡ 32 → trailing_zeros w32 (mask_l (map test xs)) ≡ first_place test xs
mask_lowest test xs long = elim (cases_lt 0 (mask_l (map test xs))) [
  | inl some ↦ trailing_mask_l test 32 xs (omega arith) some
  | inr none ↦ (let empty : mask_l (map test xs) ≡ 0 = omega arith in ap (trailing_zeros w32) empty ∙ trailing_of_zero 32 ∙ sym (leading_from_mask_l test xs empty ∙ long))
]

-- tests that never both pass have masks without a bit in common
pub masks_apart : (p q : ℕ → Bool) (xs : List ℕ) → ((b : ℕ) → (p b && q b) ≡ false) → bit_and (mask_l (map p xs)) (mask_l (map q xs)) ≡ 0
unfolding is_set
masks_apart p q xs never =
    same_from_bits _ 0 (λ k. clear _ k (set_and (mask_l (map p xs)) (mask_l (map q xs)) k ∙ ap₂ (λ a b. a && b) (set_mask (map p xs) k) (set_mask (map q xs) k) ∙ at xs k) ∙ sym (bit_at-zero k))
  where
    at : (ys : List ℕ) (k : ℕ) → (get_or (map p ys) k false && get_or (map q ys) k false) ≡ false
    at [] k = refl
    at (y ∷ ys) zero = never y
    at (y ∷ ys) (suc k) = at ys k

    clear : (n k : ℕ) → (bit_at n k == 1) ≡ false → bit_at n k ≡ 0
    clear n k = zero_or_one (λ b. (b == 1) ≡ false → b ≡ 0) (λ e. refl) (λ e. absurd (false≢true (sym e))) (bit_at n k) (bit_at-lt n k)

-- the word of all three kinds
abbrev pub all_special : List ℕ → ℕ
all_special xs = bit_or (bit_or (mask_l (map (λ x. x == 92) xs)) (mask_l (map (λ x. x == 34) xs))) (mask_l (map (λ x. nat_lt x 32) xs))

set_special : (xs : List ℕ) (k : ℕ) → is_set (all_special xs) k ≡ ((is_set (mask_l (map (λ x. x == 92) xs)) k || is_set (mask_l (map (λ x. x == 34) xs)) k) || is_set (mask_l (map (λ x. nat_lt x 32) xs)) k)
set_special xs k =
    set_or (bit_or (mask_l (map (λ x. x == 92) xs)) (mask_l (map (λ x. x == 34) xs))) _ k
    ∙ ap (λ b. b || is_set (mask_l (map (λ x. nat_lt x 32) xs)) k) (set_or (mask_l (map (λ x. x == 92) xs)) (mask_l (map (λ x. x == 34) xs)) k)

-- has the bits of those that aren't plain
pub special_set : (xs : List ℕ) (k : ℕ) → k < length xs → is_set (all_special xs) k ≡ not (is_plain (get_or xs k 0))
special_set xs k within =
    set_special xs k ∙ ap₂ (λ a b. a || b) (ap₂ (λ a b. a || b) (set_tested (λ x. x == 92) xs k within) (set_tested (λ x. x == 34) xs k within)) (set_tested (λ x. nat_lt x 32) xs k within)
    ∙ is_special (get_or xs k 0)
  where
    is_special : (b : ℕ) → ((b == 92 || b == 34) || nat_lt b 32) ≡ not (is_plain b)
    is_special b = grind (arith, nat_tests)

-- and no other
pub special_few : (xs : List ℕ) → length xs ≡ 32 → (k : ℕ) → is_set (all_special xs) k ≡ true → k < 32
special_few xs long k set = elim (cases_lt k 32) [
  | inl within ↦ within
  | inr past ↦ absurd (false≢true (sym (set_special xs k ∙ ap₂ (λ a b. a || b) (ap₂ (λ a b. a || b) (none (λ x. x == 92) past) (none (λ x. x == 34) past)) (none (λ x. nat_lt x 32) past)) ∙ set))
]
  where
    none : (test : ℕ → Bool) → 32 ≤ k → is_set (mask_l (map test xs)) k ≡ false
    none test past = set_mask (map test xs) k ∙ get_or_past (map test xs) k false (omega (arith, length-map xs test))

module _ (b a : ℕ) (small_b : b < 2 ^ 32) (small_a : a < 2 ^ 32) (apart : bit_and b a ≡ 0) where
  abbrev lower : ℕ
  lower = bit_and ((a + (2 ^ 32 - 1)) % 2 ^ 32) b

  never_both : (k : ℕ) → is_set b k ≡ true → is_set a k ≡ true → ⊥
  never_both k f g = false≢true (sym (set_zero k) ∙ ap (λ n. is_set n k) (sym apart) ∙ set_and b a k ∙ ap₂ (λ x y. x && y) f g)

  split : (x y : Bool) → (x && y) ≡ true → (x ≡ true) × (y ≡ true)
  split true y h = (refl, h)
  split false y h = absurd (false≢true h)

  comes : 0 < lower → trailing_zeros w32 b < trailing_zeros w32 a
  comes some =
      let small : lower < 2 ^ 32 = omega (arith, small_b, and_le_r ((a + (2 ^ 32 - 1)) % 2 ^ 32) b) in
      let k = trailing_zeros w32 lower in
      let within : k < 32 = lowest_within w32 lower some small in
      let set = split (is_set ((a + (2 ^ 32 - 1)) % 2 ^ 32) k) (is_set b k) (sym (set_and ((a + (2 ^ 32 - 1)) % 2 ^ 32) b k) ∙ lowest_set w32 lower some small) in
      let b_some : 0 < b = omega (arith, some, and_le_r ((a + (2 ^ 32 - 1)) % 2 ^ 32) b) in
      let first = lowest_first w32 b b_some small_b k set.1 in
      elim (cases_lt k (trailing_zeros w32 a)) [
        | inl before ↦ omega (arith, first, before)
        | inr from ↦ absurd (never_both k set.1 (wrapped_above a small_a k from within set.0))
      ]

  stays : trailing_zeros w32 b < trailing_zeros w32 a → lower ≢ 0
  stays before empty = elim (cases_lt 0 b) [
    | inl some ↦ (let k = trailing_zeros w32 b in
        false≢true (sym (set_zero k) ∙ ap (λ n. is_set n k) (sym empty) ∙ set_and ((a + (2 ^ 32 - 1)) % 2 ^ 32) b k ∙ ap₂ (λ x y. x && y) (wrapped_below a small_a k before) (lowest_set w32 b some small_b)))
    | inr none ↦ (let zero : b ≡ 0 = omega arith in
        let all : trailing_zeros w32 b ≡ 32 = ap (trailing_zeros w32) zero ∙ trailing_of_zero 32 in
        let no : ⊥ = omega (arith, before, all, trailing_le 32 a) in no)
  ]

  is_some : not (eqb lower 0) ≡ true → 0 < lower
  is_some h = grind (arith, nat_tests)

  some_is : lower ≢ 0 → not (eqb lower 0) ≡ true
  some_is h = grind (arith, nat_tests)

  pub lowest_before : IsTrue (not (eqb lower 0)) ↔ (trailing_zeros w32 b < trailing_zeros w32 a)
  lowest_before = (λ h. comes (is_some h), λ h. some_is (stays h))
