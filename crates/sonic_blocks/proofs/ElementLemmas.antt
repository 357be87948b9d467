-- Elements with numbers as bits: the bytes that fit after those before them, and the last comma before one that doesn't.
use Rattle.std.proofs.Common.{◌≡◌, ℕ, zero, suc, ◌+◌, ◌-◌, ◌*◌, ◌%◌, ◌^◌, ◌<◌, ◌≤◌, ◌==◌, ◌&&◌, ◌||◌, Bool, true, false, not, inl, inr, refl, sym, ap, ap₂, ◌∙◌, arith, mod-lt, pow_pos, w64}
use Rattle.std.specs.Int.{bit_at, trailing_zeros, leading_zeros}
use Rattle.std.specs.Int.Count.{leading_of_zero}
use Rattle.std.proofs.lemmas.Bool.{cases_lt, cases_order}
use Rattle.std.proofs.lemmas.Bool.Decides.{nat_tests}
use Rattle.std.proofs.lemmas.Nat.{leading_top}
use Rattle.std.proofs.lemmas.Nat.Bits.{bit_at_cat_high}
use lib.Bits.{bit_and, bit_or, or_lt}
use Rattle.std.specs.Char.{is_ascii_digit}
use Rattle.sonic_blocks.specs.Bits.{is_set}
use Rattle.sonic_blocks.specs.Elements.{passes_before, is_at, is_digit_at, is_first_zero, is_behind_fraction, fits_after}
use Rattle.sonic_blocks.specs.Internal.NumberMasks.{AreNumberMasks}
use Rattle.sonic_blocks.specs.declared.elements.NumberMasks.{NumberMasks}
use Rattle.sonic_blocks.proofs.BoolLemmas.{xor, equal3, both_true, never, not_false}
use Rattle.sonic_blocks.proofs.BitLemmas.{set_and, set_or, set_zero, flip, set_flip, set_word, shifted, set_shifted, set_shifted_low, set_carry_zero, set_carry_suc}
use Rattle.sonic_blocks.proofs.SumLemmas.{most, carry, set_sum}
use Rattle.sonic_blocks.proofs.LowestLemmas.{none_lower, one_less_above, lowest_cleared}

or_false : (a : Bool) → (a || false) ≡ a
or_false true = refl
or_false false = refl

-- both words have a bit that their common one has
pub set_both : (a b k : ℕ) → is_set (bit_and a b) k ≡ true → (is_set a k ≡ true) × (is_set b k ≡ true)
set_both a b k e = both_true (is_set a k) (is_set b k) (sym (set_and a b k) ∙ e)

-- the highest bit
pub highest_set : (n : ℕ) → n < 2 ^ 64 → 0 < 64 - leading_zeros w64 n → is_set n (64 - leading_zeros w64 n - 1) ≡ true
unfolding is_set
highest_set n small some = elim (cases_lt 0 n) [
  | inr none ↦
      let zero : n ≡ 0 = omega arith in
      let all : leading_zeros w64 n ≡ 64 = ap (leading_zeros w64) zero ∙ leading_of_zero 64 in
      absurd (omega (arith, all))
  | inl more ↦
      let top = leading_top 64 n more small in
      let j = top.0 in
      let place : 64 - leading_zeros w64 n - 1 ≡ j = omega (arith, top.1) in
      let parts : n ≡ 1 * 2 ^ j + (n - 2 ^ j) = omega (arith, top.2) in
      let less : n - 2 ^ j < 2 ^ j = omega (arith, top.2, top.3) in
      let none : j - j ≡ 0 = omega arith in
      ap (λ k. bit_at n k == 1) place ∙ ap (λ m. bit_at m j == 1) parts ∙ ap (λ b. b == 1) (bit_at_cat_high 1 j (n - 2 ^ j) j less (omega arith) ∙ ap (bit_at 1) none)
]

-- the lowest bits that are all set
module _ (n : ℕ) (small : n < 2 ^ 64) where
  abbrev run : ℕ
  run = bit_and n ((flip n + (2 ^ 64 - 1)) % 2 ^ 64)

  set_where_flipped : (j : ℕ) → j < 64 → is_set (flip n) j ≡ false → is_set n j ≡ true
  set_where_flipped j h e = not_false (is_set n j) (sym (set_flip n j small h) ∙ e)

  pub run_set : (k : ℕ) → k < 64 → is_set run k ≡ true → (j : ℕ) → j ≤ k → is_set n j ≡ true
  run_set k h e j low = elim (cases_lt 0 (flip n)) [
    | inr none ↦
        let zero : flip n ≡ 0 = omega arith in
        set_where_flipped j (omega arith) (ap (λ m. is_set m j) zero ∙ set_zero j)
    | inl some ↦
        let fits : flip n < 2 ^ 64 = omega arith in
        let less : (flip n + (2 ^ 64 - 1)) % 2 ^ 64 ≡ flip n - 1 = omega (arith, some, fits) in
        let here = set_both n ((flip n + (2 ^ 64 - 1)) % 2 ^ 64) k e in
        let there : is_set (flip n - 1) k ≡ true = ap (λ m. is_set m k) (sym less) ∙ here.1 in
        elim (cases_order k (trailing_zeros w64 (flip n))) [
          | inl same ↦ never (lowest_cleared w64 (flip n) some fits) (ap (is_set (flip n - 1)) (sym same) ∙ there)
          | inr (inl lower) ↦ set_where_flipped j (omega arith) (none_lower w64 (flip n) some fits j (omega arith))
          | inr (inr higher) ↦
              let other : not (is_set n k) ≡ true = sym (set_flip n k small h) ∙ sym (one_less_above w64 (flip n) some fits k higher) ∙ there in
              never (ap not here.0) other
        ]
  ]

module _ (n : ℕ) (test : ℕ → Bool) (is : (k : ℕ) → k < 64 → is_set n k ≡ test k) where
  -- the bits of a word that is shifted by one are those of the places after it
  set_after : (k : ℕ) → k < 64 → is_set (shifted 1 n) k ≡ passes_before test false k
  set_after zero h = set_shifted_low 1 n 0 (omega arith) h
  set_after (suc k) h =
      let back : suc k - 1 ≡ k = omega arith in
      set_shifted 1 n (suc k) (omega arith) h ∙ ap (is_set n) back ∙ is k (omega arith)

  -- and where the lowest is set besides, the first place is one
  set_after_first : (k : ℕ) → k < 64 → is_set (bit_or (shifted 1 n) 1) k ≡ passes_before test true k
  set_after_first zero h = set_or (shifted 1 n) 1 0 ∙ ap₂ (λ a b. a || b) (set_after 0 h) (set_carry_zero 1 (omega arith))
  set_after_first (suc k) h = set_or (shifted 1 n) 1 (suc k) ∙ ap₂ (λ a b. a || b) (set_after (suc k) h) (set_carry_suc 1 k (omega arith)) ∙ or_false (test k)

  -- the places that follow none
  set_after_none : (k : ℕ) → k < 64 → is_set (flip (shifted 1 n)) k ≡ not (passes_before test false k)
  set_after_none k h = set_flip (shifted 1 n) k (mod-lt (n * 2 ^ 1) (pow_pos 64)) h ∙ ap not (set_after k h)

-- a byte that is the one
pub byte_is : (bytes : ℕ → ℕ) (b k : ℕ) → is_at bytes b k ≡ true → bytes k ≡ b
byte_is bytes b k e = grind (arith, nat_tests)

module _ (bytes : ℕ → ℕ) (masks : NumberMasks) (is : AreNumberMasks bytes masks) where
  abbrev after_either : ℕ
  after_either = bit_or (shifted 1 masks.digit) (shifted 1 masks.dot)

  abbrev first_zeros : ℕ
  first_zeros = bit_and masks.zero (flip after_either)

  either_small : after_either < 2 ^ 64
  either_small = or_lt 64 (shifted 1 masks.digit) (shifted 1 masks.dot) (mod-lt (masks.digit * 2 ^ 1) (pow_pos 64)) (mod-lt (masks.dot * 2 ^ 1) (pow_pos 64))

  set_first_zero : (k : ℕ) → k < 64 → is_set first_zeros k ≡ is_first_zero bytes k
  set_first_zero k h =
      let either = set_or (shifted 1 masks.digit) (shifted 1 masks.dot) k
      ∙ ap₂ (λ a b. a || b) (set_after masks.digit (is_digit_at bytes) is.digit k h) (set_after masks.dot (is_at bytes 46) is.dot k h) in
      set_and masks.zero (flip after_either) k ∙ ap₂ (λ a b. a && b) (is.zero k h) (set_flip after_either k either_small h ∙ ap not either)

  -- the first digits of fractions
  abbrev fractions : ℕ
  fractions = bit_and (shifted 1 masks.dot) masks.digit

  set_fraction : (k : ℕ) → k < 64 → is_set fractions k ≡ (passes_before (is_at bytes 46) false k && is_digit_at bytes k)
  set_fraction k h = set_and (shifted 1 masks.dot) masks.digit k ∙ ap₂ (λ a b. a && b) (set_after masks.dot (is_at bytes 46) is.dot k h) (is.digit k h)

  -- adding them to the digits, a carry comes into the places behind a digit of a fraction
  carried : (k : ℕ) → k ≤ 64 → carry fractions masks.digit k ≡ is_behind_fraction bytes k
  unfolding carry
  carried zero h = refl
  carried (suc k) h =
      (λ t. most (set_fraction k (omega (arith, h)) t) (is.digit k (omega (arith, h)) t) (carried k (omega (arith, h)) t))
      ∙ equal3 (λ x d c. most (x && d) d c) (λ x d c. d && (x || c)) tt (passes_before (is_at bytes 46) false k) (is_digit_at bytes k) (is_behind_fraction bytes k)

  abbrev behind : ℕ
  behind = (fractions + masks.digit) % 2 ^ 64

  set_behind : (k : ℕ) → k < 64 → is_digit_at bytes k ≡ false → is_set behind k ≡ is_behind_fraction bytes k
  set_behind k h none =
      set_word (fractions + masks.digit) k h ∙ set_sum fractions masks.digit k
      ∙ (λ t. xor (xor (set_fraction k h t) (is.digit k h t)) (carried k (omega (arith, h)) t))
      ∙ ap (λ d. xor (xor (passes_before (is_at bytes 46) false k && d) d) (is_behind_fraction bytes k)) none
      ∙ equal3 (λ x y c. xor (xor (x && false) false) c) (λ x y c. c) tt (passes_before (is_at bytes 46) false k) true (is_behind_fraction bytes k)

  abbrev after_comma : ℕ
  after_comma = bit_or (shifted 1 masks.comma) 1

  abbrev commas : ℕ
  commas = bit_and masks.comma (shifted 1 masks.digit)

  abbrev blanks : ℕ
  blanks = bit_and masks.blank after_comma

  abbrev minuses : ℕ
  minuses = bit_and masks.minus (bit_or after_comma (shifted 1 masks.blank))

  abbrev dots : ℕ
  dots = bit_and (bit_and masks.dot (shifted 1 masks.digit)) (flip behind)

  abbrev digits : ℕ
  digits = bit_and masks.digit (flip (shifted 1 first_zeros))

  set_dots : (k : ℕ) → k < 64 → is_set dots k ≡ ((is_at bytes 46 k && passes_before (is_digit_at bytes) false k) && not (is_behind_fraction bytes k))
  set_dots k h =
      set_and (bit_and masks.dot (shifted 1 masks.digit)) (flip behind) k
      ∙ ap₂ (λ a b. a && b)
      (set_and masks.dot (shifted 1 masks.digit) k ∙ ap₂ (λ a b. a && b) (is.dot k h) (set_after masks.digit (is_digit_at bytes) is.digit k h))
      (set_flip behind k (mod-lt (fractions + masks.digit) (pow_pos 64)) h)
      ∙ at (is_at bytes 46 k) refl
    where
      at : (y : Bool) → is_at bytes 46 k ≡ y
          → ((y && passes_before (is_digit_at bytes) false k) && not (is_set behind k)) ≡ ((y && passes_before (is_digit_at bytes) false k) && not (is_behind_fraction bytes k))
      at false e = refl
      at true e = ap (λ b. passes_before (is_digit_at bytes) false k && not b) (set_behind k h (ap is_ascii_digit (byte_is bytes 46 k e)))

  pub set_fitting : (k : ℕ) → k < 64 → is_set (bit_or (bit_or (bit_or (bit_or commas blanks) minuses) dots) digits) k ≡ fits_after bytes k
  set_fitting k h =
      let comma = set_after_first masks.comma (is_at bytes 44) is.comma k h in
      set_or (bit_or (bit_or (bit_or commas blanks) minuses) dots) digits k
      ∙ ap₂ (λ a b. a || b)
      (set_or (bit_or (bit_or commas blanks) minuses) dots k
      ∙ ap₂ (λ a b. a || b)
      (set_or (bit_or commas blanks) minuses k
      ∙ ap₂ (λ a b. a || b)
      (set_or commas blanks k
      ∙ ap₂ (λ a b. a || b)
      (set_and masks.comma (shifted 1 masks.digit) k ∙ ap₂ (λ a b. a && b) (is.comma k h) (set_after masks.digit (is_digit_at bytes) is.digit k h))
      (set_and masks.blank after_comma k ∙ ap₂ (λ a b. a && b) (is.blank k h) comma))
      (set_and masks.minus (bit_or after_comma (shifted 1 masks.blank)) k
      ∙ ap₂ (λ a b. a && b) (is.minus k h) (set_or after_comma (shifted 1 masks.blank) k ∙ ap₂ (λ a b. a || b) comma (set_after masks.blank (is_at bytes 32) is.blank k h))))
      (set_dots k h))
      (set_and masks.digit (flip (shifted 1 first_zeros)) k ∙ ap₂ (λ a b. a && b) (is.digit k h) (set_after_none first_zeros (is_first_zero bytes) set_first_zero k h))
