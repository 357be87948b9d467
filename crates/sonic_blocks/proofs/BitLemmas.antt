-- A bit of a word, through each operation on words.
use Rattle.std.proofs.Common.{◌≡◌, ℕ, zero, suc, ◌+◌, ◌-◌, ◌*◌, ◌/◌, ◌%◌, ◌^◌, ◌<◌, ◌≤◌, min, max, Bool, true, false, not, ◌&&◌, ◌||◌, ◌==◌, cond, List, get_or, refl, sym, ap, ◌∙◌, arith, w64, pow_pos}
use Rattle.std.specs.Int.{bit_at}
use Rattle.std.proofs.lemmas.Nat.Bits.{bit_at-lt, bit_at-zero, bit_at_and, bit_at_or, bit_at_xor, bit_at_not, bit_at_cat_low, bit_at_cat_high, bit_at_ones_above}
use Rattle.std.proofs.lemmas.Simd.{bit_mask_l}
use lib.Bits.{bit_and, bit_or, bit_xor}
use lib.Lanes.{mask_l}
use Rattle.sonic_blocks.specs.Bits.{is_set}
use Rattle.sonic_blocks.proofs.BoolLemmas.{xor}

-- a number below 2 is 0 or 1
pub zero_or_one : (P : ℕ → Type 0) → P 0 → P 1 → (x : ℕ) → x < 2 → P x
zero_or_one P p q zero h = p
zero_or_one P p q (suc zero) h = q
zero_or_one P p q (suc (suc x)) h = (let no : ⊥ = omega arith in absurd no)

-- a fact of one bit of each of two numbers
pub two_bits : (P : ℕ → ℕ → Type 0) → P 0 0 → P 0 1 → P 1 0 → P 1 1 → (a b k : ℕ) → P (bit_at a k) (bit_at b k)
two_bits P p q r s a b k =
    let of = λ (x : ℕ) (y : P x 0) (z : P x 1). zero_or_one (P x) y z (bit_at b k) (bit_at-lt b k) in
    zero_or_one (λ x. P x (bit_at b k)) (of 0 p q) (of 1 r s) (bit_at a k) (bit_at-lt a k)

pub set_and : (a b k : ℕ) → is_set (bit_and a b) k ≡ (is_set a k && is_set b k)
unfolding is_set
set_and a b k = ap (λ x. x == 1) (bit_at_and a b k) ∙ two_bits (λ x y. (min x y == 1) ≡ ((x == 1) && (y == 1))) refl refl refl refl a b k

pub set_or : (a b k : ℕ) → is_set (bit_or a b) k ≡ (is_set a k || is_set b k)
unfolding is_set
set_or a b k = ap (λ x. x == 1) (bit_at_or a b k) ∙ two_bits (λ x y. (max x y == 1) ≡ ((x == 1) || (y == 1))) refl refl refl refl a b k

pub set_xor : (a b k : ℕ) → is_set (bit_xor a b) k ≡ xor (is_set a k) (is_set b k)
unfolding is_set
set_xor a b k = ap (λ x. x == 1) (bit_at_xor a b k) ∙ two_bits (λ x y. ((x + y) % 2 == 1) ≡ xor (x == 1) (y == 1)) refl refl refl refl a b k

-- all bits of a word turned
abbrev pub flip : ℕ → ℕ
flip a = 2 ^ 64 - 1 - a

pub set_flip : (a k : ℕ) → a < 2 ^ 64 → k < 64 → is_set (flip a) k ≡ not (is_set a k)
unfolding is_set
set_flip a k small h = ap (λ x. x == 1) (bit_at_not w64 a k small h) ∙ zero_or_one (λ x. ((1 - x) == 1) ≡ not (x == 1)) refl refl (bit_at a k) (bit_at-lt a k)

pub set_zero : (k : ℕ) → is_set 0 k ≡ false
unfolding is_set
set_zero k = ap (λ x. x == 1) (bit_at-zero k)

-- the bits that a word keeps of a number
pub set_word : (a k : ℕ) → k < 64 → is_set (a % 2 ^ 64) k ≡ is_set a k
unfolding is_set
set_word a k h =
    let parts : a ≡ a / 2 ^ 64 * 2 ^ 64 + a % 2 ^ 64 = omega arith in
    ap (λ x. x == 1) (sym (ap (λ x. bit_at x k) parts ∙ bit_at_cat_low (a / 2 ^ 64) 64 (a % 2 ^ 64) k h))

-- a word shifted to the left
abbrev pub shifted : ℕ → ℕ → ℕ
shifted n a = a * 2 ^ n % 2 ^ 64

plus_zero : (a n k : ℕ) → is_set (a * 2 ^ n) k ≡ is_set (a * 2 ^ n + 0) k
plus_zero a n k = ap (λ x. is_set x k) (omega arith)

pub set_shifted_low : (n a k : ℕ) → k < n → k < 64 → is_set (shifted n a) k ≡ false
unfolding is_set
set_shifted_low n a k low h = set_word (a * 2 ^ n) k h ∙ plus_zero a n k ∙ ap (λ x. x == 1) (bit_at_cat_low a n 0 k low ∙ bit_at-zero k)

pub set_shifted : (n a k : ℕ) → n ≤ k → k < 64 → is_set (shifted n a) k ≡ is_set a (k - n)
unfolding is_set
set_shifted n a k high h = set_word (a * 2 ^ n) k h ∙ plus_zero a n k ∙ ap (λ x. x == 1) (bit_at_cat_high a n 0 k (pow_pos n) high)

-- a carry of 0 or 1 as a word
pub set_carry_zero : (c : ℕ) → c < 2 → is_set c 0 ≡ (c == 1)
unfolding is_set
set_carry_zero c h = zero_or_one (λ x. (bit_at x 0 == 1) ≡ (x == 1)) refl refl c h

pub set_carry_suc : (c k : ℕ) → c < 2 → is_set c (suc k) ≡ false
unfolding is_set
set_carry_suc c k h = zero_or_one (λ x. (bit_at x (suc k) == 1) ≡ false) (ap (λ x. x == 1) (bit_at-zero (suc k))) (ap (λ x. x == 1) (bit_at_ones_above 1 (suc k) (omega arith))) c h

pub set_top : (a : ℕ) → a < 2 ^ 64 → (a / 2 ^ 63 == 1) ≡ is_set a 63
unfolding is_set
set_top a h =
    let same : a / 2 ^ 63 ≡ a / 2 ^ 63 % 2 = omega arith in
    ap (λ x. x == 1) same

-- the bits of lanes
pub set_mask : (lanes : List Bool) (k : ℕ) → is_set (mask_l lanes) k ≡ get_or lanes k false
unfolding is_set
set_mask lanes k = ap (λ x. x == 1) (bit_mask_l lanes k) ∙ back (get_or lanes k false)
  where
    back : (b : Bool) → (cond b 1 0 == 1) ≡ b
    back true = refl
    back false = refl
