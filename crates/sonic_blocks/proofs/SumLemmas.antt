-- A bit of a sum, by the carry into it.
use Rattle.std.proofs.Common.{◌≡◌, ℕ, zero, suc, ◌+◌, ◌/◌, ◌%◌, ◌^◌, ◌<◌, Bool, true, false, ◌&&◌, ◌||◌, ◌==◌, refl, sym, ap, ◌∙◌, arith, add-one}
use lib.Pow.{shr-shr}
use Rattle.sonic_blocks.specs.Bits.{is_set}
use Rattle.sonic_blocks.proofs.BitLemmas.{two_bits}
use Rattle.sonic_blocks.proofs.BoolLemmas.{xor}

-- two of three at least
abbrev pub most : Bool → Bool → Bool → Bool
most a b c = (a && b) || (xor a b && c)

-- the carry of the sum a + b into bit k
unfoldable pub carry : ℕ → ℕ → ℕ → Bool
carry a b zero = false
carry a b (suc k) = most (is_set a k) (is_set b k) (carry a b k)

abbrev pub one_if : Bool → ℕ
one_if true = 1
one_if false = 0

next_carry : (c : Bool) (a b k : ℕ) → (a / 2 ^ k % 2 + b / 2 ^ k % 2 + one_if c) / 2 ≡ one_if (most (is_set a k) (is_set b k) c)
unfolding is_set
next_carry true = two_bits (λ x y. (x + y + 1) / 2 ≡ one_if (most (x == 1) (y == 1) true)) refl refl refl refl
next_carry false = two_bits (λ x y. (x + y + 0) / 2 ≡ one_if (most (x == 1) (y == 1) false)) refl refl refl refl

low_bit : (c : Bool) (a b k : ℕ) → ((a / 2 ^ k % 2 + b / 2 ^ k % 2 + one_if c) % 2 == 1) ≡ xor (xor (is_set a k) (is_set b k)) c
unfolding is_set
low_bit true = two_bits (λ x y. ((x + y + 1) % 2 == 1) ≡ xor (xor (x == 1) (y == 1)) true) refl refl refl refl
low_bit false = two_bits (λ x y. ((x + y + 0) % 2 == 1) ≡ xor (xor (x == 1) (y == 1)) false) refl refl refl refl

half : (a k : ℕ) → a / 2 ^ suc k ≡ a / 2 ^ k / 2
half a k = ap (λ n. a / 2 ^ n) (sym (add-one k)) ∙ sym (shr-shr a k 1)

-- the sum above bit k is that of its parts above it, and the carry
sum_above : (a b k : ℕ) → (a + b) / 2 ^ k ≡ a / 2 ^ k + b / 2 ^ k + one_if (carry a b k)
unfolding carry
sum_above a b zero = omega arith
sum_above a b (suc k) =
    let before = sum_above a b k in
    let next = next_carry (carry a b k) a b k in
    omega (arith, half (a + b) k, half a k, half b k, before, next)

pub set_sum : (a b k : ℕ) → is_set (a + b) k ≡ xor (xor (is_set a k) (is_set b k)) (carry a b k)
unfolding is_set
set_sum a b k =
    let above = sum_above a b k in
    let low : (a + b) / 2 ^ k % 2 ≡ (a / 2 ^ k % 2 + b / 2 ^ k % 2 + one_if (carry a b k)) % 2 = omega (arith, above) in
    ap (λ x. x == 1) low ∙ low_bit (carry a b k) a b k

-- a sum of two words is no word where a carry is left
pub sum_carries : (a b : ℕ) → a < 2 ^ 64 → b < 2 ^ 64 → (a + b) / 2 ^ 64 ≡ one_if (carry a b 64)
sum_carries a b f g = let above = sum_above a b 64 in omega (arith, f, g, above)
