-- The lowest bits of a word, and the places of a text from one on.
use Rattle.std.proofs.Common.{◌≡◌, ℕ, ◌+◌, ◌-◌, ◌*◌, ◌%◌, ◌^◌, ◌<◌, ◌≤◌, inl, inr, Bool, true, false, ◌&&◌, ◌==◌, nat_lt, refl, sym, ap, ◌∙◌, arith}
use Rattle.std.proofs.Math.Pow.{pow-lt}
use Rattle.std.proofs.lemmas.Bool.{cases_lt}
use Rattle.std.proofs.lemmas.Bool.Decides.{nat_tests}
use Rattle.std.proofs.lemmas.Nat.Bits.{bit_at_ones, bit_at_ones_above}
use Rattle.sonic_blocks.specs.Bits.{is_set}

below : (k n : ℕ) → k < n → nat_lt k n ≡ true
below k n h = grind (arith, nat_tests)

not_below : (k n : ℕ) → n ≤ k → nat_lt k n ≡ false
not_below k n h = grind (arith, nat_tests)

-- the n lowest bits
ones_lowest : (n k : ℕ) → is_set (2 ^ n - 1) k ≡ nat_lt k n
unfolding is_set
ones_lowest n k = elim (cases_lt k n) [
  | inl l ↦ ap (λ b. b == 1) (bit_at_ones n k l) ∙ sym (below k n l)
  | inr l ↦ ap (λ b. b == 1) (bit_at_ones_above n k l) ∙ sym (not_below k n l)
]

pub shifted_one : (n k : ℕ) → n < 64 → is_set (1 * 2 ^ n % 2 ^ 64 - 1) k ≡ nat_lt k n
shifted_one n k h =
    let less : 2 ^ n < 2 ^ 64 = pow-lt h in
    let e : 1 * 2 ^ n % 2 ^ 64 ≡ 2 ^ n = omega arith in
    ap (λ m. is_set (m - 1) k) e ∙ ones_lowest n k

pub all_bits : (n k : ℕ) → k < 64 → 64 ≤ n → is_set (2 ^ 64 - 1) k ≡ nat_lt k n
all_bits n k h l = ones_lowest 64 k ∙ below k 64 h ∙ sym (below k n (omega arith))

-- k places after p are in the text where k is one of those that are left
pub left_in : (p k n : ℕ) → p ≤ n → nat_lt k (n - p) ≡ nat_lt (p + k) n
left_in p k n h = elim (cases_lt k (n - p)) [
  | inl l ↦ below k (n - p) l ∙ sym (below (p + k) n (omega arith))
  | inr l ↦ not_below k (n - p) l ∙ sym (not_below (p + k) n (omega arith))
]

pub either_order : (a b : Bool) → (a && b) ≡ (b && a)
either_order true true = refl
either_order true false = refl
either_order false true = refl
either_order false false = refl
