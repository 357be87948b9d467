-- How many bits of a word are set.
use Rattle.std.proofs.Common.{◌≡◌, ℕ, zero, suc, ◌+◌, ◌-◌, ◌/◌, ◌%◌, ◌^◌, ◌<◌, ◌≤◌, ◌==◌, ◌&&◌, Bool, true, false, cond, inl, inr, refl, ap, ◌∙◌, arith, w64, mod-lt, pow_pos, zero-add, suc-add}
use Rattle.std.proofs.lemmas.Bool.{cases_lt}
use lib.Bits.{bit_and, and_le_l}
use lib.Count.{ones, ones_cat}
use lib.Pow.{mod-pow-add}
use Rattle.std.specs.Int.{trailing_zeros}
use Rattle.sonic_blocks.specs.Bits.{is_set, count_below}
use Rattle.sonic_blocks.proofs.BitLemmas.{zero_or_one, set_and}
use Rattle.sonic_blocks.proofs.CountLemmas.{count_same, count_none}
use Rattle.sonic_blocks.proofs.LowestLemmas.{lowest_within, one_less_below, one_less_above, lowest_cleared}

-- the bits below n are as many as the ones of what they make
ones_below : (x n : ℕ) → ones (x % 2 ^ n) ≡ count_below (is_set x) 0 n
unfolding count_below is_set ones
ones_below x zero = let none : x % 1 ≡ 0 = omega arith in ap ones none
ones_below x (suc n) =
    let e : suc n ≡ 1 + n = omega arith in
    ap ones (ap (λ m. x % 2 ^ m) e ∙ mod-pow-add x 1 n) ∙ ones_cat n (x / 2 ^ n % 2) (x % 2 ^ n) (mod-lt x (pow_pos n)) ∙ ap (λ m. ones (x / 2 ^ n % 2) + m) (ones_below x n)
    ∙ zero_or_one (λ b. ones b + count_below (is_set x) 0 n ≡ cond (b == 1) (suc (count_below (is_set x) 0 n)) (count_below (is_set x) 0 n))
    (zero-add _) (suc-add 0 _ ∙ ap suc (zero-add _)) (x / 2 ^ n % 2) (mod-lt (x / 2 ^ n) (omega arith))

pub ones_all : (x : ℕ) → x < 2 ^ 64 → ones x ≡ count_below (is_set x) 0 64
ones_all x h = let e : x ≡ x % 2 ^ 64 = omega arith in ap ones e ∙ ones_below x 64

module _ (n : ℕ) (some : 0 < n) (small : n < 2 ^ 64) where
  abbrev lowest : ℕ
  lowest = trailing_zeros w64 n

  -- of a word that shares no bit with n, the bits below the lowest of n
  pub ones_lower : (m : ℕ) → m < 2 ^ 64 → ((k : ℕ) → k < 64 → is_set m k ≡ true → is_set n k ≡ false) → ones (bit_and m (n - 1)) ≡ count_below (is_set m) 0 lowest
  ones_lower m fits apart =
      ones_all (bit_and m (n - 1)) (omega (arith, fits, and_le_l m (n - 1)))
      ∙ count_none (is_set (bit_and m (n - 1))) 0 lowest 64 (omega (arith, lowest_within w64 n some small)) higher
      ∙ count_same (is_set (bit_and m (n - 1))) (is_set m) 0 lowest (λ k l. set_and m (n - 1) k ∙ ap (λ b. is_set m k && b) (one_less_below w64 n some small k l) ∙ alone (is_set m k))
    where
      alone : (a : Bool) → (a && true) ≡ a
      alone true = refl
      alone false = refl

      neither : (a b : Bool) → (a ≡ true → b ≡ false) → (a && b) ≡ false
      neither true b h = h refl
      neither false b h = refl

      off : (k : ℕ) → lowest ≤ k → k < 64 → is_set m k ≡ true → is_set (n - 1) k ≡ false
      off k from to set = elim (cases_lt lowest k) [
        | inl l ↦ one_less_above w64 n some small k l ∙ apart k to set
        | inr l ↦ (let same : k ≡ lowest = omega arith in ap (is_set (n - 1)) same ∙ lowest_cleared w64 n some small)
      ]

      higher : (k : ℕ) → lowest ≤ k → k < 64 → is_set (bit_and m (n - 1)) k ≡ false
      higher k from to = set_and m (n - 1) k ∙ neither (is_set m k) (is_set (n - 1) k) (off k from to)
