-- Six shifts give each bit the parity of all bits up to it.
use Rattle.std.proofs.Common.{◌≡◌, ℕ, suc, ◌+◌, ◌-◌, ◌<◌, ◌≤◌, ◌⊎◌, inl, inr, Bool, true, false, sym, ap, ap₂, ◌∙◌, arith, add-one}
use Rattle.std.proofs.lemmas.Bool.{cases_lt}
use lib.Bits.{bit_xor}
use Rattle.sonic_blocks.specs.Bits.{is_set, is_odd, count_below}
use Rattle.sonic_blocks.proofs.BoolLemmas.{xor, equal3}
use Rattle.sonic_blocks.proofs.BitLemmas.{set_xor, shifted, set_shifted_low, set_shifted}
use Rattle.sonic_blocks.proofs.CountLemmas.{count_odd}

module _ (x : ℕ) where
  -- the parity of the bits below n
  abbrev parity : ℕ → Bool
  parity n = is_odd (count_below (is_set x) 0 n)

  -- each bit of y is the parity of the n bits of x that end with it
  abbrev Covers : ℕ → ℕ → Type 0
  Covers n y = (k : ℕ) → k < 64 → is_set y k ≡ xor (parity (suc k)) (parity (suc k - n))

  covers_itself : Covers 1 x
  covers_itself k h =
      let one : suc k - 1 ≡ k = omega arith in
      equal3 (λ a b c. b) (λ a b c. xor (xor a b) a) tt (parity k) (is_set x k) true
      ∙ ap₂ xor (sym (count_odd (is_set x) 0 k)) (ap parity (sym one))

  doubled : (n y : ℕ) → Covers n y → Covers (n + n) (bit_xor y (shifted n y))
  doubled n y covers k h = set_xor y (shifted n y) k ∙ joined (cases_lt k n)
    where
      joined : (k < n) ⊎ (n ≤ k) → xor (is_set y k) (is_set (shifted n y) k) ≡ xor (parity (suc k)) (parity (suc k - (n + n)))
      joined (inl low) =
          let from : suc k - n ≡ suc k - (n + n) = omega arith in
          ap₂ xor (covers k h) (set_shifted_low n y k low h)
          ∙ equal3 (λ a b c. xor (xor a b) false) (λ a b c. xor a b) tt (parity (suc k)) (parity (suc k - n)) true
          ∙ ap (λ m. xor (parity (suc k)) (parity m)) from
      joined (inr high) =
          let first : suc k - n ≡ suc (k - n) = omega arith in
          let second : suc (k - n) - n ≡ suc k - (n + n) = omega arith in
          ap₂ xor (covers k h ∙ ap (λ m. xor (parity (suc k)) (parity m)) first) (set_shifted n y k high h ∙ covers (k - n) (omega arith))
          ∙ equal3 (λ a b c. xor (xor a b) (xor b c)) (λ a b c. xor a c) tt (parity (suc k)) (parity (suc (k - n))) (parity (suc (k - n) - n))
          ∙ ap (λ m. xor (parity (suc k)) (parity m)) second

  abbrev twice : ℕ → ℕ → ℕ
  twice n y = bit_xor y (shifted n y)

  pub covers_all : (k : ℕ) → k < 64 → is_set (twice 32 (twice 16 (twice 8 (twice 4 (twice 2 (twice 1 x)))))) k ≡ parity (k + 1)
  unfolding count_below
  covers_all k h =
      let none : suc k - 64 ≡ 0 = omega arith in
      doubled 32 _ (doubled 16 _ (doubled 8 _ (doubled 4 _ (doubled 2 _ (doubled 1 x covers_itself))))) k h
      ∙ ap (λ m. xor (parity (suc k)) (parity m)) none
      ∙ equal3 (λ a b c. xor a false) (λ a b c. a) tt (parity (suc k)) true true ∙ ap parity (sym (add-one k))
