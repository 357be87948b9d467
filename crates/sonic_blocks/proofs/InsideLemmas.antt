-- The bits inside strings, from the escaped bytes and the parity of the quotes.
use Rattle.std.proofs.Common.{◌≡◌, ℕ, zero, suc, ◌+◌, ◌-◌, ◌/◌, ◌%◌, ◌^◌, ◌<◌, ◌⊎◌, inl, inr, Bool, not, ◌&&◌, ◌==◌, cond, refl, sym, ap, ap₂, ◌∙◌, arith, add-one}
use Rattle.std.proofs.lemmas.Nat.Bits.{bit_at_ones}
use lib.Bits.{bit_and, bit_xor, xor_lt}
use Rattle.sonic_blocks.specs.Bits.{is_set, is_odd, count_below, is_escaped, is_quote, is_inside}
use Rattle.sonic_blocks.proofs.BoolLemmas.{xor, equal3}
use Rattle.sonic_blocks.proofs.BitLemmas.{zero_or_one, set_and, set_xor, set_zero, flip, set_flip, set_top}
use Rattle.sonic_blocks.proofs.CountLemmas.{count_odd, count_same}

-- what comes before turns the parity of all that follows
odd_from : (test : ℕ → Bool) (s n : ℕ) → xor (is_odd (count_below test 0 n)) (is_odd s) ≡ is_odd (count_below test s n)
unfolding count_below
odd_from test s zero = refl
odd_from test s (suc n) =
    ap (λ b. xor b (is_odd s)) (count_odd test 0 n) ∙ equal3 (λ a b c. xor (xor a b) c) (λ a b c. xor (xor a c) b) tt (is_odd (count_below test 0 n)) (test n) (is_odd s)
    ∙ ap (λ b. xor b (test n)) (odd_from test s n) ∙ sym (count_odd test s n)

abbrev pub IsAllOrNone : ℕ → Type 0
IsAllOrNone s = (s ≡ 0) ⊎ (s ≡ 2 ^ 64 - 1)

-- each bit of such a word is its lowest
each_bit : (s k : ℕ) → IsAllOrNone s → k < 64 → is_set s k ≡ is_odd (s % 2)
unfolding is_set
each_bit s k (inl none) h = ap (λ n. is_set n k) none ∙ set_zero k ∙ sym (ap (λ n. is_odd (n % 2)) none)
each_bit s k (inr all) h = ap (λ n. is_set n k) all ∙ ap (λ n. n == 1) (bit_at_ones 64 k h) ∙ sym (ap (λ n. is_odd (n % 2)) all)

all_or_none_small : (s : ℕ) → IsAllOrNone s → s < 2 ^ 64
all_or_none_small s (inl none) = omega arith
all_or_none_small s (inr all) = omega arith

-- the highest bit, in all places
spread : (x : ℕ) (inside : Bool) → x < 2 ^ 64 → is_set x 63 ≡ inside → (0 + (2 ^ 64 - x / 2 ^ 63)) % 2 ^ 64 ≡ cond inside (2 ^ 64 - 1) 0
spread x inside small top =
    zero_or_one (λ n. (0 + (2 ^ 64 - n)) % 2 ^ 64 ≡ cond (n == 1) (2 ^ 64 - 1) 0) refl refl (x / 2 ^ 63) (omega arith) ∙ ap (λ b. cond b (2 ^ 64 - 1) 0) (set_top x small ∙ top)

module _ (b q c s e x : ℕ) (all : IsAllOrNone s) (e_small : e < 2 ^ 64) (escaped : (k : ℕ) → k < 64 → is_set e k ≡ is_escaped (is_set b) c k)
    (parity : (k : ℕ) → k < 64 → is_set x k ≡ is_odd (count_below (is_set (bit_and q (flip e))) 0 (k + 1))) where
  abbrev quotes : ℕ → Bool
  quotes = is_quote (is_set b) (is_set q) c

  pub inside_bits : (k : ℕ) → k < 64 → is_set (bit_xor x s) k ≡ is_inside (is_set b) (is_set q) c (s % 2) k
  inside_bits k h =
      let each : (i : ℕ) → i < suc k → is_set (bit_and q (flip e)) i ≡ quotes i =
      λ i l. set_and q (flip e) i ∙ ap (λ y. is_set q i && y) (set_flip e i e_small (omega arith) ∙ ap not (escaped i (omega arith))) in
      set_xor x s k
      ∙ ap₂ xor (parity k h ∙ ap (λ n. is_odd (count_below (is_set (bit_and q (flip e))) 0 n)) (add-one k) ∙ ap is_odd (count_same _ quotes 0 (suc k) each)) (each_bit s k all h)
      ∙ odd_from quotes (s % 2) (suc k)

  pub inside_carry : x < 2 ^ 64 → (0 + (2 ^ 64 - bit_xor x s / 2 ^ 63)) % 2 ^ 64 ≡ cond (is_inside (is_set b) (is_set q) c (s % 2) 63) (2 ^ 64 - 1) 0
  inside_carry small = spread (bit_xor x s) _ (xor_lt 64 x s small (all_or_none_small s all)) (inside_bits 63 (omega arith))
