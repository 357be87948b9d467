-- Odd counts and odd runs, from one place to the next.
use Rattle.std.proofs.Common.{◌≡◌, ℕ, zero, suc, ◌+◌, ◌%◌, ◌<◌, ◌≤◌, Bool, true, false, not, ◌&&◌, ◌==◌, cond, refl, ap, ap₂, ◌∙◌, arith, mod-lt, inl, inr}
use Rattle.std.proofs.lemmas.Bool.{cases_lt}
use Rattle.sonic_blocks.specs.Bits.{is_odd, count_below, run_before, is_escaped}
use Rattle.sonic_blocks.proofs.BitLemmas.{zero_or_one}
use Rattle.sonic_blocks.proofs.BoolLemmas.{xor}

pub odd_suc : (n : ℕ) → is_odd (suc n) ≡ not (is_odd n)
odd_suc n =
    let e : suc n % 2 ≡ (n % 2 + 1) % 2 = omega arith in
    ap (λ x. x == 1) e ∙ zero_or_one (λ x. ((x + 1) % 2 == 1) ≡ not (x == 1)) refl refl (n % 2) (mod-lt n (omega arith))

-- one more place turns the parity where it passes the test
pub count_odd : (test : ℕ → Bool) (c n : ℕ) → is_odd (count_below test c (suc n)) ≡ xor (is_odd (count_below test c n)) (test n)
unfolding count_below
count_odd test c n = turned (count_below test c n) (test n)
  where
    with_true : (a : Bool) → not a ≡ xor a true
    with_true true = refl
    with_true false = refl

    with_false : (a : Bool) → a ≡ xor a false
    with_false true = refl
    with_false false = refl

    turned : (m : ℕ) (b : Bool) → is_odd (cond b (suc m) m) ≡ xor (is_odd m) b
    turned m true = odd_suc m ∙ with_true (is_odd m)
    turned m false = with_false (is_odd m)

-- a place is escaped by a backslash that isn't escaped itself
pub escaped_suc : (backslash : ℕ → Bool) (c n : ℕ) → is_escaped backslash c (suc n) ≡ (backslash n && not (is_escaped backslash c n))
unfolding run_before
escaped_suc backslash c n = longer (run_before backslash c n) (backslash n)
  where
    longer : (m : ℕ) (b : Bool) → is_odd (cond b (suc m) 0) ≡ (b && not (is_odd m))
    longer m true = odd_suc m
    longer m false = refl

-- what agrees below n is counted alike
pub count_same : (p q : ℕ → Bool) (c n : ℕ) → ((k : ℕ) → k < n → p k ≡ q k) → count_below p c n ≡ count_below q c n
unfolding count_below
count_same p q c zero h = refl
count_same p q c (suc n) h = ap₂ (λ b m. cond b (suc m) m) (h n (omega arith)) (count_same p q c n (λ k l. h k (omega arith)))

-- no more than n of the places below n are counted
pub count_few : (test : ℕ → Bool) (c n : ℕ) → count_below test c n ≤ c + n
unfolding count_below
count_few test c zero = omega arith
count_few test c (suc n) = more (test n) (count_few test c n)
  where
    more : (b : Bool) → count_below test c n ≤ c + n → cond b (suc (count_below test c n)) (count_below test c n) ≤ c + suc n
    more true e = omega arith
    more false e = omega arith

-- what is counted before comes on top
pub count_from : (test : ℕ → Bool) (c n : ℕ) → count_below test c n ≡ c + count_below test 0 n
unfolding count_below
count_from test c zero = omega arith
count_from test c (suc n) = more (test n) (count_from test c n)
  where
    more : (b : Bool) → count_below test c n ≡ c + count_below test 0 n → cond b (suc (count_below test c n)) (count_below test c n) ≡ c + cond b (suc (count_below test 0 n)) (count_below test 0 n)
    more true e = omega arith
    more false e = e

-- over places that all fail the test the count stays
pub count_none : (test : ℕ → Bool) (c m n : ℕ) → m ≤ n → ((k : ℕ) → m ≤ k → k < n → test k ≡ false) → count_below test c n ≡ count_below test c m
unfolding count_below
count_none test c m zero h none = let same : 0 ≡ m = omega arith in ap (count_below test c) same
count_none test c m (suc n) h none = elim (cases_lt n m) [
  | inl l ↦ (let same : suc n ≡ m = omega arith in ap (count_below test c) same)
  | inr l ↦ ap (λ b. cond b (suc (count_below test c n)) (count_below test c n)) (none n l (omega arith)) ∙ count_none test c m n l (λ k from to. none k from (omega arith))
]

-- and it never falls
pub count_grows : (test : ℕ → Bool) (c m n : ℕ) → m ≤ n → count_below test c m ≤ count_below test c n
unfolding count_below
count_grows test c m zero h = let same : m ≡ 0 = omega arith in omega (arith, ap (count_below test c) same)
count_grows test c m (suc n) h = elim (cases_lt n m) [
  | inl l ↦ (let same : m ≡ suc n = omega arith in omega (arith, ap (count_below test c) same))
  | inr l ↦ more (test n) (count_grows test c m n l)
]
  where
    more : (b : Bool) → count_below test c m ≤ count_below test c n → count_below test c m ≤ cond b (suc (count_below test c n)) (count_below test c n)
    more true e = omega arith
    more false e = omega arith
