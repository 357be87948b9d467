-- Facts of Bools that hold as each of their cases computes.
use Rattle.std.proofs.Common.{◌≡◌, ℕ, zero, suc, ◌<◌, ◌⊎◌, inl, inr, subst, arith, Bool, true, false, not, ◌&&◌, ◌||◌, T, refl}
use Rattle.std.proofs.lemmas.Bool.{cases_lt}

abbrev pub xor : Bool → Bool → Bool
xor true b = not b
xor false b = b

abbrev pub same : Bool → Bool → Bool
same a b = not (xor a b)

pub same_is : (a b : Bool) → T (same a b) → a ≡ b
same_is true true h = refl
same_is false false h = refl
same_is true false h = absurd h
same_is false true h = absurd h

pub is_true : (a : Bool) → T a → a ≡ true
is_true true h = refl
is_true false h = absurd h

pub not_true : (a : Bool) → not a ≡ true → a ≡ false
not_true true h = absurd cc
not_true false h = refl

pub not_false : (a : Bool) → not a ≡ false → a ≡ true
not_false true h = refl
not_false false h = absurd cc

-- both of two tests
pub both : (a b : Bool) → T (a && b) → T a × T b
both true b h = (tt, h)
both false b h = absurd h

pub both_true : (a b : Bool) → (a && b) ≡ true → (a ≡ true) × (b ≡ true)
both_true true b e = (refl, e)
both_true false b e = absurd cc

-- one of two tests
pub either_true : (a b : Bool) → (a || b) ≡ true → (a ≡ true) ⊎ (b ≡ true)
either_true true b e = inl refl
either_true false b e = inr e

-- no test both fails and passes
pub never : {A : Type 0} {a : Bool} → a ≡ false → a ≡ true → A
never f t = absurd cc

-- the second of two tests, where the first holds
pub implied : (a b : Bool) → T (not a || b) → a ≡ true → T b
implied true b h e = h
implied false b h e = absurd cc

abbrev pub each : (Bool → Bool) → Bool
each test = test true && test false

pub each_is : (test : Bool → Bool) → T (each test) → (a : Bool) → T (test a)
each_is test h true = (both (test true) (test false) h).0
each_is test h false = (both (test true) (test false) h).1

abbrev pub each3 : (Bool → Bool → Bool → Bool) → Bool
each3 test = each (λ a. each (λ b. each (test a b)))

pub each3_is : (test : Bool → Bool → Bool → Bool) → T (each3 test) → (a b c : Bool) → T (test a b c)
each3_is test h a b c = each_is (test a b) (each_is (λ b. each (test a b)) (each_is (λ a. each (λ b. each (test a b))) h a) b) c

pub equal3 : (f g : Bool → Bool → Bool → Bool) → T (each3 (λ a b c. same (f a b c) (g a b c))) → (a b c : Bool) → f a b c ≡ g a b c
equal3 f g h a b c = same_is (f a b c) (g a b c) (each3_is (λ a b c. same (f a b c) (g a b c)) h a b c)

-- a test of each number below n, by computation
abbrev pub all_below : (ℕ → Bool) → ℕ → Bool
all_below test zero = true
all_below test (suc n) = test n && all_below test n

pub below_is : (test : ℕ → Bool) (n : ℕ) → T (all_below test n) → (k : ℕ) → k < n → T (test k)
below_is test zero h k l = (let no : ⊥ = omega arith in absurd no)
below_is test (suc n) h k l = elim (cases_lt k n) [
  | inl low ↦ below_is test n (both (test n) (all_below test n) h).1 k low
  | inr high ↦ (let last : n ≡ k = omega arith in subst (λ m. T (test m)) last (both (test n) (all_below test n) h).0)
]
