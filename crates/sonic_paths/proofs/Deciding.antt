-- What holds or doesn't is known of a whole if it is known of its parts.
use Rattle.std.proofs.Common.{◌⊎◌, inl, inr, ℕ, ◌≤◌, arith}
use Rattle.std.proofs.lemmas.Bool.{cases_lt}

pub all_three : {A B C : Type 0} → A ⊎ ¬ A → B ⊎ ¬ B → C ⊎ ¬ C → (A × B × C) ⊎ ¬ (A × B × C)
all_three (inl a) (inl b) (inl c) = inl (a, b, c)
all_three (inr a) b c = inr (λ p. a p.0)
all_three a (inr b) c = inr (λ p. b p.1)
all_three a b (inr c) = inr (λ p. c p.2)

pub both : {A B : Type 0} → A ⊎ ¬ A → B ⊎ ¬ B → (A × B) ⊎ ¬ (A × B)
both (inl a) (inl b) = inl (a, b)
both (inr a) b = inr (λ p. a p.0)
both a (inr b) = inr (λ p. b p.1)

pub one_of_two : {A B : Type 0} → A ⊎ ¬ A → B ⊎ ¬ B → (A ⊎ B) ⊎ ¬ (A ⊎ B)
one_of_two (inl a) b = inl (inl a)
one_of_two a (inl b) = inl (inr b)
one_of_two (inr a) (inr b) = inr (λ p. elim p [ inl x ↦ a x | inr y ↦ b y ])

pub denied : {A : Type 0} → A ⊎ ¬ A → (¬ A) ⊎ ¬ (¬ A)
denied (inl a) = inr (λ n. n a)
denied (inr n) = inl n

pub at_most : (m n : ℕ) → (m ≤ n) ⊎ ¬ (m ≤ n)
at_most m n = elim (cases_lt n m) [ inl l ↦ inr (λ k. omega arith) | inr k ↦ inl k ]
