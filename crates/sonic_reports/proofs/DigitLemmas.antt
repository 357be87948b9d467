-- The digits of a number, and of the one after it.
use Rattle.std.proofs.Common.{◌≡◌, ◌∙◌, inl, inr, sym, ap, ℕ, zero, suc, ◌+◌, ◌/◌, ◌%◌, ◌^◌, ◌<◌, List, [], ◌∷◌, ◌++◌, length, get_or, set, drop, decimal, arith, refl}
use Rattle.std.proofs.lemmas.Bool.{cases_lt}
use Rattle.std.proofs.lemmas.Fmt.{decimal_digit, decimal_step}
use Rattle.std.proofs.lemmas.List.{length-append, length-drop}

-- the last element of a list that ends with one, and the list where another stands there
last_read : (p : List ℕ) (x : ℕ) → get_or (p ++ x ∷ []) (length p) 0 ≡ x
last_read [] x = refl
last_read (z ∷ p) x = last_read p x

last_exchanged : (p : List ℕ) (x y : ℕ) → set (p ++ x ∷ []) (length p) y ≡ p ++ y ∷ []
last_exchanged [] x y = refl
last_exchanged (z ∷ p) x y = ap (λ l. z ∷ l) (last_exchanged p x y)

-- the same of a longer list
pub end_exchanged : (s k : ℕ) (xs p : List ℕ) (x y : ℕ) → length xs ≡ suc k → drop s xs ≡ p ++ x ∷ [] → (get_or xs k 0 ≡ x) × (drop s (set xs k y) ≡ p ++ y ∷ [])
end_exchanged zero k xs p x y l e =
    let long : k ≡ length p = omega (arith, l, ap length e, length-append p (x ∷ [])) in
    (rw (long, e) (last_read p x), rw (long, e) (last_exchanged p x y))
end_exchanged (suc s) k [] p x y l e = absurd (omega (arith, l))
end_exchanged (suc s) zero (z ∷ xs) p x y l e = absurd (omega (arith, l, ap length e, length-drop s xs, length-append p (x ∷ [])))
end_exchanged (suc s) (suc k) (z ∷ xs) p x y l e = end_exchanged s k xs p x y (omega (arith, l)) e

-- a number and the one after it have the same digits but the last, unless that is a 9
pub record IsFollowed (n : ℕ) : Type 0 where
  pub first : List ℕ
  pub last : ℕ
  pub digits : decimal n ≡ first ++ last ∷ []
  pub next : last < 57 → decimal (n + 1) ≡ first ++ (last + 1) ∷ []

pub followed : (n : ℕ) → n + 1 < 2 ^ 64 → IsFollowed n
followed n fits = elim (cases_lt n 10) [
  | inl one ↦ record {
    first = [];
    last = 48 + n;
    digits = decimal_digit n one;
    next = λ less. decimal_digit (n + 1) (omega (arith, less)) ∙ ap (λ d. d ∷ []) (omega arith);
  }
  | inr more ↦ record {
    first = decimal (n / 10);
    last = 48 + n % 10;
    digits = decimal_step n more (omega (arith, fits));
    next = λ less.
        let tens : (n + 1) / 10 ≡ n / 10 = omega (arith, less) in
        let ones : 48 + (n + 1) % 10 ≡ 48 + n % 10 + 1 = omega (arith, less) in
        decimal_step (n + 1) (omega (arith, more)) fits ∙ rw (tens, ones) refl;
  }
]

-- the digits of the number after one, where the last digit is no 9
pub counted_on : (room : List ℕ) (start n : ℕ) → length room ≡ 20 → drop start room ≡ decimal n → get_or room 19 0 < 57 → n + 1 < 2 ^ 64 → drop start (set room 19 (get_or room 19 0 + 1)) ≡ decimal (n + 1)
counted_on room start n long is less fits =
    let f = followed n fits in
    let e = end_exchanged start 19 room f.first f.last (get_or room 19 0 + 1) long (is ∙ f.digits) in
    e.1 ∙ ap (λ d. f.first ++ (d + 1) ∷ []) e.0 ∙ sym (f.next (omega (arith, less, e.0)))
