-- The row of an item, as it is told and begun anew.
use Rattle.std.proofs.Common.{◌≡◌, ◌∙◌, inl, inr, ap, sym, ℕ, ◌+◌, ◌<◌, List, [], ◌∷◌, ◌++◌, length, map, get_or, set, take, drop, arith, subst}
use Rattle.std.proofs.lemmas.Grind.{drop_more_same}
use Rattle.std.proofs.lemmas.List.{append_assoc, drop-set-lt, get_or-drop, map-append, take_more}
use Rattle.std.proofs.lemmas.Option.{same_Some}
use Rattle.std.specs.Prelude.{Some, slice_get}
use Rattle.sonic_find.proofs.WalkLemmas.List.{set_cases, set_here}

-- two lists that end alike have the same element there
pub rest_first : {X : Type 0} (xs ys : List X) (n : ℕ) (d : X) → drop n xs ≡ drop n ys → get_or xs n d ≡ get_or ys n d
rest_first xs ys n d e =
    let same : n + 0 ≡ n = omega arith in
    subst (λ m. get_or xs m d ≡ get_or ys m d) same (sym (get_or-drop n xs 0 d) ∙ ap (λ zs. get_or zs 0 d) e ∙ get_or-drop n ys 0 d)

-- and the same rest behind it, whatever is set there
pub rest_behind : {X : Type 0} (xs ys : List X) (n : ℕ) (a : X) → drop n xs ≡ drop n ys → drop (n + 1) (set xs n a) ≡ drop (n + 1) ys
rest_behind xs ys n a e = drop-set-lt (n + 1) xs n a (omega arith) ∙ drop_more_same xs ys n e

-- one more is told
pub told_more : {X Y : Type 0} (f : X → Y) (told : List Y) (xs : List X) (n : ℕ) (d : X) → n < length xs
    → (told ++ map f (take n xs)) ++ f (get_or xs n d) ∷ [] ≡ told ++ map f (take (n + 1) xs)
told_more f told xs n d l =
    append_assoc told (map f (take n xs)) (f (get_or xs n d) ∷ [])
    ∙ ap (λ ys. told ++ ys) (sym (ap (map f) (take_more xs n d l) ∙ map-append f (take n xs) (get_or xs n d ∷ [])))

-- one more is begun anew
pub blank_more : {X : Type 0} (xs : List X) (n : ℕ) (a : X) → n < length xs → ((m : ℕ) (x : X) → m < n → slice_get xs m ≡ Some x → x ≡ a)
    → (m : ℕ) (x : X) → m < n + 1 → slice_get (set xs n a) m ≡ Some x → x ≡ a
blank_more xs n a l before m x less there = elim (set_cases xs n m a) [
  | inl e ↦ sym (same_Some a x (sym (set_here xs n a l) ∙ subst (λ k. slice_get (set xs n a) k ≡ Some x) e there))
  | inr other ↦
      let differ = other.0 in
      before m x (omega (arith, less, differ)) (sym other.1 ∙ there)
]
