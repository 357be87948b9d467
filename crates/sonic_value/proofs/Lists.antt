-- The lists that two values hold, item by item.
use Rattle.std.proofs.Common.{◌≡◌, ap₂, refl, ℕ, List, [], ◌∷◌}
use Rattle.sonic_text.specs.Trees.{Tree}
use Rattle.sonic_value.specs.Views.{elements_of, members_of}

-- the items show which list they come from
pub elements_one : (xs ys : List Tree) → elements_of xs ≡ elements_of ys → xs ≡ ys
elements_one [] [] e = refl
elements_one [] (y ∷ ys) e = absurd cc
elements_one (x ∷ xs) [] e = absurd cc
elements_one (x ∷ xs) (y ∷ ys) e =
    let first : x ≡ y = cc in
    let others : elements_of xs ≡ elements_of ys = cc in
    rw (first, elements_one xs ys others) refl

pub members_one : (xs ys : List (List ℕ × Tree)) → members_of xs ≡ members_of ys → xs ≡ ys
members_one [] [] e = refl
members_one [] (y ∷ ys) e = absurd cc
members_one (x ∷ xs) [] e = absurd cc
members_one (x ∷ xs) (y ∷ ys) e =
    let key : x.0 ≡ y.0 = cc in
    let value : x.1 ≡ y.1 = cc in
    let others : members_of xs ≡ members_of ys = cc in
    let pair : List ℕ → Tree → List ℕ × Tree = λ k v. (k, v) in
    let first : x ≡ y = ap₂ pair key value in
    rw (first, members_one xs ys others) refl
