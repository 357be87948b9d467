-- The keys of columns.
use Rattle.std.proofs.Common.{◌≡◌, ◌∙◌, inl, inr, ap, sym, ℕ, zero, suc, ◌+◌, ◌<◌, List, [], ◌∷◌, ◌++◌, length, map, get_or, set, take, arith, subst}
use Rattle.std.specs.Prelude.{Option, Some, slice_get}
use Rattle.std.proofs.lemmas.Bool.{cases_eq}
use Rattle.std.proofs.lemmas.Option.{slice_get_within, get_or_from_slice_get, same_Some}
use Rattle.std.proofs.lemmas.List.{map-append, take_more}
use Rattle.std.proofs.lemmas.List.Elements.{Contains-get_or}
use Rattle.sonic_find.proofs.WalkLemmas.List.{set_cases, set_here}
use Rattle.sonic_find.specs.Internal.Columns.{key_path, AreKeysOf}
use Rattle.sonic_pointer.specs.Paths.{IsOrders}
use Rattle.sonic_text.specs.Paths.{Path}

-- an element of a list is that of the list it was made from
pub mapped_there : {A B : Type 0} (f : A → B) (xs : List A) (n : ℕ) (y : B) (d : A) → slice_get (map f xs) n ≡ Some y → f (get_or xs n d) ≡ y
mapped_there f [] n y d h = absurd (let w = slice_get_within [] n y h in omega arith)
mapped_there f (x ∷ xs) zero y d h = same_Some (f x) y h
mapped_there f (x ∷ xs) (suc n) y d h = mapped_there f xs n y d h

-- what is true of all numbers but one, and of that one, is true of the next ones
pub one_more_other : {P : ℕ → List ℕ → Type 0} (keys : List (List ℕ)) (number : ℕ)
    → ((n : ℕ) (k : List ℕ) → n < number → slice_get keys n ≡ Some k → P n k) → ((k : List ℕ) → slice_get keys number ≡ Some k → P number k)
    → (n : ℕ) (k : List ℕ) → n < number + 1 → slice_get keys n ≡ Some k → P n k
one_more_other {P} keys number before now n k less there = elim (cases_eq n number) [
  | inl e ↦ subst (λ m. P m k) (sym e) (now k (subst (λ m. slice_get keys m ≡ Some k) e there))
  | inr other ↦ before n k (omega (arith, other, less)) there
]

-- a number among those of the paths that are this one
pub order_path : {paths : List Path} {prefix : Path} (orders : List ℕ) (i : ℕ) → IsOrders paths prefix orders → i < length orders
    → slice_get paths (get_or orders i 0) ≡ Some prefix
order_path orders i is l = (is.exact (get_or orders i 0)).0 (Contains-get_or orders i 0 l)

-- a key more is known
pub keys_set : {K : Type 0} (text : K → List ℕ) (paths : List Path) (keys : List (Option K)) (i : ℕ) (key : K) → AreKeysOf text paths keys → i < length keys
    → slice_get paths i ≡ Some (key_path (text key)) → AreKeysOf text paths (set keys i (Some key))
keys_set {K} text paths keys i key known within is n k there = elim (set_cases keys i n (Some key)) [
  | inl e ↦
      let here : slice_get (set keys i (Some key)) i ≡ Some (Some k) = subst (λ m. slice_get (set keys i (Some key)) m ≡ Some (Some k)) e there in
      let same : key ≡ k = same_Some key k (same_Some (Some key) (Some k) (sym (set_here keys i (Some key) within) ∙ here)) in
      subst (λ m. slice_get paths m ≡ Some (key_path (text k))) (sym e) (subst (λ x. slice_get paths i ≡ Some (key_path (text x))) same is)
  | inr other ↦ known n k (sym other.1 ∙ there)
]

-- one more of the keys that are known
pub keys_more : {K : Type 0} (text : K → List ℕ) (paths : List Path) (keys : List K) (known : List (Option K)) (i : ℕ) (key : K) → AreKeysOf text paths known
    → slice_get known i ≡ Some (Some key) → map key_path (map text keys) ≡ take i paths → map key_path (map text (keys ++ key ∷ [])) ≡ take (i + 1) paths
keys_more {K} text paths keys known i key are there before =
    let is = are i key there in
    let within = slice_get_within paths i (key_path (text key)) is in
    let last : get_or paths i [] ≡ key_path (text key) = get_or_from_slice_get paths i (key_path (text key)) [] is in
    ap (map key_path) (map-append text keys (key ∷ [])) ∙ map-append key_path (map text keys) (text key ∷ [])
    ∙ ap (λ ps. ps ++ key_path (text key) ∷ []) before ∙ sym (take_more paths i [] within ∙ ap (λ p. take i paths ++ p ∷ []) last)
