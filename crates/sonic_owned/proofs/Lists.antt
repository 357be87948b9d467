-- The lists of a level, item by item.
use Rattle.std.proofs.Common.{◌≡◌, ◌⊎◌, ◌∙◌, ap, sym, inl, inr, refl, ℕ, zero, suc, true, false, nat_eq, ◌∷◌, ◌+◌, ◌<◌, ◌≤◌, List, [], length, get_or, map, Option, Some, None, option_map, arith}
use Rattle.std.proofs.lemmas.Bool.{cases_eq, cases_lt, and_parts, eqb-true}
use Rattle.std.specs.Cmp.Lexicographic.{pointwise, nat_list_eq_equiv}
use Rattle.std.specs.Option.{option_map_or}
use Rattle.sonic_owned.specs.Owned.{HasKeyAt}
use Rattle.sonic_owned.specs.Forms.{Form}
use Rattle.std.proofs.lemmas.List.{length-map}
use Rattle.std.proofs.lemmas.Option.{slice_get_past, slice_get-get_or, slice_get-map}
use Rattle.std.specs.List as list
use Rattle.std.specs.List.{slice_get, slice_set}
use Rattle.sonic_owned.specs.Puts.{with_value}
use Rattle.sonic_owned.proofs.Folds.{formed, elements_of, members_of}
use Rattle.sonic_owned.specs.Views.{form, pair_of}
use Rattle.sonic_owned.specs.declared.made.MadeText.{MadeText}
use Rattle.sonic_owned.specs.declared.value.OwnedLazyValue.{OwnedLazyValue}

pub elements-past : (vs : List OwnedLazyValue) (n : ℕ) → length vs ≤ n → slice_get (elements_of vs) n ≡ None
elements-past vs n h = slice_get_past (elements_of vs) n (rw (length-map vs form) h)

pub elements-at : (vs : List OwnedLazyValue) (n : ℕ) (d : OwnedLazyValue) → n < length vs → slice_get (elements_of vs) n ≡ Some (form (get_or vs n d))
elements-at vs n d h = slice_get-map form vs n ∙ ap (option_map form) (slice_get-get_or vs n d h)

pub members-past : (ms : List (MadeText × OwnedLazyValue)) (n : ℕ) → length ms ≤ n → slice_get (members_of ms) n ≡ None
members-past ms n h = slice_get_past (members_of ms) n (rw (length-map (map formed ms) pair_of, length-map ms formed) h)

pub members-at : (ms : List (MadeText × OwnedLazyValue)) (n : ℕ) (d : MadeText × OwnedLazyValue) → n < length ms → slice_get (members_of ms) n ≡ Some (pair_of (formed (get_or ms n d)))
members-at ms n d h =
    slice_get-map pair_of (map formed ms) n ∙ ap (option_map pair_of) (slice_get-map formed ms n ∙ ap (option_map formed) (slice_get-get_or ms n d h))

-- texts that are compared as equal are
pub texts_equal : (xs ys : List ℕ) → pointwise nat_eq xs ys ≡ true → xs ≡ ys
texts_equal [] [] e = refl
texts_equal [] (y ∷ ys) e = absurd cc
texts_equal (x ∷ xs) [] e = absurd cc
texts_equal (x ∷ xs) (y ∷ ys) e =
    let both = and_parts (nat_eq x y) (pointwise nat_eq xs ys) e in
    rw (eqb-true x y both.0, texts_equal xs ys both.1) refl

-- and others aren't
pub texts_differ : (xs ys : List ℕ) → pointwise nat_eq xs ys ≡ false → ¬ (xs ≡ ys)
texts_differ xs ys e same =
    let reflexive : pointwise nat_eq ys ys ≡ true = nat_list_eq_equiv.refl ys in
    let clash : pointwise nat_eq ys ys ≡ false = rw same at e in
    cc

pub none_not_some : {X : Type 0} {x : X} → ◌≡◌ {A = Option X} None (Some x) → ⊥
none_not_some e = cc

-- there is one, or none
pub some_or_none : {X : Type 0} (o : Option X) → (o ≡ None) ⊎ ((x : X) × (o ≡ Some x))
some_or_none None = inl refl
some_or_none (Some x) = inr (x, refl)

-- a member with the key
pub key_here : (ms : List (MadeText × OwnedLazyValue)) (i : ℕ) (d : MadeText × OwnedLazyValue) (k : List ℕ) → i < length ms → (get_or ms i d).0.text ≡ k → HasKeyAt (members_of ms) k i
key_here ms i d k l e = (form (get_or ms i d).1, members-at ms i d l ∙ ap (λ t. Some (t, form (get_or ms i d).1)) e)

-- the key of a member is one
key_one : (ms : List (MadeText × OwnedLazyValue)) (i : ℕ) (d : MadeText × OwnedLazyValue) (k : List ℕ) → i < length ms → HasKeyAt (members_of ms) k i → (get_or ms i d).0.text ≡ k
key_one ms i d k l h = ap (λ o. option_map_or (λ (t : List ℕ × Form). t.0) o []) (sym (members-at ms i d l) ∙ h.1)

-- one member more without the key
pub no_key_more : (ms : List (MadeText × OwnedLazyValue)) (i : ℕ) (d : MadeText × OwnedLazyValue) (k : List ℕ) → i < length ms → ¬ ((get_or ms i d).0.text ≡ k)
    → ((p : ℕ) → p < i → ¬ HasKeyAt (members_of ms) k p) → (p : ℕ) → p < i + 1 → ¬ HasKeyAt (members_of ms) k p
no_key_more ms i d k l other before p less h = elim (cases_eq p i) [
  | inl is ↦ other (key_one ms i d k l (rw is at h))
  | inr other_place ↦ before p (omega arith) h
]

-- no member is past the last
pub no_key_past : (ms : List (MadeText × OwnedLazyValue)) (i : ℕ) (k : List ℕ) → length ms ≤ i → ((p : ℕ) → p < i → ¬ HasKeyAt (members_of ms) k p) → (p : ℕ) → ¬ HasKeyAt (members_of ms) k p
no_key_past ms i k end before p h = elim (cases_lt p i) [
  | inl less ↦ before p less h
  | inr past ↦ let none = members-past ms p (omega arith) in absurd (none_not_some (sym none ∙ h.1))
]

-- another value at a position
pub elements-set : (vs : List OwnedLazyValue) (n : ℕ) (w : OwnedLazyValue) → elements_of (slice_set vs n w) ≡ slice_set (elements_of vs) n (form w)
elements-set [] n w = refl
elements-set (v ∷ vs) zero w = refl
elements-set (v ∷ vs) (suc n) w = ap (λ l. form v ∷ l) (elements-set vs n w)

pub members-set : (ms : List (MadeText × OwnedLazyValue)) (n : ℕ) (d : MadeText × OwnedLazyValue) (w : OwnedLazyValue) → n < length ms → d ≡ get_or ms n d
    → members_of (slice_set ms n (d.0, w)) ≡ with_value n (form w) (members_of ms)
members-set [] n d w l e = absurd (omega arith)
members-set (m ∷ ms) zero d w l e = rw e refl
members-set (m ∷ ms) (suc n) d w l e = ap (λ l. pair_of (formed m) ∷ l) (members-set ms n d w (omega arith) e)

-- one item more, or one less
pub elements-insert : (vs : List OwnedLazyValue) (n : ℕ) (w : OwnedLazyValue) → elements_of (list.insert vs n w) ≡ list.insert (elements_of vs) n (form w)
elements-insert vs zero w = refl
elements-insert [] (suc n) w = refl
elements-insert (v ∷ vs) (suc n) w = ap (λ l. form v ∷ l) (elements-insert vs n w)

pub elements-remove : (vs : List OwnedLazyValue) (n : ℕ) → elements_of (list.remove vs n) ≡ list.remove (elements_of vs) n
elements-remove [] zero = refl
elements-remove [] (suc n) = refl
elements-remove (v ∷ vs) zero = refl
elements-remove (v ∷ vs) (suc n) = ap (λ l. form v ∷ l) (elements-remove vs n)

pub members-remove : (ms : List (MadeText × OwnedLazyValue)) (n : ℕ) → members_of (list.remove ms n) ≡ list.remove (members_of ms) n
members-remove [] zero = refl
members-remove [] (suc n) = refl
members-remove (m ∷ ms) zero = refl
members-remove (m ∷ ms) (suc n) = ap (λ l. pair_of (formed m) ∷ l) (members-remove ms n)

-- past the last there is none to remove
pub remove-past : {X : Type 0} (xs : List X) (n : ℕ) → length xs ≤ n → list.remove xs n ≡ xs
remove-past [] zero past = refl
remove-past [] (suc n) past = refl
remove-past (x ∷ xs) zero past = absurd (omega (arith, past))
remove-past (x ∷ xs) (suc n) past = ap (λ ys. x ∷ ys) (remove-past xs n (omega (arith, past)))
