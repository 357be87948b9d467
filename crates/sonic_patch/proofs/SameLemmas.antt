-- Sameness of trees is an equivalence.
use Rattle.std.proofs.Common.{◌≡◌, ◌∙◌, inl, inr, ℕ, nat_eq, Bool, true, false, List, [], ◌∷◌, Option, Some, None, refl, sym, ap, subst}
use Rattle.std.proofs.lemmas.Bool.{and_parts, or_cases, eqb-true, eq-eqb}
use Rattle.std.specs.Bool.{beq}
use Rattle.std.specs.Cmp.Lexicographic.{pointwise, nat_list_eq_equiv}
use Rattle.std.specs.Prelude.{◌==◌, ◌&&◌, ◌||◌}
use Rattle.sonic_patch.specs.Sameness.{count, same_label, some_item, each_item, same, same_elements, all_in, is_of}
use Rattle.sonic_text.specs.declared.kind.Kind.TheVariants.{Array, Object}
use Rattle.sonic_text.specs.Trees.Items.{no_item, item}
use Rattle.sonic_text.specs.Trees.Tree.{null, truth, numeral, text, container}
use Rattle.sonic_text.specs.Trees.{Tree, Items}

-- an item is among the items
pub data IsAmong (l : Option (List ℕ)) (x : Tree) : Items → Type 0 where
  among_first : {xs : Items} → IsAmong l x (item l x xs)
  among_later : {k : Option (List ℕ)} {y : Tree} {xs : Items} → IsAmong l x xs → IsAmong l x (item k y xs)

pub both : (a b : Bool) → a ≡ true → b ≡ true → (a && b) ≡ true
both a b e f = rw (e, f) refl

left_holds : (a b : Bool) → a ≡ true → (a || b) ≡ true
left_holds a b e = rw e refl

right_holds : (a b : Bool) → b ≡ true → (a || b) ≡ true
right_holds true b e = refl
right_holds false b e = e

-- equal texts and labels
pub texts_same : (a : List ℕ) → pointwise nat_eq a a ≡ true
texts_same a = nat_list_eq_equiv.refl a

pub texts_equal : (xs ys : List ℕ) → pointwise nat_eq xs ys ≡ true → xs ≡ ys
texts_equal [] [] e = refl
texts_equal [] (y ∷ ys) e = absurd cc
texts_equal (x ∷ xs) [] e = absurd cc
texts_equal (x ∷ xs) (y ∷ ys) e =
    let both = and_parts (nat_eq x y) (pointwise nat_eq xs ys) e in
    rw (eqb-true x y both.0, texts_equal xs ys both.1) refl

pub label_same : (l : Option (List ℕ)) → same_label l l ≡ true
label_same None = refl
label_same (Some k) = texts_same k

labels_equal : (l k : Option (List ℕ)) → same_label l k ≡ true → l ≡ k
labels_equal None None e = refl
labels_equal None (Some k) e = absurd cc
labels_equal (Some l) None e = absurd cc
labels_equal (Some l) (Some k) e = ap Some (texts_equal l k e)

pub beq_equal : (a b : Bool) → beq a b ≡ true → a ≡ b
beq_equal true true e = refl
beq_equal true false e = absurd cc
beq_equal false true e = absurd cc
beq_equal false false e = refl

pub beq_self : (a : Bool) → beq a a ≡ true
beq_self true = refl
beq_self false = refl

-- some item passes, and each does
record SomePasses (passes : Option (List ℕ) → Tree → Bool) (xs : Items) : Type 0 where
  label : Option (List ℕ)
  value : Tree
  among : IsAmong label value xs
  does : passes label value ≡ true

some_passes : (passes : Option (List ℕ) → Tree → Bool) (xs : Items) → some_item passes xs ≡ true → SomePasses passes xs
some_passes passes no_item e = absurd cc
some_passes passes (item l x xs) e = elim (or_cases (passes l x) (some_item passes xs) e) [
  | inl f ↦ record { label = l; value = x; among = among_first; does = f }
  | inr f ↦ (let p = some_passes passes xs f in record { label = p.label; value = p.value; among = among_later p.among; does = p.does })
]

passes_some : (passes : Option (List ℕ) → Tree → Bool) (l : Option (List ℕ)) (x : Tree) {xs : Items} → IsAmong l x xs → passes l x ≡ true
    → some_item passes xs ≡ true
passes_some passes l x (among_first {xs}) e = left_holds (passes l x) (some_item passes xs) e
passes_some passes l x (among_later {k} {y} {xs} a) e = right_holds (passes k y) (some_item passes xs) (passes_some passes l x a e)

each_passes : (passes : Option (List ℕ) → Tree → Bool) (l : Option (List ℕ)) (x : Tree) {xs : Items} → IsAmong l x xs → each_item passes xs ≡ true
    → passes l x ≡ true
each_passes passes l x (among_first {xs}) e = (and_parts (passes l x) (each_item passes xs) e).0
each_passes passes l x (among_later {k} {y} {xs} a) e = each_passes passes l x a (and_parts (passes k y) (each_item passes xs) e).1

passes_each : (passes : Option (List ℕ) → Tree → Bool) (xs : Items) → ((l : Option (List ℕ)) (x : Tree) → IsAmong l x xs → passes l x ≡ true)
    → each_item passes xs ≡ true
passes_each passes no_item all = refl
passes_each passes (item l x xs) all =
    both (passes l x) (each_item passes xs) (all l x among_first) (passes_each passes xs (λ k y a. all k y (among_later a)))

-- an item with this label and a same value is among the items
pub record HasSame (l : Option (List ℕ)) (x : Tree) (ys : Items) : Type 0 where
  pub value : Tree
  pub among : IsAmong l value ys
  pub equal : same x value ≡ true

-- each of the first items is one of the second
in_each : (l : Option (List ℕ)) (x : Tree) (xs ys : Items) → all_in xs ys ≡ true → IsAmong l x xs → HasSame l x ys
in_each l x xs ys e (among_first {xs = rest}) =
    let p = some_passes (λ k y. same_label l k && same x y) ys (and_parts (some_item (λ k y. same_label l k && same x y) ys) (all_in rest ys) e).0 in
    let parts = and_parts (same_label l p.label) (same x p.value) p.does in
    let named = labels_equal l p.label parts.0 in
    record { value = p.value; among = subst (λ (j : Option (List ℕ)). IsAmong j p.value ys) (sym named) p.among; equal = parts.1 }
in_each l x xs ys e (among_later {k = k} {y = y} {xs = rest} a) =
    in_each l x rest ys (and_parts (some_item (λ j z. same_label k j && same y z) ys) (all_in rest ys) e).1 a

each_in : (xs ys : Items) → ((l : Option (List ℕ)) (x : Tree) → IsAmong l x xs → HasSame l x ys) → all_in xs ys ≡ true
each_in no_item ys all = refl
each_in (item l x xs) ys all =
    let h = all l x among_first in
    both (some_item (λ k y. same_label l k && same x y) ys) (all_in xs ys)
    (passes_some (λ k y. same_label l k && same x y) l h.value h.among (both (same_label l l) (same x h.value) (label_same l) h.equal))
    (each_in xs ys (λ k y a. all k y (among_later a)))

-- and an item is one of the first
pub record HasSameBefore (xs : Items) (k : Option (List ℕ)) (y : Tree) : Type 0 where
  pub value : Tree
  pub among : IsAmong k value xs
  pub equal : same value y ≡ true

of_some : (xs : Items) (k : Option (List ℕ)) (y : Tree) → is_of xs k y ≡ true → HasSameBefore xs k y
of_some no_item k y e = absurd cc
of_some (item l x xs) k y e = elim (or_cases (same_label l k && same x y) (is_of xs k y) e) [
  | inl f ↦ (let parts = and_parts (same_label l k) (same x y) f in
      let named = labels_equal l k parts.0 in
      let here : IsAmong l x (item l x xs) = among_first in
      let there : IsAmong k x (item l x xs) = subst (λ (j : Option (List ℕ)). IsAmong j x (item l x xs)) named here in
      record { value = x; among = there; equal = parts.1 })
  | inr f ↦ (let p = of_some xs k y f in record { value = p.value; among = among_later p.among; equal = p.equal })
]

some_of : (k : Option (List ℕ)) (x y : Tree) {xs : Items} → IsAmong k x xs → same x y ≡ true → is_of xs k y ≡ true
some_of k x y (among_first {xs}) e = left_holds (same_label k k && same x y) (is_of xs k y) (both (same_label k k) (same x y) (label_same k) e)
some_of k x y (among_later {k = l} {y = z} {xs} a) e = right_holds (same_label l k && same z y) (is_of xs k y) (some_of k x y a e)

-- what two objects that are the same are
pub record SameMembers (xs ys : Items) : Type 0 where
  pub many : count xs ≡ count ys
  pub on : (l : Option (List ℕ)) (x : Tree) → IsAmong l x xs → HasSame l x ys
  pub back : (l : Option (List ℕ)) (y : Tree) → IsAmong l y ys → HasSameBefore xs l y

pub members_are : (xs ys : Items) → same (container Object xs) (container Object ys) ≡ true → SameMembers xs ys
members_are xs ys e =
    let parts = and_parts (count xs == count ys) (all_in xs ys && each_item (is_of xs) ys) e in
    let rest = and_parts (all_in xs ys) (each_item (is_of xs) ys) parts.1 in
    record {
      many = eqb-true (count xs) (count ys) parts.0;
      on = λ l x a. in_each l x xs ys rest.0 a;
      back = λ l y a. of_some xs l y (each_passes (is_of xs) l y a rest.1);
    }

pub are_members : (xs ys : Items) → SameMembers xs ys → same (container Object xs) (container Object ys) ≡ true
are_members xs ys m =
    both (count xs == count ys) (all_in xs ys && each_item (is_of xs) ys) (eq-eqb (count xs) (count ys) m.many)
    (both (all_in xs ys) (each_item (is_of xs) ys) (each_in xs ys m.on)
    (passes_each (is_of xs) ys (λ l y a. let h = m.back l y a in some_of l h.value y h.among h.equal)))

mutual
  -- a tree is the same as itself
  pub same_self : (x : Tree) → same x x ≡ true
  same_self null = refl
  same_self (truth a) = beq_self a
  same_self (numeral a) = texts_same a
  same_self (text a) = texts_same a
  same_self (container Array xs) = elements_self xs
  same_self (container Object xs) =
      are_members xs xs
      (record {
        many = refl;
        on = λ l x a. record { value = x; among = a; equal = among_self xs l x a };
        back = λ l x a. record { value = x; among = a; equal = among_self xs l x a };
      })

  elements_self : (xs : Items) → same_elements xs xs ≡ true
  elements_self no_item = refl
  elements_self (item l x xs) = both (same x x) (same_elements xs xs) (same_self x) (elements_self xs)

  among_self : (xs : Items) (l : Option (List ℕ)) (x : Tree) → IsAmong l x xs → same x x ≡ true
  among_self no_item l x a = elim a [ ]
  among_self (item k y xs) l x among_first = same_self y
  among_self (item k y xs) l x (among_later a) = among_self xs l x a

mutual
  -- the same the other way round
  pub same_back : (x y : Tree) → same x y ≡ true → same y x ≡ true
  same_back null null e = refl
  same_back (truth a) (truth b) e = let f = beq_equal a b e in rw f (beq_self b)
  same_back (numeral a) (numeral b) e = let f = texts_equal a b e in rw f (texts_same b)
  same_back (text a) (text b) e = let f = texts_equal a b e in rw f (texts_same b)
  same_back (container Array xs) (container Array ys) e = elements_back xs ys e
  same_back (container Object xs) (container Object ys) e =
      let m = members_are xs ys e in
      are_members ys xs
      (record {
        many = sym m.many;
        on = λ l y a. let h = m.back l y a in record { value = h.value; among = h.among; equal = among_back xs l h.value y h.among h.equal };
        back = λ l x a. let h = m.on l x a in record { value = h.value; among = h.among; equal = among_back xs l x h.value a h.equal };
      })
  same_back x y e = absurd cc

  elements_back : (xs ys : Items) → same_elements xs ys ≡ true → same_elements ys xs ≡ true
  elements_back no_item no_item e = refl
  elements_back (item l x xs) (item k y ys) e =
      let parts = and_parts (same x y) (same_elements xs ys) e in
      both (same y x) (same_elements ys xs) (same_back x y parts.0) (elements_back xs ys parts.1)
  elements_back xs ys e = absurd cc

  among_back : (xs : Items) (l : Option (List ℕ)) (x y : Tree) → IsAmong l x xs → same x y ≡ true → same y x ≡ true
  among_back no_item l x y a e = elim a [ ]
  among_back (item k z xs) l x y among_first e = same_back z y e
  among_back (item k z xs) l x y (among_later a) e = among_back xs l x y a e

mutual
  -- what is the same as one that is the same as a third
  pub same_on : (x y z : Tree) → same x y ≡ true → same y z ≡ true → same x z ≡ true
  same_on null null z e f = f
  same_on (truth a) (truth b) z e f = let g = beq_equal a b e in rw g f
  same_on (numeral a) (numeral b) z e f = let g = texts_equal a b e in rw g f
  same_on (text a) (text b) z e f = let g = texts_equal a b e in rw g f
  same_on (container Array xs) (container Array ys) (container Array zs) e f = elements_on xs ys zs e f
  same_on (container Object xs) (container Object ys) (container Object zs) e f =
      let m = members_are xs ys e in
      let n = members_are ys zs f in
      are_members xs zs
      (record {
        many = m.many ∙ n.many;
        on = λ l x a.
            let h = m.on l x a in
            let g = n.on l h.value h.among in
            record { value = g.value; among = g.among; equal = among_on xs l x h.value g.value a h.equal g.equal };
        back = λ l z a.
            let h = n.back l z a in
            let g = m.back l h.value h.among in
            record { value = g.value; among = g.among; equal = among_on xs l g.value h.value z g.among g.equal h.equal };
      })
  same_on x y z e f = absurd cc

  elements_on : (xs ys zs : Items) → same_elements xs ys ≡ true → same_elements ys zs ≡ true → same_elements xs zs ≡ true
  elements_on no_item no_item no_item e f = refl
  elements_on (item l x xs) (item k y ys) (item j z zs) e f =
      let left = and_parts (same x y) (same_elements xs ys) e in
      let right = and_parts (same y z) (same_elements ys zs) f in
      both (same x z) (same_elements xs zs) (same_on x y z left.0 right.0) (elements_on xs ys zs left.1 right.1)
  elements_on xs ys zs e f = absurd cc

  among_on : (xs : Items) (l : Option (List ℕ)) (x y z : Tree) → IsAmong l x xs → same x y ≡ true → same y z ≡ true → same x z ≡ true
  among_on no_item l x y z a e f = elim a [ ]
  among_on (item k w xs) l x y z among_first e f = same_on w y z e f
  among_on (item k w xs) l x y z (among_later a) e f = among_on xs l x y z a e f
