-- What is kept of trees and of keys.
use Rattle.std.proofs.Common.{◌≡◌, ◌∙◌, ap, sym, refl, inl, inr, ℕ, ◌+◌, ◌/◌, ◌%◌, List, [], ◌∷◌, ◌++◌, map, Bool, true, false, Option, Some, None, option_map, nat_eq, arith, ◌<◌, length, take, get_or, append_assoc}
use Rattle.std.proofs.lemmas.Bool.{cases_Bool}
use Rattle.std.proofs.lemmas.List.{take_more}
use Rattle.std.specs.Cmp.Lexicographic.{pointwise, nat_list_eq_equiv}
use Rattle.sonic_text.specs.Trees.{Tree, Items}
use Rattle.sonic_text.specs.Trees.Tree.{null, truth, numeral, text, container}
use Rattle.sonic_text.specs.Trees.Items.{no_item, item}
use Rattle.sonic_text.specs.declared.kind.Kind.TheVariants.{Array, Object}
use Rattle.sonic_value.proofs.ItemLemmas.{key_equal}
use Rattle.sonic_value.specs.Filling.{has_key, last_of, change_last}
use Rattle.sonic_value.specs.Internal.Keeping.{spelling, kept_text, kept_label, kept, kept_items}
use Rattle.sonic_value.specs.Internal.Readers.{kept_item, items_before}
use Rattle.sonic_value.specs.Schemas.{HasMembers}

-- of a text in UTF-8 all is kept as it is
kept_label_same : (l : Option (List ℕ)) → kept_label true l ≡ l
kept_label_same None = refl
kept_label_same (Some k) = refl

mutual
  pub kept_same : (x : Tree) → kept true x ≡ x
  kept_same null = refl
  kept_same (truth b) = refl
  kept_same (numeral b) = refl
  kept_same (text b) = refl
  kept_same (container kind xs) = ap (container kind) (kept_items_same xs)

  kept_items_same : (xs : Items) → kept_items true xs ≡ xs
  kept_items_same no_item = refl
  kept_items_same (item l x xs) = rw (kept_label_same l, kept_same x, kept_items_same xs) refl

-- what is kept of items, and of more of them
pub kept_before : (u : Bool) (xs : List (Option (List ℕ) × Tree)) → items_before (map (kept_item u) xs) no_item ≡ kept_items u (items_before xs no_item)
kept_before u [] = refl
kept_before u (x ∷ xs) = ap (item (kept_label u x.0) (kept u x.1)) (kept_before u xs)

-- one byte more is spelled
pub spelling_more : (ns : List ℕ) (n : ℕ) → spelling (ns ++ n ∷ []) ≡ spelling ns ++ (97 + n / 16) ∷ (97 + n % 16) ∷ []
spelling_more [] n = refl
spelling_more (m ∷ ns) n = ap (λ l. (97 + m / 16) ∷ (97 + m % 16) ∷ l) (spelling_more ns n)

pub spelled_more : {ls ms rs d e : List ℕ} (bs : List ℕ) (i : ℕ) → i < length bs → ls ≡ spelling (take i bs) → ms ≡ ls ++ d → d ≡ (97 + get_or bs i 0 / 16) ∷ []
    → rs ≡ ms ++ e → e ≡ (97 + get_or bs i 0 % 16) ∷ [] → rs ≡ spelling (take (i + 1) bs)
spelled_more {ls} bs i less a b c d e =
    let n = get_or bs i 0 in
    d ∙ rw (b, c, e, append_assoc ls ((97 + n / 16) ∷ []) ((97 + n % 16) ∷ []), a, take_more bs i 0 less, spelling_more (take i bs) n) refl

-- and what is spelled in the same way is the same
byte_one : (m n : ℕ) → 97 + m / 16 ≡ 97 + n / 16 → 97 + m % 16 ≡ 97 + n % 16 → m ≡ n
byte_one m n e f = omega (arith, e, f)

head_same : {x y : ℕ} {xs ys : List ℕ} → ◌≡◌ {A = List ℕ} (x ∷ xs) (y ∷ ys) → x ≡ y
head_same e = cc

tail_same : {x y : ℕ} {xs ys : List ℕ} → ◌≡◌ {A = List ℕ} (x ∷ xs) (y ∷ ys) → xs ≡ ys
tail_same e = cc

spelling_one : (ms ns : List ℕ) → spelling ms ≡ spelling ns → ms ≡ ns
spelling_one [] [] e = refl
spelling_one [] (n ∷ ns) e = absurd cc
spelling_one (m ∷ ms) [] e = absurd cc
spelling_one (m ∷ ms) (n ∷ ns) e =
    let more = tail_same e in
    rw (byte_one m n (head_same e) (head_same more), spelling_one ms ns (tail_same more)) refl

kept_text_one : (u : Bool) (k l : List ℕ) → kept_text u k ≡ kept_text u l → k ≡ l
kept_text_one true k l e = e
kept_text_one false k l e = spelling_one k l e

-- so keys are told apart by what is kept of them
same_test : (u : Bool) (l k : List ℕ) → pointwise nat_eq (kept_text u l) (kept_text u k) ≡ pointwise nat_eq l k
same_test u l k = elim (cases_Bool (pointwise nat_eq l k)) [
  | inl same ↦
      let e : kept_text u l ≡ kept_text u k = ap (kept_text u) (key_equal l k same) in
      rw (same, e) (nat_list_eq_equiv.refl (kept_text u k))
  | inr differ ↦ elim (cases_Bool (pointwise nat_eq (kept_text u l) (kept_text u k))) [
    | inl same ↦
        let e : l ≡ k = kept_text_one u l k (key_equal (kept_text u l) (kept_text u k) same) in
        let clash : pointwise nat_eq k k ≡ false = rw e at differ in
        let own : pointwise nat_eq k k ≡ true = nat_list_eq_equiv.refl k in
        absurd cc
    | inr other ↦ other ∙ sym differ
  ]
]

pub kept_has : (u : Bool) (k : List ℕ) (xs : Items) → has_key (kept_text u k) (kept_items u xs) ≡ has_key k xs
kept_has u k no_item = refl
kept_has u k (item None x xs) = kept_has u k xs
kept_has u k (item (Some l) x xs) = rw (same_test u l k, kept_has u k xs) refl

-- the last member with a key stays the last
pub kept_last : (u : Bool) (k : List ℕ) (xs : Items) → last_of (kept_text u k) (kept_items u xs) ≡ option_map (kept u) (last_of k xs)
kept_last u k no_item = refl
kept_last u k (item None x xs) = kept_last u k xs
kept_last u k (item (Some l) x xs) = rw (same_test u l k, kept_has u k xs, kept_last u k xs) (elim (cases_Bool (has_key k xs)) [
  | inl more ↦ rw more refl
  | inr last ↦ elim (cases_Bool (pointwise nat_eq l k)) [ inl is ↦ rw (last, is) refl | inr other ↦ rw (last, other) refl ]
])

-- and is changed as it was
pub kept_change : (u : Bool) (k : List ℕ) (c d : Tree → Tree) (xs : Items) → ((w : Tree) → last_of k xs ≡ Some w → d (kept u w) ≡ kept u (c w))
    → change_last (kept_text u k) d (kept_items u xs) ≡ kept_items u (change_last k c xs)
kept_change u k c d no_item same = refl
kept_change u k c d (item None x xs) same = ap (item None (kept u x)) (kept_change u k c d xs same)
kept_change u k c d (item (Some l) x xs) same = rw (same_test u l k, kept_has u k xs) (elim (cases_Bool (has_key k xs)) [
  | inl more ↦
      let rest = kept_change u k c d xs (λ w e. same w (rw more e)) in
      rw more (ap (item (Some (kept_text u l)) (kept u x)) rest)
  | inr last ↦ elim (cases_Bool (pointwise nat_eq l k)) [
    | inl is ↦
        let own = same x (rw (last, is) refl) in
        rw (last, is) (ap (λ y. item (Some (kept_text u l)) y (kept_items u xs)) own)
    | inr other ↦ rw (last, other) refl
  ]
])

-- what is kept of a tree has members where the tree has
pub kept_members : (u : Bool) (x : Tree) → HasMembers x → HasMembers (kept u x)
kept_members u null has = absurd has
kept_members u (truth b) has = absurd has
kept_members u (numeral b) has = absurd has
kept_members u (text b) has = absurd has
kept_members u (container Array xs) has = absurd has
kept_members u (container Object no_item) has = absurd has
kept_members u (container Object (item l x xs)) has = tt

-- and an object is kept of an object
pub kept_object : (u : Bool) (w : Tree) (xs : Items) → container Object xs ≡ kept u w → (ys : Items) × (w ≡ container Object ys) × (xs ≡ kept_items u ys)
kept_object u null xs e = absurd cc
kept_object u (truth b) xs e = absurd cc
kept_object u (numeral b) xs e = absurd cc
kept_object u (text b) xs e = absurd cc
kept_object u (container Array ys) xs e = absurd cc
kept_object u (container Object ys) xs e = (ys, refl, cc)
