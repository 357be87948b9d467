-- A value that is somewhere means one tree.
use Rattle.std.proofs.Common.{◌≡◌, ◌≢◌, ◌⊎◌, inl, inr, ◌∙◌, ℕ, ◌+◌, arith, refl, sym, ap, codes}
use Rattle.std.proofs.lemmas.Bool.Decides.{nat_tests}
use Rattle.std.specs.Prelude.{true, false, List, Option, slice_range}
use Rattle.sonic_error.specs.declared.json_type.JsonType.TheVariants.{Number}
use Rattle.sonic_text.specs.declared.kind.Kind.{Kind}
use Rattle.sonic_text.specs.declared.kind.Kind.TheVariants.{Array, Object}
use Rattle.sonic_text.specs.Places.{byte, after_space, IsDigit}
use Rattle.sonic_text.specs.Numbers.{IsNumber}
use Rattle.sonic_text.specs.Strings.{IsString, strict}
use Rattle.sonic_text.specs.Values.{opening, closing, type_of, type_at, ItemHead, IsValue, ItemsFit}
use Rattle.sonic_text.specs.Values.IsValue.{null_literal, true_literal, false_literal, number, string, empty, filled}
use Rattle.sonic_text.specs.Values.ItemsFit.{first_item, next_item}
use Rattle.sonic_text.specs.Trees.{Tree, null, truth, numeral, text, container, Items, no_item, Means, ItemsMean, type_of_tree}
use Rattle.sonic_text.specs.Trees.Means.{means_null, means_true, means_false, means_number, means_string, means_empty, means_filled}
use Rattle.sonic_text.specs.Trees.ItemsMean.{last_item, more_items}
use Rattle.sonic_text.proofs.FirstByteLemmas.{Sort, none, a_null, a_true, a_false, a_number, a_string, a_container, Begins, begins_one}
use Rattle.sonic_text.proofs.Items.{head_one, closing_no_comma}
use Rattle.sonic_text.proofs.Numbers.{number_begins, number_one}
use Rattle.sonic_text.proofs.Strings.{string_one}
use Rattle.sonic_text.proofs.Values.{value_end_one, first_letter}

mutual
  -- a value means a tree
  pub tree_of : {t : List ℕ} {i j : ℕ} → IsValue strict t i j → (x : Tree) × Means t i j x
  tree_of (null_literal h) = (_, means_null h)
  tree_of (true_literal h) = (_, means_true h)
  tree_of (false_literal h) = (_, means_false h)
  tree_of (number h) = (_, means_number h refl)
  tree_of (string h) = (_, means_string h)
  tree_of (empty kind b c q) = (_, means_empty b c q)
  tree_of (filled is y x c q) = let z = tree_of x in tree_around is (last_item y z.1 c q)

  -- so do the items before others that mean some
  tree_around : {t : List ℕ} {kind : Kind} {i n h j : ℕ} {xs : Items} → ItemsFit strict t kind i n h → ItemsMean t kind h j xs → (x : Tree) × Means t i j x
  tree_around (first_item b q d o) xs = (_, means_filled b q d xs)
  tree_around (next_item is y x c q o) xs = let z = tree_of x in tree_around is (more_items y z.1 c q xs)

mutual
  -- what means a tree is a value
  pub value_of : {t : List ℕ} {i j : ℕ} {x : Tree} → Means t i j x → IsValue strict t i j
  value_of (means_null h) = null_literal h
  value_of (means_true h) = true_literal h
  value_of (means_false h) = false_literal h
  value_of (means_number h e) = number h
  value_of (means_string h) = string h
  value_of (means_empty {kind} b c q) = empty kind b c q
  value_of (means_filled b q d xs) = value_around xs 0 (first_item b q d refl)

  -- with the items before it
  value_around : {t : List ℕ} {kind : Kind} {i h j : ℕ} {xs : Items} → ItemsMean t kind h j xs → (n : ℕ) → ItemsFit strict t kind i n h → IsValue strict t i j
  value_around (last_item y x c q) n is = filled is y (value_of x) c q
  value_around (more_items y x c q xs) n is = value_around xs (n + 1) (next_item is y (value_of x) c q refl)

-- what a container of this kind means
data ContainerMeans (t : List ℕ) (kind : Kind) (i : ℕ) (x : Tree) : Type 0 where
  no_items : byte t (after_space t (i + 1)) ≡ closing kind → x ≡ container kind no_item → ContainerMeans t kind i x
  some_items : {j : ℕ} {xs : Items} → byte t (after_space t (i + 1)) ≢ closing kind → ItemsMean t kind (after_space t (i + 1)) j xs → x ≡ container kind xs
      → ContainerMeans t kind i x

-- what a value of this sort means
abbrev View : Sort → List ℕ → ℕ → Tree → Type 0
View none t i x = Unit {0}
View a_null t i x = x ≡ null
View a_true t i x = x ≡ truth true
View a_false t i x = x ≡ truth false
View a_number t i x = (j : ℕ) × IsNumber t i j × (x ≡ numeral (slice_range t i j))
View a_string t i x = (j : ℕ) × (b : List ℕ) × IsString strict t i j b × (x ≡ text b)
View (a_container kind) t i x = ContainerMeans t kind i x

-- what a value means is what one of its sort does
means_view : {t : List ℕ} {i j : ℕ} {x : Tree} → Means t i j x → (sort : Sort) × Begins sort (byte t i) × View sort t i x
means_view {t} {i} (means_null h) = (a_null, first_letter (codes "null") t i (omega arith) h, refl)
means_view {t} {i} (means_true h) = (a_true, first_letter (codes "true") t i (omega arith) h, refl)
means_view {t} {i} (means_false h) = (a_false, first_letter (codes "false") t i (omega arith) h, refl)
means_view {j = j} (means_number h e) = (a_number, number_begins h, (j, h, ap numeral e))
means_view {j = j} (means_string {b = b} h) = (a_string, h.opens, (j, b, h, refl))
means_view (means_empty {kind} b c q) = (a_container kind, b, no_items c refl)
means_view {t} {i} {j} (means_filled {kind} {xs = xs} b q d is) =
    let e : byte t (after_space t (i + 1)) ≢ closing kind = rw q at d in
    let ys : ItemsMean t kind (after_space t (i + 1)) j xs = rw (← q) is in
    (a_container kind, b, some_items e ys refl)

-- the first byte says which
view_at : (sort : Sort) {t : List ℕ} {i j : ℕ} {x : Tree} → Begins sort (byte t i) → Means t i j x → View sort t i x
view_at sort {t} {i} {x = x} b h =
    let v = means_view h in
    let e : v.0 ≡ sort = sym (begins_one v.0 (byte t i) v.1) ∙ begins_one sort (byte t i) b in
    rw e at v.2

-- at one place is one head
same_head : {t : List ℕ} {kind : Kind} {h g v w : ℕ} {l k : Option (List ℕ)} → h ≡ g → ItemHead strict t kind h v l → ItemHead strict t kind g w k
    → (v ≡ w) × (l ≡ k)
same_head {t} {kind} {h} {w = w} {k = k} e y z = let x : ItemHead strict t kind h w k = rw e z in head_one y x

-- and the value after it has one end
same_end : {t : List ℕ} {kind : Kind} {h g v w e f : ℕ} {l k : Option (List ℕ)} {x y : Tree} → h ≡ g → ItemHead strict t kind h v l → Means t v e x
    → ItemHead strict t kind g w k → Means t w f y → e ≡ f
same_end {t} {v = v} {f = f} {y = b} e y x u r =
    let o = same_head e y u in
    let n : Means t v f b = rw o.0 r in
    value_end_one (value_of x) (value_of n)

mutual
  -- a value means one tree
  pub means_one : {t : List ℕ} {i j k : ℕ} {x y : Tree} → Means t i j x → Means t i k y → x ≡ y
  means_one {t} {i} (means_null h) g = sym (view_at a_null (first_letter (codes "null") t i (omega arith) h) g)
  means_one {t} {i} (means_true h) g = sym (view_at a_true (first_letter (codes "true") t i (omega arith) h) g)
  means_one {t} {i} (means_false h) g = sym (view_at a_false (first_letter (codes "false") t i (omega arith) h) g)
  means_one {t} {i} (means_number h e) g =
      let v = view_at a_number (number_begins h) g in
      let z = number_one h v.1 in
      rw (e, z) (sym v.2)
  means_one (means_string h) g = let v = view_at a_string h.opens g in ap text (string_one h v.2).1 ∙ sym v.3
  means_one (means_empty {kind} b c q) g = elim (view_at (a_container kind) b g) [
    | no_items d e ↦ sym e
    | some_items d ys e ↦ absurd (d c)
  ]
  means_one {t} {i} {j} (means_filled {kind} {xs = xs} b q d is) g = elim (view_at (a_container kind) b g) [
    | no_items c e ↦ absurd (let f : byte t (after_space t (i + 1)) ≢ closing kind = rw q at d in f c)
    | some_items c ys e ↦ ap (container kind) (items_mean_one q is ys) ∙ sym e
  ]

  -- items mean one list of trees
  items_mean_one : {t : List ℕ} {kind : Kind} {h g j k : ℕ} {xs ys : Items} → h ≡ g → ItemsMean t kind h j xs → ItemsMean t kind g k ys → xs ≡ ys
  items_mean_one {t} z (last_item {v} {x = a} y x c q) (last_item {e = f} {x = b} u r d p) =
      let o = same_head z y u in
      let n : Means t v f b = rw o.0 r in
      let s : a ≡ b = means_one x n in
      cc (o.1, s)
  items_mean_one {kind = kind} z (last_item y x c q) (more_items u r d p us) =
      let e = same_end z y x u r in
      absurd (closing_no_comma kind (omega (arith, rw e at c)))
  items_mean_one {kind = kind} z (more_items y x c q is) (last_item u r d p) =
      let e = same_end z y x u r in
      absurd (closing_no_comma kind (omega (arith, rw e at c)))
  items_mean_one {t} z (more_items {v} {x = a} y x c q is) (more_items {e = f} {x = b} u r d p us) =
      let o = same_head z y u in
      let n : Means t v f b = rw o.0 r in
      let s : a ≡ b = means_one x n in
      let e = same_end z y x u r in
      let k = items_mean_one (rw (q, p, e) refl) is us in
      cc (o.1, s, k)

-- a minus sign or a digit begins a number
number_type : (b : ℕ) → (b ≡ 45) ⊎ IsDigit b → type_of b ≡ Number
number_type b (inl e) = rw e refl
number_type b (inr d) = grind (arith, nat_tests)

-- and a bracket a container
container_type : (kind : Kind) (xs : Items) (b : ℕ) → b ≡ opening kind → type_of b ≡ type_of_tree (container kind xs)
container_type Array xs b e = rw e refl
container_type Object xs b e = rw e refl

-- the first byte says the type of what a value means
pub type_means : {t : List ℕ} {i j : ℕ} {x : Tree} → Means t i j x → type_at t i ≡ type_of_tree x
type_means {t} {i} (means_null h) = rw (first_letter (codes "null") t i (omega arith) h) refl
type_means {t} {i} (means_true h) = rw (first_letter (codes "true") t i (omega arith) h) refl
type_means {t} {i} (means_false h) = rw (first_letter (codes "false") t i (omega arith) h) refl
type_means {t} {i} (means_number h is) = number_type (byte t i) (number_begins h)
type_means (means_string h) = rw h.opens refl
type_means {t} {i} (means_empty {kind} b c q) = container_type kind no_item (byte t i) b
type_means {t} {i} (means_filled {kind} {xs = xs} b q d is) = container_type kind xs (byte t i) b
