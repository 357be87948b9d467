-- Trees with the same tags are one.
use Rattle.std.proofs.Common.{◌≡◌, ◌∙◌, sym, ap, ℕ, List, ◌∷◌, refl}
use Rattle.std.specs.Prelude.{Option}
use Rattle.sonic_text.specs.declared.kind.Kind.{Kind}
use Rattle.sonic_text.specs.Trees.{Tree, Items}
use Rattle.sonic_text.specs.Trees.Items.{no_item, item}
use Rattle.sonic_text.specs.Trees.Tree.{null, truth, numeral, text, container}
use Rattle.sonic_patch.specs.Internal.Tags.{Tag, leaf_tag, end_tag, tags, item_tags}
use Rattle.sonic_patch.specs.Internal.Walks.{IsBare}

-- a tree without parts is one tag
pub bare_tag : (l : Option (List ℕ)) (x : Tree) (rest : List Tag) → IsBare x → tags l x rest ≡ leaf_tag l x ∷ rest
bare_tag l null rest b = refl
bare_tag l (truth t) rest b = refl
bare_tag l (numeral t) rest b = refl
bare_tag l (text t) rest b = refl
bare_tag l (container kind no_item) rest b = refl
bare_tag l (container kind (item k y ys)) rest b = absurd b

-- a tree has no parts, or is a container with items
pub data View (x : Tree) : Type 0 where
  bare_view : IsBare x → View x
  filled_view : (kind : Kind) (l : Option (List ℕ)) (y : Tree) (ys : Items) → x ≡ container kind (item l y ys) → View x

pub view : (x : Tree) → View x
view (container kind (item l y ys)) = filled_view kind l y ys refl
view null = bare_view tt
view (truth t) = bare_view tt
view (numeral t) = bare_view tt
view (text t) = bare_view tt
view (container kind no_item) = bare_view tt

-- the tags of a tree begin with none that ends a container
no_end : (l : Option (List ℕ)) (x : Tree) (rest : List Tag) (kind : Kind) (r : List Tag) → end_tag kind ∷ r ≡ tags l x rest → ⊥
no_end l x rest kind r e = elim (view x) [
  | bare_view b ↦ (let f : end_tag kind ∷ r ≡ leaf_tag l x ∷ rest = e ∙ bare_tag l x rest b in cc)
  | filled_view k j y ys is ↦ (let f : end_tag kind ∷ r ≡ tags l (container k (item j y ys)) rest = e ∙ ap (λ (z : Tree). tags l z rest) is in cc)
]

-- a tree without parts has the tags of no other
bare_one : (x y : Tree) (l k : Option (List ℕ)) (r s : List Tag) → IsBare x → tags l x r ≡ tags k y s → (l ≡ k) × (x ≡ y) × (r ≡ s)
bare_one x y l k r s b e = elim (view y) [
  | bare_view c ↦ (let f : leaf_tag l x ∷ r ≡ leaf_tag k y ∷ s = sym (bare_tag l x r b) ∙ e ∙ bare_tag k y s c in (cc, cc, cc))
  | filled_view kind j z zs is ↦ absurd (
      let f : leaf_tag l x ∷ r ≡ tags k (container kind (item j z zs)) s = sym (bare_tag l x r b) ∙ e ∙ ap (λ (w : Tree). tags k w s) is in cc)
]

mutual
  pub tags_one : (x y : Tree) (l k : Option (List ℕ)) (r s : List Tag) → tags l x r ≡ tags k y s → (l ≡ k) × (x ≡ y) × (r ≡ s)
  tags_one (container kind (item j z zs)) y l k r s e = elim (view y) [
    | bare_view b ↦ absurd (let f : tags l (container kind (item j z zs)) r ≡ leaf_tag k y ∷ s = e ∙ bare_tag k y s b in cc)
    | filled_view other i w ws is ↦ (
        let f : tags l (container kind (item j z zs)) r ≡ tags k (container other (item i w ws)) s = e ∙ ap (λ (v : Tree). tags k v s) is in
        let rest : tags j z (item_tags zs (end_tag kind ∷ r)) ≡ tags i w (item_tags ws (end_tag other ∷ s)) = cc in
        let label : l ≡ k = cc in
        let first = tags_one z w j i (item_tags zs (end_tag kind ∷ r)) (item_tags ws (end_tag other ∷ s)) rest in
        let others = items_one zs ws kind other r s first.2 in
        let same : ◌≡◌ {A = Tree} (container kind (item j z zs)) (container other (item i w ws)) = cc (first.0, first.1, others.0, others.1) in
        (label, same ∙ sym is, others.2))
  ]
  tags_one null y l k r s e = bare_one null y l k r s tt e
  tags_one (truth t) y l k r s e = bare_one (truth t) y l k r s tt e
  tags_one (numeral t) y l k r s e = bare_one (numeral t) y l k r s tt e
  tags_one (text t) y l k r s e = bare_one (text t) y l k r s tt e
  tags_one (container kind no_item) y l k r s e = bare_one (container kind no_item) y l k r s tt e

  items_one : (xs ys : Items) (kind other : Kind) (r s : List Tag) → item_tags xs (end_tag kind ∷ r) ≡ item_tags ys (end_tag other ∷ s)
      → (xs ≡ ys) × (kind ≡ other) × (r ≡ s)
  items_one no_item no_item kind other r s e = (refl, cc, cc)
  items_one no_item (item l x xs) kind other r s e = absurd (no_end l x (item_tags xs (end_tag other ∷ s)) kind r e)
  items_one (item l x xs) no_item kind other r s e = absurd (no_end l x (item_tags xs (end_tag kind ∷ r)) other s (sym e))
  items_one (item l x xs) (item k y ys) kind other r s e =
      let first = tags_one x y l k (item_tags xs (end_tag kind ∷ r)) (item_tags ys (end_tag other ∷ s)) e in
      let others = items_one xs ys kind other r s first.2 in
      let same : ◌≡◌ {A = Items} (item l x xs) (item k y ys) = cc (first.0, first.1, others.0) in
      (same, others.1, others.2)
