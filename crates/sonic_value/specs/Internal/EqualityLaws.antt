-- The same trees are those that are equal. The laws of `PartialEq` and `Eq` cite these.
use Rattle.std.proofs.Common.{◌≡◌, ◌&&◌, ℕ, ap, ap₂, refl, sym, Bool, true, List, Option, Some, None, Decides, IsTrue}
use Rattle.std.proofs.lemmas.Bool.Decides.{same_from_decides, Decides-eqb}
use Rattle.std.proofs.lemmas.Bool.{and_parts, false≢true}
use Rattle.std.proofs.lemmas.Slice.Eq.{slice_eq-Decides}
use Rattle.std.specs.Cmp.{IsEquivalence, booleans_Decides}
use Rattle.sonic_text.specs.Trees.Items.{no_item, item}
use Rattle.sonic_text.specs.Trees.Tree.{null, truth, numeral, text, container}
use Rattle.sonic_text.specs.Trees.{Tree, Items}
use Rattle.sonic_text.specs.declared.kind.Kind.TheVariants.{Array, Object}
use Rattle.sonic_text.specs.declared.kind.Kind.{Kind}
use Rattle.sonic_value.specs.Equality.{same_bytes, same_kind, same_label, same_tree, same_items}

bytes_same : (a b : List ℕ) → Decides (same_bytes a b) (a ≡ b)
bytes_same a b = slice_eq-Decides Decides-eqb a b (same_bytes a b) refl

kind_same : (k l : Kind) → Decides (same_kind k l) (k ≡ l)
kind_same Array Array = (λ e. refl, λ e. refl)
kind_same Object Object = (λ e. refl, λ e. refl)
kind_same Array Object = (λ e. absurd (false≢true e), λ e. absurd cc)
kind_same Object Array = (λ e. absurd (false≢true e), λ e. absurd cc)

label_same : (k l : Option (List ℕ)) → Decides (same_label k l) (k ≡ l)
label_same None None = (λ e. refl, λ e. refl)
label_same (Some k) (Some l) = (λ e. ap Some ((bytes_same k l).0 e), λ e. (bytes_same k l).1 cc)
label_same None (Some l) = (λ e. absurd (false≢true e), λ e. absurd cc)
label_same (Some k) None = (λ e. absurd (false≢true e), λ e. absurd cc)

both : (a b : Bool) → IsTrue a → IsTrue b → IsTrue (a && b)
both a b e f = rw (e, f) refl

mutual
  pub tree_same : (x y : Tree) → Decides (same_tree x y) (x ≡ y)
  tree_same null null = (λ e. refl, λ e. refl)
  tree_same (truth a) (truth b) = (λ e. ap truth ((booleans_Decides a b).0 e), λ e. (booleans_Decides a b).1 cc)
  tree_same (numeral a) (numeral b) = (λ e. ap numeral ((bytes_same a b).0 e), λ e. (bytes_same a b).1 cc)
  tree_same (text a) (text b) = (λ e. ap text ((bytes_same a b).0 e), λ e. (bytes_same a b).1 cc)
  tree_same (container k xs) (container l ys) = (
    λ e. let parts = and_parts (same_kind k l) (same_items xs ys) e in ap₂ container ((kind_same k l).0 parts.0) ((items_same xs ys).0 parts.1),
    λ e. both _ _ ((kind_same k l).1 cc) ((items_same xs ys).1 cc),
  )
  tree_same x y = (λ e. absurd (false≢true e), λ e. absurd cc)

  items_same : (xs ys : Items) → Decides (same_items xs ys) (xs ≡ ys)
  items_same no_item no_item = (λ e. refl, λ e. refl)
  items_same (item k x xs) (item l y ys) = (
    λ e.
        let parts = and_parts (same_label k l) (same_tree x y && same_items xs ys) e in
        let more = and_parts (same_tree x y) (same_items xs ys) parts.1 in
        rw ((label_same k l).0 parts.0, (tree_same x y).0 more.0, (items_same xs ys).0 more.1) refl,
    λ e. both _ _ ((label_same k l).1 cc) (both _ _ ((tree_same x y).1 cc) ((items_same xs ys).1 cc)),
  )
  items_same xs ys = (λ e. absurd (false≢true e), λ e. absurd cc)

-- so they are alike as an equality is
pub tree_equivalence : IsEquivalence same_tree
tree_equivalence = record {
  refl = λ x. (tree_same x x).1 refl;
  symm = λ x y. same_from_decides (same_tree x y) (same_tree y x) (tree_same x y) (λ e. sym ((tree_same y x).0 e), λ e. (tree_same y x).1 (sym e));
  congr = λ x y z e. ap (λ w. same_tree w z) ((tree_same x y).0 e);
}
