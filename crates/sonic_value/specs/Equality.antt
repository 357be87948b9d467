-- Which trees are the same.
use Rattle.std.specs.Prelude.{ℕ, ◌&&◌, nat_eq, Bool, true, false, List, Option, Some, None}
use Rattle.std.specs.Bool.{beq}
use Rattle.std.specs.Cmp.Lexicographic.{pointwise}
use Rattle.sonic_text.specs.Trees.Items.{no_item, item}
use Rattle.sonic_text.specs.Trees.Tree.{null, truth, numeral, text, container}
use Rattle.sonic_text.specs.Trees.{Tree, Items}
use Rattle.sonic_text.specs.declared.kind.Kind.TheVariants.{Array, Object}
use Rattle.sonic_text.specs.declared.kind.Kind.{Kind}

abbrev pub same_bytes : List ℕ → List ℕ → Bool
same_bytes = pointwise nat_eq

abbrev pub same_kind : Kind → Kind → Bool
same_kind Array Array = true
same_kind Object Object = true
same_kind Array Object = false
same_kind Object Array = false

abbrev pub same_label : Option (List ℕ) → Option (List ℕ) → Bool
same_label None None = true
same_label (Some k) (Some l) = same_bytes k l
same_label None (Some l) = false
same_label (Some k) None = false

abbrev mutual
  -- the trees have the same shape: members in the same order, and numbers with the same text
  pub same_tree : Tree → Tree → Bool
  same_tree null null = true
  same_tree (truth a) (truth b) = beq a b
  same_tree (numeral a) (numeral b) = same_bytes a b
  same_tree (text a) (text b) = same_bytes a b
  same_tree (container kind xs) (container other ys) = same_kind kind other && same_items xs ys
  same_tree x y = false

  pub same_items : Items → Items → Bool
  same_items no_item no_item = true
  same_items (item l x xs) (item k y ys) = same_label l k && (same_tree x y && same_items xs ys)
  same_items xs ys = false
