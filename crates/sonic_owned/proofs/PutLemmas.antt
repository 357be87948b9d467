-- What is put into a form is put into its tree.
use Rattle.std.proofs.Common.{◌≡◌, refl, ℕ, zero, suc, List, Option, Some, None, inl, inr, nat_eq}
use Rattle.std.proofs.lemmas.Bool.{cases_Bool}
use Rattle.std.proofs.lemmas.Option.{same_Some}
use Rattle.std.specs.Cmp.Lexicographic.{pointwise}
use Rattle.sonic_owned.proofs.Lists.{none_not_some}
use Rattle.sonic_owned.proofs.OpeningLemmas.{opened_means}
use Rattle.sonic_owned.specs.Forms.{Form, Members, FormMeans, raw_means, level_means, MembersMean, no_member_means, member_means}
use Rattle.sonic_owned.specs.Leading.{item_at, item_of, item_in}
use Rattle.sonic_owned.specs.Puts.{put_at, put_of, put_in, IsPut, put_here, put_on}
use Rattle.sonic_text.specs.Paths.{Node, key, index, Path}
use Rattle.sonic_text.specs.TreePaths.{element_at, member_of, child, leads}
use Rattle.sonic_owned.specs.TreePuts.{change_at, change_of, change_child, put}
use Rattle.sonic_text.specs.Trees.{Tree, Items}
use Rattle.sonic_text.specs.declared.kind.Kind.TheVariants.{Array, Object}

-- an item is named, it means the tree that is named, and a level with another one in its place means the tree that is changed so
record IsChanged (i : Form) (v : Option Tree) (Put : (Tree → Tree) → Form → Type 0) : Type 0 where
  tree : Tree
  is : v ≡ Some tree
  means : FormMeans i tree
  change : (c : Tree → Tree) (j : Form) → FormMeans j (c tree) → Put c j

element_changed : (n : ℕ) {ms : Members} {xs : Items} {i : Form} → MembersMean ms xs → item_at n ms ≡ Some i
    → IsChanged i (element_at n xs) (λ c j. MembersMean (put_at n j ms) (change_at n c xs))
element_changed n no_member_means e = absurd (none_not_some e)
element_changed zero (member_means {v = x} m ms) e = record { tree = x; is = refl; means = rw (same_Some _ _ e) at m; change = λ c j k. member_means k ms }
element_changed (suc n) (member_means m ms) e =
    let r = element_changed n ms e in
    record { tree = r.tree; is = r.is; means = r.means; change = λ c j k. member_means m (r.change c j k) }

first_changed : (k : List ℕ) {ms : Members} {xs : Items} {i : Form} → MembersMean ms xs → item_of k ms ≡ Some i
    → IsChanged i (member_of k xs) (λ c j. MembersMean (put_of k j ms) (change_of k c xs))
first_changed k no_member_means e = absurd (none_not_some e)
first_changed k (member_means {l = None} m ms) e =
    let r = first_changed k ms e in
    record { tree = r.tree; is = r.is; means = r.means; change = λ c j g. member_means m (r.change c j g) }
first_changed k {i = i} (member_means {l = Some l} {v = x} m ms) e = elim (cases_Bool (pointwise nat_eq l k)) [
  | inl same ↦ rw same (record { tree = x; is = refl; means = rw (same_Some _ _ (rw same at e)) at m; change = λ c j g. member_means g ms })
  | inr other ↦
      let r = first_changed k ms (rw other at e) in
      rw other (record { tree = r.tree; is = r.is; means = r.means; change = λ c j g. member_means m (r.change c j g) })
]

-- so it is with the item of a form that a node names
item_changed : (node : Node) {o i : Form} {v : Tree} → FormMeans o v → item_in node o ≡ Some i
    → IsChanged i (child node v) (λ c j. FormMeans (put_in node j o) (change_child node c v))
item_changed node (raw_means m) e = absurd (none_not_some e)
item_changed (index n) (level_means {kind = Array} ms) e =
    let r = element_changed n ms e in
    record { tree = r.tree; is = r.is; means = r.means; change = λ c j k. level_means (r.change c j k) }
item_changed (index n) (level_means {kind = Object} ms) e = absurd (none_not_some e)
item_changed (key k) (level_means {kind = Array} ms) e = absurd (none_not_some e)
item_changed (key k) (level_means {kind = Object} ms) e =
    let r = first_changed k ms e in
    record { tree = r.tree; is = r.is; means = r.means; change = λ c j g. level_means (r.change c j g) }

-- what was there is what the path leads to in the tree, and with what is put the form means the tree with the other one put there
pub put_part : {path : Path} {f m g h : Form} {v : Tree} → IsPut path f m g h → FormMeans f v
    → (u : Tree) × (leads v path ≡ Some u) × FormMeans m u × ((w : Tree) → FormMeans g w → FormMeans h (put path w v))
put_part {v = v} put_here f = (v, refl, f, λ w g. g)
put_part (put_on {node} {rest} o e p is) f =
    let r = item_changed node (opened_means o f) e in
    let (u, lead, there, below) = put_part p r.means in
    (u, rw r.is lead, there, λ w g. rw is (r.change (put rest w) _ (below w g)))

pub put_means : {path : Path} {f m g h : Form} {v w : Tree} → IsPut path f m g h → FormMeans f v → FormMeans g w
    → FormMeans h (put path w v) × ((u : Tree) × (leads v path ≡ Some u) × FormMeans m u)
put_means {w = w} p f g = let (u, lead, there, with) = put_part p f in (with w g, (u, lead, there))
