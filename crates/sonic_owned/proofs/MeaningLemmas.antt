-- A form means one tree.
use Rattle.std.proofs.Common.{◌≡◌, ap, ap₂, refl}
use Rattle.sonic_lazy.proofs.ScalarLemmas.{scalar_means}
use Rattle.sonic_lazy.specs.Scalars.{scalar_of_tree}
use Rattle.sonic_owned.specs.Forms.{scalar_of_form, Form, Members, FormMeans, raw_means, level_means, MembersMean, no_member_means, member_means}
use Rattle.sonic_text.proofs.TreeLemmas.{means_one}
use Rattle.sonic_text.specs.Trees.{Tree, container, Items, item}

mutual
  -- a form means one tree
  pub form_means_one : {f : Form} {v w : Tree} → FormMeans f v → FormMeans f w → v ≡ w
  form_means_one (raw_means x) (raw_means y) = means_one x y
  form_means_one (level_means {kind} xs) (level_means ys) = ap (container kind) (members_mean_one xs ys)

  -- and the items of a level one list of trees
  members_mean_one : {ms : Members} {xs ys : Items} → MembersMean ms xs → MembersMean ms ys → xs ≡ ys
  members_mean_one no_member_means no_member_means = refl
  members_mean_one (member_means {l} x xs) (member_means y ys) = ap₂ (item l) (form_means_one x y) (members_mean_one xs ys)

-- what its first level says of a form is what it says of the tree
pub form_scalar : {f : Form} {v : Tree} → FormMeans f v → scalar_of_form f ≡ scalar_of_tree v
form_scalar (raw_means m) = scalar_means refl m
form_scalar (level_means ms) = refl
