-- Where the tokens of a pointer lead in a form, token by token.
use Rattle.std.proofs.Common.{◌≡◌, ◌∙◌, sym, refl, ap, ℕ, ◌+◌, ◌<◌, ◌≤◌, List, [], ◌∷◌, ◌++◌, length, drop, get_or, Option, Some, None, option_map}
use Rattle.std.proofs.lemmas.List.{append_assoc, append-nil, drop_all, drop_more, map-append}
use Rattle.std.specs.Option.{option_and_then}
use Rattle.sonic_owned.proofs.LedPartLemmas.{leads_further}
use Rattle.sonic_owned.proofs.MeaningLemmas.{form_means_one, form_scalar}
use Rattle.sonic_owned.proofs.MeantPathLemmas.{leads_meant, meant_leads}
use Rattle.sonic_owned.specs.Forms.{Form, FormMeans, scalar_of_form}
use Rattle.sonic_owned.specs.Leading.{LeadsTo, leads_here}
use Rattle.sonic_patch.specs.Internal.Resolved.{LeadsUpTo, LeadNowhere}
use Rattle.sonic_patch.specs.Pointers.{Token}
use Rattle.sonic_patch.specs.Resolution.{index_of, node_in, path_in}
use Rattle.sonic_pointer.specs.Nodes.{node_of, path_of}
use Rattle.sonic_pointer.specs.declared.node.PointerNode.{PointerNode}
use Rattle.sonic_error.specs.declared.json_type.JsonType.TheVariants.{Object as AnObject, Array as AnArray}
use Rattle.sonic_lazy.specs.Scalars.{type_of, scalar_of_tree}
use Rattle.sonic_text.specs.Paths.{Node, key, index, Path}
use Rattle.sonic_text.specs.TreePaths.{child, leads}
use Rattle.sonic_text.specs.Trees.{Tree, Items, container}
use Rattle.sonic_text.specs.declared.kind.Kind.TheVariants.{Array, Object}

-- what the type of a form says of its tree
pub object_meant : {g : Form} {u : Tree} → FormMeans g u → type_of (scalar_of_form g) ≡ AnObject → (xs : Items) × (u ≡ container Object xs)
object_meant {u = u} means is = cases u (rw (form_scalar means) at is)
  where
    cases : (u : Tree) → type_of (scalar_of_tree u) ≡ AnObject → (xs : Items) × (u ≡ container Object xs)
    cases (container Object xs) e = (xs, refl)
    cases u e = absurd cc

pub array_meant : {g : Form} {u : Tree} → FormMeans g u → type_of (scalar_of_form g) ≡ AnArray → (xs : Items) × (u ≡ container Array xs)
array_meant {u = u} means is = cases u (rw (form_scalar means) at is)
  where
    cases : (u : Tree) → type_of (scalar_of_tree u) ≡ AnArray → (xs : Items) × (u ≡ container Array xs)
    cases (container Array xs) e = (xs, refl)
    cases u e = absurd cc

-- the node that a token is in it
pub object_node : {g : Form} (t : Token) → type_of (scalar_of_form g) ≡ AnObject → (v : Tree) → FormMeans g v → Some (key t) ≡ node_in v t
object_node t is v means = let (xs, e) = object_meant means is in rw e refl

pub array_node : {g : Form} (t : Token) → type_of (scalar_of_form g) ≡ AnArray → (v : Tree) → FormMeans g v → option_map index (index_of t) ≡ node_in v t
array_node t is v means = let (xs, e) = array_meant means is in rw e refl

pub other_node : {g : Form} (t : Token) → ¬ (type_of (scalar_of_form g) ≡ AnObject) → ¬ (type_of (scalar_of_form g) ≡ AnArray) → (v : Tree) → FormMeans g v → None ≡ node_in v t
other_node t object array v means = cases v (rw (form_scalar means) at object) (rw (form_scalar means) at array)
  where
    cases : (v : Tree) → ¬ (type_of (scalar_of_tree v) ≡ AnObject) → ¬ (type_of (scalar_of_tree v) ≡ AnArray) → None ≡ node_in v t
    cases (container Object xs) o a = absurd (o refl)
    cases (container Array xs) o a = absurd (a refl)
    cases v o a = refl

-- one node leads to a child
child_led : (o : Option Tree) {x : Tree} → option_and_then (λ w. leads w []) o ≡ Some x → o ≡ Some x
child_led None e = e
child_led (Some w) e = e

pub led_child : {node : Node} {g h : Form} {u x : Tree} → FormMeans g u → LeadsTo (node ∷ []) g h → FormMeans h x → child node u ≡ Some x
led_child {node} {u = u} {x} means lead there =
    let (y, own, is) = leads_meant lead means in
    child_led (child node u) (rw (form_means_one own there) at is)

pub unled_child : {node : Node} {g : Form} {u : Tree} → FormMeans g u → ((h : Form) → ¬ LeadsTo (node ∷ []) g h) → child node u ≡ None
unled_child {node} {g} {u} means none = cases (child node u) refl
  where
    cases : (o : Option Tree) → child node u ≡ o → child node u ≡ None
    cases None e = e
    cases (Some w) e =
        let lead : leads u (node ∷ []) ≡ Some w = rw e refl in
        absurd (none _ (meant_leads {path = node ∷ []} means lead).1)

-- at first no token is used up
pub first_up_to : {ts : List Token} {f : Form} → LeadsUpTo ts f [] ts f
first_up_to {ts} = record { leads = leads_here; paths = λ v u m n. rw (form_means_one m n) (all (path_in ts u)) }
  where
    all : (o : Option Path) → o ≡ option_map (λ more. [] ++ more) o
    all None = refl
    all (Some path) = refl

longer : (path : Path) (node : Node) (o : Option Path)
    → option_map (λ more. path ++ more) (option_map (λ more. node ∷ more) o) ≡ option_map (λ more. (path ++ node ∷ []) ++ more) o
longer path node None = refl
longer path node (Some more) = ap Some (sym (append_assoc path (node ∷ []) more))

-- one more token
module _ {ts : List Token} {f g : Form} {path : Path} {t : Token} {rest : List Token} (before : LeadsUpTo ts f path (t ∷ rest) g) where
  token_up_to : {node : Node} {h : Form} → ((u : Tree) → FormMeans g u → Some node ≡ node_in u t) → LeadsTo (node ∷ []) g h → LeadsUpTo ts f (path ++ node ∷ []) rest h
  token_up_to {node} is lead = record {
    leads = leads_further before.leads lead;
    paths = λ v x m n.
        let (u, there, at) = leads_meant before.leads m in
        before.paths v u m there ∙ rw (sym (is u there), led_child there lead n) (longer path node (path_in rest x));
  }

  token_nowhere : ((u : Tree) → FormMeans g u → None ≡ node_in u t) → LeadNowhere ts f
  token_nowhere none v m = let (u, there, at) = leads_meant before.leads m in before.paths v u m there ∙ rw (sym (none u there)) refl

  token_stuck : {node : Node} → ((u : Tree) → FormMeans g u → Some node ≡ node_in u t) → ((h : Form) → ¬ LeadsTo (node ∷ []) g h) → LeadNowhere ts f
  token_stuck is none v m =
      let (u, there, at) = leads_meant before.leads m in
      before.paths v u m there ∙ rw (sym (is u there), unled_child there none) refl

-- so it is at a place among the tokens
module _ {ts : List Token} {f g : Form} {path : Path} (i : ℕ) (t : Token) (before : LeadsUpTo ts f path (drop i ts) g) (within : i < length ts) (there : t ≡ get_or ts i t) where
  at_token : LeadsUpTo ts f path (t ∷ drop (i + 1) ts) g
  at_token = rw (drop_more ts i t within, sym there) at before

  pub next_up_to : {h : Form} (nodes : List PointerNode) (node : PointerNode) → path ≡ path_of nodes → ((u : Tree) → FormMeans g u → Some (node_of node) ≡ node_in u t)
      → LeadsTo (node_of node ∷ []) g h → LeadsUpTo ts f (path_of (nodes ++ node ∷ [])) (drop (i + 1) ts) h
  next_up_to nodes node e is lead = rw (map-append node_of nodes (node ∷ []), sym e) (token_up_to at_token is lead)

  pub next_nowhere : ((u : Tree) → FormMeans g u → None ≡ node_in u t) → LeadNowhere ts f
  next_nowhere none = token_nowhere at_token none

  pub next_stuck : (node : PointerNode) → ((u : Tree) → FormMeans g u → Some (node_of node) ≡ node_in u t) → ((h : Form) → ¬ LeadsTo (node_of node ∷ []) g h) → LeadNowhere ts f
  next_stuck node is none = token_stuck at_token is none

-- and where all are used up they lead there
pub all_used : {ts : List Token} {f g : Form} {path : Path} (i : ℕ) → LeadsUpTo ts f path (drop i ts) g → length ts ≤ i → (v : Tree) → FormMeans f v → path_in ts v ≡ Some path
all_used {ts} {f} {g} {path} i before past v m =
    let end : LeadsUpTo ts f path [] g = rw (drop_all i ts past) at before in
    let (u, there, at) = leads_meant end.leads m in
    end.paths v u m there ∙ ap Some (append-nil path)
