-- A path leads in a form where it leads in the tree that the form means.
use Rattle.std.proofs.Common.{◌≡◌, ◌≢◌, ◌<◌, ◌⊎◌, ◌+◌, ◌∙◌, ◌-◌, ap, sym, inl, inr, refl, ℕ, zero, suc, List, [], ◌∷◌, length, Option, Some, None, false, nat_eq, arith, codes}
use Rattle.std.proofs.lemmas.Bool.{cases_Bool, cases_eq}
use Rattle.std.specs.Cmp.Lexicographic.{pointwise}
use Rattle.std.proofs.lemmas.Option.{same_Some}
use Rattle.std.specs.Prelude.{slice_range}
use Rattle.sonic_find.proofs.PathLemmas.Lead.{one_more_unnamed, named_leads, none_leads, not_named, past_byte, first_unnamed, none_unopened, none_empty, leads_on_one}
use Rattle.sonic_find.proofs.PathLemmas.Outcome.{nowhere_ends}
use Rattle.sonic_find.specs.Paths.{found, kind_of, name_of, NoneNamed, IsNamed, LeadsOn, Evaluates, found_here, goes_on, leads_nowhere}
use Rattle.sonic_text.proofs.PlacedLemmas.{slice_means}
use Rattle.sonic_owned.proofs.Lists.{texts_equal, texts_differ, none_not_some}
use Rattle.sonic_owned.specs.Forms.{Form, raw, level, Members, FormMeans, raw_means, level_means, MembersMean, no_member_means, member_means}
use Rattle.sonic_owned.specs.Leading.{item_at, item_of, item_in, LeadsTo, leads_here, leads_on, leads_in_text}
use Rattle.sonic_text.proofs.Items.{opening_one, closing_no_comma}
use Rattle.sonic_text.proofs.Numbers.{number_begins}
use Rattle.sonic_text.proofs.TreeLemmas.{value_of}
use Rattle.sonic_text.proofs.Values.{first_letter, value_end_one, value_starts}
use Rattle.sonic_text.proofs.Within.{value_within}
use Rattle.sonic_text.specs.Paths.{Node, key, index, Path}
use Rattle.sonic_text.specs.Places.{byte, after_space}
use Rattle.sonic_text.specs.Strings.{strict}
use Rattle.sonic_text.specs.TreePaths.{element_at, member_of, child, leads}
use Rattle.sonic_text.specs.Trees.{Tree, container, Items, no_item, Means, ItemsMean}
use Rattle.sonic_text.specs.Trees.Means.{means_null, means_true, means_false, means_number, means_string, means_empty, means_filled}
use Rattle.sonic_text.specs.Trees.ItemsMean.{last_item, more_items}
use Rattle.sonic_text.specs.Values.{opening, closing, ItemHead, no_head, key_head, first_item, next_item}
use Rattle.sonic_text.specs.declared.kind.Kind.{Kind}
use Rattle.sonic_text.specs.declared.kind.Kind.TheVariants.{Array, Object}

-- in the value at i the node leads on to a value that means this tree, or nowhere
data ChildAt (t : List ℕ) (i : ℕ) (node : Node) (o : Option Tree) : Type 0 where
  child_at : {p e : ℕ} {w : Tree} → LeadsOn t i node p → Means t p e w → o ≡ Some w → ChildAt t i node o
  no_child : ((p : ℕ) → ¬ LeadsOn t i node p) → o ≡ None → ChildAt t i node o

-- of the items of the container at i the node names none of the first n, and the next has this head and means this tree
module _ {t : List ℕ} {i n h v e : ℕ} {kind : Kind} {l : Option (List ℕ)} {x : Tree} {node : Node}
    (none : NoneNamed t i kind n h node) (head : ItemHead strict t kind h v l) (value : Means t v e x) where
  -- where the node names the item, it leads on to it
  here : name_of n l ≡ node → ChildAt t i node (Some x)
  here name = child_at (named_leads none (record { label = l; head = head; name = name })) value refl

  -- the item has a name of its own
  own : IsNamed t kind n h v (name_of n l)
  own = record { label = l; head = head; name = refl }

  -- where that is another, the node names none of the items up to the next
  further : {g : ℕ} → byte t (after_space t e) ≡ 44 → g ≡ after_space t (after_space t e + 1) → name_of n l ≢ node
      → NoneNamed t i kind (n + 1) g node
  further comma next other = one_more_unnamed none own other (next_item none.fit head (value_of value) comma next refl) refl

  -- and leads nowhere, where the item is the last
  past : byte t (after_space t e) ≡ closing kind → name_of n l ≢ node → ChildAt t i node None
  past close other =
      no_child (none_leads none (not_named own other) (past_byte none.fit own (value_of value) (λ c. closing_no_comma kind (omega arith)))) refl

-- an index that is further on names another element
pub index_further : {n m : ℕ} → n < m → name_of n None ≢ index m
index_further {n} {m} l same = let one : n ≡ m = cc in absurd (omega arith)

-- of the elements from the n-th on an index names the one that is r further
elements_walked : {t : List ℕ} {i m : ℕ} (r : ℕ) {n h j : ℕ} {xs : Items} → m ≡ n + r → NoneNamed t i Array n h (index m)
    → ItemsMean t Array h j xs → ChildAt t i (index m) (element_at r xs)
elements_walked zero e none (last_item (no_head p) x c q) = here none (no_head p) x (ap index (omega arith))
elements_walked zero e none (more_items (no_head p) x c q is) = here none (no_head p) x (ap index (omega arith))
elements_walked (suc r) e none (last_item (no_head p) x c q) = past none (no_head p) x c (index_further (omega arith))
elements_walked (suc r) e none (more_items (no_head p) x c q is) =
    elements_walked r (omega arith) (further none (no_head p) x c q (index_further (omega arith))) is

-- another key than that of the member
pub key_other : (n : ℕ) (l k : List ℕ) → pointwise nat_eq l k ≡ false → name_of n (Some l) ≢ key k
key_other n l k other same = texts_differ l k other cc

-- of the members from the n-th on a key names the first that has it
members_walked : {t : List ℕ} {i j : ℕ} {k : List ℕ} {h n : ℕ} {xs : Items} → NoneNamed t i Object n h (key k) → ItemsMean t Object h j xs
    → ChildAt t i (key k) (member_of k xs)
members_walked {k = k} {n = n} none (last_item (key_head {b = l} y) x c q) = elim (cases_Bool (pointwise nat_eq l k)) [
  | inl same ↦ rw same (here none (key_head y) x (ap key (texts_equal l k same)))
  | inr other ↦ rw other (past none (key_head y) x c (key_other n l k other))
]
members_walked {k = k} {n = n} none (more_items (key_head {b = l} y) x c q is) = elim (cases_Bool (pointwise nat_eq l k)) [
  | inl same ↦ rw same (here none (key_head y) x (ap key (texts_equal l k same)))
  | inr other ↦ rw other (members_walked (further none (key_head y) x c q (key_other n l k other)) is)
]

-- so it is in a container of the kind that the node asks for
container_walked : {t : List ℕ} {i j : ℕ} {xs : Items} (node : Node) → Means t i j (container (kind_of node) xs)
    → ChildAt t i node (child node (container (kind_of node) xs))
container_walked (index n) (means_empty b c q) = no_child (λ p. none_empty c (index n) p refl) refl
container_walked (index n) (means_filled b q d is) = elements_walked n (omega arith) (first_unnamed (index n) (first_item b q d refl)) is
container_walked (key k) (means_empty b c q) = no_child (λ p. none_empty c (key k) p refl) refl
container_walked (key k) (means_filled b q d is) = members_walked (first_unnamed (key k) (first_item b q d refl)) is

-- the brackets that open containers
bracket_is : (kind : Kind) → (opening kind ≡ 91) ⊎ (opening kind ≡ 123)
bracket_is Array = inl refl
bracket_is Object = inr refl

-- where one is, the value is a container of its kind
opened : {t : List ℕ} {i j : ℕ} {kind : Kind} {v : Tree} → byte t i ≡ opening kind → Means t i j v → (xs : Items) × (v ≡ container kind xs)
opened {t} {i} {kind = kind} o (means_null h) = absurd (grind (arith, bracket_is kind, first_letter (codes "null") t i (omega arith) h))
opened {t} {i} {kind = kind} o (means_true h) = absurd (grind (arith, bracket_is kind, first_letter (codes "true") t i (omega arith) h))
opened {t} {i} {kind = kind} o (means_false h) = absurd (grind (arith, bracket_is kind, first_letter (codes "false") t i (omega arith) h))
opened {kind = kind} o (means_number h e) = absurd (grind (arith, bracket_is kind, number_begins h))
opened {kind = kind} o (means_string h) = absurd (grind (arith, bracket_is kind, h.opens))
opened {kind = kind} o (means_empty {kind = own} b c q) = (no_item, rw (opening_one own kind (omega arith)) refl)
opened {kind = kind} o (means_filled {kind = own} {xs = xs} b q d is) = (xs, rw (opening_one own kind (omega arith)) refl)

-- and nowhere else
begins : {t : List ℕ} {i j : ℕ} {kind : Kind} {xs : Items} → Means t i j (container kind xs) → byte t i ≡ opening kind
begins (means_empty b c q) = b
begins (means_filled b q d is) = b

-- a node names items of a container of its kind alone
pub child_none : (node : Node) (v : Tree) → ((xs : Items) → v ≢ container (kind_of node) xs) → child node v ≡ None
child_none (index n) (container Array xs) other = absurd (other xs refl)
child_none (key k) (container Object xs) other = absurd (other xs refl)
child_none node v other = refl

-- a node leads on in a text to what it names in the tree
walked : {t : List ℕ} {i j : ℕ} {v : Tree} (node : Node) → Means t i j v → ChildAt t i node (child node v)
walked {t} {i} {j} {v} node m = elim (cases_eq (byte t i) (opening (kind_of node))) [
  | inl o ↦
      let (xs, is) = opened o m in
      let inside : Means t i j (container (kind_of node) xs) = rw is at m in
      rw is (container_walked node inside)
  | inr other ↦
      no_child (λ p. none_unopened other node p refl) (child_none node v (λ xs is. other (begins {kind = kind_of node} {xs = xs} (rw is at m))))
]

-- a path that finds a value in a text leads there in the tree
pub text_leads : {t : List ℕ} (path : Path) {i j a b : ℕ} {v : Tree} → Means t i j v → Evaluates t i path (found a b)
    → (w : Tree) × Means t a b w × (leads v path ≡ Some w)
text_leads [] m (found_here y) = (_, rw (value_end_one y (value_of m)) m, refl)
text_leads (node ∷ rest) m (goes_on {v = p} l e) = elim (walked node m) [
  | child_at k x is ↦ let (w, there, lead) = text_leads rest x (rw (leads_on_one l k) at e) in (w, there, rw is lead)
  | no_child none is ↦ absurd (none p l)
]
text_leads {t} (node ∷ rest) {i} m (leads_nowhere {j = j} y none clash) = absurd (rw (← clash) at (nowhere_ends t i (j - 1) (kind_of node)))

-- and where it leads in the tree it finds a value in the text
pub text_meant : {t : List ℕ} (path : Path) {i j : ℕ} {v w : Tree} → Means t i j v → leads v path ≡ Some w
    → (a : ℕ) × (b : ℕ) × Means t a b w × Evaluates t i path (found a b)
text_meant [] {i} {j} m e = (i, j, rw (same_Some _ _ e) at m, found_here (value_of m))
text_meant (node ∷ rest) m e = elim (walked node m) [
  | child_at l x is ↦ let (a, b, there, on) = text_meant rest x (rw is at e) in (a, b, there, goes_on l on)
  | no_child none is ↦ absurd (none_not_some (rw is at e))
]

-- there is a form here and a tree that it means there, or neither
pub data BothMean (f : Option Form) (v : Option Tree) : Type 0 where
  both_mean : {g : Form} {w : Tree} → f ≡ Some g → v ≡ Some w → FormMeans g w → BothMean f v
  neither : f ≡ None → v ≡ None → BothMean f v

-- an element of a level means the one of the tree
element_means : (n : ℕ) {ms : Members} {xs : Items} → MembersMean ms xs → BothMean (item_at n ms) (element_at n xs)
element_means n no_member_means = neither refl refl
element_means zero (member_means m ms) = both_mean refl refl m
element_means (suc n) (member_means m ms) = element_means n ms

-- and so does the first member with a key
first_means : (k : List ℕ) {ms : Members} {xs : Items} → MembersMean ms xs → BothMean (item_of k ms) (member_of k xs)
first_means k no_member_means = neither refl refl
first_means k (member_means {l = None} m ms) = first_means k ms
first_means k (member_means {l = Some l} m ms) = elim (cases_Bool (pointwise nat_eq l k)) [
  | inl same ↦ rw same (both_mean refl refl m)
  | inr other ↦ rw other (first_means k ms)
]

-- and so the item that a node names
pub item_means : (node : Node) (kind : Kind) {ms : Members} {xs : Items} → MembersMean ms xs
    → BothMean (item_in node (level kind ms)) (child node (container kind xs))
item_means (index n) Array ms = element_means n ms
item_means (index n) Object ms = neither refl refl
item_means (key k) Array ms = neither refl refl
item_means (key k) Object ms = first_means k ms

-- a text that is one value begins with it
starts : {b : List ℕ} {v : Tree} → Means b 0 (length b) v → after_space b 0 ≡ 0
starts m = value_starts (value_of m)

-- a part of a text that means a tree means it alone
part_means : {b : List ℕ} {i j : ℕ} {v : Tree} → Means b i j v → FormMeans (raw (slice_range b i j)) v
part_means m = raw_means (slice_means m (value_within (value_of m)))

-- where a path leads in a form, it leads in the tree that the form means, to what the form there means
pub leads_meant : {path : Path} {f g : Form} {v : Tree} → LeadsTo path f g → FormMeans f v → (w : Tree) × FormMeans g w × (leads v path ≡ Some w)
leads_meant leads_here m = (_, m, refl)
leads_meant (leads_on e l) (raw_means m) = absurd cc
leads_meant (leads_on {node = node} e l) (level_means {kind} ms) = elim (item_means node kind ms) [
  | both_mean is at m ↦
      let (w, there, lead) = leads_meant l (rw (same_Some _ _ (sym is ∙ e)) at m) in
      (w, there, rw at lead)
  | neither none at ↦ absurd (none_not_some (sym none ∙ e))
]
leads_meant {path} (leads_in_text e) (raw_means m) =
    let (w, there, lead) = text_leads path m (rw (starts m) at e) in
    (w, part_means there, lead)

-- and where it leads in the tree, it leads in the form, to a form that means the tree there
pub meant_leads : {path : Path} {f : Form} {v w : Tree} → FormMeans f v → leads v path ≡ Some w → (g : Form) × LeadsTo path f g × FormMeans g w
meant_leads {path = []} m e = (_, leads_here, rw (same_Some _ _ e) at m)
meant_leads {path} (raw_means m) e =
    let (a, b, there, on) = text_meant path m e in
    (_, leads_in_text (rw (starts m) on), part_means there)
meant_leads {path = node ∷ rest} (level_means {kind} ms) e = elim (item_means node kind ms) [
  | both_mean is at m ↦ let (g, on, there) = meant_leads {path = rest} m (rw at at e) in (g, leads_on is on, there)
  | neither none at ↦ absurd (none_not_some (rw at at e))
]
