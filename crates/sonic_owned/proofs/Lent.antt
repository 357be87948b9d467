-- Items that are lent.
use Rattle.std.proofs.Common.{[], ◌∷◌, ◌≡◌, ◌∙◌, ap, sym, refl, ℕ, ◌+◌, ◌-◌, ◌<◌, ◌≤◌, length, get_or, Ok, Err, IsOk, List, Option, Some, None, option_map, OnSome, OnErr, IfSome, MutBor, subst, arith}
use Rattle.std.specs.List.{slice_get, slice_set}
use Rattle.sonic_owned.proofs.LeadingLemmas.{item_at_list, item_of_first, next_node}
use Rattle.sonic_owned.proofs.Lists.{none_not_some}
use Rattle.sonic_owned.proofs.ReachLemmas.{kept_along, put_unnamed, put_named}
use Rattle.sonic_owned.specs.Forms.{Form, level, unnamed, named}
use Rattle.sonic_owned.specs.Leading.{item_in}
use Rattle.sonic_owned.specs.Internal.Lends.{IsItemPut, AtNode, Lending, OfPart, IsLent, IsLeft, IsPathFound, last_nodes}
use Rattle.sonic_owned.specs.Lends.{IsLeftBehind}
use Rattle.sonic_owned.specs.declared.value.lend.Stop.TheVariants.{Nowhere, NoMemory, TooDeep}
use Rattle.sonic_owned.specs.Opened.{IsOpened}
use Rattle.sonic_owned.specs.Owned.{IsFirstOfKey}
use Rattle.sonic_owned.specs.Puts.{put_in, with_value, IsPartOf}
use Rattle.sonic_owned.specs.Reached.{IsOpenedAlong, IsOpenedOn, LeadsNowhere}
use Rattle.sonic_owned.specs.Views.{form}
use Rattle.sonic_owned.specs.declared.value.OwnedLazyValue.{OwnedLazyValue}
use Rattle.sonic_pointer.specs.Nodes.{node_of, path_of}
use Rattle.sonic_pointer.specs.declared.node.PointerNode.{PointerNode}
use Rattle.sonic_text.specs.Paths.{Node, index, key}
use Rattle.sonic_text.specs.declared.kind.Kind.TheVariants.{Array, Object}

-- the element that an array lends
pub element_there : (o : Option (MutBor OwnedLazyValue)) {f : Form} (fs : List Form) (n : ℕ) → f ≡ level Array (unnamed fs)
    → option_map (λ v. form v.now) o ≡ slice_get fs n → IfSome o (λ x. item_in (index n) f ≡ Some (form x.now))
element_there None fs n is at = tt
element_there (Some x) fs n is at = rw is (item_at_list fs n ∙ sym at)

pub element_lent : (o : Option (MutBor OwnedLazyValue)) {f g : Form} (fs es : List Form) (n : ℕ) (w : Form) → f ≡ level Array (unnamed fs)
    → option_map (λ v. form v.now) o ≡ slice_get fs n → g ≡ level Array (unnamed es) → OnSome o (es ≡ slice_set fs n w)
    → IfSome o (λ x. (item_in (index n) f ≡ Some (form x.now)) × (g ≡ put_in (index n) w f))
element_lent None fs es n w is at last left = tt
element_lent (Some x) fs es n w is at last left =
    (element_there (Some x) fs n is at, rw is (last ∙ ap (λ l. level Array (unnamed l)) left ∙ ap (level Array) (sym (put_unnamed fs n w))))

-- the value that an object lends
pub value_there : (o : Option (MutBor OwnedLazyValue)) {f : Form} (ms : List (List ℕ × Form)) (k : List ℕ) (i : ℕ) → f ≡ level Object (named ms)
    → IsFirstOfKey ms k i → option_map (λ v. form v.now) o ≡ option_map (λ m. m.1) (slice_get ms i) → IfSome o (λ x. item_in (key k) f ≡ Some (form x.now))
value_there None ms k i is first at = tt
value_there (Some x) ms k i is first at =
    rw is (item_of_first ms k i (k, first.here.0) first first.here.1 ∙ sym (at ∙ ap (option_map (λ (m : List ℕ × Form). m.1)) first.here.1))

pub value_lent : (o : Option (MutBor OwnedLazyValue)) {f g : Form} (ms es : List (List ℕ × Form)) (k : List ℕ) (i : ℕ) (w : Form) → f ≡ level Object (named ms)
    → IsFirstOfKey ms k i → option_map (λ v. form v.now) o ≡ option_map (λ m. m.1) (slice_get ms i) → g ≡ level Object (named es)
    → OnSome o (es ≡ with_value i w ms) → IfSome o (λ x. (item_in (key k) f ≡ Some (form x.now)) × (g ≡ put_in (key k) w f))
value_lent None ms es k i w is first at last left = tt
value_lent (Some x) ms es k i w is first at last left =
    (value_there (Some x) ms k i is first at, rw is (last ∙ ap (λ l. level Object (named l)) left ∙ ap (level Object) (sym (put_named ms k i w first))))

-- no element
pub no_element : (o : Option (MutBor OwnedLazyValue)) {f : Form} (fs : List Form) (n : ℕ) → f ≡ level Array (unnamed fs)
    → option_map (λ v. form v.now) o ≡ slice_get fs n → o ≡ None → item_in (index n) f ≡ None
no_element o fs n is at none = rw is (item_at_list fs n ∙ sym at ∙ ap (option_map (λ v. form v.now)) none)

-- the first member with a key is lent
pub value_is_lent : (o : Option (MutBor OwnedLazyValue)) (ms : List (List ℕ × Form)) (k : List ℕ) (i : ℕ) → IsFirstOfKey ms k i
    → option_map (λ v. form v.now) o ≡ option_map (λ m. m.1) (slice_get ms i) → ¬ (o ≡ None)
value_is_lent o ms k i first at none =
    none_not_some (sym (ap (option_map (λ v. form v.now)) none) ∙ at ∙ ap (option_map (λ m. m.1)) first.here.1)

-- the item of a level that was opened is lent
pub item_put : {node : Node} {f mid h : Form} {w : Form} (o : Option (MutBor OwnedLazyValue)) (item : MutBor OwnedLazyValue) → o ≡ Some item → IsOpened f mid
    → IfSome o (λ x. (item_in node mid ≡ Some (form x.now)) × (h ≡ put_in node w mid)) → IsItemPut node f (form item.now) w h
item_put {node = node} {mid = mid} {h} {w} o item is opened lent =
    let both = subst (λ o. IfSome o (λ x. (item_in node mid ≡ Some (form x.now)) × (h ≡ put_in node w mid))) is lent in
    record { level = mid; opened = opened; item = both.0; put = both.1 }

-- the next of the last nodes
pub next_is : (path : List PointerNode) (left : ℕ) (d : PointerNode) (P : Node → Type 0) → left ≤ length path → length path - left < length path → P
    (node_of (get_or path (length path - left) d))
    → AtNode left path P
next_is path left d P fits less p =
    let more = next_node path (length path - left) d less in
    let on : length path - left + 1 ≡ length path - (left - 1) = omega (arith, fits, less) in
    record { node = _; first = rw on at more; holds = p }

-- what is said of what is lent, where something is
pub of_lent : {r : Lending} {part : MutBor OwnedLazyValue} (P : Form → Type 0) → r ≡ Ok part → (IsOk r → OfPart r P) → P (form part.now)
of_lent P is holds = (rw is at holds) refl

-- what follows of a part that is lent
pub of_part : (r : Lending) (P Q : Form → Type 0) → ((i : Form) → P i → Q i) → OfPart r P → OfPart r Q
of_part (Ok x) P Q f p = f (form x.now) p
of_part (Err e) P Q f p = tt

pub found_by : (r : Lending) (P Q : Form → Type 0) (L K O U : Type 0) → ((i : Form) → P i → Q i) → (L → K) → (O → U) → IsLent P L O r → IsLent Q K U r
found_by (Ok x) P Q L K O U f g h p = f (form x.now) p
found_by (Err Nowhere) P Q L K O U f g h p = g p
found_by (Err NoMemory) P Q L K O U f g h p = h p
found_by (Err TooDeep) P Q L K O U f g h p = p

-- where nothing is lent by the next node, its level alone is opened
pub left_next : (r : Lending) (path : List PointerNode) (left : ℕ) (d : PointerNode) (f h : Form) → left ≤ length path → length path - left < length path
    → OnErr r (IsLeft (IsOpenedAlong (node_of (get_or path (length path - left) d) ∷ []) f h) r f h)
    → OnErr r (IsLeft (AtNode left path (λ node. IsOpenedAlong (node ∷ []) f h)) r f h)
left_next (Ok x) path left d f h fits less is = tt
left_next (Err Nowhere) path left d f h fits less is = next_is path left d (λ node. IsOpenedAlong (node ∷ []) f h) fits less is
left_next (Err NoMemory) path left d f h fits less is = is
left_next (Err TooDeep) path left d f h fits less is = is

-- all nodes of a path are its last ones
pub all_nodes : (path : List PointerNode) → last_nodes (length path) path ≡ path_of path
all_nodes path = let none : length path - length path ≡ 0 = omega arith in rw none refl

-- what is found along the nodes that are left is found along the path
pub path_found : (path : List PointerNode) (f : Form) (r : Lending) → length path ≤ 255
    → IsLent (IsPartOf (last_nodes (length path) path) f) (LeadsNowhere (last_nodes (length path) path) f)
    (length path ≤ length path → IsOpenedOn (last_nodes (length path) path) f) r → IsPathFound path f r
path_found path f (Ok x) short p = (short, rw (all_nodes path) at p)
path_found path f (Err Nowhere) short p = (short, rw (all_nodes path) at p)
path_found path f (Err NoMemory) short p = (short, rw (all_nodes path) at (p (omega arith)))
path_found path f (Err TooDeep) short p = absurd p

pub left_behind : (path : List PointerNode) (f h : Form) (r : Lending) → length path ≤ 255 → OnErr r (IsOpenedAlong (last_nodes (length path) path) f h)
    → OnErr r (IsLeftBehind path f h)
left_behind path f h (Ok x) short along = tt
left_behind path f h (Err e) short along = (kept_along (rw (all_nodes path) at along), λ long. absurd (omega (arith, short, long)))
