-- One item more of a level, or one less, is that of the level's list, and comes of a place to which a node leads.
use Rattle.std.proofs.Common.{◌≡◌, ◌<◌, ◌≤◌, ◌-◌, ◌∙◌, sym, ap, refl, ℕ, zero, suc, List, [], ◌∷◌, length, Option, Some, None, option_map, inl, inr, nat_eq, Bool, true, false, not, arith}
use Rattle.std.proofs.lemmas.Bool.{cases_Bool, cases_lt}
use Rattle.std.proofs.lemmas.Option.{same_Some, slice_get_past}
use Rattle.std.specs.Cmp.Lexicographic.{pointwise, nat_list_eq_equiv}
use Rattle.std.specs.List as list
use Rattle.std.specs.Option.{IfSome, is_some}
use Rattle.std.specs.List.{slice_get}
use Rattle.sonic_find.specs.Paths.{kind_of}
use Rattle.sonic_lazy.specs.Scalars.{container as container_of, scalar_of_tree}
use Rattle.sonic_owned.proofs.ChangeLemmas.{opened_kind}
use Rattle.sonic_owned.proofs.KeptTextLemmas.{opened_alike}
use Rattle.sonic_owned.proofs.LeadingLemmas.{item_at_list, no_key_first}
use Rattle.sonic_owned.proofs.Lists.{none_not_some, some_or_none}
use Rattle.sonic_owned.proofs.MeaningLemmas.{form_scalar}
use Rattle.sonic_owned.proofs.MeantPathLemmas.{leads_meant}
use Rattle.sonic_owned.proofs.ValueLemmas.{sound_means}
use Rattle.sonic_owned.specs.Edits.{insert_member, members_without_at, members_without_of, members_without, IsChange, is_inserted, is_removed}
use Rattle.sonic_owned.specs.Forms.{Form, level, Members, no_member, member, unnamed, named, scalar_of_form, IsSound}
use Rattle.sonic_owned.specs.Leading.{item_at, item_of, item_in, LeadsTo, leads_here, leads_on}
use Rattle.sonic_owned.specs.Opened.{IsOpened}
use Rattle.sonic_owned.specs.Owned.{IsFirstOfKey}
use Rattle.sonic_owned.specs.Reached.{LeadsNowhere}
use Rattle.sonic_owned.specs.TreeEdits.{insert, remove}
use Rattle.sonic_text.specs.Paths.{Node, key, index, Path}
use Rattle.sonic_text.specs.TreePaths.{leads}
use Rattle.sonic_text.specs.Trees.{Tree, container, Items}
use Rattle.sonic_text.specs.declared.kind.Kind.{Kind}
use Rattle.sonic_text.specs.declared.kind.Kind.TheVariants.{Array, Object}

-- a list with one element more, or one less, as the items of a level
unnamed_inserted : (fs : List Form) (n : ℕ) (w : Form) → n ≤ length fs → insert_member n w (unnamed fs) ≡ Some (unnamed (list.insert fs n w))
unnamed_inserted fs zero w within = refl
unnamed_inserted [] (suc n) w within = absurd (omega (arith, within))
unnamed_inserted (f ∷ fs) (suc n) w within = ap (option_map (member None f)) (unnamed_inserted fs n w (omega (arith, within)))

unnamed_removed : (fs : List Form) (n : ℕ) {x : Form} → slice_get fs n ≡ Some x → members_without_at n (unnamed fs) ≡ Some (unnamed (list.remove fs n))
unnamed_removed [] n e = absurd (none_not_some e)
unnamed_removed (f ∷ fs) zero e = refl
unnamed_removed (f ∷ fs) (suc n) e = ap (option_map (member None f)) (unnamed_removed fs n e)

-- and without the first member with a key
named_removed : (ms : List (List ℕ × Form)) (k : List ℕ) (i : ℕ) → IsFirstOfKey ms k i → members_without_of k (named ms) ≡ Some (named (list.remove ms i))
named_removed [] k i first = absurd (none_not_some first.here.1)
named_removed (m ∷ ms) k zero first =
    let same : m.0 ≡ k = ap (λ t. t.0) (same_Some _ _ first.here.1) in
    let is : pointwise nat_eq m.0 k ≡ true = rw same (nat_list_eq_equiv.refl k) in
    rw is refl
named_removed (m ∷ ms) k (suc i) first =
    let other = no_key_first m ms k (first.first 0 (omega arith)) in
    rw other (ap (option_map (member (Some m.0) m.1))
    (named_removed ms k i (record { here = first.here; first = λ q l h. first.first (suc q) (omega arith) h })))

-- where an item is put after another one, that one is there
inserted_after : (n : ℕ) (w : Form) (ms : Members) {ns : Members} → insert_member (suc n) w ms ≡ Some ns → (x : Form) × (item_at n ms ≡ Some x)
inserted_after n w no_member e = absurd (none_not_some e)
inserted_after zero w (member l g ms) e = (g, refl)
inserted_after (suc n) w (member l g ms) e = elim (some_or_none (insert_member (suc n) w ms)) [
  | inl none ↦ absurd (none_not_some (rw none at e))
  | inr (ks, is) ↦ inserted_after n w ms is
]

-- and what is removed is there
removed_at : (n : ℕ) (ms : Members) {ns : Members} → members_without_at n ms ≡ Some ns → (x : Form) × (item_at n ms ≡ Some x)
removed_at n no_member e = absurd (none_not_some e)
removed_at zero (member l g ms) e = (g, refl)
removed_at (suc n) (member l g ms) e = elim (some_or_none (members_without_at n ms)) [
  | inl none ↦ absurd (none_not_some (rw none at e))
  | inr (ks, is) ↦ removed_at n ms is
]

removed_of : (k : List ℕ) (ms : Members) {ns : Members} → members_without_of k ms ≡ Some ns → (x : Form) × (item_of k ms ≡ Some x)
removed_of k no_member e = absurd (none_not_some e)
removed_of k (member None g ms) e = elim (some_or_none (members_without_of k ms)) [
  | inl none ↦ absurd (none_not_some (rw none at e))
  | inr (ks, is) ↦ removed_of k ms is
]
removed_of k (member (Some l) g ms) e = elim (cases_Bool (pointwise nat_eq l k)) [
  | inl same ↦ (g, rw same refl)
  | inr other ↦ elim (some_or_none (members_without_of k ms)) [
    | inl none ↦ absurd (none_not_some (rw (other, none) at e))
    | inr (ks, is) ↦ rw other (removed_of k ms is)
  ]
]

removed_in : (node : Node) (kind : Kind) (ms : Members) {ns : Members} → members_without node kind ms ≡ Some ns → (x : Form) × (item_in node (level kind ms) ≡ Some x)
removed_in (index n) Array ms e = removed_at n ms e
removed_in (index n) Object ms e = absurd (none_not_some e)
removed_in (key k) Array ms e = absurd (none_not_some e)
removed_in (key k) Object ms e = removed_of k ms e

-- so no item is put where none leads to the one before, and none is removed where no path leads to it
pub not_removed : {node : Node} {f : Form} → LeadsNowhere (node ∷ []) f → (h : Form) → ¬ IsChange f h (remove node)
not_removed {node} none h (is_removed {kind = kind} {ms} opened made is) =
    let (x, item) = removed_in node kind ms made in
    none x ((opened_alike opened).back x (leads_on item leads_here))

pub not_inserted : {n : ℕ} {w f : Form} → 0 < n → LeadsNowhere (index (n - 1) ∷ []) f → (h : Form) → ¬ IsChange f h (insert n w)
not_inserted {n = zero} some none h c = omega (arith, some)
not_inserted {n = suc n} {w} some none h (is_inserted {ms = ms} opened made is) =
    let (x, item) = inserted_after n w ms made in
    let same : suc n - 1 ≡ n = omega arith in
    none x (rw same ((opened_alike opened).back x (leads_on item leads_here)))

-- nor is one put into another kind
pub never_inserted : {n : ℕ} {w f : Form} → ¬ (scalar_of_form f ≡ container_of Array) → (h : Form) → ¬ IsChange f h (insert n w)
never_inserted other h (is_inserted opened made is) = other (opened_kind opened)

-- a node leads on in a container of its kind alone
kind_led : (node : Node) (rest : Path) (x : Tree) {w : Tree} → leads x (node ∷ rest) ≡ Some w → (xs : Items) × (x ≡ container (kind_of node) xs)
kind_led (index n) rest (container Array xs) e = (xs, refl)
kind_led (key k) rest (container Object xs) e = (xs, refl)
kind_led node rest x e = absurd (none_not_some e)

pub led_kind : {node : Node} {rest : Path} {f g : Form} → IsSound f → LeadsTo (node ∷ rest) f g → scalar_of_form f ≡ container_of (kind_of node)
led_kind {node} {rest} sound l =
    let (x, means) = sound_means sound in
    let (w, there, lead) = leads_meant l means in
    form_scalar means ∙ ap scalar_of_tree (kind_led node rest x lead).1

-- the element to which an index leads is in the list
element_here : (fs : List Form) {i : ℕ} {g : Form} → LeadsTo (index i ∷ []) (level Array (unnamed fs)) g → (x : Form) × (slice_get fs i ≡ Some x)
element_here fs {i} (leads_on {h = h} e l) = (h, sym (item_at_list fs i) ∙ e)

element_led : {f o g : Form} (fs : List Form) {i : ℕ} → IsOpened f o → o ≡ level Array (unnamed fs) → LeadsTo (index i ∷ []) f g → (x : Form) × (slice_get fs i ≡ Some x)
element_led {g = g} fs opened is l = element_here fs (rw is at ((opened_alike opened).on g l))

pub element_within : {f o g : Form} (fs : List Form) {i : ℕ} → IsOpened f o → o ≡ level Array (unnamed fs) → LeadsTo (index i ∷ []) f g → i < length fs
element_within fs {i} opened is l =
    let (x, there) = element_led fs opened is l in
    elim (cases_lt i (length fs)) [
      | inl less ↦ less
      | inr past ↦ absurd (none_not_some (sym (slice_get_past fs i past) ∙ there))
    ]

-- a level whose list has one item more, or one less
pub element_inserted : {f o h w : Form} (fs : List Form) {gs : List Form} (i : ℕ) → IsOpened f o → o ≡ level Array (unnamed fs) → i ≤ length fs
    → gs ≡ list.insert fs i w → h ≡ level Array (unnamed gs) → IsChange f h (insert i w)
element_inserted {w = w} fs i opened is within more all =
    is_inserted (rw is at opened) (unnamed_inserted fs i w within) (all ∙ ap (λ l. level Array (unnamed l)) more)

pub element_removed : {f o h g : Form} (fs : List Form) {gs : List Form} (i : ℕ) → IsOpened f o → o ≡ level Array (unnamed fs) → LeadsTo (index i ∷ []) f g
    → gs ≡ list.remove fs i → h ≡ level Array (unnamed gs) → IsChange f h (remove (index i))
element_removed fs i opened is l less all =
    let (x, there) = element_led fs opened is l in
    is_removed (rw is at opened) (unnamed_removed fs i there) (all ∙ ap (λ l. level Array (unnamed l)) less)

pub member_removed : {f o h : Form} (ms : List (List ℕ × Form)) {ns : List (List ℕ × Form)} (k : List ℕ) (i : ℕ) → IsOpened f o → o ≡ level Object (named ms)
    → IsFirstOfKey ms k i → ns ≡ list.remove ms i → h ≡ level Object (named ns) → IsChange f h (remove (key k))
member_removed ms k i opened is first less all =
    is_removed (rw is at opened) (named_removed ms k i first) (all ∙ ap (λ l. level Object (named l)) less)

-- where an option is tested, it is none, or what holds of what is in it holds of something
pub none_of : {X : Type 0} (o : Option X) {b : Bool} → is_some o ≡ not b → b ≡ true → o ≡ None
none_of None e is = refl
none_of (Some x) e is = absurd (let clash = rw is at e in cc)

pub some_of : {X : Type 0} (o : Option X) {b : Bool} {P : X → Type 0} → is_some o ≡ not b → b ≡ false → IfSome o P → (x : X) × P x
some_of None e is p = absurd (let clash = rw is at e in cc)
some_of (Some x) e is p = (x, p)
