-- The item of a level that a node names is that of the level's list.
use Rattle.std.proofs.Common.{◌<◌, ◌+◌, ◌≡◌, ◌≢◌, ◌-◌, ◌∙◌, ap, sym, inl, inr, refl, ℕ, zero, suc, List, [], ◌∷◌, length, drop, get_or, Option, Some, None, true, false, nat_eq, arith}
use Rattle.std.proofs.lemmas.Bool.{cases_Bool}
use Rattle.std.specs.Cmp.Lexicographic.{pointwise, nat_list_eq_equiv}
use Rattle.std.proofs.lemmas.Option.{same_Some, slice_get_past}
use Rattle.std.specs.List.{slice_get}
use Rattle.std.specs.Option.{IfSome}
use Rattle.sonic_owned.proofs.Lists.{texts_equal, none_not_some}
use Rattle.sonic_owned.specs.Forms.{Form, raw, level, Members, unnamed, named}
use Rattle.sonic_find.proofs.PathLemmas.Outcome.{nowhere_ends}
use Rattle.sonic_find.specs.Paths.{kind_of, found_here, goes_on, leads_nowhere}
use Rattle.sonic_lazy.specs.Shown.{FindsNone}
use Rattle.sonic_owned.specs.Internal.Seen.{Nowhere}
use Rattle.sonic_owned.specs.Leading.{item_at, item_of, item_in, LeadsTo, leads_on, leads_in_text}
use Rattle.sonic_text.proofs.Values.{items_open, value_starts}
use Rattle.sonic_text.specs.Paths.{Node, Path}
use Rattle.sonic_text.specs.Places.{byte, after_space}
use Rattle.sonic_text.specs.Strings.{strict}
use Rattle.sonic_text.specs.Values.{opening, IsValue}
use Rattle.sonic_text.specs.declared.kind.Kind.{Kind}
use Rattle.sonic_text.specs.declared.kind.Kind.TheVariants.{Array, Object}
use Rattle.sonic_owned.proofs.Folds.{node-roll}
use Rattle.sonic_owned.specs.Internal.Bulks.{node_form}
use Rattle.sonic_owned.specs.Views.{elements, members}
use Rattle.sonic_text.specs.Quoting.{quoted}
use Rattle.std.specs.Prelude.{codes, ⊤}
use Rattle.sonic_owned.specs.declared.raw.RawValue.{RawValue}
use Rattle.sonic_owned.specs.declared.value.OwnedLazyValue.{OwnedLazyValue}
use Rattle.sonic_owned.specs.declared.value.LazyArray.{LazyArray}
use Rattle.sonic_owned.specs.declared.value.LazyObject.{LazyObject}
use Rattle.sonic_owned.specs.declared.value.Node.{Node as Kept, Raw as KRaw, roll-Node, ind-Node}
use Rattle.sonic_owned.specs.declared.value.Node.TheOpen.{Node-F}
use Rattle.std.proofs.Math.Seq.{drop-cons}
use Rattle.sonic_pointer.specs.Nodes.{node_of, path_of}
use Rattle.sonic_pointer.specs.declared.node.PointerNode.{PointerNode}
use Rattle.sonic_owned.specs.Owned.{HasKeyAt, IsFirstOfKey}
use Rattle.std.specs.Fmt.{signed_decimal}
use Rattle.sonic_lazy.specs.RawNumbers.{IsNumberText}
use Rattle.sonic_owned.proofs.IntegerLemmas.{integer_number, known}
use Rattle.sonic_owned.specs.Opened.{IsClosedContainer}
use Rattle.sonic_owned.specs.Integers.{value}
use Rattle.sonic_text.proofs.Numbers.{number_begins}
use Rattle.sonic_text.specs.Values.IsValue.{number}

-- an element
pub item_at_list : (fs : List Form) (n : ℕ) → item_at n (unnamed fs) ≡ slice_get fs n
item_at_list [] n = refl
item_at_list (f ∷ fs) zero = refl
item_at_list (f ∷ fs) (suc n) = item_at_list fs n

-- what follows from what holds of the one in an option holds of it
pub some_follows : {X : Type 0} {P Q : X → Type 0} (o : Option X) → ((x : X) → P x → Q x) → IfSome o P → IfSome o Q
some_follows None step tt = tt
some_follows (Some x) step p = step x p

-- the first member has the key, or it hasn't
key_first : (m : List ℕ × Form) (ms : List (List ℕ × Form)) (k : List ℕ) → pointwise nat_eq m.0 k ≡ true → HasKeyAt (m ∷ ms) k 0
key_first m ms k e = (m.1, ap (λ t. Some (t, m.1)) (texts_equal m.0 k e))

pub no_key_first : (m : List ℕ × Form) (ms : List (List ℕ × Form)) (k : List ℕ) → ¬ HasKeyAt (m ∷ ms) k 0 → pointwise nat_eq m.0 k ≡ false
no_key_first m ms k none = elim (cases_Bool (pointwise nat_eq m.0 k)) [ inl same ↦ absurd (none (key_first m ms k same)) | inr other ↦ other ]

-- a member
pub item_of_first : (ms : List (List ℕ × Form)) (k : List ℕ) (i : ℕ) (p : List ℕ × Form) → IsFirstOfKey ms k i → slice_get ms i ≡ Some p → item_of k (named ms) ≡ Some p.1
item_of_first [] k i p first e = absurd (none_not_some (sym (slice_get_past [] i (omega arith)) ∙ e))
item_of_first (m ∷ ms) k zero p first e =
    let key : m.0 ≡ k = ap (λ t. t.0) (same_Some _ _ first.here.1) in
    let same : pointwise nat_eq m.0 k ≡ true = rw key (nat_list_eq_equiv.refl k) in
    rw same (ap (λ q. Some q.1) (same_Some _ _ e))
item_of_first (m ∷ ms) k (suc i) p first e =
    let other = no_key_first m ms k (first.first 0 (omega arith)) in
    rw other (item_of_first ms k i p (record { here = first.here; first = λ q l h. first.first (suc q) (omega arith) h }) e)

pub item_of_none : (ms : List (List ℕ × Form)) (k : List ℕ) → ((p : ℕ) → ¬ HasKeyAt ms k p) → item_of k (named ms) ≡ None
item_of_none [] k none = refl
item_of_none (m ∷ ms) k none = rw (no_key_first m ms k (none 0)) (item_of_none ms k (λ p h. none (suc p) h))

-- a text whose first byte is no bracket has no items
pub kind_nowhere : {b : List ℕ} (node : Node) → byte b (after_space b 0) ≢ opening (kind_of node) → Nowhere node (raw b)
kind_nowhere node other rest g (leads_on e l) = absurd cc
kind_nowhere node other rest g (leads_in_text (goes_on l e)) = other (items_open l.before.fit)
kind_nowhere {b} node other rest g (leads_in_text {i = i} {j} (leads_nowhere {j = e} y none clash)) = absurd (rw (← clash) at (nowhere_ends b (after_space b 0) (e - 1) (kind_of node)))

pub scalar_nowhere : {b : List ℕ} (node : Node) → ((kind : Kind) → byte b (after_space b 0) ≢ opening kind) → Nowhere node (raw b)
scalar_nowhere node other = kind_nowhere node (other (kind_of node))

-- a level that lacks the item leads nowhere
pub level_nowhere : {f : Form} (node : Node) → item_in node f ≡ None → ((b : List ℕ) → f ≢ raw b) → Nowhere node f
level_nowhere node none is rest g (leads_on e l) = absurd (none_not_some (sym none ∙ e))
level_nowhere node none is rest g (leads_in_text {b = b} l) = is b refl

-- where the node names an item, the path goes on there
pub goes_in : {node : Node} {rest : Path} {f h g : Form} → item_in node f ≡ Some h → LeadsTo (node ∷ rest) f g → LeadsTo rest h g
goes_in {rest = rest} {g = g} e (leads_on i l) = rw (same_Some _ _ (sym e ∙ i)) l
goes_in e (leads_in_text l) = absurd cc

-- in a text that isn't opened it goes as there
pub in_text_alone : {node : Node} {rest : Path} {b : List ℕ} {g : Form} → FindsNone b (node ∷ rest) → ¬ LeadsTo (node ∷ rest) (raw b) g
in_text_alone none (leads_on e l) = absurd cc
in_text_alone none (leads_in_text {i = i} {j} l) = none i j l

-- the empty path leads to the value itself
pub nothing_in_text : {b : List ℕ} {g : Form} (path : Path) → IsValue strict b 0 (length b) → FindsNone b path → ¬ LeadsTo path (raw b) g
nothing_in_text {b} [] value none l = none 0 (length b) (rw (value_starts value) (found_here value))
nothing_in_text (node ∷ rest) value none l = in_text_alone none l

-- by a node that names no item of it, no path goes on from the form
abbrev pub IsOpen : Form → Type 0
IsOpen f = (node : Node) → item_in node f ≡ None → Nowhere node f

level_open : (kind : Kind) (ms : Members) → IsOpen (level kind ms)
level_open kind ms node none = level_nowhere node none (λ b e. absurd cc)

word_open : (b : List ℕ) (x : ℕ) → after_space b 0 ≡ 0 → byte b 0 ≡ x → x ≢ 91 → x ≢ 123 → IsOpen (raw b)
word_open b x start first array object node none = scalar_nowhere node (λ kind e. other kind (rw (start, first) at e))
  where
    other : (kind : Kind) → x ≢ opening kind
    other Array e = array e
    other Object e = object e

-- neither does a number
number_open : (b : List ℕ) → IsNumberText b → IsOpen (raw b)
number_open b is node none = scalar_nowhere node (λ kind e. first kind (rw (value_starts {m = strict} (number is)) at e))
  where
    first : (kind : Kind) → byte b 0 ≢ opening kind
    first Array e = elim (number_begins is) [ inl m ↦ omega (arith, m, e) | inr d ↦ omega (arith, d.1, e) ]
    first Object e = elim (number_begins is) [ inl m ↦ omega (arith, m, e) | inr d ↦ omega (arith, d.1, e) ]

-- so it is with what a value is kept as, but for a text that isn't opened
kept_open : (o : Node-F Kept LazyArray LazyObject OwnedLazyValue) → ((r : RawValue) → roll-Node o ≢ KRaw r) → IsOpen (node_form (roll-Node o))
unfolding Rattle.sonic_owned.specs.declared.value.Node.TheViews.roll-Node denote.Hole.Carrier.roll
kept_open Node-F.Null other = rw (node-roll Node-F.Null) (word_open (codes "null") 110 refl refl (λ e. omega arith) (λ e. omega arith))
kept_open (Node-F.Bool true) other = rw (node-roll (Node-F.Bool true)) (word_open (codes "true") 116 refl refl (λ e. omega arith) (λ e. omega arith))
kept_open (Node-F.Bool false) other = rw (node-roll (Node-F.Bool false)) (word_open (codes "false") 102 refl refl (λ e. omega arith) (λ e. omega arith))
kept_open (Node-F.Integer z) other = rw (node-roll (Node-F.Integer z)) (number_open (signed_decimal (value z.kept)) (integer_number (value z.kept) z.short))
kept_open (Node-F.Text t) other = rw (node-roll (Node-F.Text t)) (word_open (quoted t.text) 34 refl refl (λ e. omega arith) (λ e. omega arith))
kept_open (Node-F.Raw r) other = absurd (other r refl)
kept_open (Node-F.Array a) other = rw (node-roll (Node-F.Array a)) (level_open Array (unnamed (elements a)))
kept_open (Node-F.Object o) other = rw (node-roll (Node-F.Object o)) (level_open Object (named (members o)))

-- a value that isn't such a text
abbrev Kept_open : Kept → Type 0
Kept_open n = ((r : RawValue) → n ≢ KRaw r) → IsOpen (node_form n)

pub value_open : (n : Kept) → Kept_open n
value_open = ind-Node Kept_open (λ a. ⊤) (λ o. ⊤) (λ v. ⊤) (λ x y is. kept_open x) (λ x y is. tt) (λ x y is. tt) (λ x y is. tt)

-- a container that isn't opened is such a text
kept_closed : (o : Node-F Kept LazyArray LazyObject OwnedLazyValue) → IsClosedContainer (node_form (roll-Node o)) → (r : RawValue) × (roll-Node o ≡ KRaw r)
unfolding Rattle.sonic_owned.specs.declared.value.Node.TheViews.roll-Node denote.Hole.Carrier.roll
kept_closed Node-F.Null is = absurd (let e = (rw (node-roll Node-F.Null) at is).1 in cc)
kept_closed (Node-F.Bool true) is = absurd (let e = (rw (node-roll (Node-F.Bool true)) at is).1 in cc)
kept_closed (Node-F.Bool false) is = absurd (let e = (rw (node-roll (Node-F.Bool false)) at is).1 in cc)
kept_closed (Node-F.Integer z) is = absurd (let e = (rw (node-roll (Node-F.Integer z)) at is).1 in let k = known z in cc)
kept_closed (Node-F.Text t) is = absurd (let e = (rw (node-roll (Node-F.Text t)) at is).1 in cc)
kept_closed (Node-F.Raw r) is = (r, refl)
kept_closed (Node-F.Array a) is = absurd (rw (node-roll (Node-F.Array a)) at is)
kept_closed (Node-F.Object o) is = absurd (rw (node-roll (Node-F.Object o)) at is)

abbrev Closed_raw : Kept → Type 0
Closed_raw n = IsClosedContainer (node_form n) → (r : RawValue) × (n ≡ KRaw r)

pub closed_raw : (n : Kept) → Closed_raw n
closed_raw = ind-Node Closed_raw (λ a. ⊤) (λ o. ⊤) (λ v. ⊤) (λ x y is. kept_closed x) (λ x y is. tt) (λ x y is. tt) (λ x y is. tt)

-- one path leads from one form where another leads from another
pub record LeadsAlike (p : Path) (f : Form) (q : Path) (h : Form) : Type 0 where
  pub on : (g : Form) → LeadsTo p f g → LeadsTo q h g
  pub back : (g : Form) → LeadsTo q h g → LeadsTo p f g

pub alike_here : {p : Path} {f : Form} → LeadsAlike p f p f
alike_here = record { on = λ g x. x; back = λ g x. x }

-- an item further
pub alike_below : {node : Node} {rest p q : Path} {f h i : Form} → LeadsAlike p f q h → p ≡ node ∷ rest → item_in node f ≡ Some i → LeadsAlike rest i q h
alike_below {node} {rest} {f = f} a is e = record { on = λ g x. a.on g (rw is (leads_on e x)); back = λ g x. goes_in e (rw is at (a.back g x)) }

-- a path goes on with its next node
pub next_node : (path : List PointerNode) (n : ℕ) (d : PointerNode) → n < length path → path_of (drop n path) ≡ node_of (get_or path n d) ∷ path_of (drop (n + 1) path)
next_node path n d l =
    let more : n + 1 ≡ suc n = omega arith in
    rw (more, drop-cons path n d) refl
