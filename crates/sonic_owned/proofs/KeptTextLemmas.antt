-- Each item keeps its text: where a value's first level is opened, paths lead where they led before.
use Rattle.std.proofs.Common.{◌≡◌, ◌≢◌, ◌<◌, ◌+◌, ◌-◌, ◌∙◌, ap, sym, inl, inr, refl, ℕ, zero, suc, List, [], ◌∷◌, ◌++◌, Option, Some, None, nat_eq, arith}
use Rattle.std.proofs.lemmas.Bool.{cases_Bool, cases_order}
use Rattle.std.proofs.lemmas.List.{append_assoc, append-nil}
use Rattle.std.specs.Cmp.Lexicographic.{pointwise}
use Rattle.std.specs.Prelude.{slice_range}
use Rattle.sonic_find.proofs.PartLemmas.{leads_in_whole, leads_in_part, same_text_in_part}
use Rattle.sonic_find.proofs.PathLemmas.Lead.{named_one, named_leads, none_leads, past_byte, none_empty, none_unopened}
use Rattle.sonic_find.proofs.PathLemmas.Outcome.{nowhere_ends}
use Rattle.sonic_find.specs.Answers.{Span, span_text}
use Rattle.sonic_lazy.specs.Items.{Item, ItemsReach, IsItemAt, AreClosed, closed_empty, closed_after, AreItems, no_items, one_more_item}
use Rattle.sonic_find.specs.Laws.{Finds, LeadsInPart, outcome_in_whole}
use Rattle.sonic_find.specs.Paths.{Outcome, found, lacks, fails, cut, kind_of, name_of, NoneNamed, IsNamed, LeadsOn, Evaluates, found_here, goes_on, leads_nowhere}
use Rattle.sonic_owned.proofs.LeadingLemmas.{goes_in, level_nowhere, in_text_alone, LeadsAlike, alike_here}
use Rattle.sonic_owned.proofs.Lists.{texts_equal}
use Rattle.sonic_owned.proofs.MeantPathLemmas.{index_further, key_other}
use Rattle.sonic_owned.specs.Forms.{Form, raw, level, Members}
use Rattle.sonic_owned.specs.Leading.{item_at, item_of, item_in, LeadsTo, leads_here, leads_on, leads_in_text}
use Rattle.sonic_owned.specs.Opened.{raw_members, AreAllMembers, IsOpened, as_it_was, level_opened}
use Rattle.sonic_text.proofs.Items.{closing_no_comma, opening_one}
use Rattle.sonic_text.proofs.Values.{items_one, items_open}
use Rattle.sonic_text.specs.Paths.{Node, key, index, Path}
use Rattle.sonic_text.specs.Places.{byte, after_space}
use Rattle.sonic_text.specs.Strings.{strict}
use Rattle.sonic_text.specs.Values.{opening, ItemHead, no_head, key_head, IsValue}
use Rattle.sonic_text.specs.declared.kind.Kind.{Kind}
use Rattle.sonic_text.specs.declared.kind.Kind.TheVariants.{Array, Object}

-- after n items these are the others, one by one, up to the closing bracket
abbrev AllFrom : List ℕ → Kind → ℕ → List Item → Type 0
AllFrom t kind n [] = AreClosed t kind n
AllFrom t kind n (x ∷ xs) = IsItemAt t kind n x × AllFrom t kind (n + 1) xs

-- so a list of items is from the first on
all_from : {t : List ℕ} {kind : Kind} {n : ℕ} {xs : List Item} (ys : List Item) → AreItems t kind n xs → AllFrom t kind n ys
    → AllFrom t kind 0 (xs ++ ys)
all_from {t} {kind} ys (no_items z is) all = rw is (rw z at all)
all_from {t} {kind} ys (one_more_item {p = p} {before = before} {item = x} are own e is) all =
    let more : AllFrom t kind (p + 1) ys = rw e at all in
    rw (is, append_assoc before (x ∷ []) ys) (all_from (x ∷ ys) are (own, more))

-- in the container that begins the text the node names an item with this text and leads on to it, or it names none
data ItemText (t : List ℕ) (node : Node) (o : Option Form) : Type 0 where
  item_text : {v e : ℕ} → LeadsOn t (after_space t 0) node v → IsValue strict t v e → o ≡ Some (raw (slice_range t v e)) → ItemText t node o
  no_text : ((v : ℕ) → ¬ LeadsOn t (after_space t 0) node v) → o ≡ None → ItemText t node o

-- the node names none of the first n items
abbrev Unnamed : List ℕ → Kind → ℕ → Node → Type 0
Unnamed t kind n node = (p g v : ℕ) → p < n → ItemsReach t kind p g → ¬ IsNamed t kind p g v node

module _ {t : List ℕ} {kind : Kind} {n : ℕ} {node : Node} (none : Unnamed t kind n node) where
  -- where there are no more it names none
  past : AreClosed t kind n → ItemText t node None
  past (closed_empty z b c) = no_text (λ v l. none_empty c node v (opening_one (kind_of node) kind (sym (items_open l.before.fit) ∙ b)) l) refl
  past (closed_after {p} x e c) =
      let before : NoneNamed t (after_space t 0) kind p x.place node = record { fit = x.before; none = λ q g v l. none q g v (omega arith) } in
      let named : IsNamed t kind p x.place _ _ = record { label = _; head = x.head; name = refl } in
      let further = past_byte x.before named x.value (λ d. closing_no_comma kind (sym c ∙ d)) in
      no_text (none_leads before (λ v. none p x.place v (omega arith) x.before) further) refl

  -- the next item has a name of its own
  module _ {x : Item} (is : IsItemAt t kind n x) where
    own : IsNamed t kind n is.place x.span.0 (name_of n x.label)
    own = record { label = x.label; head = is.head; name = refl }

    -- where the node is that, it names the item
    here : name_of n x.label ≡ node → ItemText t node (Some (raw (span_text t x.span)))
    here name =
        let named : IsNamed t kind n is.place x.span.0 node = rw name at own in
        item_text (named_leads (record { fit = is.before; none = none }) named) is.value refl

    -- and otherwise none up to the next
    further : name_of n x.label ≢ node → Unnamed t kind (n + 1) node
    further other p g v l fs y = elim (cases_order p n) [
      | inl same ↦
          let at_n : ItemsReach t kind n g = rw same at fs in
          let named : IsNamed t kind n is.place v node = rw (same, items_one at_n is.before) at y in
          other (named_one own named).1
      | inr (inl less) ↦ none p g v less fs y
      | inr (inr more) ↦ absurd (omega arith)
    ]

-- elements have no keys, and members have keys
unlabelled : {t : List ℕ} {h v : ℕ} {l : Option (List ℕ)} → ItemHead strict t Array h v l → l ≡ None
unlabelled (no_head e) = refl

labelled : {t : List ℕ} {h v : ℕ} {l : Option (List ℕ)} → ItemHead strict t Object h v l → (k : List ℕ) × (l ≡ Some k)
labelled (key_head y) = (_, refl)

-- of the elements from the n-th on an index names the one that is r further
elements_named : {t : List ℕ} {m : ℕ} (r : ℕ) (xs : List Item) {n : ℕ} → m ≡ n + r → Unnamed t Array n (index m) → AllFrom t Array n xs
    → ItemText t (index m) (item_at r (raw_members t xs))
elements_named r [] e none c = past none c
elements_named zero (x ∷ xs) e none (is, all) = here none is (rw (unlabelled is.head) (ap index (omega arith)))
elements_named (suc r) (x ∷ xs) e none (is, all) =
    elements_named r xs (omega arith) (further none is (rw (unlabelled is.head) (index_further (omega arith)))) all

-- of the members from the n-th on a key names the first that has it
members_named : {t : List ℕ} {k : List ℕ} (xs : List Item) {n : ℕ} → Unnamed t Object n (key k) → AllFrom t Object n xs
    → ItemText t (key k) (item_of k (raw_members t xs))
members_named [] none c = past none c
members_named {k = k} (x ∷ xs) {n} none (is, all) = let (l, label) = labelled is.head in rw label (elim (cases_Bool (pointwise nat_eq l k)) [
  | inl same ↦ rw same (here none is (rw label (ap key (texts_equal l k same))))
  | inr other ↦ rw other (members_named xs (further none is (rw label (key_other n l k other))) all)
])

-- the container begins with its bracket
closed_opens : {t : List ℕ} {kind : Kind} {n : ℕ} → AreClosed t kind n → byte t (after_space t 0) ≡ opening kind
closed_opens (closed_empty z b c) = b
closed_opens (closed_after x e c) = items_open x.before

-- of the items of a level a node names one if it asks for the level's kind
items_named : {t : List ℕ} {n : ℕ} (node : Node) (kind : Kind) (xs : List Item) → AreClosed t kind n → AllFrom t kind 0 xs
    → ItemText t node (item_in node (level kind (raw_members t xs)))
items_named (index m) Array xs c all = elements_named m xs (omega arith) (λ p g v l. absurd (omega arith)) all
items_named (key k) Object xs c all = members_named xs (λ p g v l. absurd (omega arith)) all
items_named (index m) Object xs c all = no_text (λ v. none_unopened (λ e. absurd (omega (arith, closed_opens c))) (index m) v refl) refl
items_named (key k) Array xs c all = no_text (λ v. none_unopened (λ e. absurd (omega (arith, closed_opens c))) (key k) v refl) refl

-- so it is with all items of a level
level_named : {b : List ℕ} {kind : Kind} {ms : Members} (node : Node) → AreAllMembers b kind ms → ItemText b node (item_in node (level kind ms))
level_named {b} {kind} node all =
    let from : AllFrom b kind 0 all.items = rw (append-nil all.items) at (all_from [] all.are all.closed) in
    rw all.shown (items_named node kind all.items all.closed from)

-- a path by a node that leads nowhere finds nothing
none_found : {t : List ℕ} {i a b : ℕ} {node : Node} {rest : Path} → ((v : ℕ) → ¬ LeadsOn t i node v) → ¬ Evaluates t i (node ∷ rest) (found a b)
none_found none (goes_on {v = v} l e) = none v l
none_found {t} {i} {node = node} none (leads_nowhere {j = j} y other clash) = absurd (rw (← clash) at (nowhere_ends t i (j - 1) (kind_of node)))

-- what a longer path finds in the whole text, the rest finds in the text of a value
part_leads : {t : List ℕ} {a rest : Path} {part : Span} {i j : ℕ} (o : Outcome) → LeadsInPart t a rest part o → found i j ≡ outcome_in_whole part.0 o
    → LeadsTo rest (raw (span_text t part)) (raw (slice_range t i j))
part_leads {part = part} {i} {j} (found x y) l e =
    let start : i ≡ part.0 + x = cc in
    let end : j ≡ part.0 + y = cc in
    rw (start, end, sym (same_text_in_part l)) (leads_in_text l.next)
part_leads (lacks q) l e = absurd cc
part_leads (fails s) l e = absurd cc
part_leads (cut s) l e = absurd cc

-- where a node finds a value, a path by it leads where the rest leads in the value's own text
text_down : {t : List ℕ} {node : Node} {rest : Path} {part : Span} {h : Form} → Finds t (node ∷ []) part → LeadsTo (node ∷ rest) (raw t) h
    → LeadsTo rest (raw (span_text t part)) h
text_down first (leads_on e l) = absurd cc
text_down {node = node} first (leads_in_text e) = let (o, l, is) = leads_in_part (node ∷ []) first e in part_leads o l is

-- and back
text_up : {t : List ℕ} {node : Node} {rest : Path} {part : Span} {h : Form} → Finds t (node ∷ []) part → LeadsTo rest (raw (span_text t part)) h
    → LeadsTo (node ∷ rest) (raw t) h
text_up first leads_here = leads_in_text first
text_up first (leads_on e l) = absurd cc
text_up {t} {node} {rest} {part} first (leads_in_text {i = i} {j} e) =
    let l : LeadsInPart t (node ∷ []) rest part (found i j) = record { first = first; next = e } in
    rw (same_text_in_part l) (leads_in_text (leads_in_whole l))

-- so by a node a path leads in a level of all items where it leads in the text
level_alike : {t : List ℕ} {kind : Kind} {ms : Members} {node : Node} {rest : Path} → ItemText t node (item_in node (level kind ms))
    → LeadsAlike (node ∷ rest) (raw t) (node ∷ rest) (level kind ms)
level_alike (item_text l y is) =
    let first = goes_on l (found_here y) in
    record { on = λ g x. leads_on is (text_down first x); back = λ g x. text_up first (goes_in is x) }
level_alike {node = node} {rest} (no_text none is) = record {
  on = λ g x. absurd (in_text_alone (λ i j e. none_found none e) x);
  back = λ g x. absurd (level_nowhere node is (λ b e. absurd cc) rest g x);
}

-- where the first level of a form is opened, each path by a node leads where it led before
pub opened_alike : {f g : Form} {node : Node} {rest : Path} → IsOpened f g → LeadsAlike (node ∷ rest) f (node ∷ rest) g
opened_alike (as_it_was shut e) = rw e alike_here
opened_alike {node = node} (level_opened e k all is) = rw (e, is) (level_alike (level_named node all))
