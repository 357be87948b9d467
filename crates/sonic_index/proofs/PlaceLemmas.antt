-- What a walk has come to after a step, where the cells are its only stack.
use Rattle.std.proofs.Common.{◌≡◌, ◌≢◌, ◌∙◌, inl, inr, sym, ap, ℕ, ◌+◌, ◌-◌, ◌<◌, ◌≤◌, List, [], ◌∷◌, ◌++◌, length, get_or, set, take, arith, refl}
use Rattle.std.proofs.lemmas.Bool.{cases_lt}
use Rattle.std.proofs.lemmas.List.{length-append, length-set}
use Rattle.std.proofs.lemmas.Option.{slice_get-get_or, slice_get_within}
use Rattle.std.specs.Prelude.{Some, None, slice_get}
use Rattle.sonic_text.specs.declared.kind.Kind.{Kind}
use Rattle.sonic_text.specs.declared.kind.Kind.TheVariants.{Array, Object}
use Rattle.sonic_text.specs.declared.stop.Stop.{Stop}
use Rattle.sonic_text.specs.Places.{byte, after_space}
use Rattle.sonic_text.specs.Strings.{strict}
use Rattle.sonic_text.specs.Values.{opening, no_head, ItemsFit}
use Rattle.sonic_text.specs.Documents.{IsRootFault}
use Rattle.sonic_text.specs.Faults.{IsFault, IsKeyFault}
use Rattle.sonic_text.proofs.Items.{opening_one}
use Rattle.sonic_text.proofs.Values.{items_open}
use Rattle.sonic_parser.specs.declared.container.AfterItem.TheVariants.{Item, End}
use Rattle.sonic_parser.specs.declared.parts.ValueAt.TheVariants.{Ends}
use Rattle.sonic_parser.specs.Containers.{IsSeparatorFault}
use Rattle.sonic_parser.specs.OpenContainers.{here, IsItemEnded, IsTop}
use Rattle.sonic_parser.specs.Parts.{IsAfterValue, IsItem, IsValueAt}
use Rattle.sonic_parser.proofs.DescentLemmas.{entered_at, head_at, nested_begins, separated_at}
use Rattle.sonic_parser.proofs.SkippingLemmas.{added_top, closed_all, closed_more, fault_after, fault_item, fault_up, last_ended}
use Rattle.sonic_find.specs.Documents.{IsAfterRoot}
use Rattle.sonic_index.specs.declared.build.At.{At}
use Rattle.sonic_index.specs.declared.build.Item.{Item as ItemOf}
use Rattle.sonic_index.specs.declared.cell.Cell.{Cell}
use Rattle.sonic_index.specs.declared.entry.Entry.{Entry}
use Rattle.sonic_index.specs.Internal.Cells.{AreKept}
use Rattle.sonic_index.specs.Internal.Places.{first_item_of, item_after, labelled_at, ExpectsItemAt, ExpectsValueAt, EndsValueAt, AreAround, HasEndAt, OpensSome}
use Rattle.sonic_index.specs.Internal.Walks.{label_at, AreBounded, AreOfAlone, AreWritten, IsValueEnded}
use Rattle.sonic_index.proofs.AroundLemmas.{around_entered, around_pushed, around_reset, around_root, innermost, none_left, outer_left, some_open}
use Rattle.sonic_index.proofs.WalkLemmas.{cell_for, closed, ended_part, entered, finished, get_pushed, get_set, headed, IsPlaced, passed, separated, started}

-- bounds hold further on
further : {p q : ℕ} {cells : List Cell} → p ≤ q → AreBounded p cells → AreBounded q cells
further l b = let f = b.fewer in record { fewer = omega arith; parents = b.parents; labels = λ a cell e. let g = b.labels a cell e in omega arith }

-- and with one cell more
bound_pushed : {p q : ℕ} {cells : List Cell} (item : ItemOf) (end : ℕ) → p < q → AreBounded p cells → item.parent ≤ length cells → item.label ≤ p → AreBounded q (cells ++ cell_for p end item ∷ [])
bound_pushed {p} {q} {cells} item end l b parent label =
    let long = length-append cells (cell_for p end item ∷ []) in
    let f = b.fewer in
    record {
      fewer = omega (arith, long);
      parents = λ a cell e. elim (get_pushed cells (cell_for p end item) a cell e) [
        | inl g ↦ (let o = b.parents a cell g in omega (arith, long))
        | inr (n, same) ↦ rw (← same) (omega (arith, long))
      ];
      labels = λ a cell e. elim (get_pushed cells (cell_for p end item) a cell e) [
        | inl g ↦ (let o = b.labels a cell g in omega arith)
        | inr (n, same) ↦ rw (← same) (omega arith)
      ];
    }

-- and where one has another end
bound_set : {p : ℕ} {cells : List Cell} (n end : ℕ) (cell : Cell) → slice_get cells n ≡ Some cell → AreBounded p cells → AreBounded p (set cells n (record cell { end = end }))
bound_set {p} {cells} n end cell f b =
    let long = length-set cells n (record cell { end = end }) in
    record {
      fewer = rw long b.fewer;
      parents = λ a c e. elim (get_set cells n (record cell { end = end }) a c e) [
        | inl (other, g) ↦ (let o = b.parents a c g in omega (arith, long))
        | inr (same, z) ↦ (let o = b.parents n cell f in rw (← z) (omega (arith, long)))
      ];
      labels = λ a c e. elim (get_set cells n (record cell { end = end }) a c e) [
        | inl (other, g) ↦ b.labels a c g
        | inr (same, z) ↦ (let o = b.labels n cell f in rw (← z) o)
      ];
    }

label_within : (kind : Kind) (n p q : ℕ) → n ≤ p → p ≤ q → label_at kind n p ≤ q
label_within Array n p q a b = omega arith
label_within Object n p q a b = b

-- at the value of an item
pub item_headed : {t : List ℕ} {cells : List Cell} {kinds : List Kind} (at : At) {v : ℕ} → ExpectsItemAt t cells kinds at → IsItem strict t at.item.kind at.place v
    → ExpectsValueAt t cells kinds (record { item = labelled_at at.item at.place; place = v })
item_headed at {v} s y =
    let parent = s.parent in
    record {
      around = λ some. s.around;
      top = λ some. s.top;
      first = λ none. absurd (let some = some_open s.around in omega arith);
      within = y.within;
      expected = head_at s.top s.expected y.head;
      bounded = further y.later s.bounded;
      parent = omega arith;
      label = label_within at.item.kind at.item.label at.place v s.label y.later;
      next = λ es of. headed of (s.next es of) y.head;
    }

-- after a value without parts
pub value_ended : {t : List ℕ} {cells : List Cell} {kinds : List Kind} (at : At) {e : ℕ} → ExpectsValueAt t cells kinds at → IsValueAt strict t at.place (Ends e)
    → EndsValueAt t (cells ++ cell_for at.place e at.item ∷ []) kinds (record at { place = e })
value_ended {cells = cells} at {e} s (value, none) =
    let parent = s.parent in
    let label = s.label in
    record {
      around = λ some. around_pushed (cell_for at.place e at.item) (s.around some);
      top = s.top;
      within = value.1;
      begun = at.place;
      expected = s.expected;
      value = value.2;
      bounded = bound_pushed at.item e value.0 s.bounded s.parent s.label;
      parent = omega (arith, length-append cells (cell_for at.place e at.item ∷ []));
      label = omega (arith, value.0);
      next = λ es of. passed of (s.next es of) value.2 none;
    }

-- in a container, which begins with a bracket
pub value_opened : {t : List ℕ} {cells : List Cell} {kinds : List Kind} (at : At) (kind : Kind) {h : ℕ} (end : ℕ) → ExpectsValueAt t cells kinds at → at.place < h → h ≤ length t
    → ItemsFit strict t kind at.place 0 h
    → ExpectsItemAt t (cells ++ cell_for at.place end at.item ∷ []) (kinds ++ kind ∷ []) (record { item = first_item_of (length cells) kind; place = h })
value_opened {t} {cells = cells} {kinds} at kind end s later within fit =
    let opens : byte t at.place ≡ opening kind = items_open fit in
    record {
      around = elim (cases_lt 0 (length kinds)) [
        | inl some ↦ around_entered kind (cell_for at.place end at.item) opens (let i = innermost (s.around some) in slice_get_within cells at.item.parent i.cell i.read) (s.around some)
        | inr none ↦ around_root kinds kind (cell_for at.place end at.item) opens (s.first (omega arith)) (omega arith)
      ];
      top = added_top kinds kind;
      within = within;
      expected = entered_at s.expected fit;
      bounded = bound_pushed at.item end later s.bounded s.parent s.label;
      parent = omega (arith, length-append cells (cell_for at.place end at.item ∷ []));
      label = omega arith;
      next = λ es of. entered kind end of (s.next es of) fit;
    }

label_of : (kind : Kind) (n p : ℕ) → kind ≡ Array → label_at kind n p ≡ n
label_of Array n p array = refl
label_of Object n p array = absurd cc

-- an element's label says already how many come before it
element_label : (item : ItemOf) (place : ℕ) → item.kind ≡ Array → labelled_at item place ≡ item
element_label item place array = ap (λ n. record { parent = item.parent; kind = item.kind; label = n }) (label_of item.kind item.label place array)

-- in an array that is an element
pub array_opened : {t : List ℕ} {cells : List Cell} {kinds : List Kind} (at : At) → ExpectsItemAt t cells kinds at → at.item.kind ≡ Array → byte t at.place ≡ 91 → byte t (at.place + 1) ≡ 91
    → ExpectsItemAt t (cells ++ cell_for at.place 0 at.item ∷ []) (kinds ++ Array ∷ []) (record { item = first_item_of (length cells) Array; place = at.place + 1 })
array_opened {t} {cells} {kinds} at s array bracket nested =
    let same : labelled_at at.item at.place ≡ at.item = element_label at.item at.place array in
    let item : IsItem strict t at.item.kind at.place at.place = record { later = omega arith; within = s.within; label = None; head = rw array (no_head refl) } in
    let value : ExpectsValueAt t cells kinds (record { item = at.item; place = at.place }) = rw same at (item_headed at s item) in
    let opens = nested_begins t at.place bracket nested in
    value_opened at Array 0 value (omega arith) (omega (arith, opens.0)) (opens.1 strict)

-- inside a container the value of an item ended
item_ended : {t : List ℕ} {cells : List Cell} {kinds : List Kind} {at : At} → EndsValueAt t cells kinds at → 0 < length kinds → IsItemEnded strict t (after_space t 0) kinds at.place
item_ended s some = closed_more (record { p = s.begun; around = s.expected; value = s.value; within = s.within }) (λ e. omega arith)

-- which part that is
placed : {t : List ℕ} {cells : List Cell} {kinds : List Kind} {at : At} {es : List Entry} → (s : EndsValueAt t cells kinds at) → 0 < length kinds → AreOfAlone t es
    → (d : IsValueEnded es at.place cells at.item) → IsPlaced t es at.item.kind d.x
placed s some of d = ended_part of (item_ended s some) (s.top some) d.number d.x d.read d.end

-- after a comma
pub item_follows : {t : List ℕ} {cells : List Cell} {kinds : List Kind} (at : At) {h : ℕ} → EndsValueAt t cells kinds at → 0 < length kinds → IsAfterValue t at.item.kind at.place (Item h)
    → ExpectsItemAt t cells kinds (record { item = item_after at.item; place = h })
item_follows at s some a =
    let label = s.label in
    record {
      around = s.around some;
      top = s.top some;
      within = a.1;
      expected = separated_at (item_ended s some) a.2;
      bounded = further (omega (arith, a.0)) s.bounded;
      parent = s.parent;
      label = omega (arith, a.0);
      next = λ es of. let d = s.next es of in separated of d (placed s some of d) a.2 (omega (arith, a.0));
    }

-- after the end of a container, which these are around, with an item of this kind
left : {t : List ℕ} {cells : List Cell} {kinds : List Kind} (at : At) (kind : Kind) (cell : Cell) {j : ℕ} → EndsValueAt t cells kinds at → 0 < length kinds
    → IsAfterValue t at.item.kind at.place (End j) → slice_get cells at.item.parent ≡ Some cell
    → (0 < length (take (length kinds - 1) kinds) → AreAround t (set cells at.item.parent (record cell { end = j })) cell.parent (take (length kinds - 1) kinds))
    → (0 < length (take (length kinds - 1) kinds) → IsTop (take (length kinds - 1) kinds) kind)
    → EndsValueAt t (set cells at.item.parent (record cell { end = j })) (take (length kinds - 1) kinds) (record { item = record { parent = cell.parent; kind = kind; label = cell.label }; place = j })
left {cells = cells} at kind cell {j} s some a read around top =
    let whole = last_ended (item_ended s some) (s.top some) a refl in
    let parent = s.bounded.parents at.item.parent cell read in
    let label = s.bounded.labels at.item.parent cell read in
    record {
      around = around;
      top = top;
      within = a.1;
      begun = whole.p;
      expected = whole.around;
      value = whole.value;
      bounded = further (omega (arith, a.0)) (bound_set at.item.parent j cell read s.bounded);
      parent = omega (arith, length-set cells at.item.parent (record cell { end = j }));
      label = omega (arith, a.0);
      next = λ es of. let d = s.next es of in closed kind cell of d (placed s some of d) a.2 (omega (arith, a.0)) read;
    }

-- the innermost container around it
pub record IsOuter (t : List ℕ) (cells : List Cell) (kinds : List Kind) (cell : Cell) (at : At) (j : ℕ) : Type 0 where
  pub later : cell.parent < at.item.parent
  pub around : AreAround t (set cells at.item.parent (record cell { end = j })) cell.parent (take (length kinds - 1) kinds)
  pub kind : Kind
  pub opens : byte t (get_or (set cells at.item.parent (record cell { end = j })) cell.parent (record cell { end = j })).start ≡ opening kind
  pub top : IsTop (take (length kinds - 1) kinds) kind

outer : {t : List ℕ} {cells : List Cell} {kinds : List Kind} (at : At) (cell : Cell) (j : ℕ) → EndsValueAt t cells kinds at → 0 < length kinds → slice_get cells at.item.parent ≡ Some cell → at.item.parent ≢ 0
    → IsOuter t cells kinds cell at j
outer {t} {cells} {kinds} at cell j s some read number =
    let after = set cells at.item.parent (record cell { end = j }) in
    let o = outer_left cell read (s.around some) number in
    let around = around_reset at.item.parent j cell read o.1 in
    let i = innermost around in
    let there = slice_get-get_or after cell.parent (record cell { end = j }) (slice_get_within after cell.parent i.cell i.read) in
    let one : i.cell ≡ get_or after cell.parent (record cell { end = j }) = cc in
    record { later = o.0; around = around; kind = i.kind; opens = rw one at i.opens; top = i.top }

-- of which something opens
pub outer_opens : {t : List ℕ} {cells : List Cell} {kinds : List Kind} (at : At) (cell : Cell) (j : ℕ) → EndsValueAt t cells kinds at → 0 < length kinds → slice_get cells at.item.parent ≡ Some cell → at.item.parent ≢ 0
    → (cell.parent < at.item.parent) × OpensSome t (get_or (set cells at.item.parent (record cell { end = j })) cell.parent (record cell { end = j })).start
outer_opens at cell j s some read number = let o = outer at cell j s some read number in (o.later, (o.kind, o.opens))

-- after the end of a container that is no root
pub container_left : {t : List ℕ} {cells : List Cell} {kinds : List Kind} (at : At) (kind : Kind) (cell : Cell) {j : ℕ} → EndsValueAt t cells kinds at → 0 < length kinds
    → IsAfterValue t at.item.kind at.place (End j) → slice_get cells at.item.parent ≡ Some cell → at.item.parent ≢ 0
    → byte t (get_or (set cells at.item.parent (record cell { end = j })) cell.parent (record cell { end = j })).start ≡ opening kind
    → HasEndAt t (set cells at.item.parent (record cell { end = j })) (record { item = record { parent = cell.parent; kind = kind; label = cell.label }; place = j })
container_left {kinds = kinds} at kind cell {j} s some a read number opens =
    let o = outer at cell j s some read number in
    let same : o.kind ≡ kind = opening_one o.kind kind (sym o.opens ∙ opens) in
    (take (length kinds - 1) kinds, some_open o.around, left at kind cell s some a read (λ some. o.around) (λ some. rw same at o.top))

-- after the root
root_whole : {t : List ℕ} {cells : List Cell} {kinds : List Kind} (at : At) → EndsValueAt t cells kinds at → kinds ≡ [] → AreWritten t at.place cells
root_whole at s none =
    let whole = closed_all (record { p = s.begun; around = s.expected; value = s.value; within = s.within }) (ap length none) in
    record { root = whole.1; kept = λ es of. finished of (s.next es of) whole.1 }

pub root_alone : {t : List ℕ} {cells : List Cell} (at : At) → EndsValueAt t cells [] at → AreWritten t at.place cells
root_alone at s = root_whole at s refl

-- which is a container
pub root_left : {t : List ℕ} {cells : List Cell} {kinds : List Kind} (at : At) (cell : Cell) {j : ℕ} → EndsValueAt t cells kinds at → 0 < length kinds
    → IsAfterValue t at.item.kind at.place (End j) → slice_get cells at.item.parent ≡ Some cell → at.item.parent ≡ 0
    → AreWritten t j (set cells at.item.parent (record cell { end = j }))
root_left {t} {cells} {kinds} at cell {j} s some a read number =
    let none : take (length kinds - 1) kinds ≡ [] = none_left (s.around some) number in
    root_whole (record { item = record { parent = cell.parent; kind = Array; label = cell.label }; place = j })
    (left at Array cell s some a read (λ o. absurd (omega (arith, ap length none))) (λ o. absurd (omega (arith, ap length none)))) none

-- a fault of an item is the root's
pub item_fault : {t : List ℕ} {cells : List Cell} {kinds : List Kind} (at : At) (s : Stop) → ExpectsItemAt t cells kinds at → at.item.kind ≡ Object → IsKeyFault strict t at.place s → IsRootFault t s
item_fault at s e object fault = fault_item e.expected e.top (object, fault)

-- so is that of a value
pub value_stop : {t : List ℕ} {cells : List Cell} {kinds : List Kind} (at : At) (s : Stop) → ExpectsValueAt t cells kinds at → IsFault strict t at.place s → IsRootFault t s
value_stop at s e fault = fault_up e.expected fault

-- and that of what comes after it
pub next_fault : {t : List ℕ} {cells : List Cell} {kinds : List Kind} (at : At) (s : Stop) → EndsValueAt t cells kinds at → 0 < length kinds → IsSeparatorFault t at.item.kind at.place s → IsRootFault t s
next_fault at s e some fault = fault_after (item_ended e some) (e.top some) fault

-- at the root
pub root_expected : {t : List ℕ} (kind : Kind) → after_space t 0 ≤ length t → ExpectsValueAt t [] [] (record { item = first_item_of 0 kind; place = after_space t 0 })
root_expected kind within = record {
  around = λ some. absurd (omega arith);
  top = λ some. absurd (omega arith);
  first = λ none. refl;
  within = within;
  expected = here refl refl;
  bounded = record { fewer = omega arith; parents = λ a cell e. absurd cc; labels = λ a cell e. absurd cc };
  parent = omega arith;
  label = omega arith;
  next = λ es of. started kind of;
}

-- and the white space round it
pub document_after : {t : List ℕ} {e p : ℕ} {cells : List Cell} → AreWritten t e cells → p ≡ after_space t e → IsAfterRoot t p × ((es : List Entry) → AreOfAlone t es → AreKept es cells)
document_after {e = e} w q = (record { end = e; root = w.root; place = sym q }, w.kept)
