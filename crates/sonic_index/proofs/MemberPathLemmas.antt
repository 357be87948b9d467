-- The members of wide objects, as the entries have them, and where a key leads by them.
use Rattle.std.proofs.Common.{◌≡◌, ◌∙◌, inl, inr, ℕ, zero, suc, ◌-◌, ◌≤◌, List, get_or, length, arith, refl, sym, ap}
use Rattle.std.proofs.lemmas.Bool.{cases_order}
use Rattle.std.proofs.lemmas.Option.{slice_get-get_or, slice_get_within}
use Rattle.std.specs.Prelude.{Contains, IfNone, None, Option, Some, slice_get}
use Rattle.sonic_text.specs.declared.kind.Kind.TheVariants.{Object}
use Rattle.sonic_text.specs.Paths.{key}
use Rattle.sonic_text.specs.Places.{byte}
use Rattle.sonic_text.proofs.Items.{opening_one}
use Rattle.sonic_text.proofs.Values.{head-later, items_open, value-longer}
use Rattle.sonic_text.proofs.Within.{value_within}
use Rattle.sonic_find.specs.Paths.{name_of, NoneNamed}
use Rattle.sonic_find.proofs.PathLemmas.Lead.{named_leads}
use Rattle.sonic_index.specs.declared.cell.Cell.{Cell}
use Rattle.sonic_index.specs.declared.entry.Entry.{Entry}
use Rattle.sonic_index.specs.Entries.{IsEntry, of_root, of_part, AreEntries}
use Rattle.sonic_index.specs.Internal.Cells.{entries_of, entry_of}
use Rattle.sonic_index.specs.Internal.Items.{AreRising, GoesNowhere, GoesTo}
use Rattle.sonic_index.specs.Internal.Members.{AreLinked, IsFirstMember, IsMember}
use Rattle.sonic_index.specs.Nodes.{Part, IsPartAt, part}
use Rattle.sonic_index.proofs.CellLemmas.{cell_right, read_entry, root_number}
use Rattle.sonic_index.proofs.EntryLemmas.{around_one, earlier, element_at, node_of, part_later, place_one, read_element}
use Rattle.sonic_index.proofs.ItemLemmas.{named_part, part_labelled}
use Rattle.sonic_index.proofs.NodeLemmas.{node_later, part_before}
use Rattle.sonic_index.proofs.PathLemmas.{cell_label, cell_of_entry, cells_rising, entry_whole, label_names, no_cell}

-- the cells of a document are linked
pub cells_linked : (t : List ℕ) (cells : List Cell) → AreEntries t (entries_of t cells) → AreLinked t cells
cells_linked t cells are = record {
  parents = λ n cell e. (cell_right t cells n cell are e).parent;
  keys = λ n cell object e f l opens.
      let less = cells_rising t cells are cell.parent n object cell l f e in
      let s = (cell_right t cells n cell are e).key object f (λ same. omega (arith, less, same)) opens in
      (s.1, record { object = object; cell = cell; read = f; found = e; opens = opens; parent = refl; later = l; end = s.0; key = s.2 });
}

-- a cell begins at its number or later
starts_up : (cells : List Cell) → AreRising cells → (k : ℕ) (x : Cell) → slice_get cells k ≡ Some x → k ≤ x.start
starts_up cells rising zero x e = omega arith
starts_up cells rising (suc k) x e =
    let read = slice_get-get_or cells k no_cell (omega (arith, slice_get_within cells (suc k) x e)) in
    omega (arith, starts_up cells rising k (get_or cells k no_cell) read, rising k (suc k) (get_or cells k no_cell) x (omega arith) read e)

-- so there are no more cells than bytes
pub cells_few : (t : List ℕ) (cells : List Cell) → AreEntries t (entries_of t cells) → length cells ≤ length t
cells_few t cells are = elim (cases_order 0 (length cells)) [
  | inl none ↦ omega (arith, none)
  | inr (inr more) ↦ absurd (omega (arith, more))
  | inr (inl some) ↦
      let k = length cells - 1 in
      let read = slice_get-get_or cells k no_cell (omega (arith, some)) in
      let value = entry_whole cells are k (get_or cells k no_cell) read in
      omega (arith, some, starts_up cells (cells_rising t cells are) k (get_or cells k no_cell) read, value-longer value, value_within value)
]

-- a member is a part of its object, which the key names
record IsPartOf (t : List ℕ) (object cell : Cell) (q : List ℕ) : Type 0 where
  n : ℕ
  y : Part
  is : IsPartAt t object.start n y
  start : y.start ≡ cell.start
  name : name_of n y.label ≡ key q

part_of_case : {t : List ℕ} {cells : List Cell} {i c : ℕ} {q : List ℕ} → AreEntries t (entries_of t cells) → (m : IsMember t cells i c q)
    → IsEntry t (entries_of t cells) (entry_of t cells m.cell) → IsPartOf t m.object m.cell q
part_of_case {t} {cells} {i} {c} are m (of_root alone p label kind) =
    let zero = root_number are c (entry_of t cells m.cell) (read_entry t cells c m.found) alone.start in
    absurd (omega (arith, zero, m.later))
part_of_case {t} {cells} {i} {c} {q} are m (of_part {n} {part = y} p e w is) =
    let around = read_entry t cells i m.read in
    let there : slice_get (entries_of t cells) i ≡ Some p = rw m.parent at e in
    let one : p ≡ entry_of t cells m.object = cc in
    let here : IsPartAt t m.object.start n y = rw (ap (λ (o : Entry). o.start) one) at w in
    let kind : Object ≡ y.kind = opening_one Object y.kind (sym m.opens ∙ items_open here.before) in
    let label = cell_label t (get_or cells m.cell.parent m.cell) m.cell in
    record { n = n; y = y; is = here; start = sym is.start; name = (label_names t y.kind n y.item q (sym kind) label is.label here.head).0 (m.end, m.key) }

part_of : {t : List ℕ} {cells : List Cell} {i c : ℕ} {q : List ℕ} → AreEntries t (entries_of t cells) → (m : IsMember t cells i c q) → IsPartOf t m.object m.cell q
part_of {t} {cells} {c = c} are m = part_of_case are m (are.sound (entry_of t cells m.cell) (read_element (entries_of t cells) c (read_entry t cells c m.found)))

-- the number of the value around a part
part_parent : {t : List ℕ} {es : List Entry} {i n : ℕ} {y : Part} → AreEntries t es → (x z : Entry) → slice_get es i ≡ Some x → Contains es z → IsPartAt t x.start n y
    → y.start ≡ z.start → z.parent ≡ i
part_parent {t} {es} {i} are x z e l is same = elim (are.sound z l) [
  | of_root alone p label kind ↦ absurd (omega (arith, node_later (node_of are x (read_element es i e)), part_later is, alone.start, same))
  | of_part {part = o} p f w there ↦
      let one = around_one (sym there.start ∙ sym same) (node_of are p (read_element es z.parent f)) (node_of are x (read_element es i e)) w is in
      place_one es are.rising z.parent i p x f e one
]

-- a part of an object which the key names is a member
record IsMemberOf (t : List ℕ) (cells : List Cell) (i : ℕ) (q : List ℕ) (start : ℕ) : Type 0 where
  d : ℕ
  member : IsMember t cells i d q
  begins : member.cell.start ≡ start

member_of : {t : List ℕ} {cells : List Cell} {i n : ℕ} {q : List ℕ} {y : Part} → AreEntries t (entries_of t cells) → (x : Cell) → slice_get cells i ≡ Some x → byte t x.start ≡ 123
    → IsPartAt t x.start n y → name_of n y.label ≡ key q → IsMemberOf t cells i q y.start
member_of {t} {cells} {i} {n} {q} {y} are x e opens is name =
    let es = entries_of t cells in
    let from = read_entry t cells i e in
    let object = entry_of t cells x in
    let w = are.complete y.start y.end (part (node_of are object (read_element es i from)) is) in
    let at = element_at es w.1 in
    let z = w.0 in
    let d = at.0 in
    let cell = cell_of_entry t cells d at.1 in
    let start : cell.0.start ≡ y.start = sym (ap (λ (o : Entry). o.start) cell.2) ∙ w.2 in
    let parent = part_parent are object z from w.1 is (sym w.2) in
    let kind : Object ≡ y.kind = opening_one Object y.kind (sym opens ∙ items_open is.before) in
    let labelled = part_labelled are object z (read_element es i from) w.1 is (sym w.2) in
    let label = cell_label t (get_or cells cell.0.parent cell.0) cell.0 in
    let string = (label_names t y.kind n y.item q (sym kind) label (rw (ap (λ (o : Entry). o.label) cell.2) at labelled) is.head).1 name in
    let less = earlier es are.rising i d object z from at.1 (omega (arith, part_later is, w.2)) in
    record {
      d = d;
      member = record {
        object = x;
        cell = cell.0;
        read = e;
        found = cell.1;
        opens = opens;
        parent = sym (ap (λ (o : Entry). o.parent) cell.2) ∙ parent;
        later = less;
        end = string.0;
        key = string.1;
      };
      begins = start;
    }

-- so a key leads to the first member that it names
pub leads_first : {t : List ℕ} {cells : List Cell} {i c : ℕ} {q : List ℕ} → AreEntries t (entries_of t cells) → IsFirstMember t cells i q c → GoesTo t cells i (key q) c
leads_first {t} {cells} {i} {c} {q} are s =
    let m = s.member in
    let o = part_of are m in
    let x = entry_of t cells m.object in
    let k = read_element (entries_of t cells) i (read_entry t cells i m.read) in
    let none : NoneNamed t x.start o.y.kind o.n o.y.item (key q) = record {
      fit = o.is.before;
      none = λ p g v l fit item.
          let z = named_part are x k fit item in
          let d = member_of are m.object m.read m.opens z.1 z.2 in
          let least = s.first d.d d.member in
          let before = part_before z.1 o.is l in
          elim (cases_order c d.d) [
            | inl same ↦
                let there : slice_get cells d.d ≡ Some m.cell = rw same at m.found in
                let found = d.member.found in
                let one : d.member.cell ≡ m.cell = cc in
                omega (arith, ap (λ (a : Cell). a.start) one, d.begins, o.start, before, head-later o.is.head, value-longer z.1.value)
            | inr (inl less) ↦
                omega (arith, cells_rising t cells are c d.d m.cell d.member.cell less m.found d.member.found, d.begins, o.start, before, head-later o.is.head, value-longer z.1.value)
            | inr (inr more) ↦ omega (arith, more, least)
          ];
    } in
    let leads = named_leads none (record { label = o.y.label; head = o.is.head; name = o.name }) in
    record { from = m.object; to = m.cell; read = m.read; found = m.found; leads = rw o.start at leads }

-- and where none is, to nothing
pub leads_none : {t : List ℕ} {cells : List Cell} {i : ℕ} {q : List ℕ} → AreEntries t (entries_of t cells) → (x : Cell) → slice_get cells i ≡ Some x → byte t x.start ≡ 123
    → ((n : ℕ) → ¬ IsMember t cells i n q) → GoesNowhere t cells i (key q)
leads_none {t} {cells} {i} are x e opens none = record {
  from = x;
  read = e;
  none = λ v l.
      let z = named_part are (entry_of t cells x) (read_element (entries_of t cells) i (read_entry t cells i e)) l.before.fit l.item in
      let d = member_of are x e opens z.1 z.2 in
      none d.d d.member;
}

-- what follows where there is no value
pub none_then : {X : Type 0} (r : Option X) {P Q : Type 0} → (P → Q) → IfNone r P → IfNone r Q
none_then None f h = f h
none_then (Some x) f h = h
