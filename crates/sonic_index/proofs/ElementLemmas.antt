-- How the elements of an array are found by halving.
use Rattle.std.proofs.Common.{◌≡◌, ◌≢◌, ◌∙◌, inl, inr, ℕ, ◌+◌, ◌<◌, ◌≤◌, List, get_or, arith, refl, sym, ap, subst}
use Rattle.std.proofs.lemmas.Bool.{cases_lt, cases_order}
use Rattle.std.proofs.lemmas.Option.{get_or_from_slice_get, slice_get-get_or}
use Rattle.std.specs.Prelude.{Option, Some, slice_get}
use Rattle.sonic_text.specs.declared.kind.Kind.{Kind}
use Rattle.sonic_text.specs.declared.kind.Kind.TheVariants.{Array, Object}
use Rattle.sonic_text.specs.Paths.{Node, index}
use Rattle.sonic_text.specs.Places.{byte}
use Rattle.sonic_text.specs.Strings.{strict}
use Rattle.sonic_text.specs.Values.{ItemHead, no_head, key_head}
use Rattle.sonic_text.proofs.Items.{opening_one}
use Rattle.sonic_text.proofs.Values.{head-later, items_open, value-longer}
use Rattle.sonic_find.specs.Paths.{name_of, LeadsOn}
use Rattle.sonic_find.proofs.MarkLemmas.Seen.{named_index}
use Rattle.sonic_find.proofs.PathLemmas.Lead.{named_leads}
use Rattle.sonic_index.specs.declared.cell.Cell.{Cell}
use Rattle.sonic_index.specs.declared.entry.Entry.{Entry}
use Rattle.sonic_index.specs.declared.entry.Label.{Label}
use Rattle.sonic_index.specs.declared.entry.Label.TheVariants.{At}
use Rattle.sonic_index.specs.Entries.{IsLabelled, of_root, of_part, AreEntries}
use Rattle.sonic_index.specs.Internal.Cells.{entries_of, entry_of}
use Rattle.sonic_index.specs.Internal.Items.{AreParents, AreRising, IsBetween, IsHeld, IsItemAround, IsPartLeft, IsSought, IsUnder}
use Rattle.sonic_index.specs.Nodes.{Part, IsPartAt, IsNode, part}
use Rattle.sonic_index.proofs.CellLemmas.{read_entry}
use Rattle.sonic_index.proofs.EntryLemmas.{earlier, node_of, part_later, place_one, read_element}
use Rattle.sonic_index.proofs.ItemLemmas.{named_part, part_entry, part_labelled}
use Rattle.sonic_index.proofs.NodeLemmas.{before_part, node_later, node_one, node_value, nodes_nested, part_before, part_inside}
use Rattle.sonic_index.proofs.PathLemmas.{no_cell, cell_label, cell_of_entry, entry_whole}

-- the part of which a cell is, in the value of its parent
record IsPartOf (t : List ℕ) (cells : List Cell) (z : Cell) : Type 0 where
  parent : Cell
  read : slice_get cells z.parent ≡ Some parent
  n : ℕ
  part : Part
  is : IsPartAt t parent.start n part
  start : part.start ≡ z.start
  end : part.end ≡ z.end
  label : IsLabelled t part.kind n part.item (entry_of t cells z).label

-- each cell that begins inside another one is of a part
part_of : {t : List ℕ} {cells : List Cell} {i c : ℕ} → AreEntries t (entries_of t cells) → (u : IsUnder cells i c) → IsPartOf t cells u.inner
part_of {t} {cells} {i} {c} are u =
    let x = entry_of t cells u.outer in
    elim (are.sound (entry_of t cells u.inner) (read_element (entries_of t cells) c (read_entry t cells c u.found))) [
      | of_root alone parent label kind ↦
          let root = node_later (node_of are x (read_element (entries_of t cells) i (read_entry t cells i u.read))) in
          absurd (omega (arith, root, alone.start, u.later))
      | of_part {n} {part = o} p f w is ↦
          let cell = cell_of_entry t cells u.inner.parent f in
          let here : IsPartAt t cell.0.start n o = rw (ap (λ (o : Entry). o.start) cell.2) at w in
          record { parent = cell.0; read = cell.1; n = n; part = o; is = here; start = sym is.start; end = sym is.end; label = is.label }
    ]

-- so its parent is the other one, or begins inside it too
pub parents_are : {t : List ℕ} (cells : List Cell) → AreEntries t (entries_of t cells) → AreParents cells
parents_are {t} cells are = λ i c u other.
    let es = entries_of t cells in
    let p = part_of are u in
    let from = read_entry t cells i u.read in
    let x = entry_of t cells u.outer in
    let above = read_entry t cells u.inner.parent p.read in
    let y = entry_of t cells p.parent in
    let outer = node_of are x (read_element es i from) in
    let around = node_of are y (read_element es u.inner.parent above) in
    let inside = part_inside (node_value around) p.is in
    let before : p.parent.start < u.inner.start = omega (arith, part_later p.is, p.start) in
    let later : u.outer.start < p.parent.start = elim (cases_order y.start x.start) [
      | inl same ↦ absurd (other (place_one es are.rising u.inner.parent i y x above from same))
      | inr (inl less) ↦ absurd (omega (arith, before_part p.is inside.3 (nodes_nested around outer less) (omega (arith, u.later, p.start)), u.within, p.start))
      | inr (inr more) ↦ more
    ] in (
      record {
        under = record { outer = u.outer; inner = p.parent; read = u.read; found = p.read; later = later; within = omega (arith, before, u.within) };
        before = omega (arith, before);
        after = omega (arith, inside.3, p.end);
      },
      earlier es are.rising u.inner.parent c y (entry_of t cells u.inner) above (read_entry t cells c u.found) before,
    )

-- the numbers between a cell and the first one after its value are of cells that begin inside
pub under_between : {cells : List Cell} {i c : ℕ} → AreRising cells → (s : IsBetween cells i c c) → (d : ℕ) → i < d → d < c → IsUnder cells i d
under_between {cells} {i} rising s d more less =
    let read = slice_get-get_or cells d s.cell (omega (arith, less, s.within)) in
    record {
      outer = s.cell;
      inner = get_or cells d s.cell;
      read = s.read;
      found = read;
      later = rising i d s.cell (get_or cells d s.cell) more s.read read;
      within = s.inside d (get_or cells d s.cell) more less read;
    }

-- what is held by a value is by its parent, where that isn't the value with the number i
pub held_up : {cells : List Cell} {i c : ℕ} {deep : Cell} → AreParents cells → (h : IsHeld cells i c deep) → h.under.inner.parent ≢ i
    → IsHeld cells i h.under.inner.parent deep × (h.under.inner.parent < c)
held_up {i = i} {c} parents h other =
    let up = parents i c h.under other in
    (record { under = up.0.under; before = omega (arith, up.0.before, h.before); after = omega (arith, up.0.after, h.after) }, up.1)

-- a cell is that of the element after n others
pub record IsElement (t : List ℕ) (place n : ℕ) (z : Cell) : Type 0 where
  pub part : Part
  pub is : IsPartAt t place n part
  pub start : part.start ≡ z.start
  pub end : part.end ≡ z.end

number_of : (t : List ℕ) (kind : Kind) (h : ℕ) {n k : ℕ} {label : Label} → kind ≡ Array → IsLabelled t kind n h label → (label ≡ At n → k ≡ n) → n ≡ k
number_of t Array h same l at = sym (at l)
number_of t Object h same l at = absurd cc

-- n is what is kept of its label
pub element_of : {t : List ℕ} {cells : List Cell} {i d c : ℕ} {x : Cell} → AreEntries t (entries_of t cells) → (s : IsItemAround cells i d c) → slice_get cells i ≡ Some x
    → byte t x.start ≡ 91 → IsElement t x.start (get_or cells c no_cell).label s.held.under.inner
element_of {t} {cells} {i} {c = c} {x} are s e opens =
    let u = s.held.under in
    let p = part_of are u in
    let above = subst (λ q. slice_get cells q ≡ Some p.parent) s.parent p.read in
    let one : p.parent ≡ x = cc in
    let here : IsPartAt t x.start p.n p.part = rw one at p.is in
    let kind = opening_one p.part.kind Array (sym (items_open here.before) ∙ opens) in
    let same = get_or_from_slice_get cells c u.inner no_cell u.found in
    let number : p.n ≡ (get_or cells c no_cell).label =
    number_of t p.part.kind p.part.item kind p.label ((cell_label t (get_or cells u.inner.parent u.inner) u.inner).at p.n) ∙ sym (ap (λ (o : Cell). o.label) same) in
    let there : IsPartAt t x.start (get_or cells c no_cell).label p.part = rw number at here in
    record { part = p.part; is = there; start = p.start; end = p.end }

-- each part's cell lies between that of its value and the first one after it
pub left_first : {t : List ℕ} {cells : List Cell} {i c : ℕ} → AreEntries t (entries_of t cells) → (s : IsBetween cells i c c) → (n : ℕ)
    → IsPartLeft t cells s.cell.start n (i + 1) c
left_first {t} {cells} {i} {c} are s n = λ y is.
    let es = entries_of t cells in
    let x = entry_of t cells s.cell in
    let from = read_entry t cells i s.read in
    let w = part_entry are x (read_element es i from) is in
    let cell = cell_of_entry t cells w.0 w.2 in
    let start = ap (λ (o : Entry). o.start) cell.2 in
    let within = part_inside (entry_whole cells are i s.cell s.read) is in
    let more = earlier es are.rising i w.0 x w.1 from w.2 (omega (arith, part_later is, w.3)) in
    let less : w.0 < c = elim (cases_lt w.0 c) [
      | inl less ↦ less
      | inr past ↦ absurd (omega (arith, s.after w.0 cell.0 past cell.1, start, w.3, within.2, within.3))
    ] in
    (w.0, cell.0, cell.1, sym start ∙ w.3, omega (arith, more), less)

-- those of later elements come after all that is in an element
pub left_above : {t : List ℕ} {cells : List Cell} {i low high d c start n k : ℕ} → AreEntries t (entries_of t cells) → (s : IsItemAround cells i d c)
    → IsElement t start k s.held.under.inner → k < n → IsPartLeft t cells start n low high → IsPartLeft t cells start n (d + 1) high
left_above {t} {cells} {d = d} are s o less left = λ y is.
    let z = left y is in
    let long = value-longer (entry_whole cells are d s.deep s.read) in
    let more = earlier (entries_of t cells) are.rising d z.0 (entry_of t cells s.deep) (entry_of t cells z.1) (read_entry t cells d s.read) (read_entry t cells z.0 z.2)
    (omega (arith, long, s.held.after, o.end, part_before o.is is less, head-later is.head, z.3)) in
    (z.0, z.1, z.2, z.3, omega (arith, more), z.5)

-- and those of earlier ones before its own
pub left_below : {t : List ℕ} {cells : List Cell} {i low high d c start n k : ℕ} → AreEntries t (entries_of t cells) → (s : IsItemAround cells i d c)
    → IsElement t start k s.held.under.inner → n < k → IsPartLeft t cells start n low high → IsPartLeft t cells start n low c
left_below {t} {cells} {c = c} are s o less left = λ y is.
    let z = left y is in
    let u = s.held.under in
    let more = earlier (entries_of t cells) are.rising z.0 c (entry_of t cells z.1) (entry_of t cells u.inner) (read_entry t cells z.0 z.2) (read_entry t cells c u.found)
    (omega (arith, z.3, value-longer is.value, part_before is o.is less, head-later o.is.head, o.start)) in
    (z.0, z.1, z.2, z.3, z.4, more)

-- an index leads on to the element with its number
index_name : {t : List ℕ} {kind : Kind} {h v n : ℕ} {b : Option (List ℕ)} → kind ≡ Array → ItemHead strict t kind h v b → name_of n b ≡ index n
index_name same (no_head e) = refl
index_name same (key_head y) = absurd cc

pub element_leads : {t : List ℕ} {start n : ℕ} {z : Cell} → byte t start ≡ 91 → IsElement t start n z → LeadsOn t start (index n) z.start
element_leads {t} {start} {n} {z} opens o =
    let kind = opening_one o.part.kind Array (sym (items_open o.is.before) ∙ opens) in
    let leads : LeadsOn t start (index n) o.part.start = named_leads
    (record { fit = o.is.before; none = λ p g v l fit item. absurd (omega (arith, l, named_index item)) })
    (record { label = o.part.label; head = o.is.head; name = index_name kind o.is.head }) in
    rw o.start at leads

-- a cell is that of the part of x after n others, an element, which is named by what is kept of its label
pub record IsNextElement (t : List ℕ) (x z : Cell) (n : ℕ) : Type 0 where
  pub part : Part
  pub is : IsPartAt t x.start n part
  pub start : part.start ≡ z.start
  pub end : part.end ≡ z.end
  pub name : name_of n part.label ≡ index z.label

pub its_index : {t : List ℕ} {x z : Cell} {n k : ℕ} → (h : IsNextElement t x z n) → z.label ≡ k → name_of n h.part.label ≡ index k
its_index h same = h.name ∙ ap index same

-- and by no other index
pub other_index : {t : List ℕ} {x z : Cell} {n k : ℕ} → (h : IsNextElement t x z n) → z.label ≢ k → name_of n h.part.label ≢ index k
other_index {z = z} {k = k} h other e =
    let same : index z.label ≡ index k = sym h.name ∙ e in
    let number : z.label ≡ k = cc in
    other number

-- so it is where the next cell begins inside an array
pub next_element : {t : List ℕ} {c : ℕ} {x z : Cell} {node : Node} (cells : List Cell) → AreEntries t (entries_of t cells) → (i : ℕ) → slice_get cells i ≡ Some x
    → (s : IsSought t (entries_of t cells) (entry_of t cells x) node c) → slice_get cells c ≡ Some z → z.start < x.end → byte t x.start ≡ 91 → IsNextElement t x z s.n
next_element {t} {c} {x} {z} cells are i e s f within opens =
    let in_x = read_element (entries_of t cells) i (read_entry t cells i e) in
    let in_z = read_element (entries_of t cells) c (read_entry t cells c f) in
    let y = s.next.some (entry_of t cells z) (read_entry t cells c f) within in
    let kind = opening_one y.0.kind Array (sym (items_open y.1.before) ∙ opens) in
    let label = part_labelled are (entry_of t cells x) (entry_of t cells z) in_x in_z y.1 y.2 in
    let number : s.n ≡ z.label = number_of t y.0.kind y.0.item kind label ((cell_label t (get_or cells z.parent z) z).at s.n) in
    let there : IsNode t z.start y.0.end = rw y.2 at (part (node_of are (entry_of t cells x) in_x) y.1) in
    record {
      part = y.0;
      is = y.1;
      start = y.2;
      end = node_one there (node_of are (entry_of t cells z) in_z);
      name = index_name kind y.1.head ∙ ap index number;
    }

-- and to nothing where no cell is left for it
pub nothing_left : {t : List ℕ} {n low high : ℕ} (cells : List Cell) (i : ℕ) (x : Cell) → AreEntries t (entries_of t cells) → slice_get cells i ≡ Some x
    → IsPartLeft t cells x.start n low high → high ≤ low → (v : ℕ) → ¬ LeadsOn t x.start (index n) v
nothing_left {t} {n} cells i x are e left past v l =
    let y = named_part are (entry_of t cells x) (read_element (entries_of t cells) i (read_entry t cells i e)) l.before.fit l.item in
    let z = left y.0 (subst (λ m. IsPartAt t x.start m y.0) (named_index l.item) y.1) in
    omega (arith, past, z.4, z.5)
