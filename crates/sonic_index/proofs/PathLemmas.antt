-- What the cells say of the items of a value, and where a path leads by them.
use Rattle.std.proofs.Common.{◌≡◌, ◌≢◌, ◌∙◌, ◌↔◌, inl, inr, ℕ, ◌+◌, ◌-◌, ◌<◌, ◌≤◌, List, [], ◌∷◌, Bool, get_or, length, take, arith, refl, sym, ap}
use Rattle.std.proofs.Math.Seq.{take-length}
use Rattle.std.proofs.lemmas.Bool.{cases_eq, cases_order}
use Rattle.std.proofs.lemmas.List.{length-map}
use Rattle.std.proofs.lemmas.Option.{slice_get-get_or, slice_get_read, slice_get_within}
use Rattle.std.specs.Prelude.{Option, IsTrue, Some, slice_get}
use Rattle.std.specs.Str.{IsUtf8}
use Rattle.sonic_error.specs.declared.code.ErrorCode.{ErrorCode}
use Rattle.sonic_text.specs.declared.kind.Kind.{Kind}
use Rattle.sonic_text.specs.declared.kind.Kind.TheVariants.{Array, Object}
use Rattle.sonic_text.specs.Paths.{Node, Path, key}
use Rattle.sonic_text.specs.Places.{byte, after_space}
use Rattle.sonic_text.specs.Strings.{IsString, strict}
use Rattle.sonic_text.specs.Values.{ItemHead, key_head, IsValue}
use Rattle.sonic_text.proofs.Items.{opening_one}
use Rattle.sonic_text.proofs.Strings.{string_one}
use Rattle.sonic_text.proofs.Values.{items_open, value-longer}
use Rattle.sonic_text.proofs.Within.{value_within}
use Rattle.sonic_find.specs.Documents.{IsAlone, IsValidDocument}
use Rattle.sonic_find.specs.Paths.{found, empty_code, fails_at, kind_of, name_of, nowhere, past_end, Leads, LeadsOn}
use Rattle.sonic_find.specs.Paths.EvaluatesBy.{found_here, goes_on, leads_nowhere}
use Rattle.sonic_find.specs.Parts.{IsPart}
use Rattle.sonic_find.proofs.Utf8Lemmas.{utf8_of_span}
use Rattle.sonic_lazy.specs.Shown.{FindsNone}
use Rattle.sonic_find.proofs.PathLemmas.Outcome.{either, evaluates_one}
use Rattle.sonic_index.specs.declared.cell.Cell.{Cell}
use Rattle.sonic_index.specs.declared.entry.Entry.{Entry}
use Rattle.sonic_index.specs.declared.entry.Label.{Label}
use Rattle.sonic_index.specs.declared.entry.Label.TheVariants.{Key, At}
use Rattle.sonic_index.specs.Entries.{IsLabelled, AreEntries}
use Rattle.sonic_index.specs.Internal.Cells.{entry_of, entries_of, label_of}
use Rattle.sonic_index.specs.Internal.Items.{AreRising, BeginsKey, BeginsString, GoesNowhere, GoesTo, IsBetween, IsSought, IsReachedBy}
use Rattle.sonic_index.specs.Nodes.{Part, IsPartAt, IsNode, root, part}
use Rattle.sonic_index.proofs.CellLemmas.{label_element, label_member, label_root, read_entry, root_number}
use Rattle.sonic_index.proofs.EntryLemmas.{element_at, node_of, read_element}
use Rattle.sonic_index.proofs.NodeLemmas.{node_one, node_value}
use Rattle.sonic_index.proofs.ItemLemmas.{IsFirst, part_labelled}

-- what is read of no cell
abbrev pub no_cell : Cell
no_cell = record { start = 0; end = 0; parent = 0; label = 0 }

-- a label is kept so: of a member the place of its key, of an element its number
pub record HasLabel (k : ℕ) (label : Label) : Type 0 where
  pub key : (h e : ℕ) → label ≡ Key h e → k ≡ h
  pub at : (n : ℕ) → label ≡ At n → k ≡ n

-- as a cell keeps that of its entry
pub cell_label : (t : List ℕ) (parent cell : Cell) → HasLabel cell.label (label_of t parent cell)
cell_label t parent cell = elim (cases_eq parent.start cell.start) [
  | inl same ↦ (let l = label_root t parent cell same in record { key = λ h e f. absurd cc; at = λ n f. absurd cc })
  | inr other ↦ elim (cases_eq (byte t parent.start) 123) [
    | inl opens ↦ (let l = label_member t parent cell other opens in record { key = λ h e f. cc; at = λ n f. absurd cc })
    | inr none ↦ (let l = label_element t parent cell other none in record { key = λ h e f. absurd cc; at = λ n f. cc })
  ]
]

-- and a key names a member by its own
member_names : {t : List ℕ} {h v k : ℕ} {q : List ℕ} {b : Option (List ℕ)} {label : Label} (n e : ℕ) → HasLabel k label → label ≡ Key h e → ItemHead strict t Object h v b
    → BeginsKey t k q ↔ (name_of n b ≡ key q)
member_names {t} {h} {k = k} {q} n e has l (key_head {b} y) =
    let at : k ≡ h = has.key h e l in (
      λ f. let there : IsString strict t h f.0 q = rw at at f.1 in ap key (sym (string_one there y.string).1),
      λ f. let one : b ≡ q = cc in let there : IsString strict t k y.end q = rw (at, ← one) y.string in (y.end, there),
    )

pub label_names : (t : List ℕ) (kind : Kind) (n h : ℕ) (q : List ℕ) {v k : ℕ} {b : Option (List ℕ)} {label : Label} → kind ≡ Object → HasLabel k label
    → IsLabelled t kind n h label → ItemHead strict t kind h v b → BeginsKey t k q ↔ (name_of n b ≡ key q)
label_names t Array n h q same has l y = absurd cc
label_names t Object n h q same has l y = member_names n l.0 has l.3 y

-- and it is there
pub label_string : (t : List ℕ) (kind : Kind) (n h : ℕ) {k : ℕ} {label : Label} → kind ≡ Object → HasLabel k label → IsLabelled t kind n h label → BeginsString t k
label_string t Array n h same has l = absurd cc
label_string t Object n h {k} same has (e, b, s, l) = let there : IsString strict t k e b = rw (has.key h e l) s in (e, b, there)

-- the cell of an entry
pub cell_of_entry : (t : List ℕ) (cells : List Cell) (d : ℕ) {z : Entry} → slice_get (entries_of t cells) d ≡ Some z
    → (x : Cell) × (slice_get cells d ≡ Some x) × (z ≡ entry_of t cells x)
cell_of_entry t cells d {z} e =
    let l = slice_get_within (entries_of t cells) d z e in
    let read = slice_get-get_or cells d no_cell (omega (arith, l, length-map cells (entry_of t cells))) in
    let there = read_entry t cells d read in
    (get_or cells d no_cell, read, cc)

-- the places of the cells rise
pub cells_rising : (t : List ℕ) (cells : List Cell) → AreEntries t (entries_of t cells) → AreRising cells
cells_rising t cells are = λ a b x y l e f. are.rising a b (entry_of t cells x) (entry_of t cells y) l (read_entry t cells a e) (read_entry t cells b f)

-- what is after a cell among the cells is so among the entries
pub first_after : {t : List ℕ} {cells : List Cell} {i c : ℕ} → AreEntries t (entries_of t cells) → (s : IsBetween cells i c c) → IsFirst (entries_of t cells) s.cell.end c
first_after {t} {cells} {i} {c} are s =
    let es = entries_of t cells in
    let x = entry_of t cells s.cell in
    let read = read_entry t cells i s.read in
    let wide : x.start < x.end = value-longer (node_value (node_of are x (read_element es i read))) in
    record {
      before = λ d z l e. elim (cases_order d i) [
        | inl same ↦ (let at : slice_get es i ≡ Some z = rw same at e in let one : z ≡ x = cc in omega (arith, ap (λ (o : Entry). o.start) one, wide))
        | inr (inl less) ↦ omega (arith, are.rising d i z x less e read, wide)
        | inr (inr more) ↦ (let y = cell_of_entry t cells d e in omega (arith, s.inside d y.0 more l y.1, ap (λ (o : Entry). o.start) y.2))
      ];
      from = λ d z l e. let y = cell_of_entry t cells d e in omega (arith, s.after d y.0 l y.1, ap (λ (o : Entry). o.start) y.2);
    }

-- the cell z is that of the part of x after n others, a member, and the place of its key says whether q names it
pub record IsHere (t : List ℕ) (x z : Cell) (q : List ℕ) (n : ℕ) : Type 0 where
  pub part : Part
  pub is : IsPartAt t x.start n part
  pub start : part.start ≡ z.start
  pub end : part.end ≡ z.end
  pub string : BeginsString t z.label
  pub names : BeginsKey t z.label q ↔ (name_of n part.label ≡ key q)

-- so it is where the next cell begins inside an object
pub next_here : {t : List ℕ} {c : ℕ} {x z : Cell} {q : List ℕ} (cells : List Cell) → AreEntries t (entries_of t cells) → (i : ℕ) → slice_get cells i ≡ Some x
    → (s : IsSought t (entries_of t cells) (entry_of t cells x) (key q) c) → slice_get cells c ≡ Some z → z.start < x.end → byte t x.start ≡ 123 → IsHere t x z q s.n
next_here {t} {c} {x} {z} {q} cells are i e s f within opens =
    let in_x = read_element (entries_of t cells) i (read_entry t cells i e) in
    let in_z = read_element (entries_of t cells) c (read_entry t cells c f) in
    let y = s.next.some (entry_of t cells z) (read_entry t cells c f) within in
    let kind = opening_one y.0.kind Object (sym (items_open y.1.before) ∙ opens) in
    let has = cell_label t (get_or cells z.parent z) z in
    let label = part_labelled are (entry_of t cells x) (entry_of t cells z) in_x in_z y.1 y.2 in
    let there : IsNode t z.start y.0.end = rw y.2 at (part (node_of are (entry_of t cells x) in_x) y.1) in
    record {
      part = y.0;
      is = y.1;
      start = y.2;
      end = node_one there (node_of are (entry_of t cells z) in_z);
      string = label_string t y.0.kind s.n y.0.item kind has label;
      names = label_names t y.0.kind s.n y.0.item q kind has label y.1.head;
    }

-- the bounds of what comes after the cell that ends there
abbrev pub AreBounds : List Cell → ℕ → ℕ → ℕ → ℕ → Type 0
AreBounds cells i end low high = (s : IsBetween cells i low high) × (s.cell.end ≡ end)

-- they come nearer: what begins before the end is passed
pub bound_low : {cells : List Cell} {i end low high next : ℕ} (d : ℕ) → next ≡ d + 1 → AreRising cells → AreBounds cells i end low high → d < high
    → (get_or cells d no_cell).start < end → i ≤ d → AreBounds cells i end next high
bound_low {cells} d up rising (s, same) l before more =
    let read = slice_get-get_or cells d no_cell (omega (arith, l, s.within)) in (
      record {
        cell = s.cell;
        read = s.read;
        later = omega (arith, more, up);
        order = omega (arith, l, up);
        within = s.within;
        inside = λ e x past less f. elim (cases_order e d) [
          | inl one ↦ (let at : slice_get cells d ≡ Some x = rw one at f in let it : x ≡ get_or cells d no_cell = cc in omega (arith, ap (λ (o : Cell). o.start) it, before, same))
          | inr (inl lower) ↦ omega (arith, rising e d x (get_or cells d no_cell) lower f read, before, same)
          | inr (inr higher) ↦ absurd (omega (arith, less, higher, up))
        ];
        after = s.after;
      },
      same,
    )

-- and what begins at the end or later is left
pub bound_high : {cells : List Cell} {i end low high : ℕ} (d : ℕ) → AreRising cells → AreBounds cells i end low high → d < high → end ≤ (get_or cells d no_cell).start
    → low ≤ d → AreBounds cells i end low d
bound_high {cells} d rising (s, same) l past more =
    let read = slice_get-get_or cells d no_cell (omega (arith, l, s.within)) in (
      record {
        cell = s.cell;
        read = s.read;
        later = s.later;
        order = more;
        within = omega (arith, l, s.within);
        inside = s.inside;
        after = λ e x from f. elim (cases_order e d) [
          | inl one ↦ (let at : slice_get cells d ≡ Some x = rw one at f in let it : x ≡ get_or cells d no_cell = cc in omega (arith, ap (λ (o : Cell). o.start) it, past, same))
          | inr (inl lower) ↦ absurd (omega (arith, from, lower))
          | inr (inr higher) ↦ omega (arith, rising d e (get_or cells d no_cell) x higher read f, past, same)
        ];
      },
      same,
    )

-- where a string is to be found, what is kept of its place says whether it is the key
pub key_label : {t : List ℕ} {k f : ℕ} {b q : List ℕ} {r : Bool} → IsString strict t k f b → (IsTrue r ↔ IsString strict t k f q)
    → IsTrue r ↔ BeginsKey t k q
key_label {t} {k} {f} {q = q} s test = (
  λ h. (f, test.0 h),
  λ o. let there : IsString strict t k f q = rw (← (string_one s o.1).0) at o.1 in test.1 there,
)

-- each entry is whole
pub entry_whole : {t : List ℕ} (cells : List Cell) → AreEntries t (entries_of t cells) → (i : ℕ) (cell : Cell) → slice_get cells i ≡ Some cell
    → IsValue strict t cell.start cell.end
entry_whole {t} cells are i cell e = node_value (node_of are (entry_of t cells cell) (read_element (entries_of t cells) i (read_entry t cells i e)))

-- and a value of its own, in UTF-8
pub entry_part : {t : List ℕ} (cells : List Cell) → AreEntries t (entries_of t cells) → IsValidDocument t → (i : ℕ) (cell : Cell) → slice_get cells i ≡ Some cell
    → IsPart t cell.start cell.end
entry_part {t} cells are valid i cell e =
    let value = entry_whole cells are i cell e in
    let whole : IsUtf8 (take (length t) t) = rw (take-length t) valid.utf8 in
    let within = value_within value in
    record { value = value; inside = within; utf8 = utf8_of_span (length t) whole value within within }

-- the cell that is read at the number of an entry
pub cell_within : (t : List ℕ) (cells : List Cell) (i : ℕ) (cell : Cell) → i < length (entries_of t cells) → cell ≡ get_or cells i cell → slice_get cells i ≡ Some cell
cell_within t cells i cell l e = slice_get_read cells (length cells) i cell refl (omega (arith, l, length-map cells (entry_of t cells))) e

-- the first entry is that of the root, which each path leads to before its first node
pub reached_root : {t : List ℕ} (cells : List Cell) (path : Path) → AreEntries t (entries_of t cells) → IsValidDocument t → IsReachedBy t cells path path 0
reached_root {t} cells path are valid =
    let alone : IsAlone t _ _ = record { start = refl; root = valid.alone.root; end = valid.alone.place } in
    let x = are.complete _ _ (root alone) in
    let at = element_at (entries_of t cells) x.1 in
    let zero = root_number are at.0 x.0 at.1 (sym x.2) in
    let read : slice_get (entries_of t cells) 0 ≡ Some x.0 = rw zero at at.1 in
    let cell = cell_of_entry t cells 0 read in
    let start : cell.0.start ≡ after_space t 0 = sym (ap (λ (o : Entry). o.start) cell.2) ∙ x.2 in
    record { cell = cell.0; read = cell.1; goes_on = λ o e. rw start at e }

-- where the next node leads on, the path leads there
pub reached_next : {t : List ℕ} {cells : List Cell} {path rest : Path} {node : Node} {c d : ℕ} → IsReachedBy t cells path (node ∷ rest) c → GoesTo t cells c node d
    → IsReachedBy t cells path rest d
reached_next {t} {node = node} s to =
    let one = s.read in
    let other = to.read in
    let same : to.from ≡ s.cell = cc in
    let leads : LeadsOn t s.cell.start node to.to.start = rw (ap (λ (o : Cell). o.start) same) at to.leads in
    record { cell = to.to; read = to.found; goes_on = λ o e. s.goes_on o (goes_on leads e) }

-- a path fails at no value
no_span : (q : ℕ) (code : ErrorCode) (a b : ℕ) → fails_at q code ≢ found a b
no_span q code a b e = cc

past_no_span : (kind : Kind) (q a b : ℕ) → past_end kind q ≢ found a b
past_no_span Array q a b e = cc
past_no_span Object q a b e = cc

-- so what leads nowhere finds nothing
nowhere_no_span : (t : List ℕ) (i q : ℕ) (kind : Kind) (a b : ℕ) → nowhere t i q kind ≢ found a b
nowhere_no_span t i q kind a b =
    either (λ o. o ≢ found a b) _ _ _ (no_span q (empty_code kind) a b) (either (λ o. o ≢ found a b) _ _ _ (past_no_span kind q a b) (no_span q _ a b))

-- where the next node leads to nothing, the path finds nothing
pub reached_none : {t : List ℕ} {cells : List Cell} {path rest : Path} {node : Node} {c : ℕ} → AreEntries t (entries_of t cells) → IsReachedBy t cells path (node ∷ rest) c
    → GoesNowhere t cells c node → FindsNone t path
reached_none {t} {cells} {path} {node = node} {c} are s none = λ a b e.
    let one = s.read in
    let other = none.read in
    let same : none.from ≡ s.cell = cc in
    let nothing : (v : ℕ) → ¬ LeadsOn t s.cell.start node v = rw (ap (λ (o : Cell). o.start) same) at none.none in
    let whole = entry_whole cells are c s.cell s.read in
    nowhere_no_span t s.cell.start (s.cell.end - 1) (kind_of node) a b (evaluates_one path (s.goes_on _ (leads_nowhere whole nothing refl)) e)

-- and where no node is left, the value that it came to
pub reached_found : {t : List ℕ} {cells : List Cell} {path : Path} {c : ℕ} → AreEntries t (entries_of t cells) → IsReachedBy t cells path [] c
    → (x : Entry) × (slice_get (entries_of t cells) c ≡ Some x) × Leads t path (found x.start x.end)
reached_found {t} {cells} {c = c} are s =
    (entry_of t cells s.cell, read_entry t cells c s.read, s.goes_on _ (found_here (entry_whole cells are c s.cell s.read)))
