-- What a step of a walk adds to the cells: before it and what it found give what is written after it.
use Rattle.std.proofs.Common.{◌≡◌, ◌≢◌, ◌∙◌, ◌⊎◌, inl, inr, sym, ap, ℕ, zero, suc, ◌+◌, ◌<◌, ◌≤◌, List, [], ◌∷◌, ◌++◌, length, set, arith, refl}
use Rattle.std.proofs.lemmas.Bool.{cases_order}
use Rattle.std.proofs.lemmas.List.{length-append, length-set}
use Rattle.std.proofs.lemmas.Option.{slice_get-get_or, slice_get_within}
use Rattle.std.specs.Prelude.{Option, Some, get_or, slice_get}
use Rattle.sonic_text.specs.declared.kind.Kind.{Kind}
use Rattle.sonic_text.specs.declared.kind.Kind.TheVariants.{Array, Object}
use Rattle.sonic_text.specs.Places.{byte, after_space}
use Rattle.sonic_text.specs.Strings.{strict}
use Rattle.sonic_text.specs.Values.{ItemHead, IsValue, ItemsFit, closing, next_item}
use Rattle.sonic_text.proofs.Values.{head-later, items-later, value-longer, value_end_one}
use Rattle.sonic_parser.specs.Containers.{IsEnd, IsSeparated}
use Rattle.sonic_parser.specs.OpenContainers.{IsItemEnded, IsTop}
use Rattle.sonic_parser.specs.Parsers.{IsFilledContainer}
use Rattle.sonic_parser.proofs.SkippingLemmas.{top}
use Rattle.sonic_find.specs.Documents.{IsAlone}
use Rattle.sonic_index.specs.declared.build.Item.{Item}
use Rattle.sonic_index.specs.declared.cell.Cell.{Cell}
use Rattle.sonic_index.specs.declared.entry.Entry.{Entry}
use Rattle.sonic_index.specs.declared.entry.Label.{Label}
use Rattle.sonic_index.specs.Entries.{IsLabelled, IsEntryOf, IsEntry, of_root, of_part, AreEntries}
use Rattle.sonic_index.specs.Internal.Cells.{SaysBeginning, AreKept, word_of}
use Rattle.sonic_index.specs.Internal.Walks.{AreOfAlone, AreBegun, SayEnds, IsOfItem, IsValueNext, IsValueEnded, IsItemNext, label_at}
use Rattle.sonic_index.specs.Nodes.{Part, IsPartAt, IsNode, root, part}
use Rattle.sonic_index.proofs.CellLemmas.{root_number}
use Rattle.sonic_index.proofs.EntryLemmas.{around_one, as_many, before_it, element_at, node_of, part_later, place_one, read_element}
use Rattle.sonic_index.proofs.GapLemmas.{around_part, closes_at, no_gap_end, no_gap_first, no_gap_head, no_gap_inside, no_gap_next, node_end_one, open_node, part_there, part_with}
use Rattle.sonic_index.proofs.NodeLemmas.{node_later, node_value, part_inside, part_one}
use Rattle.sonic_index.proofs.SearchLemmas.{node_within}

-- what is read of a list with one element more
pub get_pushed : {A : Type 0} (xs : List A) (y : A) (a : ℕ) (x : A) → slice_get (xs ++ y ∷ []) a ≡ Some x → (slice_get xs a ≡ Some x) ⊎ ((a ≡ length xs) × (y ≡ x))
get_pushed [] y zero x e = inr (refl, cc)
get_pushed [] y (suc a) x e = absurd cc
get_pushed (z ∷ xs) y zero x e = inl e
get_pushed (z ∷ xs) y (suc a) x e = elim (get_pushed xs y a x e) [ inl f ↦ inl f | inr (n, f) ↦ inr (ap suc n, f) ]

-- and of one with another element at a place
pub get_set : {A : Type 0} (xs : List A) (p : ℕ) (y : A) (a : ℕ) (x : A) → slice_get (set xs p y) a ≡ Some x → ((a ≢ p) × (slice_get xs a ≡ Some x)) ⊎ ((a ≡ p) × (y ≡ x))
get_set [] p y a x e = absurd cc
get_set (z ∷ xs) zero y zero x e = inr (refl, cc)
get_set (z ∷ xs) zero y (suc a) x e = inl (λ q. omega (arith, q), e)
get_set (z ∷ xs) (suc p) y zero x e = inl (λ q. omega (arith, q), e)
get_set (z ∷ xs) (suc p) y (suc a) x e = elim (get_set xs p y a x e) [ inl (n, f) ↦ inl (λ q. n (omega (arith, q)), f) | inr (q, f) ↦ inr (ap suc q, f) ]

-- an entry that is read is that of a value
node_at : {t : List ℕ} {es : List Entry} → AreEntries t es → (a : ℕ) (x : Entry) → slice_get es a ≡ Some x → IsNode t x.start x.end
node_at {es = es} are a x e = node_of are x (read_element es a e)

-- a value has an entry
pub entry_at : {t : List ℕ} {es : List Entry} {i j : ℕ} → AreEntries t es → IsNode t i j → (a : ℕ) × (x : Entry) × (slice_get es a ≡ Some x) × (x.start ≡ i) × (x.end ≡ j)
entry_at {es = es} {i} {j} are w = let y = are.complete i j w in let at = element_at es y.1 in (at.0, y.0, at.1, y.2, y.3)

-- the entry says where the item's value is that is around it, and which of its parts it is
pub record IsPlaced (t : List ℕ) (es : List Entry) (kind : Kind) (x : Entry) : Type 0 where
  pub y : Entry
  pub read : slice_get es x.parent ≡ Some y
  pub n : ℕ
  pub part : Part
  pub is : IsPartAt t y.start n part
  pub says : IsEntryOf t n part x
  pub kind_is : part.kind ≡ kind

-- the entry of a part of another value
placed_by : {t : List ℕ} {es : List Entry} {i j n : ℕ} {z : Part} → AreEntries t es → (x : Entry) → IsNode t i j → IsPartAt t i n z → z.start ≡ x.start → IsEntry t es x
    → (w : IsPlaced t es z.kind x) × (w.y.start ≡ i) × (w.n ≡ n) × (w.part ≡ z)
placed_by are x v p s (of_root alone o label kind) = absurd (let l = part_later p in let g = node_later v in omega (arith, alone.start))
placed_by {t} {es} {i} {j} {n} {z} are x v p s (of_part {n = m} {part = u} y e q is) =
    let starts : z.start ≡ u.start = s ∙ is.start in
    let one : i ≡ y.start = around_one starts v (node_at are x.parent y e) p q in
    let there : IsPartAt t i m u = rw (sym one) at q in
    let count : m ≡ n = sym (as_many starts p there) in
    let again : IsPartAt t i n u = rw count at there in
    let same : u ≡ z = part_one again p in
    (record { y = y; read = e; n = m; part = u; is = q; says = is; kind_is = ap (λ (o : Part). o.kind) same }, sym one, count, same)

-- where the value of an item ended, so is the entry with that end
pub ended_part : {t : List ℕ} {es : List Entry} {e : ℕ} {kinds : List Kind} {kind : Kind} → AreOfAlone t es → IsItemEnded strict t (after_space t 0) kinds e → IsTop kinds kind
    → (a : ℕ) (x : Entry) → slice_get es a ≡ Some x → x.end ≡ e → IsPlaced t es kind x
ended_part {t} {es} {e} {kinds} {kind} of d last a x r ends =
    let around = open_node of.alone d.item.around in
    let p : IsPartAt t d.item.p d.item.n (part_with d.item.kind d.h d.v d.label e) = record { before = d.item.fit; head = d.head; value = d.value } in
    let there : IsNode t x.start e = rw ends at (node_at of.are a x r) in
    let starts : d.v ≡ x.start = node_end_one (part around.1 p) there in
    let w = placed_by of.are x around.1 p starts (of.are.sound x (read_element es a r)) in
    rw (top kinds d.item.outer d.item.kind kind d.item.kinds_are last) at w.0

-- no value of the text begins from one place to the other
abbrev pub NoneBetween : List ℕ → ℕ → ℕ → Type 0
NoneBetween t p q = (i j : ℕ) → IsNode t i j → p ≤ i → q ≤ i

advance : {t : List ℕ} {es : List Entry} {p q : ℕ} {cells : List Cell} → AreEntries t es → p ≤ q → NoneBetween t p q → AreBegun es p cells → AreBegun es q cells
advance are l none b = record {
  fewer = b.fewer;
  before = λ a x m e. let o = b.before a x m e in omega arith;
  after = λ a x m e. none x.start x.end (node_at are a x e) (b.after a x m e);
  begun = b.begun;
}

-- the word of an item's label
word_at : (t : List ℕ) (kind : Kind) (n h : ℕ) (label : Label) → IsLabelled t kind n h label → word_of label ≡ label_at kind n h
word_at t Array n h label l = rw l refl
word_at t Object n h label (e, b, s, l) = rw l refl

-- ends that are said but for what is around a part are said but for what is around the value, or is it
out : {t : List ℕ} {es : List Entry} {i j n : ℕ} {z : Part} (cells : List Cell) → AreEntries t es → IsNode t i j → IsPartAt t i n z → SayEnds es z.start z.end cells → SayEnds es (i + 1) j cells
out cells are v p ends = λ a x cell e f. elim (ends a x cell e f) [
  | inl (l, g) ↦ inl (around_part v p (node_at are a x e) l g)
  | inr same ↦ inr same
]

-- after a comma the next item is expected
pub separated : {t : List ℕ} {es : List Entry} {e h : ℕ} {cells : List Cell} {item : Item} → AreOfAlone t es → (d : IsValueEnded es e cells item) → IsPlaced t es item.kind d.x → IsSeparated t e h → e ≤ h
    → IsItemNext t es h cells (record { parent = item.parent; kind = item.kind; label = item.label + 1 })
separated {t} {es} {e} {h} {cells} {item} of d w c l =
    let node = node_at of.are d.x.parent w.y w.read in
    let ends : w.part.end ≡ e = sym w.says.end ∙ d.end in
    let fit : ItemsFit strict t w.part.kind w.y.start (w.n + 1) h = next_item w.is.before w.is.head w.is.value (rw ends c.0) (rw ends c.1) refl in
    let word : label_at w.part.kind w.n w.part.item ≡ item.label = sym (word_at t w.part.kind w.n w.part.item d.x.label w.says.label) ∙ d.of.label in
    record {
      y = w.y;
      read = rw d.of.parent at w.read;
      n = w.n + 1;
      fit = rw w.kind_is at fit;
      count = λ array. ap (λ o. o + 1) (rw (w.kind_is ∙ array) at word);
      begun = advance of.are l (λ i j v o. no_gap_next node w.is fit v (omega (arith, ends))) d.begun;
      ends = out cells of.are node w.is (rw (w.says.start, w.says.end) at d.ends);
    }

-- the same cells with one that has another end
reset : {es : List Entry} {p : ℕ} {cells : List Cell} (n end : ℕ) (cell : Cell) → slice_get cells n ≡ Some cell → AreBegun es p cells → AreBegun es p (set cells n (record cell { end = end }))
reset {es} {p} {cells} n end cell f b = record {
  fewer = rw (length-set cells n (record cell { end = end })) b.fewer;
  before = λ a x m e. b.before a x (rw (length-set cells n (record cell { end = end })) at m) e;
  after = λ a x m e. b.after a x (rw (length-set cells n (record cell { end = end })) at m) e;
  begun = λ a x c e g. elim (get_set cells n (record cell { end = end }) a c g) [
    | inl (other, h) ↦ b.begun a x c e h
    | inr (same, z) ↦
        let y = b.begun n x cell (rw same at e) f in
        rw (← z) (record { start = y.start; parent = y.parent; label = y.label })
  ];
}

-- after a closing bracket the value around it ended
pub closed : {t : List ℕ} {es : List Entry} {e j : ℕ} {cells : List Cell} {item : Item} (kind : Kind) (cell : Cell) → AreOfAlone t es → (d : IsValueEnded es e cells item) → IsPlaced t es item.kind d.x
    → IsEnd t item.kind e j → e ≤ j → slice_get cells item.parent ≡ Some cell
    → IsValueEnded es j (set cells item.parent (record cell { end = j })) (record { parent = cell.parent; kind = kind; label = cell.label })
closed {t} {es} {e} {j} {cells} {item} kind cell of d w c l f =
    let node = node_at of.are d.x.parent w.y w.read in
    let ends : w.part.end ≡ e = sym w.says.end ∙ d.end in
    let bracket : byte t (after_space t w.part.end) ≡ closing w.part.kind = rw (ends, w.kind_is) c.0 in
    let whole : w.y.end ≡ j = closes_at node w.is bracket (rw ends c.1) in
    let read : slice_get es item.parent ≡ Some w.y = rw d.of.parent at w.read in
    let says = d.begun.begun item.parent w.y cell read f in
    let wider = out cells of.are node w.is (rw (w.says.start, w.says.end) at d.ends) in
    record {
      number = item.parent;
      x = w.y;
      read = read;
      end = whole;
      of = record { parent = sym says.parent; label = sym says.label };
      begun = reset item.parent j cell f (advance of.are l (λ a b v o. let g = no_gap_end node w.is bracket v (omega (arith, ends)) in omega (arith, whole)) d.begun);
      ends = λ a x y r g. elim (get_set cells item.parent (record cell { end = j }) a y g) [
        | inr (same, z) ↦ inr (let one : x ≡ w.y = (let h : slice_get es item.parent ≡ Some x = rw same at r in cc) in rw (← z, one) (sym whole))
        | inl (other, h) ↦ elim (wider a x y r h) [
          | inr kept ↦ inr kept
          | inl (begins, over) ↦ elim (cases_order x.start w.y.start) [
            | inl same ↦ absurd (other (place_one es of.are.rising a item.parent x w.y r read same))
            | inr (inl less) ↦ inl (less, over)
            | inr (inr more) ↦ absurd (omega arith)
          ]
        ]
      ];
    }

-- one cell more
pushed : {t : List ℕ} {es : List Entry} {cells : List Cell} (x : Entry) (cell : Cell) → AreEntries t es → slice_get es (length cells) ≡ Some x → SaysBeginning x cell → AreBegun es x.start cells
    → AreBegun es (x.start + 1) (cells ++ cell ∷ [])
pushed {es = es} {cells} x cell are r y b =
    let long = length-append cells (cell ∷ []) in
    record {
      fewer = let l = slice_get_within es (length cells) x r in omega (arith, long);
      before = λ a z m e. elim (cases_order a (length cells)) [
        | inl same ↦ (let h : slice_get es (length cells) ≡ Some z = rw same at e in let one : x ≡ z = cc in let s = ap (λ (o : Entry). o.start) one in omega arith)
        | inr (inl less) ↦ (let l = b.before a z less e in omega arith)
        | inr (inr more) ↦ absurd (omega (arith, long))
      ];
      after = λ a z m e. let l = are.rising (length cells) a x z (omega (arith, long)) r e in omega arith;
      begun = λ a z c e g. elim (get_pushed cells cell a c g) [
        | inl h ↦ b.begun a z c e h
        | inr (n, same) ↦ (let h : slice_get es (length cells) ≡ Some z = rw n at e in let one : x ≡ z = cc in rw (← same, ← one) y)
      ];
    }

push_ends : (es : List Entry) (s f : ℕ) (cells : List Cell) (x : Entry) (cell : Cell) → slice_get es (length cells) ≡ Some x → ((x.start < s) × (f ≤ x.end)) ⊎ (cell.end ≡ x.end)
    → SayEnds es s f cells → SayEnds es s f (cells ++ cell ∷ [])
push_ends es s f cells x cell r y ends = λ a z c e g. elim (get_pushed cells cell a c g) [
  | inl h ↦ ends a z c e h
  | inr (n, same) ↦ (let h : slice_get es (length cells) ≡ Some z = rw n at e in let one : x ≡ z = cc in rw (← same, ← one) y)
]

-- the cell of the item's value that is expected at a place
abbrev pub cell_for : ℕ → ℕ → Item → Cell
cell_for start end item = record { start = start; end = end; parent = item.parent; label = item.label }

begins_it : {es : List Entry} {v : ℕ} {cells : List Cell} {item : Item} (end : ℕ) (d : IsValueNext es v cells item) → SaysBeginning d.x (cell_for v end item)
begins_it end d = record { start = sym d.start; parent = sym d.of.parent; label = sym d.of.label }

-- a value without parts was passed
pub passed : {t : List ℕ} {es : List Entry} {v e : ℕ} {cells : List Cell} {item : Item} → AreOfAlone t es → IsValueNext es v cells item → IsValue strict t v e → ¬ IsFilledContainer t v
    → IsValueEnded es e (cells ++ cell_for v e item ∷ []) item
passed {t} {es} {v} {e} {cells} {item} of d value none =
    let node = node_at of.are (length cells) d.x d.read in
    let there : IsValue strict t d.x.start e = rw d.start value in
    let end : d.x.end ≡ e = value_end_one (node_value node) there in
    let empty : ¬ IsFilledContainer t d.x.start = rw d.start none in
    let begun : AreBegun es d.x.start cells = rw d.start d.begun in
    let longer = value-longer there in
    record {
      number = length cells;
      x = d.x;
      read = d.read;
      end = end;
      of = d.of;
      begun = advance of.are (omega arith) (λ i j w o. let g = no_gap_inside node empty w (omega arith) in omega (arith, end)) (pushed d.x (cell_for v e item) of.are d.read (begins_it e d) begun);
      ends = push_ends es d.x.start d.x.end cells d.x (cell_for v e item) d.read (inr (sym end)) d.ends;
    }

-- a container was entered
pub entered : {t : List ℕ} {es : List Entry} {v h : ℕ} {cells : List Cell} {item : Item} (kind : Kind) (end : ℕ) → AreOfAlone t es → IsValueNext es v cells item → ItemsFit strict t kind v 0 h
    → IsItemNext t es h (cells ++ cell_for v end item ∷ []) (record { parent = length cells; kind = kind; label = 0 })
entered {t} {es} {v} {h} {cells} {item} kind end of d fit =
    let node = node_at of.are (length cells) d.x d.read in
    let there : ItemsFit strict t kind d.x.start 0 h = rw d.start fit in
    let begun : AreBegun es d.x.start cells = rw d.start d.begun in
    let later = items-later there in
    record {
      y = d.x;
      read = d.read;
      n = 0;
      fit = there;
      count = λ array. refl;
      begun = advance of.are (omega arith) (λ i j w o. no_gap_first node there w (omega arith)) (pushed d.x (cell_for v end item) of.are d.read (begins_it end d) begun);
      ends = push_ends es (d.x.start + 1) d.x.end cells d.x (cell_for v end item) d.read (inl (omega arith, omega arith)) (λ a x c e f. elim (d.ends a x c e f) [ inl (l, g) ↦ inl (omega arith, g) | inr same ↦ inr same ]);
    }

-- the number of an entry that begins no earlier than the place, but after which no value begins before it
next_number : {t : List ℕ} {es : List Entry} {h v : ℕ} {cells : List Cell} → AreEntries t es → AreBegun es h cells → NoneBetween t h v → h ≤ v → (a : ℕ) (x : Entry) → slice_get es a ≡ Some x → x.start ≡ v
    → a ≡ length cells
next_number {es = es} {cells = cells} are b none l a x e s = elim (cases_order a (length cells)) [
  | inl same ↦ same
  | inr (inl less) ↦ absurd (let o = b.before a x less e in omega arith)
  | inr (inr more) ↦ absurd (
      let w = before_it es (length cells) a x more e in
      let o = are.rising (length cells) a w.0 x more w.1 e in
      let g = none w.0.start w.0.end (node_at are (length cells) w.0 w.1) (b.after (length cells) w.0 (omega arith) w.1) in
      omega arith)
]

-- the label of an item of which so many come before
count_at : (kind : Kind) (h n m : ℕ) → (kind ≡ Array → n ≡ m) → label_at kind n h ≡ label_at kind m h
count_at Array h n m c = c refl
count_at Object h n m c = refl

-- the entry of the root
root_item : {t : List ℕ} (es : List Entry) (x : Entry) {kind : Kind} → x.start ≡ after_space t 0 → AreEntries t es → IsEntry t es x → IsOfItem x (record { parent = 0; kind = kind; label = 0 })
root_item es x s are (of_root alone p l k) = record { parent = p; label = ap word_of l }
root_item es x s are (of_part y e p is) = absurd (let l = part_later p in let g = node_later (node_at are x.parent y e) in let f = is.start in omega arith)

-- what comes before an item's value was passed
pub headed : {t : List ℕ} {es : List Entry} {h v : ℕ} {cells : List Cell} {item : Item} {l : Option (List ℕ)} → AreOfAlone t es → IsItemNext t es h cells item → ItemHead strict t item.kind h v l
    → IsValueNext es v cells (record { parent = item.parent; kind = item.kind; label = label_at item.kind item.label h })
headed {t} {es} {h} {v} {cells} {item} {l} of d y =
    let node = node_at of.are item.parent d.y d.read in
    let (e, is) = part_there node d.fit y in
    let z = part_with item.kind h v l e in
    let x = entry_at of.are (part node is) in
    let none : NoneBetween t h v = λ i j w o. no_gap_head node is w o in
    let later = head-later y in
    let number = next_number of.are d.begun none later x.0 x.1 x.2 x.3 in
    let read : slice_get es (length cells) ≡ Some x.1 = rw number at x.2 in
    let w = placed_by of.are x.1 node is (sym x.3) (of.are.sound x.1 (read_element es x.0 x.2)) in
    let parent : x.1.parent ≡ item.parent = place_one es of.are.rising x.1.parent item.parent w.0.y d.y w.0.read d.read w.1 in
    let label : IsLabelled t item.kind d.n h x.1.label = rw (w.3, w.2) at w.0.says.label in
    let within = part_inside (node_value node) is in
    record {
      x = x.1;
      read = read;
      start = x.3;
      of = record { parent = parent; label = word_at t item.kind d.n h x.1.label label ∙ count_at item.kind h d.n item.label d.count };
      begun = advance of.are later none d.begun;
      ends = λ a z c r g. elim (d.ends a z c r g) [ inl (o, k) ↦ inl (omega (arith, within.0, within.1, x.3), omega (arith, within.3, x.4)) | inr same ↦ inr same ];
    }

-- nothing is written yet
pub started : {t : List ℕ} {es : List Entry} (kind : Kind) → AreOfAlone t es → IsValueNext es (after_space t 0) [] (record { parent = 0; kind = kind; label = 0 })
started {t} {es} kind of =
    let x = entry_at of.are (root of.alone) in
    let zero = root_number of.are x.0 x.1 x.2 (sym x.3) in
    let read : slice_get es 0 ≡ Some x.1 = rw zero at x.2 in
    record {
      x = x.1;
      read = read;
      start = x.3;
      of = root_item es x.1 x.3 of.are (of.are.sound x.1 (read_element es x.0 x.2));
      begun = record {
        fewer = omega arith;
        before = λ a z l e. absurd (omega arith);
        after = λ a z l e. node_later (node_at of.are a z e);
        begun = λ a z c e f. absurd cc;
      };
      ends = λ a z c e f. absurd cc;
    }

-- all is written
pub finished : {t : List ℕ} {es : List Entry} {e : ℕ} {cells : List Cell} {item : Item} → AreOfAlone t es → IsValueEnded es e cells item → IsValue strict t (after_space t 0) e → AreKept es cells
finished {t} {es} {e} {cells} of d value =
    let same : of.end ≡ e = value_end_one of.alone.root value in
    let whole : IsNode t d.x.start e = rw d.end at (node_at of.are d.number d.x d.read) in
    let alone : IsAlone t (after_space t 0) e = rw same at of.alone in
    let begins : d.x.start ≡ after_space t 0 = node_end_one whole (root alone) in
    record {
      count = elim (cases_order (length cells) (length es)) [
        | inl all ↦ all
        | inr (inl less) ↦ absurd (
            let w = slice_get-get_or es (length cells) d.x less in
            let z = get_or es (length cells) d.x in
            let node = node_at of.are (length cells) z w in
            let within = node_within alone node in
            let longer = value-longer (node_value node) in
            let after = d.begun.after (length cells) z (omega arith) w in
            omega arith)
        | inr (inr more) ↦ absurd (let f = d.begun.fewer in omega arith)
      ];
      begun = d.begun.begun;
      ended = λ a x c r g. elim (d.ends a x c r g) [
        | inl (l, o) ↦ absurd (let later = node_later (node_at of.are a x r) in omega arith)
        | inr said ↦ said
      ];
    }
