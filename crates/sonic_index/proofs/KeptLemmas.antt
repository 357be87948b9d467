-- Cells that keep the entries of a text are read as these.
use Rattle.std.proofs.Common.{◌≡◌, ◌≢◌, ◌∙◌, sym, ap, subst, ℕ, List, length, get_or, arith, refl}
use Rattle.std.proofs.lemmas.List.{length-map}
use Rattle.std.proofs.lemmas.Option.{get_or_from_slice_get, slice_get-get_or, slice_get_within}
use Rattle.std.specs.Prelude.{Some, slice_get}
use Rattle.sonic_text.specs.declared.kind.Kind.{Kind}
use Rattle.sonic_text.specs.declared.kind.Kind.TheVariants.{Array, Object}
use Rattle.sonic_text.specs.Places.{byte}
use Rattle.sonic_text.specs.Values.{opening, type_at}
use Rattle.sonic_text.proofs.Values.{items_open}
use Rattle.sonic_index.specs.declared.cell.Cell.{Cell}
use Rattle.sonic_index.specs.declared.entry.Entry.{Entry}
use Rattle.sonic_index.specs.declared.entry.Label.{Label}
use Rattle.sonic_index.specs.declared.entry.Label.TheVariants.{At}
use Rattle.sonic_index.specs.Entries.{IsLabelled, IsEntry, of_root, of_part, AreEntries}
use Rattle.sonic_index.specs.Internal.Cells.{AreKept, entries_of, entry_of, label_of, word_of}
use Rattle.sonic_index.proofs.ListingLemmas.{index_one}
use Rattle.sonic_index.specs.Internal.Walks.{AreOfAlone}
use Rattle.sonic_find.specs.Documents.{IsAlone, IsValidDocument}
use Rattle.sonic_index.proofs.CellLemmas.{label_element, label_member, label_root, read_entry, root_number, string_end_is}
use Rattle.sonic_index.proofs.EntryLemmas.{fields_one, kind_is, lists_one, part_later, read_element}

-- the label of an item, by its parent's bracket
label_is : (t : List ℕ) (kind : Kind) (n h : ℕ) (parent cell : Cell) (label : Label) → parent.start ≢ cell.start → byte t parent.start ≡ opening kind → IsLabelled t kind n h label
    → cell.label ≡ word_of label → label_of t parent cell ≡ label
label_is t Array n h parent cell label other b l w =
    let word : cell.label ≡ n = w ∙ ap word_of l in
    label_element t parent cell other (λ e. omega (arith, b, e)) ∙ ap At word ∙ sym l
label_is t Object n h parent cell label other b (e, k, s, l) w =
    let word : cell.label ≡ h = w ∙ ap word_of l in
    label_member t parent cell other b ∙ rw (word, string_end_is s, l) refl

-- a list of the same length has an element too
there : {A B : Type 0} (xs : List A) (ys : List B) (a : ℕ) (x : A) (y : B) → length xs ≡ length ys → slice_get xs a ≡ Some x → slice_get ys a ≡ Some (get_or ys a y)
there xs ys a x y l e = let w = slice_get_within xs a x e in slice_get-get_or ys a y (omega arith)

-- a cell is labelled as its entry
labels_one : {t : List ℕ} {es : List Entry} {cells : List Cell} → AreEntries t es → AreKept es cells → (a : ℕ) (x : Entry) (cell : Cell) → slice_get es a ≡ Some x → slice_get cells a ≡ Some cell
    → IsEntry t es x → label_of t (get_or cells cell.parent cell) cell ≡ x.label
labels_one {t} {es} {cells} are kept a x cell e f (of_root alone p label kind) =
    let begun = kept.begun a x cell e f in
    let zero = root_number are a x e alone.start in
    let own = subst (λ k. slice_get cells k ≡ Some cell) (zero ∙ sym p ∙ sym begun.parent) f in
    let parent = get_or_from_slice_get cells cell.parent cell cell own in
    label_root t (get_or cells cell.parent cell) cell (ap (λ (c : Cell). c.start) parent) ∙ sym label
labels_one {t} {es} {cells} are kept a x cell e f (of_part {n} {part} y g p is) =
    let begun = kept.begun a x cell e f in
    let parent = get_or cells cell.parent cell in
    let read : slice_get cells x.parent ≡ Some parent = subst (λ k. slice_get cells x.parent ≡ Some (get_or cells k cell)) (sym begun.parent) (there es cells x.parent y cell (sym kept.count) g) in
    let around = kept.begun x.parent y parent g read in
    let later = part_later p in
    let starts = is.start in
    let bracket : byte t parent.start ≡ opening part.kind = rw around.start (items_open p.before) in
    label_is t part.kind n part.item parent cell x.label (λ same. omega (arith, around.start, begun.start)) bracket is.label begun.label

-- so it is the entry
entry_one : {t : List ℕ} {es : List Entry} {cells : List Cell} → AreEntries t es → AreKept es cells → (a : ℕ) (x : Entry) (cell : Cell) → slice_get es a ≡ Some x → slice_get cells a ≡ Some cell
    → entry_of t cells cell ≡ x
entry_one {t} {es} {cells} are kept a x cell e f =
    let begun = kept.begun a x cell e f in
    let sound = are.sound x (read_element es a e) in
    fields_one (entry_of t cells cell) x begun.start (kept.ended a x cell e f) begun.parent (ap (type_at t) begun.start ∙ sym (kind_is es x sound)) (labels_one are kept a x cell e f sound)

pub entries_are : (t : List ℕ) (es : List Entry) (cells : List Cell) → AreEntries t es → AreKept es cells → entries_of t cells ≡ es
entries_are t es cells are kept = lists_one (entries_of t cells) es
    (λ a z e.
    let count = length-map cells (entry_of t cells) in
    let w = slice_get_within (entries_of t cells) a z e in
    let x = slice_get-get_or es a z (omega (arith, kept.count)) in
    let cell = there es cells a (get_or es a z) (record { start = 0; end = 0; parent = 0; label = 0 }) (sym kept.count) x in
    let one = entry_one are kept a (get_or es a z) _ x cell in
    let read = read_entry t cells a cell in
    x ∙ sym (ap Some one) ∙ sym read ∙ e)
    (λ a z e.
    let cell = there es cells a z (record { start = 0; end = 0; parent = 0; label = 0 }) (sym kept.count) e in
    read_entry t cells a cell ∙ ap Some (entry_one are kept a z _ e cell))

-- of a document they are the entries of its values
pub document_kept : (t : List ℕ) (cells : List Cell) → IsValidDocument t → ((es : List Entry) → AreOfAlone t es → AreKept es cells) → AreEntries t (entries_of t cells)
document_kept t cells valid kept =
    let (es, are) = (index_one t valid).some in
    let alone : IsAlone t _ _ = record { start = refl; root = valid.alone.root; end = valid.alone.place } in
    rw (entries_are t es cells are (kept es (record { end = valid.alone.end; alone = alone; are = are }))) are
