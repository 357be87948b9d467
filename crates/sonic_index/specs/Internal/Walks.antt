-- What a walk through a text has written of its entries.
use Rattle.std.specs.Prelude.{◌≡◌, ◌⊎◌, ℕ, ◌+◌, ◌<◌, ◌≤◌, List, Some, length, slice_get}
use Rattle.sonic_text.specs.declared.kind.Kind.{Kind}
use Rattle.sonic_text.specs.declared.kind.Kind.TheVariants.{Array, Object}
use Rattle.sonic_text.specs.Places.{after_space}
use Rattle.sonic_text.specs.Strings.{strict}
use Rattle.sonic_text.specs.Values.{IsValue, ItemsFit}
use Rattle.sonic_find.specs.Documents.{IsAlone}
use Rattle.sonic_index.specs.declared.build.Item.{Item}
use Rattle.sonic_index.specs.declared.cell.Cell.{Cell}
use Rattle.sonic_index.specs.declared.entry.Entry.{Entry}
use Rattle.sonic_index.specs.Entries.{AreEntries}
use Rattle.sonic_index.specs.Internal.Cells.{SaysBeginning, AreKept, word_of}

-- the text is one value alone, and these are the entries of all its values
pub record AreOfAlone (t : List ℕ) (es : List Entry) : Type 0 where
  pub end : ℕ
  pub alone : IsAlone t (after_space t 0) end
  pub are : AreEntries t es

-- these are the cells of the entries that begin before the place
pub record AreBegun (es : List Entry) (place : ℕ) (cells : List Cell) : Type 0 where
  pub fewer : length cells ≤ length es
  pub before : (a : ℕ) (x : Entry) → a < length cells → slice_get es a ≡ Some x → x.start < place
  pub after : (a : ℕ) (x : Entry) → length cells ≤ a → slice_get es a ≡ Some x → place ≤ x.start
  pub begun : (a : ℕ) (x : Entry) (cell : Cell) → slice_get es a ≡ Some x → slice_get cells a ≡ Some cell → SaysBeginning x cell

-- and they say the ends, but of entries that begin before this start and end at this end or later
abbrev pub SayEnds : List Entry → ℕ → ℕ → List Cell → Type 0
SayEnds es start end cells = (a : ℕ) (x : Entry) (cell : Cell) → slice_get es a ≡ Some x → slice_get cells a ≡ Some cell
    → ((x.start < start) × (end ≤ x.end)) ⊎ (cell.end ≡ x.end)

-- the entry is that of an item with this parent and label
pub record IsOfItem (x : Entry) (item : Item) : Type 0 where
  pub parent : x.parent ≡ item.parent
  pub label : word_of x.label ≡ item.label

-- the item's value is expected at the place, and has the next entry
pub record IsValueNext (es : List Entry) (place : ℕ) (cells : List Cell) (item : Item) : Type 0 where
  pub x : Entry
  pub read : slice_get es (length cells) ≡ Some x
  pub start : x.start ≡ place
  pub of : IsOfItem x item
  pub begun : AreBegun es place cells
  pub ends : SayEnds es x.start x.end cells

-- the item's value ended at the place
pub record IsValueEnded (es : List Entry) (place : ℕ) (cells : List Cell) (item : Item) : Type 0 where
  pub number : ℕ
  pub x : Entry
  pub read : slice_get es number ≡ Some x
  pub end : x.end ≡ place
  pub of : IsOfItem x item
  pub begun : AreBegun es place cells
  pub ends : SayEnds es x.start x.end cells

-- the item is expected at the place; an element's label says how many come before it
pub record IsItemNext (t : List ℕ) (es : List Entry) (place : ℕ) (cells : List Cell) (item : Item) : Type 0 where
  pub y : Entry
  pub read : slice_get es item.parent ≡ Some y
  pub n : ℕ
  pub fit : ItemsFit strict t item.kind y.start n place
  pub count : item.kind ≡ Array → n ≡ item.label
  pub begun : AreBegun es place cells
  pub ends : SayEnds es (y.start + 1) y.end cells

-- there are no more cells than bytes before the place, each parent is one of them, and no label is more than the place
pub record AreBounded (place : ℕ) (cells : List Cell) : Type 0 where
  pub fewer : length cells ≤ place
  pub parents : (a : ℕ) (cell : Cell) → slice_get cells a ≡ Some cell → cell.parent < length cells
  pub labels : (a : ℕ) (cell : Cell) → slice_get cells a ≡ Some cell → cell.label ≤ place

-- the root was passed and ends at e, and the cells are those of all entries
pub record AreWritten (t : List ℕ) (e : ℕ) (cells : List Cell) : Type 0 where
  pub root : IsValue strict t (after_space t 0) e
  pub kept : (es : List Entry) → AreOfAlone t es → AreKept es cells

-- the label of the item of this kind that is expected at a place after so many others
abbrev pub label_at : Kind → ℕ → ℕ → ℕ
label_at Array count place = count
label_at Object count place = place
