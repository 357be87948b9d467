-- What a cell keeps of an entry.
use Rattle.std.specs.Prelude.{◌≡◌, ℕ, zero, suc, ◌+◌, ◌==◌, List, Some, map, length, get_or, slice_get, if◌then◌else◌}
use Rattle.sonic_text.specs.Places.{byte}
use Rattle.sonic_text.specs.Values.{type_at}
use Rattle.sonic_index.specs.declared.cell.Cell.{Cell}
use Rattle.sonic_index.specs.declared.entry.Entry.{Entry}
use Rattle.sonic_index.specs.declared.entry.Label.{Label}
use Rattle.sonic_index.specs.declared.entry.Label.TheVariants.{Root, Key, At}

-- how many bytes the char of a string at p takes: six after a backslash and a u, two after another backslash
abbrev pub char_length : List ℕ → ℕ → ℕ
char_length t p = if byte t p == 92 then (if byte t (p + 1) == 117 then 6 else 2) else 1

-- the place of the first quote after chars from p on, of n at most
abbrev pub quote_after : List ℕ → ℕ → ℕ → ℕ
quote_after t zero p = p
quote_after t (suc n) p = if byte t p == 34 then p else quote_after t n (p + char_length t p)

-- where the string at a place ends
unfoldable pub end_of_string : List ℕ → ℕ → ℕ
end_of_string t k = quote_after t (length t) (k + 1) + 1

-- how the value of a cell is labelled in the value of another one, its parent: the root is its own
abbrev pub label_of : List ℕ → Cell → Cell → Label
label_of t parent cell =
    if parent.start == cell.start then Root
    else if byte t parent.start == 123 then Key cell.label (end_of_string t cell.label)
    else At cell.label

-- the entry that a cell keeps
abbrev pub entry_of : List ℕ → List Cell → Cell → Entry
entry_of t cells cell = record {
  start = cell.start;
  end = cell.end;
  parent = cell.parent;
  kind = type_at t cell.start;
  label = label_of t (get_or cells cell.parent cell) cell;
}

abbrev pub entries_of : List ℕ → List Cell → List Entry
entries_of t cells = map (entry_of t cells) cells

-- the word that is kept of a label: where the key begins, or the element's number
abbrev pub word_of : Label → ℕ
word_of Root = 0
word_of (Key start end) = start
word_of (At n) = n

-- the cell says what the entry does, but maybe not its end
pub record SaysBeginning (x : Entry) (cell : Cell) : Type 0 where
  pub start : cell.start ≡ x.start
  pub parent : cell.parent ≡ x.parent
  pub label : cell.label ≡ word_of x.label

-- each entry has a cell with its number, which says all of it
pub record AreKept (es : List Entry) (cells : List Cell) : Type 0 where
  pub count : length cells ≡ length es
  pub begun : (a : ℕ) (x : Entry) (cell : Cell) → slice_get es a ≡ Some x → slice_get cells a ≡ Some cell → SaysBeginning x cell
  pub ended : (a : ℕ) (x : Entry) (cell : Cell) → slice_get es a ≡ Some x → slice_get cells a ≡ Some cell → cell.end ≡ x.end
