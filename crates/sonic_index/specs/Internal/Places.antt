-- Where a walk through a text has come to, with its cells as its only stack.
use Rattle.std.specs.Prelude.{◌≡◌, ℕ, ◌+◌, ◌<◌, ◌≤◌, List, [], ◌∷◌, ◌++◌, Some, length, slice_get}
use Rattle.sonic_text.specs.declared.kind.Kind.{Kind}
use Rattle.sonic_text.specs.Places.{after_space, byte}
use Rattle.sonic_text.specs.Strings.{strict}
use Rattle.sonic_text.specs.Values.{opening, IsValue}
use Rattle.sonic_parser.specs.declared.parts.ValueAt.{ValueAt}
use Rattle.sonic_parser.specs.declared.parts.ValueAt.TheVariants.{Ends, Opens}
use Rattle.sonic_parser.specs.OpenContainers.{IsItemExpected, IsOpen, IsTop}
use Rattle.sonic_index.specs.declared.build.At.{At}
use Rattle.sonic_index.specs.declared.build.Item.{Item as ItemOf}
use Rattle.sonic_index.specs.declared.build.Left.{Left}
use Rattle.sonic_index.specs.declared.build.Left.TheVariants.{Item, Root}
use Rattle.sonic_index.specs.declared.cell.Cell.{Cell}
use Rattle.sonic_index.specs.declared.entry.Entry.{Entry}
use Rattle.sonic_index.specs.Internal.Walks.{label_at, AreBounded, AreOfAlone, AreWritten, IsItemNext, IsValueEnded, IsValueNext}

-- the first item of the container with this number
abbrev pub first_item_of : ℕ → Kind → ItemOf
first_item_of number kind = record { parent = number; kind = kind; label = 0 }

-- the item that is expected at a place, with its label
abbrev pub labelled_at : ItemOf → ℕ → ItemOf
labelled_at item place = record item { label = label_at item.kind item.label place }

-- the item after it
abbrev pub item_after : ItemOf → ItemOf
item_after item = record { parent = item.parent; kind = item.kind; label = item.label + 1 }

-- a container begins at a place
abbrev pub OpensSome : List ℕ → ℕ → Type 0
OpensSome t i = (kind : Kind) × (byte t i ≡ opening kind)

-- the containers that are open have these kinds, the outermost first, and the innermost has this number; each begins where its cell says
pub data AreAround (t : List ℕ) (cells : List Cell) : ℕ → List Kind → Type 0 where
  outermost : {n : ℕ} {kinds : List Kind} (kind : Kind) (cell : Cell) → slice_get cells n ≡ Some cell → byte t cell.start ≡ opening kind → n ≡ 0 → kinds ≡ kind ∷ [] → AreAround t cells n kinds
  inside : {n : ℕ} {kinds outer : List Kind} (kind : Kind) (cell : Cell) → slice_get cells n ≡ Some cell → byte t cell.start ≡ opening kind → cell.parent < n → AreAround t cells cell.parent outer
      → kinds ≡ outer ++ kind ∷ [] → AreAround t cells n kinds

-- with containers of these kinds open the walk has come to an item
pub record ExpectsItemAt (t : List ℕ) (cells : List Cell) (kinds : List Kind) (at : At) : Type 0 where
  pub around : AreAround t cells at.item.parent kinds
  pub top : IsTop kinds at.item.kind
  pub within : at.place ≤ length t
  pub expected : IsItemExpected strict t (after_space t 0) kinds at.place
  pub bounded : AreBounded at.place cells
  pub parent : at.item.parent < length cells
  pub label : at.item.label ≤ at.place
  pub next : (es : List Entry) → AreOfAlone t es → IsItemNext t es at.place cells at.item

-- or to a value, which is that of the root where no container is open
pub record ExpectsValueAt (t : List ℕ) (cells : List Cell) (kinds : List Kind) (at : At) : Type 0 where
  pub around : 0 < length kinds → AreAround t cells at.item.parent kinds
  pub top : 0 < length kinds → IsTop kinds at.item.kind
  pub first : length kinds ≡ 0 → cells ≡ []
  pub within : at.place ≤ length t
  pub expected : IsOpen strict t (after_space t 0) at.place kinds
  pub bounded : AreBounded at.place cells
  pub parent : at.item.parent ≤ length cells
  pub label : at.item.label ≤ at.place
  pub next : (es : List Entry) → AreOfAlone t es → IsValueNext es at.place cells at.item

-- or to the end of the value that begins at a place
pub record EndsValueAt (t : List ℕ) (cells : List Cell) (kinds : List Kind) (at : At) : Type 0 where
  pub around : 0 < length kinds → AreAround t cells at.item.parent kinds
  pub top : 0 < length kinds → IsTop kinds at.item.kind
  pub within : at.place ≤ length t
  pub begun : ℕ
  pub expected : IsOpen strict t (after_space t 0) begun kinds
  pub value : IsValue strict t begun at.place
  pub bounded : AreBounded at.place cells
  pub parent : at.item.parent < length cells
  pub label : at.item.label ≤ at.place
  pub next : (es : List Entry) → AreOfAlone t es → IsValueEnded es at.place cells at.item

-- so it has, with some containers open
abbrev pub HasItemAt : List ℕ → List Cell → At → Type 0
HasItemAt t cells at = (kinds : List Kind) × ExpectsItemAt t cells kinds at

abbrev pub HasValueAt : List ℕ → List Cell → At → Type 0
HasValueAt t cells at = (kinds : List Kind) × (0 < length kinds) × ExpectsValueAt t cells kinds at

abbrev pub HasEndAt : List ℕ → List Cell → At → Type 0
HasEndAt t cells at = (kinds : List Kind) × (0 < length kinds) × EndsValueAt t cells kinds at

-- the value that was expected was written: it ended, or is a container that is open now
abbrev pub IsValueWritten : List ℕ → List Cell → List Cell → At → ValueAt → Type 0
IsValueWritten t before now at (Ends e) = (at.place < e) × ((kinds : List Kind) → ExpectsValueAt t before kinds at → EndsValueAt t now kinds (record at { place = e }))
IsValueWritten t before now at (Opens kind h) = (at.place < h) × (length now ≡ length before + 1) × HasItemAt t now (record { item = first_item_of (length before) kind; place = h })

-- after the value another item is expected, or the root ended, and all is written
abbrev pub ComesNext : List ℕ → List Cell → ℕ → Left → Type 0
ComesNext t cells p (Item next) = (p < next.place) × HasItemAt t cells next
ComesNext t cells p (Root e) = (e ≤ length t) × AreWritten t e cells
