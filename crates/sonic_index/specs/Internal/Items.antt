-- How the items of a value lie among the entries.
use Rattle.std.specs.Prelude.{◌≡◌, ◌≢◌, ℕ, ◌<◌, ◌≤◌, List, Some, length, slice_get}
use Rattle.sonic_text.specs.Paths.{Node, Path}
use Rattle.sonic_text.specs.Places.{after_space, byte}
use Rattle.sonic_text.specs.Strings.{IsString, strict}
use Rattle.sonic_pointer.specs.declared.rule.KeyRule.TheVariants.{First}
use Rattle.sonic_find.specs.Paths.{name_of, EvaluatesBy, LeadsOn, Outcome}
use Rattle.sonic_index.specs.declared.cell.Cell.{Cell}
use Rattle.sonic_index.specs.declared.entry.Entry.{Entry}
use Rattle.sonic_index.specs.Nodes.{Part, IsPartAt}

-- a string begins at a place
abbrev pub BeginsString : List ℕ → ℕ → Type 0
BeginsString t k = (e : ℕ) × (b : List ℕ) × IsString strict t k e b

-- this key begins at a place
abbrev pub BeginsKey : List ℕ → ℕ → List ℕ → Type 0
BeginsKey t k b = (e : ℕ) × IsString strict t k e b

-- the places where the cells begin rise
abbrev pub AreRising : List Cell → Type 0
AreRising cells = (a b : ℕ) (x y : Cell) → a < b → slice_get cells a ≡ Some x → slice_get cells b ≡ Some y → x.start < y.start

-- the first cell that begins where the one with the number i ends, or later, has a number from low to high, or none does, and high is how many there are
pub record IsBetween (cells : List Cell) (i low high : ℕ) : Type 0 where
  pub cell : Cell
  pub read : slice_get cells i ≡ Some cell
  pub later : i < low
  pub order : low ≤ high
  pub within : high ≤ length cells
  pub inside : (d : ℕ) (x : Cell) → i < d → d < low → slice_get cells d ≡ Some x → x.start < cell.end
  pub after : (d : ℕ) (x : Cell) → high ≤ d → slice_get cells d ≡ Some x → cell.end ≤ x.start

-- the value of the cell with the number i is an array
pub record IsArray (t : List ℕ) (cells : List Cell) (i : ℕ) : Type 0 where
  pub cell : Cell
  pub read : slice_get cells i ≡ Some cell
  pub opens : byte t cell.start ≡ 91

-- the cell with the number c begins inside the one with the number i, after its bracket
pub record IsUnder (cells : List Cell) (i c : ℕ) : Type 0 where
  pub outer : Cell
  pub inner : Cell
  pub read : slice_get cells i ≡ Some outer
  pub found : slice_get cells c ≡ Some inner
  pub later : outer.start < inner.start
  pub within : inner.start < outer.end

-- and the value of a cell is in its own
pub record IsHeld (cells : List Cell) (i c : ℕ) (deep : Cell) : Type 0 where
  pub under : IsUnder cells i c
  pub before : under.inner.start ≤ deep.start
  pub after : deep.end ≤ under.inner.end

-- what begins inside a value is a part of it, or its parent, which has an earlier cell, begins inside and holds it
abbrev pub AreParents : List Cell → Type 0
AreParents cells = (i c : ℕ) (z : IsUnder cells i c) → z.inner.parent ≢ i → IsHeld cells i z.inner.parent z.inner × (z.inner.parent < c)

-- the value of the cell with the number d is in that with the number c, which is a part of the value with the number i
pub record IsItemAround (cells : List Cell) (i d c : ℕ) : Type 0 where
  pub deep : Cell
  pub read : slice_get cells d ≡ Some deep
  pub held : IsHeld cells i c deep
  pub parent : held.under.inner.parent ≡ i
  pub order : c ≤ d

-- if the value at a place has a part after n others, the part's cell has a number from low on, and below high
abbrev pub IsPartLeft : List ℕ → List Cell → ℕ → ℕ → ℕ → ℕ → Type 0
IsPartLeft t cells place n low high = (y : Part) → IsPartAt t place n y → (c : ℕ) × (z : Cell) × (slice_get cells c ≡ Some z) × (z.start ≡ y.start) × (low ≤ c) × (c < high)

-- the node leads on from the value of one cell to that of another
pub record GoesTo (t : List ℕ) (cells : List Cell) (i : ℕ) (node : Node) (c : ℕ) : Type 0 where
  pub from : Cell
  pub to : Cell
  pub read : slice_get cells i ≡ Some from
  pub found : slice_get cells c ≡ Some to
  pub leads : LeadsOn t from.start node to.start

-- it leads on from there to nothing
pub record GoesNowhere (t : List ℕ) (cells : List Cell) (i : ℕ) (node : Node) : Type 0 where
  pub from : Cell
  pub read : slice_get cells i ≡ Some from
  pub none : (v : ℕ) → ¬ LeadsOn t from.start node v

-- c is the number of the entry of the part after n others of the value of x, or none that begins inside x, where it has no such part
pub record IsNextPart (t : List ℕ) (es : List Entry) (x : Entry) (n c : ℕ) : Type 0 where
  pub some : (z : Entry) → slice_get es c ≡ Some z → z.start < x.end → (y : Part) × IsPartAt t x.start n y × (y.start ≡ z.start)
  pub none : ((z : Entry) → slice_get es c ≡ Some z → x.end ≤ z.start) → (y : Part) → ¬ IsPartAt t x.start n y

-- the next part has the number c, if there is one, and the node names none before it
pub record IsSought (t : List ℕ) (es : List Entry) (x : Entry) (node : Node) (c : ℕ) : Type 0 where
  pub n : ℕ
  pub unnamed : (m : ℕ) (y : Part) → m < n → IsPartAt t x.start m y → name_of m y.label ≢ node
  pub next : IsNextPart t es x n c

-- a path leads from the root to the value of the cell with the number c, and goes on there by the rest
pub record IsReachedBy (t : List ℕ) (cells : List Cell) (path rest : Path) (c : ℕ) : Type 0 where
  pub cell : Cell
  pub read : slice_get cells c ≡ Some cell
  pub goes_on : (o : Outcome) → EvaluatesBy First t cell.start rest o → EvaluatesBy First t (after_space t 0) path o
