-- The members of wide objects, and the order that they are kept in.
use Rattle.std.specs.Prelude.{◌≡◌, ◌⊎◌, ℕ, ◌+◌, ◌<◌, ◌≤◌, List, All, Contains, Some, length, map, slice_get}
use Rattle.std.specs.Cmp.Lexicographic.{slice_cmp}
use Rattle.std.specs.List.Sorted.{IsSortedBy}
use Rattle.std.specs.Ordering.{is_lt, nat_cmp, ordering_then}
use Rattle.std.specs.declared.cmp.Ordering.{Ordering}
use Rattle.std.specs.declared.cmp.Ordering.TheVariants.{Less}
use Rattle.sonic_text.specs.Places.{byte}
use Rattle.sonic_text.specs.Strings.{IsString, strict}
use Rattle.sonic_index.specs.declared.cell.Cell.{Cell}
use Rattle.sonic_index.specs.declared.members.Unescaped.{Unescaped}
use denote.Ref.{Bor}

-- more than 64 cells lie within the value of the cell with the number i, at any depth
pub record IsWide (cells : List Cell) (i : ℕ) : Type 0 where
  pub cell : Cell
  pub last : Cell
  pub read : slice_get cells i ≡ Some cell
  pub within : slice_get cells (i + 65) ≡ Some last
  pub starts : last.start < cell.end

-- the cell with the number n is that of a member of the object of the cell with the number p, and its key denotes b
pub record IsMember (t : List ℕ) (cells : List Cell) (p n : ℕ) (b : List ℕ) : Type 0 where
  pub object : Cell
  pub cell : Cell
  pub read : slice_get cells p ≡ Some object
  pub found : slice_get cells n ≡ Some cell
  pub opens : byte t object.start ≡ 123
  pub parent : cell.parent ≡ p
  pub later : p < n
  pub end : ℕ
  pub key : IsString strict t cell.label end b

-- each cell has a parent, and where that is an object before it, it has a key
pub record AreLinked (t : List ℕ) (cells : List Cell) : Type 0 where
  pub parents : (n : ℕ) (cell : Cell) → slice_get cells n ≡ Some cell → cell.parent < length cells
  pub keys : (n : ℕ) (cell object : Cell) → slice_get cells n ≡ Some cell → slice_get cells cell.parent ≡ Some object → cell.parent < n → byte t object.start ≡ 123
      → (b : List ℕ) × IsMember t cells cell.parent n b

-- a member as it is sorted: the number of its object, the bytes of its key, and its own number
abbrev pub Named : Type 0
Named = ℕ × Bor (List ℕ) × ℕ

-- by object, then by key, and then by number
abbrev pub compare_named : Named → Named → Ordering
compare_named x y = ordering_then (ordering_then (nat_cmp x.0 y.0) (slice_cmp nat_cmp x.1.now y.1.now)) (nat_cmp x.2 y.2)

-- it is a member of a wide object
pub record IsNamedMember (t : List ℕ) (cells : List Cell) (x : Named) : Type 0 where
  pub wide : IsWide cells x.0
  pub member : IsMember t cells x.0 x.2 x.1.now

-- the same of one whose key has an escape
pub record IsUnescapedMember (t : List ℕ) (cells : List Cell) (x : Unescaped) : Type 0 where
  pub object : ℕ
  pub wide : IsWide cells object
  pub member : IsMember t cells object x.number x.key.items

-- a member with this number is among them
abbrev pub HasNumber : List Named → List Unescaped → ℕ → Type 0
HasNumber plain escaped n = ((x : Named) × Contains plain x × (x.2 ≡ n)) ⊎ ((x : Unescaped) × Contains escaped x × (x.number ≡ n))

-- these are the members of wide objects, of those with the first so many numbers
pub record AreCollected (t : List ℕ) (cells : List Cell) (count : ℕ) (plain : List Named) (escaped : List Unescaped) : Type 0 where
  pub named : All (IsNamedMember t cells) plain
  pub unescaped : All (IsUnescapedMember t cells) escaped
  pub all : (p n : ℕ) (b : List ℕ) → n < count → IsWide cells p → IsMember t cells p n b → HasNumber plain escaped n

-- these are the numbers of all members of wide objects, in order
pub record AreOrdered (t : List ℕ) (cells : List Cell) (numbers : List ℕ) : Type 0 where
  pub members : List Named
  pub are : numbers ≡ map (λ m. m.2) members
  pub named : All (IsNamedMember t cells) members
  pub all : (p n : ℕ) (b : List ℕ) → IsWide cells p → IsMember t cells p n b → (x : Named) × Contains members x × (x.2 ≡ n)
  pub sorted : IsSortedBy (λ x y. is_lt (compare_named x y)) members

-- how a member of the object p by the key b compares with those of the object i by the key q
abbrev pub compare_key_of : ℕ → List ℕ → ℕ → List ℕ → Ordering
compare_key_of p b i q = ordering_then (nat_cmp p i) (slice_cmp nat_cmp b q)

-- the members before this place of the order come before those of the object i by the key q, and no other does
pub record IsPlaceFor (members : List Named) (i : ℕ) (q : List ℕ) (low high : ℕ) : Type 0 where
  pub order : low ≤ high
  pub within : high ≤ length members
  pub before : (k : ℕ) (x : Named) → k < low → slice_get members k ≡ Some x → compare_key_of x.0 x.1.now i q ≡ Less
  pub from : (k : ℕ) (x : Named) → high ≤ k → slice_get members k ≡ Some x → ¬ (compare_key_of x.0 x.1.now i q ≡ Less)

-- c is the first member of the object i by the key q
pub record IsFirstMember (t : List ℕ) (cells : List Cell) (i : ℕ) (q : List ℕ) (c : ℕ) : Type 0 where
  pub member : IsMember t cells i c q
  pub first : (n : ℕ) → IsMember t cells i n q → c ≤ n

-- it is the member whose key has an escape
pub record IsOf (cells : List Cell) (u : Unescaped) (x : Named) : Type 0 where
  pub cell : Cell
  pub read : slice_get cells u.number ≡ Some cell
  pub object : x.0 ≡ cell.parent
  pub key : x.1.now ≡ u.key.items
  pub number : x.2 ≡ u.number

-- the members whose keys have escapes were added to the others
pub record AreJoined (cells : List Cell) (escaped : List Unescaped) (before now : List Named) : Type 0 where
  pub kept : (x : Named) → Contains before x → Contains now x
  pub added : (u : Unescaped) → Contains escaped u → (x : Named) × Contains now x × (x.2 ≡ u.number)
  pub sound : (x : Named) → Contains now x → Contains before x ⊎ ((u : Unescaped) × Contains escaped u × IsOf cells u x)
