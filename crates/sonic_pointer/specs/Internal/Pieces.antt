-- What numbers in pieces denote.
use Rattle.std.specs.Prelude.{◌≡◌, ℕ, ◌+◌, ◌^◌, ◌<◌, ◌≤◌, List, [], ◌∷◌, ◌++◌, length, take}
use Rattle.std.specs.List.{flat_map}
use Rattle.sonic_pointer.specs.declared.pieces.Piece.{Piece}
use Rattle.sonic_pointer.specs.declared.pieces.Window.{Window}
use Rattle.sonic_pointer.specs.declared.pieces.Pieces.TheInside.{Inside}

-- the numbers of pieces, one piece after the other
abbrev pub numbers_of : List Piece → List ℕ
numbers_of pieces = flat_map (λ (p : Piece). p.numbers.items) pieces

-- all numbers, those of the first piece before the others
abbrev pub all_numbers : Inside → List ℕ
all_numbers pieces = pieces.first.items ++ numbers_of pieces.more.items

-- each piece starts where the one before it ends, the first at this number
abbrev pub AreStarts : ℕ → List Piece → Type 0
AreStarts start [] = Unit {0}
AreStarts start (p ∷ ps) = (p.start ≡ start) × AreStarts (start + length p.numbers.items) ps

-- the piece, with so many numbers more before it
abbrev pub raised : ℕ → Piece → Piece
raised by piece = record piece { start = piece.start + by }

-- the piece with this number is the last that starts at or before the position
pub record IsHolder (pieces : List Piece) (position k : ℕ) : Type 0 where
  pub inside : k < length pieces
  pub from : length (numbers_of (take k pieces)) ≤ position
  pub to : k + 1 < length pieces → position < length (numbers_of (take (k + 1) pieces))

-- the starts are right, and the length is a number
pub record ArePieces (pieces : Inside) : Type 0 where
  pub starts : AreStarts 0 pieces.more.items
  pub fits : length (all_numbers pieces) < 2 ^ 64

-- the numbers of the window stand in the list, from its start on
pub record IsWindow (list : List ℕ) (window : Window) : Type 0 where
  pub before : List ℕ
  pub after : List ℕ
  pub is : list ≡ before ++ (window.numbers.now ++ after)
  pub start : length before ≡ window.start

-- the number at this position of the list is in the window
pub record IsInWindow (window : Window) (i : ℕ) : Type 0 where
  pub from : window.start ≤ i
  pub to : i < window.start + length window.numbers.now
