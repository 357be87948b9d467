-- Which children of a prefix of the tree were visited.
use Rattle.std.specs.Prelude.{◌≡◌, ℕ, zero, suc, ◌/◌, ◌%◌, ◌==◌, ◌≤◌, List, [], ◌∷◌, Bool, count_by, not, false, replicate}
use Rattle.sonic_find.specs.declared.visited.Flags.{Flags}
use Rattle.sonic_find.specs.declared.visited.Flags.TheVariants.{Few, Many}
use Rattle.sonic_find.specs.declared.visited.Visited.TheInside.{Inside}

-- the first n bits of a word, from the lowest on
abbrev pub bits_of : ℕ → ℕ → List Bool
bits_of zero word = []
bits_of (suc n) word = (word % 2 == 1) ∷ bits_of n (word / 2)

-- whether each of so many children was visited
abbrev pub visits : ℕ → Flags → List Bool
visits count (Few word) = bits_of count word
visits count (Many flags) = flags.items

-- what the fields say of each child
abbrev pub visits_of : Inside → List Bool
visits_of visited = visits visited.count visited.flags

-- a word has a bit for each of so many children
abbrev pub FitsFlags : ℕ → Flags → Type 0
FitsFlags count (Few word) = count ≤ 64
FitsFlags count (Many flags) = Unit {0}

-- so many were not visited
pub record AreVisits (visited : Inside) : Type 0 where
  pub left : visited.left ≡ count_by not (visits_of visited)
  pub fits : FitsFlags visited.count visited.flags

-- none of so many was visited
pub record AreFresh (count : ℕ) (flags : Flags) : Type 0 where
  pub none : visits count flags ≡ replicate count false
  pub fits : FitsFlags count flags
