-- What is known while the outcomes of paths are read off the marks of their prefixes.
use Rattle.std.specs.Prelude.{ℕ, ◌≤◌, ◌∷◌, ◌++◌, Option}
use Rattle.std.specs.Option.{IsSomeAnd}
use Rattle.sonic_text.specs.declared.stop.Stop.{Stop}
use Rattle.sonic_text.specs.Paths.{Node, Path}
use Rattle.sonic_find.specs.Internal.Walk.{Question, Findings, Point, IsPath, IsKnown, LeadsFrom, LeadsAt}
use Rattle.sonic_find.specs.Paths.{fails}

-- a stop at this place or before it is noted
abbrev pub IsNoted : Option Stop → ℕ → Type 0
IsNoted nearest q = IsSomeAnd nearest (λ s. s.place ≤ q)

-- some path with the prefix fails so
pub record IsFailBelow (p : Point) (s : Stop) : Type 0 where
  pub number : ℕ
  pub rest : Path
  pub is : IsPath p number rest
  pub fails_so : LeadsAt p rest (fails s)

-- where the path with the number k leads is known, and where it fails, no stop after that is the nearest
pub record IsCollected (q : Question) (f : Findings) (nearest : Option Stop) (k : ℕ) (path : Path) : Type 0 where
  pub known : IsKnown q f k path
  pub noted : (s : Stop) → LeadsFrom q path (fails s) → IsNoted nearest s.place

-- so it is for each path with the prefix
abbrev pub AllCollected : Point → Findings → Option Stop → Type 0
AllCollected p f nearest = (k : ℕ) (rest : Path) → IsPath p k rest → IsCollected p.asked f nearest k (p.prefix ++ rest)

-- for each that goes on by the node
abbrev pub NodeCollected : Point → Findings → Option Stop → Node → Type 0
NodeCollected p f nearest node = (k : ℕ) (rest : Path) → IsPath p k (node ∷ rest) → IsCollected p.asked f nearest k (p.prefix ++ node ∷ rest)
