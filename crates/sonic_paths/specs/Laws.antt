-- The law of heads.
use Rattle.std.specs.Prelude.{◌≡◌, ℕ, List}
use Rattle.sonic_paths.specs.declared.lines.Head.{Head}
use Rattle.sonic_paths.specs.Lines.{SaysPaths}

-- the head of the input says the paths of its lines, or which line is the first that is bad, and nothing else
pub record SaysOneListOfPaths (input : List ℕ) : Type 0 where
  pub head : Head
  pub says : SaysPaths input head
  pub only : (other : Head) → SaysPaths input other → other ≡ head
