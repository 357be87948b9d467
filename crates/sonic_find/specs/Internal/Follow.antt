-- What a walk knows that follows one path.
use Rattle.std.specs.Prelude.{◌≡◌, ◌≢◌, ℕ, Bool, List, ◌∷◌, IsTrue, IsFalse}
use Rattle.sonic_text.specs.declared.stop.Stop.{Stop}
use Rattle.sonic_text.specs.Paths.{Node, Path}
use Rattle.sonic_find.specs.Paths.{Outcome, lacks, kind_of, IsNamed, EvaluatesBy}
use Rattle.sonic_find.specs.DeadEnds.{IsPathStop}
use Rattle.sonic_pointer.specs.declared.rule.KeyRule.{KeyRule}

-- each path that goes on by the node stops so
abbrev pub IsDeadNode : KeyRule → List ℕ → ℕ → Node → Stop → Type 0
IsDeadNode rule t i node s = (rest : Path) → IsPathStop rule t i (node ∷ rest) s

-- each path that goes on by the node lacks its key, in the object whose closing brace is at q
abbrev pub LacksNode : KeyRule → List ℕ → ℕ → Node → ℕ → Type 0
LacksNode rule t i node q = (rest : Path) → EvaluatesBy rule t i (node ∷ rest) (lacks q)

-- the n-th item, which is expected at h, has its value expected at v, and whether the node names it
pub record IsTried (t : List ℕ) (node : Node) (n h v : ℕ) (is : Bool) : Type 0 where
  pub name : Node
  pub item : IsNamed t (kind_of node) n h v name
  pub same : IsTrue is → name ≡ node
  pub other : IsFalse is → name ≢ node

-- what the rest of a path comes to at the place v, the whole path does at i
abbrev pub IsRest : KeyRule → List ℕ → ℕ → Path → ℕ → Path → Type 0
IsRest rule t i path v rest = (o : Outcome) → EvaluatesBy rule t v rest o → EvaluatesBy rule t i path o
