-- Where a path leads by first equal keys, in five clauses of its own: what Paths.EvaluatesBy is under the rule First.
use Rattle.std.specs.Prelude.{◌≡◌, ℕ, ◌-◌, List, [], ◌∷◌}
use Rattle.sonic_text.specs.declared.stop.Stop.{Stop}
use Rattle.sonic_text.specs.Strings.{strict}
use Rattle.sonic_text.specs.Paths.{Node, Path}
use Rattle.sonic_text.specs.Values.{IsValue}
use Rattle.sonic_text.specs.Faults.{IsFault}
use Rattle.sonic_find.specs.Paths.{Outcome, found, cut, LeadsOn, nowhere, kind_of}

-- where the path leads from the place i, at which a value is expected
pub data EvaluatesFirst (t : List ℕ) : ℕ → Path → Outcome → Type 0 where
  -- the path is used up, and a value is here
  found_first : {i j : ℕ} → IsValue strict t i j → EvaluatesFirst t i [] (found i j)
  -- the first node leads on, and the rest of the path goes on there
  goes_first : {i v : ℕ} {node : Node} {rest : Path} {o : Outcome} → LeadsOn t i node v → EvaluatesFirst t v rest o → EvaluatesFirst t i (node ∷ rest) o
  -- it doesn't lead on, and the value is whole: that is reported at the value's last byte
  nowhere_first : {i j : ℕ} {node : Node} {rest : Path} {o : Outcome} → IsValue strict t i j → ((v : ℕ) → ¬ LeadsOn t i node v)
      → o ≡ nowhere t i (j - 1) (kind_of node) → EvaluatesFirst t i (node ∷ rest) o
  -- the path is used up, and the value that is expected here has a fault
  cut_first : {i : ℕ} {s : Stop} → IsFault strict t i s → EvaluatesFirst t i [] (cut s)
  -- the value that is expected here has a fault, and before that the first node doesn't lead on
  cut_before_first : {i : ℕ} {node : Node} {rest : Path} {s : Stop} → IsFault strict t i s → ((v : ℕ) → ¬ LeadsOn t i node v)
      → EvaluatesFirst t i (node ∷ rest) (cut s)
