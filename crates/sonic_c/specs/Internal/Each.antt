-- What private calls tell each path.
use Rattle.std.specs.Prelude.{◌≡◌, ℕ, true, List, map}
use Rattle.sonic_find.specs.Outcomes.{EachAnswer, IsEachAnswerBy}
use Rattle.sonic_find.specs.declared.outcome.PathOutcome.{PathOutcome}
use Rattle.sonic_find.specs.declared.span.Span.{Span as Slot}
use Rattle.sonic_c.specs.Each.{told_outcome}
use Rattle.sonic_c.specs.Kept.{PathList}
use Rattle.sonic_c.specs.declared.outcome.Outcome.{Outcome}

-- the outcomes say where each path of a list leads
pub record TellsEach (t : List ℕ) (list : PathList) (outcomes : List Outcome) : Type 0 where
  pub told : List (PathOutcome Slot)
  pub answer : IsEachAnswerBy list.rule t true list.paths (EachAnswer.outcomes told)
  pub shown : outcomes ≡ map told_outcome told
