use Rattle.sonic_find.proofs.each.tell.Goals as goal
use Rattle.std.proofs.Common.{◌∙◌, sym, inl, inr}
use Rattle.sonic_find.proofs.AnswerLemmas.Each.{telling_empty, telling_fails}
use Rattle.sonic_find.specs.Internal.Each.{tells_same}

pub returns-in-GetInEmptyObject : goal.returns-in-GetInEmptyObject
returns-in-GetInEmptyObject g c = rw c.in-Fails.is (telling_empty c.in-Fails.stop c.in-GetInEmptyObject.is)

pub returns-in_default : goal.returns-in_default
returns-in_default g c = rw c.in-Fails.is (telling_fails c.in-Fails.stop c.in_default.not-GetInEmptyObject)

pub returns-in-Found : goal.returns-in-Found
returns-in-Found g c = tells_same (λ s e x. elim c.in-Found.is [
  | inl found ↦ (let clash = sym found.1 ∙ e in absurd cc)
  | inr missing ↦ (let clash = sym missing.1 ∙ e in absurd cc)
])
