use Rattle.sonic_find.proofs.outcome.lacks.Goals as goal
use Rattle.std.proofs.Common.{inl, inr, refl}
use Rattle.sonic_find.specs.Absence.{in_an_empty_array, past_the_end}

pub returns-in-GetInEmptyArray : goal.returns-in-GetInEmptyArray
returns-in-GetInEmptyArray c = (λ e. (elim c.in-GetInEmptyArray.is [ inl is ↦ rw is in_an_empty_array | inr is ↦ rw is past_the_end ]), λ h. refl)
