use Rattle.sonic_find.proofs.outcome.finds_null.Goals as goal
use Rattle.std.proofs.Common.{refl}
use Rattle.sonic_find.specs.Absence.{below_null}

pub returns-in-Null : goal.returns-in-Null
returns-in-Null c = (λ e. rw (c.in-Mismatch.is, c.in-Null.is) below_null, λ h. refl)
