use Rattle.std.proofs.Common.{refl}
use Rattle.sonic_c.proofs.begun.expect.Goals as goal
use Rattle.sonic_c.specs.Internal.Begun.{begins_other}

pub returns-then-not-has-clause-err : goal.returns-then-not-has-clause-err
returns-then-not-has-clause-err c = begins_other c.in_ok-start.kind c.in_ok-start.ensures.kind (c.has.ensures.no c.if-not-has.true) refl
