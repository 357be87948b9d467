use Rattle.std.proofs.Common.{refl}
use Rattle.sonic_c.proofs.BegunLemmas.{refusal_told}
use Rattle.sonic_c.proofs.number.jihluka_u64.Goals as goal
use Rattle.sonic_c.specs.Values.{integer_told, no_integer, number_refused}

pub returns-in-Err : goal.returns-in-Err
returns-in-Err c = number_refused (refusal_told c.in-Err.refusal c.in-Err.ensures.err c.refuse.ensures) refl

pub returns-in-Some : goal.returns-in-Some
returns-in-Some c = integer_told c.in-Ok.number.now c.in-Ok.ensures.ok c.in-Some.ensures.0 refl (rw c.in-Some.ensures.1 refl)

pub returns-in-None : goal.returns-in-None
returns-in-None c = no_integer c.in-Ok.number.now c.in-Ok.ensures.ok c.in-None.ensures refl refl
