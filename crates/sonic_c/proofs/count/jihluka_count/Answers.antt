use Rattle.std.proofs.Common.{refl}
use Rattle.sonic_c.proofs.BegunLemmas.{refusal_told}
use Rattle.sonic_c.proofs.ContainerLemmas.{count_told}
use Rattle.sonic_c.proofs.count.jihluka_count.Goals as goal
use Rattle.sonic_c.specs.Containers.{count_refused}
use Rattle.sonic_c.specs.Internal.Begun.{misses}

pub returns-in-Err : goal.returns-in-Err
returns-in-Err c = count_refused (refusal_told c.in-Err.refusal (misses c.in-Err.ensures.err) c.refuse.ensures) refl

pub returns : goal.returns
returns c =
    let found = c.count_alone-found.ensures in
    count_told c.in-Ok.ensures.begun c.count_alone-found.result found.ok found.utf8 found.err c.tell_count.ensures
