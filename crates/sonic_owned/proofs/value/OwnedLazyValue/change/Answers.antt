use Rattle.std.proofs.Common.{refl}
use Rattle.sonic_owned.specs.Edits.{is_set, is_taken}
use Rattle.sonic_owned.specs.Internal.Changed.{change_made}
use Rattle.sonic_owned.proofs.value.OwnedLazyValue.change.Goals as goal

pub returns-in-Set : goal.returns-in-Set
returns-in-Set c = rw c.in-Set.is (change_made (is_set refl))

pub returns-in-Take : goal.returns-in-Take
returns-in-Take c = rw c.in-Take.is (change_made (is_taken c.take.ensures.left))
