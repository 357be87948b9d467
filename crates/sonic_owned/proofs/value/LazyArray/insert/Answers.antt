use Rattle.std.proofs.Common.{ap, ◌∙◌}
use Rattle.sonic_owned.proofs.Folds.{elements_of, elements-roll, elements-out}
use Rattle.sonic_owned.proofs.Lists.{elements-insert}
use Rattle.sonic_owned.specs.declared.value.LazyArray.{out-LazyArray}
use Rattle.sonic_owned.proofs.value.LazyArray.insert.Goals as goal

pub returns-in-Ok-clause-ok : goal.returns-in-Ok-clause-ok
returns-in-Ok-clause-ok c =
    let items = (out-LazyArray c.args.self.now).elements.items in
    let more = rw c.in-Ok.is at c.insert.ensures.items in
    rw (elements-roll, elements-out c.args.self.now) (ap elements_of more ∙ elements-insert items c.args.i c.args.value)
