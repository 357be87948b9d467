use Rattle.std.proofs.Common.{sym}
use Rattle.sonic_owned.proofs.Folds.{form-node}
use Rattle.sonic_owned.proofs.LeadingLemmas.{value_open}
use Rattle.sonic_owned.proofs.value.OwnedLazyValue.step.Goals as goal
use Rattle.sonic_pointer.specs.Nodes.{node_of}

pub returns-in-None : goal.returns-in-None
returns-in-None c =
    let none = rw (form-node c.args.self.now) at c.in-None.ensures in
    rw (form-node c.args.self.now) (value_open c.args.self.now.node c.in_default.not-Raw (node_of c.args.node) (sym none))
