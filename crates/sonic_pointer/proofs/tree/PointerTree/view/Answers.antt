use Rattle.std.proofs.Common.{subst}
use Rattle.sonic_pointer.specs.Paths.{IsUnmixed}
use Rattle.sonic_pointer.proofs.tree.PointerTree.view.Goals as goal

pub returns-clause-unmixed : goal.returns-clause-unmixed
returns-clause-unmixed c = subst IsUnmixed c.self.view_is c.self.invariant.tree.unmixed
