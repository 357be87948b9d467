use Rattle.std.proofs.Common.{◌<◌, length, arith, refl}
use Rattle.std.proofs.lemmas.Option.{slice_get_read}
use Rattle.sonic_find.proofs.VisitLemmas.{few_within, few_has}
use Rattle.sonic_find.proofs.visited.Visited.has.Goals as goal

pub overflow_shr-result : goal.overflow_shr-result
overflow_shr-result c = (let few = few_within c.self.view_is c.in-Few.is c.self.invariant.fits c.requires in omega (arith, few))

pub returns-in-Few : goal.returns-in-Few
returns-in-Few c = few_has c.self.view_is c.in-Few.is (few_within c.self.view_is c.in-Few.is c.self.invariant.fits c.requires).0

pub returns-in-Many : goal.returns-in-Many
returns-in-Many c = rw (← c.self.view_is, c.in-Many.is) (let within : c.args.child < length c.in-Many.flags.items = rw (← c.self.view_is, c.in-Many.is) at c.requires in slice_get_read c.in-Many.flags.items _ c.args.child c.index.result.now refl within c.index.ensures)
