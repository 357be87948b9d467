use Rattle.std.proofs.Common.{rules}
use Rattle.sonic_owned.proofs.Folds.{elements-out}
use Rattle.sonic_owned.proofs.Lists.{elements-at, elements-past}
use Rattle.sonic_owned.proofs.value.LazyArray.at.Goals as goal

pub returns : goal.returns
returns c = rw (elements-out c.args.self.now) (search (rules, elements-at, elements-past))
