use Rattle.std.proofs.Common.{rules, refl, sym, ◌∙◌}
use Rattle.sonic_owned.proofs.Folds.{elements-roll, elements-out}
use Rattle.sonic_owned.proofs.Lists.{elements-at, elements-past, elements-set}
use Rattle.sonic_owned.proofs.value.LazyArray.at_mut.Goals as goal

pub returns : goal.returns
returns c = (
  (refl, λ w. rw (elements-roll, elements-out c.args.self.now) (search (rules, elements-set)), elements-roll _ ∙ sym (elements-out c.args.self.now)),
  record { back = tt; value = rw (elements-out c.args.self.now) (search (rules, elements-at, elements-past)) },
)
