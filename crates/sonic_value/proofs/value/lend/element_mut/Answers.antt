use Rattle.std.proofs.Common.{refl, rules}
use Rattle.sonic_value.proofs.ItemLemmas.{element_there, element_past, element_lent}
use Rattle.sonic_value.proofs.value.lend.element_mut.Goals as goal

pub returns : goal.returns
returns c = (
  (refl, element_lent c.args.elements.now c.args.i c.get_mut.result c.get_mut.ensures.value, refl),
  record { back = tt; value = search (rules, element_there, element_past) },
)
