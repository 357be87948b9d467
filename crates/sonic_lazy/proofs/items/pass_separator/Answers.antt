use Rattle.sonic_lazy.proofs.ItemLemmas.{after_goes_on, reach_next, closed_next, stopped_next}
use Rattle.sonic_lazy.proofs.items.pass_separator.Goals as goal

pub returns-in-Ok-clause-item : goal.returns-in-Ok-clause-item
returns-in-Ok-clause-item c = λ e. reach_next c.requires.after c.requires.some (c.in-Ok.ensures.item e)

pub returns-in-Ok-clause-closed : goal.returns-in-Ok-clause-closed
returns-in-Ok-clause-closed c = λ e. closed_next c.requires.after c.requires.some (c.in-Ok.ensures.end e)

pub returns-in-Err-clause-err : goal.returns-in-Err-clause-err
returns-in-Err-clause-err c = rw c.code_after_item-code.ensures (stopped_next c.requires.after c.requires.some c.in-Err.ensures.err)

pub next_item-requires : goal.next_item-requires
next_item-requires c = λ e. after_goes_on c.requires.after c.requires.some (c.requires.whole e)
