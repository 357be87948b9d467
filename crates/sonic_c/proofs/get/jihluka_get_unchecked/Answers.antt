use Rattle.sonic_c.proofs.ToldLemmas.{sure_call_told, bad_line_told}
use Rattle.sonic_c.proofs.get.jihluka_get_unchecked.Goals as goal

pub returns-in_default-line : goal.returns-in_default-line
returns-in_default-line c = bad_line_told (c.in-Ok.ensures.none c.in_default-line.is)

pub returns-in-Ok-nodes : goal.returns-in-Ok-nodes
returns-in-Ok-nodes c =
    let says = rw c.in-Some.is at c.in-Ok.ensures.some in
    sure_call_told says c.find_unchecked-found.result (rw (c.deref.ensures.value, c.in-Ok-nodes.ensures) at c.find_unchecked-found.ensures) c.tell_found.ensures
