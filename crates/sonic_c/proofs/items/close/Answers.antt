use Rattle.sonic_c.proofs.items.close.Goals as goal
use Rattle.sonic_c.specs.Internal.Items.{goes_past}

pub returns-in-Err-clause-tells : goal.returns-in-Err-clause-tells
returns-in-Err-clause-tells c = goes_past c.in-Err.stop c.in-Err.ensures.err c.tell_stop.ensures.status c.tell_stop.ensures.numbers
