use Rattle.sonic_owned.proofs.UnwrittenLemmas.{up_to_end}
use Rattle.sonic_owned.proofs.value.show.OwnedLazyValueDisplay.fmt.Goals as goal

pub returns-in-Some-clause-writes : goal.returns-in-Some-clause-writes
returns-in-Some-clause-writes g c = λ p ok.
    let x = rw c.in-Some.is at c.in_ok-left.ensures.text p in
    up_to_end x (c.show_left.ensures x.has.plain ok)
