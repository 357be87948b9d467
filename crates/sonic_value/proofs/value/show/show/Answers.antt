use Rattle.sonic_owned.proofs.UnwrittenLemmas.{up_to_end}
use Rattle.sonic_value.proofs.value.show.show.Goals as goal

pub returns-in-Some : goal.returns-in-Some
returns-in-Some g c = λ p ok.
    let x = rw c.in-Some.is at c.in_ok-level.ensures.text p in
    up_to_end x (c.show_level.ensures x.has.plain ok)
