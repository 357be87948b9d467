use Rattle.std.proofs.Common.{refl}
use Rattle.sonic_value.proofs.HeldLemmas.{array_lent, array_some, array_none}
use Rattle.sonic_value.proofs.value.lend.ValueHolds.elements.Goals as goal

pub returns : goal.returns
returns c =
    let v = c.args.self.now in
    let o = c.as_array_mut.result in
    let held = c.as_array_mut.ensures.value in
    ((refl, array_lent v o held, refl), record { back = tt; some = array_some v o held; none = array_none v o held })
