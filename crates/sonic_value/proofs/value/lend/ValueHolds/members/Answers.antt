use Rattle.std.proofs.Common.{refl}
use Rattle.sonic_value.proofs.HeldLemmas.{object_lent, object_some, object_none}
use Rattle.sonic_value.proofs.value.lend.ValueHolds.members.Goals as goal

pub returns : goal.returns
returns c =
    let v = c.args.self.now in
    let o = c.as_object_mut.result in
    let held = c.as_object_mut.ensures.value in
    ((refl, object_lent v o held, refl), record { back = tt; some = object_some v o held; none = object_none v o held })
