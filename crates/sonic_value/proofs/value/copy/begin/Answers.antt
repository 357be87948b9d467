use Rattle.sonic_value.proofs.CloneLemmas.{array_begun, object_begun, object_less}
use Rattle.sonic_value.proofs.value.copy.begin.Goals as goal

pub returns-in-Array-clause-same : goal.returns-in-Array-clause-same
returns-in-Array-clause-same c =
    array_begun c.args.utf8 c.args.value.now c.in-Array.elements c.new.result.items c.deref.result.now c.in-Array.is c.new.ensures.items c.deref.ensures.value

pub returns-in-Object-clause-same : goal.returns-in-Object-clause-same
returns-in-Object-clause-same c =
    object_begun c.args.utf8 c.args.value.now c.in-Object.members c.new-in-Object.result.items c.deref-in-Object.result.now
    c.in-Object.is c.new-in-Object.ensures.items c.deref-in-Object.ensures.value

pub returns-in-Object-clause-less : goal.returns-in-Object-clause-less
returns-in-Object-clause-less c = object_less c.args.value.now c.in-Object.members c.deref-in-Object.result.now c.in-Object.is c.deref-in-Object.ensures.value
