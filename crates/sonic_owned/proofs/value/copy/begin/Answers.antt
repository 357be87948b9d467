use Rattle.sonic_owned.proofs.CopyLemmas.{array_begun, object_begun}
use Rattle.sonic_owned.proofs.value.copy.begin.Goals as goal

pub returns-in-Array-clause-same : goal.returns-in-Array-clause-same
returns-in-Array-clause-same c =
    array_begun c.args.value.now c.in-Array.level c.in_ok-made-in-Array.made.items c.deref.result.now c.in-Array.is c.in_ok-made-in-Array.ensures.items c.deref.ensures.value

pub returns-in-Object-clause-same : goal.returns-in-Object-clause-same
returns-in-Object-clause-same c =
    object_begun c.args.value.now c.in-Object.level c.in_ok-made-in-Object.made.items c.deref-in-Object.result.now c.in-Object.is c.in_ok-made-in-Object.ensures.items c.deref-in-Object.ensures.value
