use Rattle.sonic_owned.proofs.ValueLemmas.{value_sound}
use Rattle.sonic_patch.proofs.StepLemmas.{comes_first, operation_made, operation_refused, operations_made}
use Rattle.sonic_patch.proofs.patching.make_all.Goals as goal

pub operations-init : goal.operations-init
operations-init c = comes_first

pub operations-preserved : goal.operations-preserved
operations-preserved c = operation_made c.args.operations.now c.operations.op c.index-operations-op.result c.operations-test.true c.index-operations-op.is c.operations.invariant
    (value_sound c.operations.value) c.in-Ok.ensures.made

pub returns-in-Err-clause-refused : goal.returns-in-Err-clause-refused
returns-in-Err-clause-refused c = rw c.error_of.ensures (operation_refused c.args.operations.now c.operations.op c.index-operations-op.result c.operations-test.true c.index-operations-op.is
    c.operations.invariant (value_sound c.args.value.now) c.in-Err.refusal c.in-Err.ensures.unmade)

pub returns-clause-made : goal.returns-clause-made
returns-clause-made c = operations_made c.args.operations.now c.operations.op c.operations-test.false c.operations.invariant
