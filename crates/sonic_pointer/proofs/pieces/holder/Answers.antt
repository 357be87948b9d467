use Rattle.std.proofs.Common.{◌+◌, ◌-◌, ◌/◌, arith}
use Rattle.sonic_pointer.proofs.PiecesLemmas.{start_of}
use Rattle.sonic_pointer.proofs.pieces.holder.Goals as goal

pub loop-low-preserved-then-pieces-middle : goal.loop-low-preserved-then-pieces-middle
loop-low-preserved-then-pieces-middle c =
    let i = c.loop-low.invariant in
    let start = start_of 0 c.args.pieces.now (c.loop-low.low + (c.loop-low.high - c.loop-low.low) / 2) c.index-pieces-middle.result (omega arith) c.requires.starts in
    record { order = omega arith; end = i.end; from = omega arith; to = i.to }

pub loop-low-preserved : goal.loop-low-preserved
loop-low-preserved c =
    let i = c.loop-low.invariant in
    let start = start_of 0 c.args.pieces.now (c.loop-low.low + (c.loop-low.high - c.loop-low.low) / 2) c.index-pieces-middle.result (omega arith) c.requires.starts in
    record { order = omega arith; end = omega arith; from = i.from; to = λ h. omega arith }
