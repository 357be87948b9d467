use Rattle.std.proofs.Common.{arith}
use Rattle.sonic_pointer.specs.Internal.Pieces.{raised}
use Rattle.sonic_pointer.proofs.PiecesLemmas.{raised_more}
use Rattle.sonic_pointer.proofs.pieces.raise.Goals as goal

pub loop-k-preserved : goal.loop-k-preserved
loop-k-preserved c =
    raised_more (raised c.args.by) c.args.pieces.now.items c.loop-k.pieces.items c.args.from c.loop-k.k c.index_mut.result.now (omega arith) (omega arith) c.loop-k.invariant c.index_mut.ensures.value
