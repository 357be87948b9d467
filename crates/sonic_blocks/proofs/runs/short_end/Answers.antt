use Rattle.std.proofs.Common.{sym, arith}
use Rattle.sonic_blocks.proofs.RunLemmas.{run_through, run_stops, lane_of_bit}
use Rattle.sonic_blocks.proofs.runs.short_end.Goals as goal

pub returns-then-misses-eq0-clause-none : goal.returns-then-misses-eq0-clause-none
returns-then-misses-eq0-clause-none g c =
    omega (arith, run_through (g.K.ByteKind.test c.args.kind.now) c.args.text.now c.args.place 16 c.misses-misses.result c.requires (omega arith) c.misses-misses.ensures c.if-misses-eq0.true)

pub returns-else-misses-eq0-clause-some : goal.returns-else-misses-eq0-clause-some
returns-else-misses-eq0-clause-some g c =
    sym (run_stops (g.K.ByteKind.test c.args.kind.now) c.args.text.now c.args.place 16 c.misses-misses.result c.requires (omega arith) c.misses-misses.ensures (omega arith) (omega arith))

pub returns-else-misses-eq0-clause-near : goal.returns-else-misses-eq0-clause-near
returns-else-misses-eq0-clause-near g c =
    omega (arith, lane_of_bit (g.K.ByteKind.test c.args.kind.now) c.args.text.now c.args.place 16 c.misses-misses.result c.requires (omega arith) c.misses-misses.ensures (omega arith) (omega arith))
