use Rattle.std.proofs.Common.{◌∙◌, sym, arith}
use Rattle.sonic_blocks.proofs.RunLemmas.{goes_past}
use Rattle.sonic_blocks.proofs.runs.run_end.Goals as goal

pub returns-in-Some-clause-run : goal.returns-in-Some-clause-run
returns-in-Some-clause-run g c = c.in-Some.ensures.some ∙ c.loop-at.invariant.run

pub returns-in-Some-clause-within : goal.returns-in-Some-clause-within
returns-in-Some-clause-within g c = omega (arith, c.in-Some.ensures.near)

pub loop-at-preserved : goal.loop-at-preserved
loop-at-preserved g c =
    let past = goes_past (g.K.ByteKind.test c.args.kind.now) c.args.text.now 16 c.loop-at.at (omega arith) c.in_default.ensures.none in
    record { later = omega (arith, c.loop-at.invariant.later); within = omega arith; run = sym past ∙ c.loop-at.invariant.run }
