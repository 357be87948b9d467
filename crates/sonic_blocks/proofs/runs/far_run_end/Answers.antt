use Rattle.std.proofs.Common.{◌∙◌, sym, refl, arith}
use Rattle.sonic_blocks.proofs.RunLemmas.{goes_past}
use Rattle.sonic_blocks.proofs.runs.far_run_end.Goals as goal

pub loop-at-preserved : goal.loop-at-preserved
loop-at-preserved g c =
    let past = goes_past (g.K.ByteKind.test c.args.kind.now) c.args.text.now 64 c.loop-at.at (omega arith) (c.if-all_hold.ensures.0 refl) in
    record { later = omega (arith, c.loop-at.invariant.later); within = omega arith; run = sym past ∙ c.loop-at.invariant.run }
