use Rattle.std.proofs.Common.{◌∙◌, arith}
use Rattle.sonic_c.proofs.EntryLemmas.{one_more}
use Rattle.sonic_c.proofs.EachLemmas.{all_outcomes_filled}
use Rattle.sonic_c.specs.Each.{told_outcome}
use Rattle.sonic_c.proofs.kept.tell_from_buffers.Goals as goal

pub loop-i-preserved : goal.loop-i-preserved
loop-i-preserved c = record {
  now = rw (c.loop-i.invariant.now, c.of.ensures)
      (one_more told_outcome c.args.buffers.now c.args.outcomes.now c.loop-i.i c.at.result (omega (arith, c.loop-i-test.true, c.len-i-end.ensures, c.requires)) c.at.ensures);
}

pub returns : goal.returns
returns c = c.loop-i.invariant.now ∙ all_outcomes_filled c.args.buffers.now c.args.outcomes.now c.loop-i.i c.requires (omega (arith, c.loop-i-test.false, c.len-i-end.ensures))
