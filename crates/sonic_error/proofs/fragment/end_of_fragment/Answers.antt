use Rattle.std.proofs.Common.{sym, ◌∙◌, arith}
use Rattle.sonic_error.proofs.PlaceLemmas.{end_step, end_here}
use Rattle.sonic_error.proofs.fragment.end_of_fragment.Goals as goal

pub loop-end-preserved : goal.loop-end-preserved
loop-end-preserved c =
    let continues = sym c.continues.ensures ∙ c.if-continues.true in
    let near = c.if-end-offset-le16.true in
    let step = end_step c.args.json.now c.args.offset c.loop-end.end c.loop-end-test.true near continues in
    record {
      search = step ∙ c.loop-end.invariant.search;
      after = omega arith;
      from = omega arith;
      near = omega arith;
      inside = omega arith;
    }

pub returns-else-continues-clause-end : goal.returns-else-continues-clause-end
returns-else-continues-clause-end c =
    let stops = sym c.continues.ensures ∙ c.if-continues.false in
    sym (end_here c.args.json.now c.args.offset c.loop-end.end c.loop-end-test.true stops) ∙ c.loop-end.invariant.search
