use Rattle.std.proofs.Common.{rules, ◌∙◌}
use Rattle.sonic_io.proofs.OutsideLemmas.{on_err, took_first, took_more}
use Rattle.sonic_io.proofs.writing.write_all.Goals as goal

pub loop-done-preserved : goal.loop-done-preserved
loop-done-preserved g c = record {
  within = search rules;
  taken = took_more _ _ _ _ _ _ c.loop-done.invariant.taken c.in_ok-count.ensures.taken;
  calm = search rules;
}

pub returns-in_err-count-clause-prefix : goal.returns-in_err-count-clause-prefix
returns-in_err-count-clause-prefix g c = on_err c.from_residual.result _ (took_first _ _ _ c.loop-done.done (c.in_err-count.ensures.kept ∙ c.loop-done.invariant.taken))
