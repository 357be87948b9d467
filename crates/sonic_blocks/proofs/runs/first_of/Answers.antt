use Rattle.std.proofs.Common.{ℕ, not, arith}
use Rattle.sonic_blocks.specs.Firsts.{is_one_of}
use Rattle.sonic_blocks.proofs.BoolLemmas.{not_true, not_false}
use Rattle.sonic_blocks.proofs.RunLemmas.{run_passes, run_fails}
use Rattle.sonic_blocks.proofs.runs.first_of.Goals as goal

pub returns-then-end-text : goal.returns-then-end-text
returns-then-end-text c =
    let other = λ (x : ℕ). not (is_one_of c.args.a c.args.b c.args.c x) in
    let run = c.run_end-end.ensures.run in
    record {
      from = omega (arith, run);
      within = omega arith;
      here = not_false _ (run_fails other c.args.text.now c.args.place c.run_end-end.result (omega arith) run (omega arith));
      before = λ k from to. not_true _ (run_passes other c.args.text.now c.args.place k from (omega (arith, run)));
    }

pub returns-else-end-text : goal.returns-else-end-text
returns-else-end-text c k from to = not_true _ (run_passes (λ (x : ℕ). not (is_one_of c.args.a c.args.b c.args.c x)) c.args.text.now c.args.place k from (omega (arith, c.run_end-end.ensures.run)))
