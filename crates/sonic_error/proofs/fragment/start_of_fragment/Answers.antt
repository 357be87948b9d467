use Rattle.std.proofs.Common.{sym, ◌∙◌, arith}
use Rattle.sonic_error.proofs.PlaceLemmas.{start_step}
use Rattle.sonic_error.proofs.fragment.start_of_fragment.Goals as goal

pub loop-start-preserved : goal.loop-start-preserved
loop-start-preserved c =
    let continues = sym c.continues.ensures ∙ c.if-continues.true in
    let near = c.if-offset-start-le16.true in
    let step = start_step c.args.json.now c.args.offset c.loop-start.start c.loop-start-test.true near continues in
    record { search = step ∙ c.loop-start.invariant.search; before = omega arith; near = omega arith }
