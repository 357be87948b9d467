use Rattle.std.proofs.Common.{refl}
use Rattle.std.proofs.lemmas.Result.{err_from_is_err_and}
use Rattle.sonic_lazy.proofs.ItemLemmas.{err_weaker, stopped_within}
use Rattle.sonic_lazy.proofs.iteration.find_next.Goals as goal
use Rattle.sonic_lazy.specs.Items.{at_stop}
use Rattle.sonic_parser.proofs.FaultLemmas.{stop_weaker}

pub returns-in_err-look-clause-err : goal.returns-in_err-look-clause-err
returns-in_err-look-clause-err c =
    let p = err_from_is_err_and c.from_residual.result c.from_residual.ensures.1 in
    let broken = rw c.text.ensures at c.in_err-look.ensures.err in
    rw (p.1, p.2) (broken c.args.kind)

pub returns-clause-err : goal.returns-clause-err
returns-clause-err c =
    let utf8 = rw c.text.ensures at c.in_ok-look.ensures.ok in
    err_weaker c.find_item.result (λ e h. stop_weaker e (λ s f. at_stop utf8 f refl) h) c.find_item.ensures.err

pub returns-clause-within : goal.returns-clause-within
returns-clause-within c = err_weaker c.find_item.result (λ e h. stop_weaker e (λ s f. stopped_within f) h) c.find_item.ensures.err
