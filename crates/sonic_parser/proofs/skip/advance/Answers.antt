use Rattle.std.proofs.Common.{◌≡◌, take, arith}
use Rattle.std.proofs.lemmas.Grind.{common_steps}
use Rattle.std.proofs.lemmas.Result.{err_from_is_err_and}
use Rattle.sonic_parser.specs.OpenContainers.{IsTop}
use Rattle.sonic_parser.proofs.SkippingLemmas.{item_complete, fault_item, fault_value}
use Rattle.sonic_parser.proofs.skip.advance.Goals as goal

pub returns-in_err-value-clause-err : goal.returns-in_err-value-clause-err
returns-in_err-value-clause-err c =
    let p = err_from_is_err_and c.from_residual.result c.from_residual.ensures.1 in
    let last : IsTop c.args.opened.now.items c.index.result.now = grind (arith, common_steps) in
    rw (p.1, p.2) (λ root reached. fault_item reached.1 last c.in_err-value.ensures.err)

pub returns-in_err-skipped-clause-err : goal.returns-in_err-skipped-clause-err
returns-in_err-skipped-clause-err c =
    let p = err_from_is_err_and c.from_residual-in_err-skipped.result c.from_residual-in_err-skipped.ensures.1 in
    let last : IsTop c.args.opened.now.items c.index.result.now = grind (arith, common_steps) in
    rw (p.1, p.2) (λ root reached. fault_value reached.1 last c.in_ok-value.ensures.ok c.in_err-skipped.ensures.err)

pub returns-in-Complete-clause-ok : goal.returns-in-Complete-clause-ok
returns-in-Complete-clause-ok c = λ root reached.
    let last : IsTop c.args.opened.now.items c.index.result.now = grind (arith, common_steps) in
    let ended = item_complete reached.1 last c.in_ok-value.ensures.ok (rw c.in-Complete.is at c.in_ok-skipped.ensures.ok) in
    let all : take c.len-in-Complete.result c.deref.result.now ≡ c.args.opened.now.items = grind (arith, common_steps) in
    let cut : take c.leave-extent.result.depth c.deref.result.now ≡ c.truncate.new.self.items = grind (arith, common_steps) in
    rw cut at (c.leave-extent.ensures.reached c.args.lossy root (rw all ended))
