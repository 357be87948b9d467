use Rattle.std.proofs.Common.{◌++◌, sym, ap, ◌∙◌, insert, arith}
use Rattle.std.proofs.lemmas.Result.{IfOk-weaker}
use Rattle.std.proofs.lemmas.List.Edits.{insert-append_right}
use Rattle.sonic_pointer.specs.Internal.Pieces.{numbers_of}
use Rattle.sonic_pointer.proofs.pieces.Pieces.insert.Goals as goal

pub returns-clause-ok : goal.returns-clause-ok
returns-clause-ok c =
    let first = c.halve_first.new.first.items in
    let more = numbers_of c.halve_first.new.more.items in
    IfOk-weaker c.put.result _ _ (λ u new. ap (λ l. first ++ l) new
    ∙ (sym (insert-append_right first more c.len-3.result c.args.position c.args.number (omega arith) (omega arith))
    ∙ ap (λ l. insert l c.args.position c.args.number) (c.in_ok-halve_first.ensures.same ∙ c.self.view_is))) c.put.ensures.ok
