use Rattle.sonic_find.proofs.path.try_item.Goals as goal
use Rattle.std.proofs.Common.{arith, ap}
use Rattle.std.proofs.lemmas.Result.{err_from_is_err_and}
use Rattle.sonic_find.proofs.GetLemmas.{key_tried, index_tried}
use Rattle.sonic_find.specs.Paths.{kind_of}
use Rattle.sonic_pointer.specs.Nodes.{node_of}
use Rattle.sonic_text.proofs.Values.{key-longer}

pub returns-in_err-key-in-Key-clause-err : goal.returns-in_err-key-in-Key-clause-err
returns-in_err-key-in-Key-clause-err c =
    let p = err_from_is_err_and c.from_residual.result c.from_residual.ensures.1 in
    rw (p.1, p.2) (ap (λ x. kind_of (node_of x)) c.in-Key.is, c.in_err-key-in-Key.ensures.err)

pub returns-in_ok-key-in-Key-clause-item : goal.returns-in_ok-key-in-Key-clause-item
returns-in_ok-key-in-Key-clause-item c =
    let x = c.in_ok-key-in-Key.ensures.ok in
    let test = rw (c.text.ensures, c.in_ok-key-in-Key.ensures.moved, x.start) at c.same_key.ensures in
    key_tried c.same_key.result (ap node_of c.in-Key.is) x.string x.key test

pub returns-in_ok-key-in-Key-clause-later : goal.returns-in_ok-key-in-Key-clause-later
returns-in_ok-key-in-Key-clause-later c = omega (arith, key-longer c.in_ok-key-in-Key.ensures.ok.key)

pub returns-in-Index-clause-item : goal.returns-in-Index-clause-item
returns-in-Index-clause-item c = index_tried (ap node_of c.in-Index.is)
