use Rattle.std.proofs.lemmas.Result.{err_from_is_err_and}
use Rattle.sonic_parser.proofs.FaultLemmas.{stop_weaker}
use Rattle.sonic_value.proofs.Folds.{tree_object}
use Rattle.sonic_value.proofs.OpenLemmas.{kept_replaced}
use Rattle.sonic_value.proofs.PassedLemmas.{object_read, object_starts, replaced_read, replaced_stopped}
use Rattle.sonic_value.proofs.fill.begin.Goals as goal
use Rattle.sonic_value.specs.Internal.Fillers.{items_of}

pub returns-in_err-read_value-clause-err : goal.returns-in_err-read_value-clause-err
returns-in_err-read_value-clause-err c =
    let p = err_from_is_err_and c.from_residual.result c.from_residual.ensures.1 in
    let source = c.args.reader.now.source in
    let replaced = c.fillable.ensures.none c.in_default.is in
    rw (p.1, p.2) (stop_weaker c.in_err-read_value.field-0.0 (λ s f. replaced_stopped source c.args.depth_left s f (λ w e. kept_replaced source.is_utf8 w replaced e)) c.in_err-read_value.ensures.err)

pub returns-in_default-clause-ok : goal.returns-in_default-clause-ok
returns-in_default-clause-ok c =
    let source = c.args.reader.now.source in
    let replaced = c.fillable.ensures.none c.in_default.is in
    replaced_read source c.args.depth_left c.in_ok-read_value.ensures.ok (λ w e. kept_replaced source.is_utf8 w replaced e)

pub returns-then-enter-clause-ok : goal.returns-then-enter-clause-ok
returns-then-enter-clause-ok c =
    let object = c.in-Some.ensures.some in
    let xs = items_of c.in-Some.members.items in
    let reader = c.args.reader.now in
    let passed = object_starts reader.source c.args.depth_left xs reader.place object.has c.enter.result c.in-Some.ensures.object c.enter.ensures.item c.enter.ensures.empty in
    record { xs = xs; object = object; read = rw c.if-enter.true at passed }

pub returns-clause-ok : goal.returns-clause-ok
returns-clause-ok c =
    let object = c.in-Some.ensures.some in
    let xs = items_of c.in-Some.members.items in
    let reader = c.args.reader.now in
    let passed = object_starts reader.source c.args.depth_left xs reader.place object.has c.enter.result c.in-Some.ensures.object c.enter.ensures.item c.enter.ensures.empty in
    rw (object.is, tree_object c.in-Some.members) (object_read reader.source c.args.depth_left (rw c.if-enter.false at passed))
