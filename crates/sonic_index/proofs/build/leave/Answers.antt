use Rattle.std.proofs.Common.{arith}
use Rattle.std.proofs.lemmas.List.{length-set}
use Rattle.std.proofs.lemmas.Result.{err_from_is_err_and}
use Rattle.sonic_parser.specs.declared.container.AfterItem.TheVariants.{Item, End}
use Rattle.sonic_parser.specs.Parts.{IsAfterValue}
use Rattle.sonic_index.proofs.PlaceLemmas.{container_left, item_follows, next_fault, outer_opens, root_left}
use Rattle.sonic_index.proofs.build.leave.Goals as goal

pub returns-in_err-place-clause-err : goal.returns-in_err-place-clause-err
returns-in_err-place-clause-err c =
    let p = err_from_is_err_and c.from_residual.result c.from_residual.ensures.1 in
    let i = c.containers.invariant.ends in
    rw (p.1, p.2) (next_fault c.containers.at c.in_err-place.field-0.0 i.2 i.1 c.in_err-place.ensures.err)

pub returns-in-Item-clause-ok : goal.returns-in-Item-clause-ok
returns-in-Item-clause-ok c =
    let i = c.containers.invariant.ends in
    let a : IsAfterValue c.args.text.now c.containers.at.item.kind c.containers.at.place (Item c.in-Item.place) = rw c.in-Item.is at c.in_ok-place.ensures.ok in
    rw c.next_at.ensures (omega (arith, a.0, c.containers.invariant.later), (i.0, item_follows c.containers.at i.2 i.1 a))

pub returns-then-at-eq0-clause-ok : goal.returns-then-at-eq0-clause-ok
returns-then-at-eq0-clause-ok c =
    let i = c.containers.invariant.ends in
    let e = c.end-cell.ensures.cell in
    let a : IsAfterValue c.args.text.now c.containers.at.item.kind c.containers.at.place (End c.in-End.end) = rw c.in-End.is at c.in_ok-place.ensures.ok in
    (a.1, rw (c.end-cell.ensures.cells, e.2) (root_left c.containers.at e.0 i.2 i.1 a e.1 c.if-at-eq0.true))

pub item_of-requires-clause-parent : goal.item_of-requires-clause-parent
item_of-requires-clause-parent c =
    let i = c.containers.invariant.ends in
    let e = c.end-cell.ensures.cell in
    let o = outer_opens c.containers.at e.0 c.in-End.end i.2 i.1 e.1 c.if-at-eq0.false in
    rw (c.deref.ensures.value, c.end-cell.ensures.cells, e.2) (omega (arith, o.0, i.2.parent, length-set c.containers.written.cells.items c.containers.at.item.parent (record e.0 { end = c.in-End.end })))

pub item_of-requires-clause-opens : goal.item_of-requires-clause-opens
item_of-requires-clause-opens c =
    let i = c.containers.invariant.ends in
    let e = c.end-cell.ensures.cell in
    rw (c.deref.ensures.value, c.end-cell.ensures.cells, e.2) (outer_opens c.containers.at e.0 c.in-End.end i.2 i.1 e.1 c.if-at-eq0.false).1

pub containers-preserved : goal.containers-preserved
containers-preserved c =
    let i = c.containers.invariant.ends in
    let e = c.end-cell.ensures.cell in
    let a : IsAfterValue c.args.text.now c.containers.at.item.kind c.containers.at.place (End c.in-End.end) = rw c.in-End.is at c.in_ok-place.ensures.ok in
    let opens = rw (c.deref.ensures.value, c.end-cell.ensures.cells, e.2) at c.item_of.ensures.kind in
    let left = container_left c.containers.at c.item_of.result.kind e.0 i.2 i.1 a e.1 c.if-at-eq0.false opens in
    record {
      ends = rw (c.item_of.ensures.is, c.end-cell.ensures.cells, e.2) left;
      later = omega (arith, a.0, c.containers.invariant.later);
    }
