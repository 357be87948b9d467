use Rattle.std.proofs.Common.{Ok, Err, Result, OnErr, ◌+◌, ◌^◌, ◌<◌, All, refl, sym, subst, drop, arith}
use Rattle.std.proofs.lemmas.List.{drop-set-lt}
use Rattle.sonic_pointer.specs.declared.pieces.Piece.{Piece}
use Rattle.sonic_pointer.proofs.PiecesLemmas.{length_at, starts_at, from_start, to_end, starts_replaced, numbers_replaced, starts_put, numbers_put, starts_fit}
use Rattle.sonic_pointer.proofs.pieces.put_at.Goals as goal

pub overflow_sub-position : goal.overflow_sub-position
overflow_sub-position c =
    let r = c.requires in
    from_start c.args.pieces.now.items c.args.k _ r.here.inside c.index_mut-piece.ensures.value c.args.position r.starts r.here

pub insert-requires : goal.insert-requires
insert-requires c =
    let r = c.requires in
    let end = to_end c.args.pieces.now.items c.args.k _ r.here.inside c.index_mut-piece.ensures.value c.args.position r.starts r.here r.inside in
    omega arith

pub returns-in_err-insert-clause-starts : goal.returns-in_err-insert-clause-starts
returns-in_err-insert-clause-starts c =
    starts_replaced c.args.pieces.now.items c.args.k _ c.requires.here.inside c.index_mut-piece.ensures.value _ c.in_err-insert.ensures.items c.requires.starts refl

on_err : {T E P : Type 0} (r : Result T E) → P → OnErr r P
on_err (Ok x) h = tt
on_err (Err e) h = h

pub returns-in_err-insert-clause-err : goal.returns-in_err-insert-clause-err
returns-in_err-insert-clause-err c =
    on_err c.from_residual.result (numbers_replaced c.args.pieces.now.items c.args.k _ c.requires.here.inside c.index_mut-piece.ensures.value _ c.in_err-insert.ensures.items)

pub raise-requires-clause-fits : goal.raise-requires-clause-fits
raise-requires-clause-fits c =
    let pieces = c.args.pieces.now.items in
    let k = c.args.k in
    let piece = c.index_mut-piece in
    let r = c.requires in
    let parts = length_at pieces k piece.result.now r.here.inside piece.ensures.value in
    subst (All (λ (p : Piece). p.start + 1 < 2 ^ 64)) (sym (drop-set-lt (k + 1) pieces k _ (omega arith)))
    (starts_fit _ 1 (drop (k + 1) pieces) (starts_at pieces k piece.result.now r.here.inside piece.ensures.value 0 r.starts).1.1 (omega arith))

pub returns-clause-starts : goal.returns-clause-starts
returns-clause-starts c =
    let r = c.requires in
    rw c.raise.ensures (starts_put c.args.pieces.now.items c.args.k _ r.here.inside c.index_mut-piece.ensures.value c.args.position c.args.number _ r.starts r.here r.inside c.in_ok-insert.ensures.items refl)

pub returns-clause-ok : goal.returns-clause-ok
returns-clause-ok c =
    let r = c.requires in
    rw c.raise.ensures (numbers_put c.args.pieces.now.items c.args.k _ r.here.inside c.index_mut-piece.ensures.value c.args.position c.args.number _ r.starts r.here r.inside c.in_ok-insert.ensures.items)
