use Rattle.std.proofs.Common.{◌/◌, refl, sym, ap, ◌∙◌, subst, length, arith}
use Rattle.std.proofs.lemmas.List.{length-take-le, length-drop}
use Rattle.sonic_pointer.specs.Internal.Pieces.{numbers_of, AreStarts}
use Rattle.sonic_pointer.proofs.PiecesLemmas.{length_at, starts_at, starts_halved, numbers_halved}
use Rattle.sonic_pointer.proofs.pieces.halve.Goals as goal

pub overflow_add-start : goal.overflow_add-start
overflow_add-start c =
    let items = c.in_ok-reserve.ensures.items in
    let piece = c.index_mut-piece in
    let many = ap length items in
    let all = ap (λ l. length (numbers_of l)) items in
    let start = (starts_at c.reserve.new.self.items c.args.k piece.result.now (omega arith) piece.ensures.value 0 (subst (AreStarts 0) (sym items) c.requires.starts)).1.0 in
    let parts = length_at c.reserve.new.self.items c.args.k piece.result.now (omega arith) piece.ensures.value in
    omega arith

pub returns-clause-starts : goal.returns-clause-starts
returns-clause-starts c =
    let items = c.in_ok-reserve.ensures.items in
    let piece = c.index_mut-piece in
    let many = ap length items in
    let half = c.len-half.result / 2 in
    rw c.in_ok-insert.ensures.items (starts_halved c.reserve.new.self.items c.args.k piece.result.now (omega arith) piece.ensures.value half _ _
    (subst (AreStarts 0) (sym items) c.requires.starts) refl refl (ap length c.in_ok-numbers.ensures.items ∙ length-take-le half piece.result.now.numbers.items (omega arith)) (let l = ap length c.in_ok-numbers.ensures.tail ∙ length-drop half piece.result.now.numbers.items in omega arith))

pub returns-clause-same : goal.returns-clause-same
returns-clause-same c =
    let items = c.in_ok-reserve.ensures.items in
    let piece = c.index_mut-piece in
    let many = ap length items in
    ap numbers_of c.in_ok-insert.ensures.items
    ∙ (numbers_halved c.reserve.new.self.items c.args.k piece.result.now (omega arith) piece.ensures.value _ _ _ c.in_ok-numbers.ensures.items c.in_ok-numbers.ensures.tail ∙ ap numbers_of items)
