use Rattle.std.proofs.Common.{◌-◌, ◌+◌, ◌++◌, [], sym, ap, refl, ◌∙◌, subst, length, arith}
use Rattle.std.proofs.lemmas.List.{length-append}
use Rattle.sonic_pointer.specs.Internal.Pieces.{numbers_of, IsHolder, IsWindow}
use Rattle.sonic_pointer.specs.declared.pieces.Window.{Window}
use Rattle.sonic_pointer.proofs.PiecesLemmas.{from_start, before_end, is_window}
use Rattle.sonic_pointer.proofs.pieces.Pieces.window_at.Goals as goal

pub returns-then-i-first-clause-window : goal.returns-then-i-first-clause-window
returns-then-i-first-clause-window c =
    record { before = []; after = numbers_of c.self.inside.more.items; is = sym c.self.view_is ∙ ap (λ l. l ++ numbers_of c.self.inside.more.items) (sym c.as_slice-first.ensures); start = refl }

pub overflow_add-result : goal.overflow_add-result
overflow_add-result c =
    let here = subst (λ l. IsHolder l (c.args.i - length c.as_slice-first.result.now) c.holder.result) c.deref.ensures.value c.holder.ensures in
    let from = from_start c.self.inside.more.items c.holder.result _ here.inside c.index-piece.ensures _ c.self.invariant.starts here in
    omega arith

pub returns-clause-window : goal.returns-clause-window
returns-clause-window c =
    let here = subst (λ l. IsHolder l (c.args.i - length c.as_slice-first.result.now) c.holder.result) c.deref.ensures.value c.holder.ensures in
    let first = ap length c.as_slice-first.ensures in
    let window : Window = record { start = length c.as_slice-first.result.now + c.index-piece.result.now.start; numbers = c.as_slice.result } in
    subst (λ l. IsWindow l window) c.self.view_is
    (is_window c.self.inside.more.items c.holder.result c.index-piece.result.now here.inside c.index-piece.ensures c.self.inside.first.items window c.as_slice.ensures.value (omega arith) c.self.invariant.starts)

pub returns-clause-here : goal.returns-clause-here
returns-clause-here c =
    let here = subst (λ l. IsHolder l (c.args.i - length c.as_slice-first.result.now) c.holder.result) c.deref.ensures.value c.holder.ensures in
    let from = from_start c.self.inside.more.items c.holder.result _ here.inside c.index-piece.ensures _ c.self.invariant.starts here in
    let first = ap length c.as_slice-first.ensures in
    let all = length-append c.self.inside.first.items (numbers_of c.self.inside.more.items) in
    let view = ap length c.self.view_is in
    let end = before_end c.self.inside.more.items c.holder.result _ here.inside c.index-piece.ensures _ c.self.invariant.starts here (omega arith) in
    record { from = omega arith; to = omega arith }
