use Rattle.std.proofs.Common.{Bor, ◌≡◌, ◌∙◌, ◌<◌, ap, List, ℕ, length, arith}
use Rattle.std.specs.Prelude.{Some, None, slice_range}
use Rattle.sonic_parser.specs.Descents.{IsHeadPassed}
use Rattle.sonic_patch.proofs.WalkLemmas.{IsKeyOf, key_begins, key_bounds, rooted, headed, head_later}
use Rattle.sonic_patch.proofs.walk.pass_key.Goals as goal

pub returns-then-depth-eq0-clause-ok : goal.returns-then-depth-eq0-clause-ok
returns-then-depth-eq0-clause-ok c = λ s rest x. (None, tt, rooted (omega (arith, c.if-depth-eq0.true, c.depth.ensures)) x)

pub returns-in-None-clause-ok : goal.returns-in-None-clause-ok
returns-in-None-clause-ok c = λ s rest x.
    let some : 0 < length c.args.walk.now.opened = omega (arith, c.if-depth-eq0.false, c.depth.ensures) in
    let passed : IsHeadPassed c.kind.result c.args.walk.now c.head.new.self None = rw c.in-None.is at c.in_ok-head.ensures.ok in
    headed c.kind.result None None s some c.kind.ensures c.head.ensures.moved passed tt x

pub returns-in-Some-clause-ok : goal.returns-in-Some-clause-ok
returns-in-Some-clause-ok c = λ s rest x.
    let some : 0 < length c.args.walk.now.opened = omega (arith, c.if-depth-eq0.false, c.depth.ensures) in
    let passed : IsHeadPassed c.kind.result c.args.walk.now c.head.new.self (Some c.in-Some.key) = rw c.in-Some.is at c.in_ok-head.ensures.ok in
    let text : c.text.result.now ≡ c.args.walk.now.text = c.text.ensures ∙ ap (λ w. w.text) c.head.ensures.moved in
    let part : Bor (List ℕ) = record { ref_ptr = c.text.result.ref_ptr; now = slice_range c.text.result.now c.in-Some.key.start c.in-Some.key.end } in
    let cut : IsKeyOf c.args.walk.now.text c.args.walk.now.place (Some c.in-Some.key) (Some part) =
    ap (λ (t : List ℕ). slice_range t c.in-Some.key.start c.in-Some.key.end) text
    ∙ ap (λ (p : ℕ). slice_range c.args.walk.now.text p c.in-Some.key.end) (key_begins _ _ c.kind.result c.in-Some.key passed) in
    headed c.kind.result (Some c.in-Some.key) (Some part) s some c.kind.ensures c.head.ensures.moved passed cut x

pub returns-in-Some-clause-later : goal.returns-in-Some-clause-later
returns-in-Some-clause-later c = head_later _ _ c.kind.result c.in_ok-head.field-0 c.in_ok-head.ensures.ok

pub slice_bounds-result-count : goal.slice_bounds-result-count
slice_bounds-result-count c =
    let passed : IsHeadPassed c.kind.result c.args.walk.now c.head.new.self (Some c.in-Some.key) = rw c.in-Some.is at c.in_ok-head.ensures.ok in
    let bounds = key_bounds _ _ c.kind.result c.in-Some.key passed in
    omega (arith, key_begins _ _ c.kind.result c.in-Some.key passed, bounds.0)

pub slice_bounds-result-start : goal.slice_bounds-result-start
slice_bounds-result-start c =
    let passed : IsHeadPassed c.kind.result c.args.walk.now c.head.new.self (Some c.in-Some.key) = rw c.in-Some.is at c.in_ok-head.ensures.ok in
    let bounds = key_bounds _ _ c.kind.result c.in-Some.key passed in
    omega (arith, key_begins _ _ c.kind.result c.in-Some.key passed, bounds.0)

pub slice_bounds-result-end : goal.slice_bounds-result-end
slice_bounds-result-end c =
    let passed : IsHeadPassed c.kind.result c.args.walk.now c.head.new.self (Some c.in-Some.key) = rw c.in-Some.is at c.in_ok-head.ensures.ok in
    let bounds = key_bounds _ _ c.kind.result c.in-Some.key passed in
    let text : c.text.result.now ≡ c.args.walk.now.text = c.text.ensures ∙ ap (λ w. w.text) c.head.ensures.moved in
    omega (arith, ap length text, bounds.1)
