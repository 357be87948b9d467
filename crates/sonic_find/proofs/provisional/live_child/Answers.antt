use Rattle.sonic_find.proofs.provisional.live_child.Goals as goal
use Rattle.std.proofs.Common.{◌≡◌, ◌-◌, ◌∙◌, sym, ap, refl, arith}
use Rattle.sonic_error.specs.declared.code.ErrorCode.TheVariants.{DuplicateKey}
use Rattle.sonic_find.proofs.MarkLemmas.Collect.{not_true, not_false, empty_dead, old_lacks, old_dead, twice_dead}
use Rattle.sonic_find.proofs.MarkLemmas.Kept.{number_within}
use Rattle.sonic_find.specs.Internal.Marks.{IsMarkOf, IsLive}
use Rattle.sonic_find.specs.Internal.View.{marking_at}
use Rattle.sonic_text.proofs.Values.{value-longer}
use Rattle.sonic_text.specs.Places.{byte}

pub overflow_sub-place : goal.overflow_sub-place
overflow_sub-place c = omega (arith, value-longer c.requires.whole.value)

pub returns-then-not-mark-clause-fails : goal.returns-then-not-mark-clause-fails
returns-then-not-mark-clause-fails c = λ s e.
    let first = c.byte_at.ensures.value ∙ ap (λ t. byte t c.args.mark.value.start) c.text.ensures in
    let inside = rw (first, c.kind_of_node-kind.ensures) at c.code_of_no_items-code.ensures.empty in
    let outside = rw (first, c.kind_of_node-kind.ensures) at c.code_of_no_items-code.ensures.other in
    let same : record { place = c.args.mark.value.end - 1; code = c.code_of_no_items-code.result } ≡ s = cc in
    rw same at (empty_dead c.requires.says c.requires.whole (not_true c.args.mark.has_items c.if-not-mark.true) inside outside refl)

pub mark-child-requires : goal.mark-child-requires
mark-child-requires c = number_within c.number.result c.requires.marks c.number.ensures

pub returns-then-child-mark-clause-lacks : goal.returns-then-child-mark-clause-lacks
returns-then-child-mark-clause-lacks c = λ q e.
    let child : IsMarkOf (marking_at c.args.walk.now c.args.below.now) c.args.below.now.prefix c.mark-child.result =
    record { number = c.number.result; is = c.number.ensures; mark = c.mark-child.ensures } in
    let has = not_false c.args.mark.has_items c.if-not-mark.false in
    let p = c.past_items.ensures.lacks q e in
    rw p.1 (old_lacks c.requires.marks c.requires.whole child c.if-child-mark.true has (sym c.kind_of_node-kind.ensures ∙ p.0) c.requires.says)

pub returns-then-child-mark-clause-fails : goal.returns-then-child-mark-clause-fails
returns-then-child-mark-clause-fails c = λ s e.
    let child : IsMarkOf (marking_at c.args.walk.now c.args.below.now) c.args.below.now.prefix c.mark-child.result =
    record { number = c.number.result; is = c.number.ensures; mark = c.mark-child.ensures } in
    let has = not_false c.args.mark.has_items c.if-not-mark.false in
    let p = c.past_items.ensures.fails s e in
    old_dead c.requires.marks c.requires.whole child c.if-child-mark.true has (sym c.kind_of_node-kind.ensures ∙ p.0) p.1 c.requires.says

pub returns-then-child-mark-clause-live : goal.returns-then-child-mark-clause-live
returns-then-child-mark-clause-live c = λ m e. absurd (c.past_items.ensures.found m e)

pub returns-in-Some-clause-fails : goal.returns-in-Some-clause-fails
returns-in-Some-clause-fails c = λ s e.
    let child : IsMarkOf (marking_at c.args.walk.now c.args.below.now) c.args.below.now.prefix c.mark-child.result =
    record { number = c.number.result; is = c.number.ensures; mark = c.mark-child.ensures } in
    let same : record { place = c.in-Some.quote; code = DuplicateKey } ≡ s = cc in
    rw same at (twice_dead c.requires.marks child c.if-child-mark.false (not_false c.args.mark.has_items c.if-not-mark.false) c.in-Some.is c.requires.says)

pub returns-in-None-clause-live : goal.returns-in-None-clause-live
returns-in-None-clause-live c = λ m e.
    let child : IsMarkOf (marking_at c.args.walk.now c.args.below.now) c.args.below.now.prefix c.mark-child.result =
    record { number = c.number.result; is = c.number.ensures; mark = c.mark-child.ensures } in
    let same : c.mark-child.result ≡ m = cc in
    let live : IsLive (marking_at c.args.walk.now c.args.below.now) c.args.mark c.args.below.now.prefix c.mark-child.result =
    record { is = child; items = not_false c.args.mark.has_items c.if-not-mark.false; later = c.if-child-mark.false; first = c.in-None.is } in
    rw same at live
