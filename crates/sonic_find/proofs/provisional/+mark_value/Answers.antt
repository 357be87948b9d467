use Rattle.sonic_find.proofs.provisional.+mark_value.Goals as goal
use Rattle.std.proofs.Common.{◌≡◌, ◌∙◌, ap, ◌∷◌, ◌++◌, [], length, set, arith, refl}
use Rattle.std.proofs.lemmas.Option.{slice_get_within}
use Rattle.std.proofs.lemmas.Result.{err_from_is_err_and}
use Rattle.sonic_find.proofs.MarkLemmas.Kept.{number_within, kept_beside, set_beside, kept_twice, later_are}
use Rattle.sonic_find.proofs.MarkLemmas.Passed.{first_marking, none_marked, gathered_marked, repeated_marked, next_marking, closed_marking, bracket_plain, none_begins, none_in_empty, passed_without, passed_with, passed_marked}
use Rattle.sonic_find.proofs.PathLemmas.Lead.{count_below}
use Rattle.sonic_find.proofs.WalkLemmas.Step.{separated_later}
use Rattle.sonic_find.specs.Internal.Marks.{IsMarkOf}
use Rattle.sonic_find.specs.Internal.View.{marking_at}
use Rattle.sonic_parser.proofs.FaultLemmas.{stop_weaker}
use Rattle.sonic_pointer.specs.Nodes.{node_of}
use Rattle.sonic_text.proofs.Values.{items-later, items_open, head-later, value-longer}
use Rattle.sonic_text.proofs.Within.{items_within}
use Rattle.sonic_text.specs.Faults.{in_key, in_value, after_item}
use Rattle.sonic_text.specs.Strings.{strict}
use Rattle.sonic_text.specs.Values.{ItemsFit, empty}
use Rattle.sonic_text.specs.declared.kind.Kind.TheVariants.{Object}

pub mark_value-returns-clause-marked : goal.mark_value-returns-clause-marked
mark_value-returns-clause-marked t c =
    let x = c.in_ok-mark.ensures.passed in
    rw c.set_mark.ensures (passed_marked c.number.result c.number.ensures x)

pub mark_value-returns-clause-beside : goal.mark_value-returns-clause-beside
mark_value-returns-clause-beside t c =
    let g = marking_at c.args.walk.now c.args.view.now in
    let more = c.mark_of.new.walk.marks in
    let own = set_beside (marking_at c.mark_of.new.walk c.args.view.now) c.number.result c.in_ok-mark.mark c.number.ensures in
    rw c.set_mark.ensures (kept_twice g more (set more c.number.result c.in_ok-mark.mark) c.args.view.now.prefix c.in_ok-mark.ensures.beside own)

pub member-returns-in_err-child-clause-err : goal.member-returns-in_err-child-clause-err
member-returns-in_err-child-clause-err t c =
    let p = err_from_is_err_and c.from_residual.result c.from_residual.ensures.1 in
    let e = c.in_err-child.ensures.err in
    let fit : ItemsFit strict c.args.walk.now.text Object c.args.level.now.start c.args.passed c.args.walk.now.place = rw e.0 at c.requires.marking.fit in
    rw (p.1, p.2) (in_key fit e.1)

pub member-returns-in_err-skip-clause-err : goal.member-returns-in_err-skip-clause-err
member-returns-in_err-skip-clause-err t c =
    let p = err_from_is_err_and c.from_residual-in_err-skip.result c.from_residual-in_err-skip.ensures.1 in
    let x = c.in_ok-child.ensures.item in
    let e = rw c.in_ok-child.ensures.moved at c.in_err-skip.ensures.err in
    rw (p.1, p.2) (stop_weaker c.in_err-skip.field-0.0 (λ s f. in_value c.requires.marking.fit x.head.head f) e)

pub member-returns-in_default-clause-marked : goal.member-returns-in_default-clause-marked
member-returns-in_default-clause-marked t c =
    let x = rw c.in_default.is at c.in_ok-child.ensures.item in
    let value = rw c.in_ok-child.ensures.moved at c.in_ok-skip.ensures.value in
    rw (c.in_ok-skip.ensures.moved, c.in_ok-child.ensures.moved) (none_marked c.requires.level c.requires.marking x.head x.is value)

pub member-child-below-requires : goal.member-child-below-requires
member-child-below-requires t c =
    let x = rw c.in-Some.is at c.in_ok-child.ensures.item in
    slice_get_within c.args.level.now.view.now.children c.in-Some.child x.node x.is

pub member-mark-mark-requires : goal.member-mark-mark-requires
member-mark-mark-requires t c =
    let number = rw c.child-below.ensures.prefixes at c.number-number.ensures in
    rw c.in_ok-child.ensures.moved (number_within c.number-number.result c.requires.marking.are number)

pub member-set_mark-requires : goal.member-set_mark-requires
member-set_mark-requires t c =
    let number = rw c.child-below.ensures.prefixes at c.number-number.ensures in
    rw c.in_ok-child.ensures.moved (number_within c.number-number.result c.requires.marking.are number)

pub member-returns-in_err-skip-2-clause-err : goal.member-returns-in_err-skip-2-clause-err
member-returns-in_err-skip-2-clause-err t c =
    let p = err_from_is_err_and c.from_residual-in_err-skip-2.result c.from_residual-in_err-skip-2.ensures.1 in
    let x = c.in_ok-child.ensures.item in
    let e = rw (c.set_mark.ensures, c.in_ok-child.ensures.moved) at c.in_err-skip-2.ensures.err in
    rw (p.1, p.2) (stop_weaker c.in_err-skip-2.field-0.0 (λ s f. in_value c.requires.marking.fit x.head.head f) e)

pub member-returns-then-is_repeated-clause-marked : goal.member-returns-then-is_repeated-clause-marked
member-returns-then-is_repeated-clause-marked t c =
    let x = rw c.in-Some.is at c.in_ok-child.ensures.item in
    let same : node_of c.child-below.result.0 ≡ x.node = cc (c.child-below.ensures.node, x.is) in
    let prefix = rw same at c.child-below.ensures.prefix in
    let number = rw (c.child-below.ensures.prefixes, prefix) at c.number-number.ensures in
    let mark = rw c.in_ok-child.ensures.moved at c.mark-mark.ensures in
    let value = rw (c.set_mark.ensures, c.in_ok-child.ensures.moved) at c.in_ok-skip-2.ensures.value in
    let repeated = rw c.in_ok-child.ensures.moved at (c.is_repeated.ensures.repeated c.if-is_repeated.true) in
    let first = rw c.place-quote.ensures.place at c.repeated_at.ensures.first in
    rw (c.in_ok-skip-2.ensures.moved, c.set_mark.ensures, c.in_ok-child.ensures.moved)
    (repeated_marked c.in-Some.child c.repeated_at.result c.number-number.result c.requires.level repeated.0 repeated.1 c.requires.marking number mark
    c.repeated_at.ensures.value first c.repeated_at.ensures.later x.head x.is value)

pub member-returns-then-is_repeated-clause-beside : goal.member-returns-then-is_repeated-clause-beside
member-returns-then-is_repeated-clause-beside t c =
    let x = rw c.in-Some.is at c.in_ok-child.ensures.item in
    let same : node_of c.child-below.result.0 ≡ x.node = cc (c.child-below.ensures.node, x.is) in
    let prefix = rw same at c.child-below.ensures.prefix in
    let number = rw (c.child-below.ensures.prefixes, prefix) at c.number-number.ensures in
    let g = marking_at c.args.walk.now c.args.level.now.view.now in
    rw (c.in_ok-skip-2.ensures.moved, c.set_mark.ensures, c.in_ok-child.ensures.moved)
    (kept_beside g _ c.args.level.now.view.now.prefix x.node (set_beside g c.number-number.result c.repeated_at.result number))

pub member-mark_value-requires : goal.member-mark_value-requires
member-mark_value-requires t c =
    let long = ap (λ walk. length walk.text) c.in_ok-child.ensures.moved in (
      omega (arith, c.decreases, c.in_ok-child.ensures.later, long),
      (
        rw c.in_ok-child.ensures.moved c.requires.level.rule,
        rw (c.in_ok-child.ensures.moved, c.child-below.ensures.paths, c.child-below.ensures.prefixes) (later_are c.requires.marking.are c.in_ok-child.ensures.later),
      ),
    )

pub member-returns-in_err-mark_value-clause-err : goal.member-returns-in_err-mark_value-clause-err
member-returns-in_err-mark_value-clause-err t c =
    let p = err_from_is_err_and c.from_residual-in_err-mark_value.result c.from_residual-in_err-mark_value.ensures.1 in
    let x = c.in_ok-child.ensures.item in
    let e = rw c.in_ok-child.ensures.moved at c.in_err-mark_value.ensures.err in
    rw (p.1, p.2) (stop_weaker c.in_err-mark_value.field-0.0 (λ s f. in_value c.requires.marking.fit x.head.head f) e)

pub member-returns-clause-marked : goal.member-returns-clause-marked
member-returns-clause-marked t c =
    let x = rw c.in-Some.is at c.in_ok-child.ensures.item in
    let same : node_of c.child-below.result.0 ≡ x.node = cc (c.child-below.ensures.node, x.is) in
    let prefix = rw same at c.child-below.ensures.prefix in
    let number = rw (c.child-below.ensures.prefixes, prefix) at c.number-number.ensures in
    let mark = rw c.in_ok-child.ensures.moved at c.mark-mark.ensures in
    let known : IsMarkOf (marking_at c.args.walk.now c.args.level.now.view.now) (c.args.level.now.view.now.prefix ++ x.node ∷ []) c.mark-mark.result =
    record { number = c.number-number.result; is = number; mark = mark } in
    let counts = rw c.in_ok-child.ensures.moved at (c.is_repeated.ensures.counts c.if-is_repeated.false) in
    let marked = rw (c.in_ok-mark_value.ensures.moved, c.in_ok-child.ensures.moved, c.child-below.ensures.paths, c.child-below.ensures.prefixes, prefix) at c.in_ok-mark_value.ensures.marked in
    let beside = rw (c.in_ok-child.ensures.moved, c.child-below.ensures.prefixes, prefix) at c.in_ok-mark_value.ensures.beside in
    rw (c.in_ok-mark_value.ensures.moved, c.in_ok-child.ensures.moved)
    (gathered_marked c.in-Some.child c.mark_value.new.walk.marks c.requires.level c.requires.level.rule counts c.requires.marking known x.head x.is beside marked)

pub member-returns-clause-beside : goal.member-returns-clause-beside
member-returns-clause-beside t c =
    let x = rw c.in-Some.is at c.in_ok-child.ensures.item in
    let same : node_of c.child-below.result.0 ≡ x.node = cc (c.child-below.ensures.node, x.is) in
    let prefix = rw same at c.child-below.ensures.prefix in
    let beside = rw (c.in_ok-child.ensures.moved, c.child-below.ensures.prefixes, prefix) at c.in_ok-mark_value.ensures.beside in
    kept_beside (marking_at c.args.walk.now c.args.level.now.view.now) c.mark_value.new.walk.marks c.args.level.now.view.now.prefix x.node beside

pub members-returns-in_err-next_item-clause-err : goal.members-returns-in_err-next_item-clause-err
members-returns-in_err-next_item-clause-err t c =
    let p = err_from_is_err_and c.from_residual-in_err-next_item.result c.from_residual-in_err-next_item.ensures.1 in
    let x = c.in_ok-member.ensures.marked in
    let text : c.member.new.walk.text ≡ c.args.walk.now.text = ap (λ walk. walk.text) c.in_ok-member.ensures.moved ∙ ap (λ walk. walk.text) c.items.invariant.moved in
    let e = c.in_err-next_item.ensures.err in
    rw (p.1, p.2) (rw text at (after_item x.fit x.item.head x.value e.0 e.1))

pub members-overflow_add-passed : goal.members-overflow_add-passed
members-overflow_add-passed t c =
    let x = c.in_ok-member.ensures.marked in
    let next = separated_later _ _ (c.in_ok-next_item.ensures.item c.if-not-branch.false) in
    omega (arith, count_below x.fit, head-later x.item.head, value-longer x.value, next.0, c.in_ok-next_item.ensures.fits)

pub members-items-smaller : goal.members-items-smaller
members-items-smaller t c =
    let x = c.in_ok-member.ensures.marked in
    let next = separated_later _ _ (c.in_ok-next_item.ensures.item c.if-not-branch.false) in
    let same = ap (λ walk. length walk.text) c.in_ok-member.ensures.moved in
    let long = ap (λ walk. length walk.text) c.in_ok-next_item.ensures.moved in
    omega (arith, head-later x.item.head, value-longer x.value, next.0, next.1, same, long)

pub members-items-preserved : goal.members-items-preserved
members-items-preserved t c =
    let x = rw c.items.invariant.moved at c.in_ok-member.ensures.marked in
    let comma = c.in_ok-next_item.ensures.item c.if-not-branch.false in
    let next = separated_later _ _ comma in
    let g = marking_at c.args.walk.now c.args.level.now.view.now in
    let beside = rw c.items.invariant.moved at c.in_ok-member.ensures.beside in
    let marks : c.next_item.new.self.marks ≡ c.member.new.walk.marks = ap (λ walk. walk.marks) c.in_ok-next_item.ensures.moved in
    record {
      moved = rw (← marks) at (rw c.items.invariant.moved at (rw c.in_ok-member.ensures.moved at c.in_ok-next_item.ensures.moved));
      place = omega (arith, c.items.invariant.place, head-later x.item.head, value-longer x.value, next.0);
      marking = rw c.in_ok-next_item.ensures.moved (next_marking x comma);
      beside = rw c.in_ok-next_item.ensures.moved
          (kept_twice g c.items.walk.marks c.member.new.walk.marks c.args.level.now.view.now.prefix c.items.invariant.beside beside);
    }

pub members-returns-clause-closed : goal.members-returns-clause-closed
members-returns-clause-closed t c =
    let x = rw c.items.invariant.moved at c.in_ok-member.ensures.marked in
    rw c.in_ok-next_item.ensures.moved (closed_marking c.requires.level x (c.in_ok-next_item.ensures.end c.if-not-branch.true))

pub mark_of-returns-then-not-begins-clause-passed : goal.mark_of-returns-then-not-begins-clause-passed
mark_of-returns-then-not-begins-clause-passed t c =
    let value = c.in_ok-value.ensures in
    let none = none_begins c.args.walk.now.text c.args.walk.now.place c.args.view.now.children c.count-count.ensures.count c.kind_of_children.ensures
    (c.begins.ensures.other c.if-not-begins.true) in
    rw (value.moved, c.passed.ensures)
    (passed_without c.requires.marks c.count-count.ensures.children value.value value.span.0 value.span.1 value.escaped none)

pub mark_of-returns-then-not-enter-clause-passed : goal.mark_of-returns-then-not-enter-clause-passed
mark_of-returns-then-not-enter-clause-passed t c =
    let text = c.args.walk.now.text in
    let kind = c.kind_of_children.result in
    let bracket = c.begins.ensures.begins c.if-not-begins.false in
    let end = c.enter.ensures.empty c.if-not-enter.true in
    let none = none_in_empty text c.args.walk.now.place c.args.view.now.children c.kind_of_children.ensures bracket end.0 in
    rw (c.enter.ensures.moved, c.passed-then-not-enter.ensures, c.plain-empty.ensures, c.place-then-not-enter.ensures.place, c.place.ensures.place)
    (passed_without c.requires.marks c.count-count.ensures.children (empty kind bracket end.0 end.1) refl refl (bracket_plain text kind bracket) none)

pub mark_of-members-requires : goal.mark_of-members-requires
mark_of-members-requires t c =
    let fit = c.enter.ensures.item c.if-not-enter.false in
    let long = ap (λ walk. length walk.text) c.enter.ensures.moved in (
      omega (arith, c.decreases, items-later fit, items_within fit, long),
      (
        rw c.enter.ensures.moved record { rule = c.requires.rule; children = c.count-count.ensures.children; kind = c.kind_of_children.ensures },
        rw (c.enter.ensures.moved, c.place.ensures.place) (first_marking c.requires.marks fit),
      ),
    )

pub mark_of-returns-clause-passed : goal.mark_of-returns-clause-passed
mark_of-returns-clause-passed t c =
    let x = rw (c.enter.ensures.moved, c.place.ensures.place) at c.in_ok-members.ensures.closed in
    rw (c.passed-2.ensures, c.plain-whole.ensures, c.place-2.ensures.place, c.place.ensures.place)
    (passed_with record { rule = c.requires.rule; children = c.count-count.ensures.children; kind = c.kind_of_children.ensures } c.count-count.ensures.children x refl refl (bracket_plain c.members.new.walk.text c.kind_of_children.result (items_open x.items.1)))
