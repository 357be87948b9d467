use Rattle.sonic_find.proofs.answer.reach.Goals as goal
use Rattle.std.proofs.Common.{◌≡◌, ◌∙◌, inr, sym, true, false, arith, refl}
use Rattle.sonic_find.proofs.AnswerLemmas.Walk.{all_kept, slots_within, is_reached, root_prefix, no_findings}
use Rattle.sonic_find.proofs.MarkLemmas.Kept.{keeps_by}
use Rattle.sonic_find.specs.Internal.View.{asked_at}

pub follow-followed-requires-clause-some : goal.follow-followed-requires-clause-some
follow-followed-requires-clause-some c = rw (c.view-view.ensures.paths, c.view-view.ensures.prefix) (root_prefix c.args.tree.now c.requires.some)

pub follow-followed-requires-clause-are : goal.follow-followed-requires-clause-are
follow-followed-requires-clause-are c =
    rw (c.swap_memory.ensures, c.in_ok-walk.ensures.findings, c.replace-slots.ensures.value)
    (no_findings (asked_at c.in_ok-walk.walk c.view-view.result) c.args.memory.now.found.items (rw c.view-view.ensures.paths c.requires.slots))

pub follow-followed-requires-clause-marks : goal.follow-followed-requires-clause-marks
follow-followed-requires-clause-marks c =
    rw c.swap_memory.ensures (keeps_by c.args.rule c.in_ok-walk.ensures.rule
    (λ other. record {
      unmixed = rw c.view-view.ensures.paths c.view-view.ensures.unmixed;
      one = c.prefixes.ensures.one;
      long = c.in_ok-walk.ensures.marked other ∙ c.prefixes.ensures.count;
      before = λ n m h. (let none = c.in_ok-walk.ensures.unmarked n m h in omega (arith, none));
    }))

pub returns-then-lacking-clause-reached : goal.returns-then-lacking-clause-reached
returns-then-lacking-clause-reached c =
    let begun = c.in_ok-walk.ensures in
    let later = rw (c.swap_memory.ensures, begun.text, begun.rule, begun.root, begun.place, begun.each, c.view-view.ensures.paths, c.requires.start) at c.in_ok-followed.ensures.later in
    let settled = rw (c.swap_memory.ensures, begun.text, begun.rule, begun.root, begun.place, begun.each, c.view-view.ensures.paths, c.view-view.ensures.prefix, c.requires.start) at c.in_ok-followed.ensures.settled in
    let value = rw (c.swap_memory.ensures, begun.text, begun.place, c.requires.start, ← c.place-end.ensures.place) at c.in_ok-followed.ensures.whole in
    let slots = rw c.swap_memory-2.ensures at c.into_slots.ensures.slots in
    let lacks = sym c.lacks_key-lacking.ensures ∙ c.if-lacking.true in
    rw slots (is_reached later.are settled c.requires.some (λ e. value (inr e)) (λ e. refl) (λ e. (let clash : true ≡ false = sym lacks ∙ e in absurd cc)))

pub furthest_need-requires : goal.furthest_need-requires
furthest_need-requires c = λ k x h.
    let begun = c.in_ok-walk.ensures in
    let later = rw (c.swap_memory.ensures, begun.text, begun.rule, begun.root, begun.place, begun.each, c.view-view.ensures.paths, c.requires.start) at c.in_ok-followed.ensures.later in
    let settled = rw (c.swap_memory.ensures, begun.text, begun.rule, begun.root, begun.place, begun.each, c.view-view.ensures.paths, c.view-view.ensures.prefix, c.requires.start) at c.in_ok-followed.ensures.settled in
    let slots = rw c.swap_memory-2.ensures at c.into_slots.ensures.slots in
    let kept = all_kept c.args.rule c.args.read.text c.args.tree.now c.args.each true later.are.long settled in
    let within = slots_within kept k x (rw (c.deref.ensures.value, slots) at h) in
    rw (c.text-text.ensures, c.in_ok-followed.ensures.moved, c.swap_memory.ensures, begun.text) within

pub returns-clause-reached : goal.returns-clause-reached
returns-clause-reached c =
    let begun = c.in_ok-walk.ensures in
    let later = rw (c.swap_memory.ensures, begun.text, begun.rule, begun.root, begun.place, begun.each, c.view-view.ensures.paths, c.requires.start) at c.in_ok-followed.ensures.later in
    let settled = rw (c.swap_memory.ensures, begun.text, begun.rule, begun.root, begun.place, begun.each, c.view-view.ensures.paths, c.view-view.ensures.prefix, c.requires.start) at c.in_ok-followed.ensures.settled in
    let slots = rw c.swap_memory-2.ensures at c.into_slots.ensures.slots in
    let furthest = rw (c.deref.ensures.value, slots) at c.furthest_need.ensures in
    let none = sym c.lacks_key-lacking.ensures ∙ c.if-lacking.false in
    rw slots (is_reached {e = 0} later.are settled c.requires.some (λ e. (let clash : true ≡ false = sym e ∙ none in absurd cc))
    (λ e. (let clash : true ≡ false = sym e ∙ none in absurd cc)) (λ e. furthest))
