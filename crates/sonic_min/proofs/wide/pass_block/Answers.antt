use Rattle.sonic_min.proofs.MarkBits.{next_at, none_after}
use Rattle.sonic_min.proofs.wide.pass_block.Goals as goal

pub returns-in_default-clause-none : goal.returns-in_default-clause-none
returns-in_default-clause-none c =
    none_after c.args.text.now c.args.marks.place c.marks.so_far.start c.saturating_sub-from.result c.args.marks.bits c.requires.marks c.marks.invariant.none
    c.saturating_sub-from.ensures c.in_default.ensures

pub mark-requires-clause-next : goal.mark-requires-clause-next
mark-requires-clause-next c =
    next_at c.args.text.now c.args.marks.place c.marks.so_far.start c.saturating_sub-from.result c.args.marks.bits c.in-Some.k c.requires.marks c.marks.invariant.none
    c.saturating_sub-from.ensures c.in-Some.ensures
