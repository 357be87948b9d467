use Rattle.sonic_lazy_tests.proofs.reference.step.Goals as goal
use Rattle.std.proofs.Common.{refl}
use Rattle.sonic_find.proofs.PathLemmas.Rule.{by_first}
use Rattle.sonic_lazy_tests.proofs.reference.WayLemmas.{cut_leads_no_way}
use Rattle.sonic_pointer.specs.Nodes.{node_of}
use Rattle.sonic_text.proofs.Values.{value_never_both}

pub returns-in-Err-At-clause-nowhere : goal.returns-in-Err-At-clause-nowhere
returns-in-Err-At-clause-nowhere c = λ e.
    let key = c.if-first_counts.ensures.no refl in
    cut_leads_no_way _ _ key.0 key.1 (rw c.in-Err-At.field-0-is at c.in-Err-At.ensures.err)

pub returns-in-Err-At-clause-whole : goal.returns-in-Err-At-clause-whole
returns-in-Err-At-clause-whole c = λ e end whole v l. value_never_both whole (rw c.in-Err-At.field-0-is at c.in-Err-At.ensures.err)

pub returns-in-Ok-look-clause-nowhere : goal.returns-in-Ok-look-clause-nowhere
returns-in-Ok-look-clause-nowhere c = λ e.
    let none = rw (c.parser_at-parser.ensures.text, c.parser_at-parser.ensures.place) at (c.in-Ok-look.ensures.nowhere cc) in
    λ v l. by_first c.args.rule (node_of c.args.node.now) v l none

pub returns-in-Ok-look-clause-whole : goal.returns-in-Ok-look-clause-whole
returns-in-Ok-look-clause-whole c = λ e end whole.
    rw (c.parser_at-parser.ensures.text, c.parser_at-parser.ensures.place) at (c.in-Ok-look.ensures.nowhere cc)
