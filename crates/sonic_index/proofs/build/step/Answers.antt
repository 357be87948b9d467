use Rattle.sonic_text.specs.Strings.{strict}
use Rattle.sonic_parser.specs.declared.parts.ValueAt.TheVariants.{Ends}
use Rattle.sonic_parser.specs.Parts.{IsValueAt}
use Rattle.sonic_parser.proofs.DescentLemmas.{scalar_unfilled}
use Rattle.sonic_index.proofs.PlaceLemmas.{value_ended}
use Rattle.sonic_index.proofs.build.step.Goals as goal

pub after-requires-clause-ended : goal.after-requires-clause-ended
after-requires-clause-ended c =
    let i = c.requires.expected in
    let scalar = c.in-Some.ensures.scalar in
    let v : IsValueAt strict c.args.text.now c.args.at.place (Ends c.in-Some.end) = (c.in-Some.ensures.end, scalar_unfilled c.args.text.now c.args.at.place scalar.0 scalar.1) in
    (i.0, i.1, rw (c.moved.ensures, c.in_ok-add.ensures, c.ended.ensures, c.begun-cell.ensures) (value_ended c.args.at i.2 v))
