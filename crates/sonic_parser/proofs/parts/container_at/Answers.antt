use Rattle.sonic_text.specs.Values.{empty, first_item}
use Rattle.sonic_parser.proofs.DescentLemmas.{empty_unfilled}
use Rattle.sonic_parser.proofs.parts.container_at.Goals as goal
use Rattle.std.proofs.Common.{refl}

pub returns-in-Item : goal.returns-in-Item
returns-in-Item c = λ m. let f = rw c.in-Item.is at c.first_item.ensures in (f.0, f.1, first_item c.requires.bracket f.2 f.3 refl)

pub returns-in-End : goal.returns-in-End
returns-in-End c = λ m.
    let f = rw c.in-End.is at c.first_item.ensures in
    ((f.0, f.1, empty c.args.kind c.requires.bracket f.2.0 f.2.1), empty_unfilled c.args.text.now c.args.kind c.args.place c.requires.bracket f.2.0)
