use Rattle.sonic_index.proofs.PlaceLemmas.{item_follows}
use Rattle.sonic_index.proofs.build.after.Goals as goal

pub returns-in-Some-clause-ok : goal.returns-in-Some-clause-ok
returns-in-Some-clause-ok c =
    let i = c.requires.ended in
    let a = c.in-Some.ensures.next c.args.at.item.kind in
    rw c.next_at.ensures (a.0, (i.0, item_follows c.args.at i.2 i.1 a))
