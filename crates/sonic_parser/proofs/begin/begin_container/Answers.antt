use Rattle.sonic_parser.proofs.BeginningLemmas.{empty_begun}
use Rattle.sonic_parser.proofs.begin.begin_container.Goals as goal

pub returns-in-End : goal.returns-in-End
returns-in-End c = λ m. rw c.plain.ensures (empty_begun c.args.kind c.requires.bracket (rw c.in-End.is at c.first_item.ensures))
