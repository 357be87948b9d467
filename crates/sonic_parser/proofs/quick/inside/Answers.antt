use Rattle.sonic_text.specs.Values.{empty}
use Rattle.sonic_parser.proofs.BeginningLemmas.{filled_begun}
use Rattle.sonic_parser.proofs.quick.inside.Goals as goal

pub returns-in-Item : goal.returns-in-Item
returns-in-Item c m = filled_begun c.requires.bracket c.in-Item.ensures

pub returns-in-End : goal.returns-in-End
returns-in-End c m = let f = c.in-End.ensures in (f.0, f.1, empty c.args.kind c.requires.bracket f.2.0 f.2.1)
