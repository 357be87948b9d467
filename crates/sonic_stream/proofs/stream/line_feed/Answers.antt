use Rattle.sonic_stream.proofs.StreamLemmas.{line_feed_there, no_line_feed_there}
use Rattle.sonic_stream.proofs.stream.line_feed.Goals as goal

pub returns-in-None-clause-none : goal.returns-in-None-clause-none
returns-in-None-clause-none c = no_line_feed_there c.args.text.now c.args.from c.requires c.in-None.ensures

pub returns-in-Some-clause-some : goal.returns-in-Some-clause-some
returns-in-Some-clause-some c = line_feed_there c.args.text.now c.args.from c.in-Some.n c.requires c.in-Some.ensures
