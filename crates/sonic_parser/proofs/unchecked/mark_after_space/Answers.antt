use Rattle.sonic_blocks.specs.Firsts.{is_one_of}
use Rattle.sonic_parser.proofs.SpaceLemmas.{first_mark, apart_marks, is_of}
use Rattle.sonic_parser.proofs.unchecked.mark_after_space.Goals as goal

pub returns-clause-place : goal.returns-clause-place
returns-clause-place c =
    first_mark c.args.text.now (is_one_of c.args.a c.args.b c.args.b) c.args.place c.in-Some.mark (apart_marks c.requires.marks.0 c.requires.marks.1) (is_of _ _ _ c.requires.known) c.in-Some.ensures
