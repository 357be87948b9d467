use Rattle.sonic_parser.proofs.SpaceLemmas.{to_block_end, to_next_bit}
use Rattle.sonic_parser.proofs.space.SpaceBlock.next_word.Goals as goal

pub returns-in_err-word-clause-end : goal.returns-in_err-word-clause-end
returns-in_err-word-clause-end c = λ t words. rw c.from_residual.ensures (to_block_end t c.args.self words c.args.place c.requires.inside.0 c.requires.inside.1 c.in_err-word.ensures)

pub returns-clause-end : goal.returns-clause-end
returns-clause-end c = λ t words. to_next_bit t c.args.self words c.args.place c.in_ok-word.word c.requires.inside.0 c.in_ok-word.ensures
