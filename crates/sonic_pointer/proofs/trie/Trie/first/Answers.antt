use Rattle.std.proofs.Common.{sym}
use Rattle.sonic_pointer.proofs.ShapeLemmas.{kid_step, first_next, none_of}
use Rattle.sonic_pointer.proofs.trie.Trie.first.Goals as goal

pub label-requires-clause-step : goal.label-requires-clause-step
label-requires-clause-step c = (_, kid_step c.args.self.now c.args.at c.children.result.now 0 c.in-Some.child c.children.ensures (sym c.in-Some.ensures))

pub returns-in-Some-clause-some : goal.returns-in-Some-clause-some
returns-in-Some-clause-some c =
    rw c.label.ensures (first_next c.args.self.now c.args.at c.requires.trie c.requires.inside c.children.result.now c.in-Some.child c.children.ensures c.in-Some.ensures)

pub returns-in-None-clause-none : goal.returns-in-None-clause-none
returns-in-None-clause-none c = none_of c.args.self.now c.args.at c.requires.trie c.requires.inside c.children.result.now c.children.ensures c.in-None.ensures
