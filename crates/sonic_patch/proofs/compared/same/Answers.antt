use Rattle.sonic_text.proofs.TreeLemmas.{tree_of}
use Rattle.sonic_patch.proofs.compared.same.Goals as goal

pub decide-requires-clause-left : goal.decide-requires-clause-left
decide-requires-clause-left c = tree_of c.requires.left

pub decide-requires-clause-right : goal.decide-requires-clause-right
decide-requires-clause-right c = tree_of c.requires.right
