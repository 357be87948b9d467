use Rattle.sonic_patch.proofs.KeyLemmas.{pointer_utf8}
use Rattle.sonic_patch.proofs.PieceLemmas.{few_said}
use Rattle.sonic_patch.proofs.pointer.Pointer.read.Goals as goal

pub invariant_of-result : goal.invariant_of-result
invariant_of-result c = record { few = few_said c.requires c.in_ok-tokens.ensures; keys = pointer_utf8 c.in_ok-tokens.ensures c.utf8.text }

pub returns : goal.returns
returns c = (c.in_ok-tokens.ensures, few_said c.requires c.in_ok-tokens.ensures)
