use Rattle.sonic_lazy.proofs.WholeLemmas.{lazy_is_whole}
use Rattle.sonic_patch_tests.proofs.sameness.are_same.Goals as goal

pub same-requires-clause-left : goal.same-requires-clause-left
same-requires-clause-left c = rw c.as_raw_str.ensures (lazy_is_whole c.in_ok-left.left).value

pub same-requires-clause-right : goal.same-requires-clause-right
same-requires-clause-right c = rw c.as_raw_str-2.ensures (lazy_is_whole c.in_ok-right.right).value
