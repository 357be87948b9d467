use Rattle.std.proofs.lemmas.Str.{IsUtf8-between}
use Rattle.sonic_input.proofs.faststr.FastStr.slice.Goals as goal

-- a part between two boundaries of characters is UTF-8
pub invariant_of-result : goal.invariant_of-result
invariant_of-result c =
    rw (c.in-Ok.ensures.ok, c.self.view_is)
    (IsUtf8-between _ _ _ (rw c.self.view_is at c.self.invariant) c.requires.order c.requires.start c.requires.end)
