use Rattle.std.proofs.Common.{refl}
use Rattle.sonic_c.proofs.ManyLemmas.{no_paths_refused}
use Rattle.sonic_c.specs.Internal.Told.{wrong_count}
use Rattle.sonic_c.proofs.many.tree_of.Goals as goal

pub returns-in-Err-clause-refused : goal.returns-in-Err-clause-refused
returns-in-Err-clause-refused c = no_paths_refused c.in-Err.ensures.refused

pub returns-then-size-count-clause-refused : goal.returns-then-size-count-clause-refused
returns-then-size-count-clause-refused c =
    let other = rw c.size-size.ensures at c.if-size-count.true in
    wrong_count refl c.in-Ok.ensures.says other (rw (← c.size-size.ensures) c.at_line.ensures)
