use Rattle.std.proofs.Common.{◌+◌, refl, arith}
use Rattle.sonic_c.proofs.ManyLemmas.{at_end}
use Rattle.sonic_c.specs.Told.{bad_path, blank_line}
use Rattle.sonic_c.specs.Internal.Texts.{refuses}
use Rattle.sonic_c.proofs.many.paths_of.Goals as goal

pub returns-in-Bad-clause-refused : goal.returns-in-Bad-clause-refused
returns-in-Bad-clause-refused c = refuses (record { number = c.in-Bad.line; bad = bad_path (rw c.in-Bad.is at c.in-Ok.ensures); told = c.at_line.ensures; says = refl })

pub returns-then-end-lines-clause-refused : goal.returns-then-end-lines-clause-refused
returns-then-end-lines-clause-refused c =
    let says = rw c.in-Paths.is at c.in-Ok.ensures in
    refuses (record { number = c.size.result + 1; bad = blank_line says c.if-end-lines.true (rw c.size.ensures refl); told = c.at_line-then-end-lines.ensures; says = refl })

pub returns-clause-says : goal.returns-clause-says
returns-clause-says c =
    let says = rw c.in-Paths.is at c.in-Ok.ensures in
    at_end says (omega (arith, c.if-end-lines.false))
