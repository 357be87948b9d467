use Rattle.sonic_lines.proofs.PieceLemmas.{rows_alone}
use Rattle.sonic_lines.proofs.rows.Rows.finish.Goals as goal

pub returns-in-Ok-clause-ok : goal.returns-in-Ok-clause-ok
returns-in-Ok-clause-ok c =
    let row = c.in-Ok.ensures.row in
    let is = rw c.deref.ensures.value at row.1 in
    rw (← c.self.view_is) (row.0, rows_alone c.self.inside.held.items c.self.invariant.0 is, row.2)
