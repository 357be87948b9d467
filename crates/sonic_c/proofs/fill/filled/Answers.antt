use Rattle.sonic_c.proofs.FillLemmas.{unfilled_told}
use Rattle.sonic_c.proofs.TextLemmas.{refused_by}
use Rattle.sonic_c.proofs.fill.filled.Goals as goal
use Rattle.sonic_c.specs.Fills.{no_schema, fill_refused}

pub returns-in-Err-clause-refused : goal.returns-in-Err-clause-refused
returns-in-Err-clause-refused c = refused_by no_schema c.in-Err.ensures.refused

pub returns-in-Err-get_by_schema-clause-refused : goal.returns-in-Err-get_by_schema-clause-refused
returns-in-Err-get_by_schema-clause-refused c =
    let schema = c.in-Ok.ensures in
    unfilled_told (fill_refused schema.read) c.in-Err-get_by_schema.ensures.err (rw schema.kept at c.tell.ensures)
