use Rattle.std.proofs.Common.{refl}
use Rattle.sonic_c.proofs.EntryLemmas.{entries_refused}
use Rattle.sonic_c.proofs.TextLemmas.{document_refused}
use Rattle.sonic_c.proofs.index.jihluka_index.Goals as goal
use Rattle.sonic_c.specs.Indexes.{index_told}

pub returns-in-Ok : goal.returns-in-Ok
returns-in-Ok c =
    let made = c.in-Ok.ensures in
    index_told c.in-Ok.index.entries made.valid made.ok.1 refl (rw (c.fill_entries.ensures, c.len.ensures) refl)

pub returns-in-Err : goal.returns-in-Err
returns-in-Err c = entries_refused (document_refused (λ x. x) c.in-Err.ensures.err c.tell.ensures)
