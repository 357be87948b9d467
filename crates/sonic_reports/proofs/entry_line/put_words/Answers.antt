use Rattle.std.proofs.Common.{append_assoc}
use Rattle.sonic_reports.proofs.entry_line.put_words.Goals as goal

pub returns-clause-text : goal.returns-clause-text
returns-clause-text c =
    rw (c.put.ensures.text, c.put-at.ensures.text, c.put_type-at.ensures.text, c.put_number-at-2.ensures.text, c.put_number-at.ensures.text, c.put_label-at.ensures.text, c.set.ensures, c.set-2.ensures)
    (simp append_assoc)
