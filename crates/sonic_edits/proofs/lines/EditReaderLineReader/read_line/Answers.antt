use Rattle.sonic_edits.proofs.lines.EditReaderLineReader.read_line.Goals as goal

pub returns-in_default-clause-bad : goal.returns-in_default-clause-bad
returns-in_default-clause-bad c = λ _ after x. c.in_ok-edit.ensures.none c.in_default.is x.edit x.says
