use Rattle.sonic_reports.proofs.reply.write_lines.Goals as goal

pub returns-in-Members : goal.returns-in-Members
returns-in-Members g c = rw c.in-Members.is (rw c.deref-in-Members.ensures.value at c.write_members.ensures)
