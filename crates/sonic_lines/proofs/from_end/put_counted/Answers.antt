use Rattle.std.proofs.Common.{append_assoc}
use Rattle.sonic_lines.proofs.from_end.put_counted.Goals as goal

pub returns-clause-text : goal.returns-clause-text
returns-clause-text c = rw (c.put_number.ensures.text, c.put-at.ensures.text) (simp append_assoc)
