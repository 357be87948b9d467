use Rattle.std.proofs.lemmas.Result.{on_ok_weaker}
use Rattle.sonic_find.proofs.AnswerLemmas.Each.{told_are_parts}
use Rattle.sonic_find.proofs.FindingLemmas.{spans_say}
use Rattle.sonic_find.proofs.buffers.fill_buffers.Goals as goal

pub returns-clause-ok : goal.returns-clause-ok
returns-clause-ok g c = rw (spans_say c.locate_in.new.memory.found.items) c.locate_in.ensures.ok

pub returns-clause-parts : goal.returns-clause-parts
returns-clause-parts g c = on_ok_weaker c.locate_in.result (λ parts. told_are_parts c.locate_in.new.memory.found.items parts) c.locate_in.ensures.parts
