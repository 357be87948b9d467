use Rattle.std.proofs.Common.{refl}
use Rattle.sonic_c.proofs.EachLemmas.{each_lines_refused}
use Rattle.sonic_c.specs.Each.{lines_say}
use Rattle.sonic_c.proofs.each.jihluka_get_each.Goals as goal

pub returns-in-Err : goal.returns-in-Err
returns-in-Err c = each_lines_refused c.in-Err.ensures.refused refl

pub returns : goal.returns
returns c = lines_say c.in-Ok.ensures.says (rw (← c.in-Ok.ensures.kept) c.follow.ensures)
