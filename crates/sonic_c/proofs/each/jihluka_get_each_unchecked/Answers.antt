use Rattle.std.proofs.Common.{refl, sym}
use Rattle.sonic_c.proofs.EachLemmas.{each_lines_refused, outcomes_told}
use Rattle.sonic_c.specs.Each.{lines_say, no_memory_left}
use Rattle.sonic_c.proofs.each.jihluka_get_each_unchecked.Goals as goal

pub returns-in-Err : goal.returns-in-Err
returns-in-Err c = each_lines_refused c.in-Err.ensures.refused refl

pub returns : goal.returns
returns c = lines_say c.in-Ok.ensures.says (outcomes_told c.in-Ok.ensures.count c.tell_each_unchecked.ensures.outcomes refl c.in-Ok.ensures.kept)
