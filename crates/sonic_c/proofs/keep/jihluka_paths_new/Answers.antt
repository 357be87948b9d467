use Rattle.sonic_c.proofs.KeepLemmas.{lines_refused, rule_low}
use Rattle.sonic_c.proofs.keep.jihluka_paths_new.Goals as goal

pub returns-in-Err : goal.returns-in-Err
returns-in-Err c = lines_refused (rule_low c.in-Some.rule c.in-Some.ensures.some) c.in-Err.ensures.refused
