use Rattle.sonic_find.proofs.PathLemmas.Compare.{refuse_finds, refuse_lacks}
use Rattle.sonic_find.proofs.law.refuse_agrees_with_each_rule.Goals as goal

-- the only item is the first, and the last
pub returns : goal.returns
returns c = record {
  finds = λ r t i a b path. refuse_finds r path;
  lacks = λ r t i q path. refuse_lacks r path;
}
