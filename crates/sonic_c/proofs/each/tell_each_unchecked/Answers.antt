use Rattle.std.proofs.Common.{refl, ◌∙◌}
use Rattle.sonic_c.proofs.EachLemmas.{each_long}
use Rattle.sonic_c.proofs.each.tell_each_unchecked.Goals as goal

pub fill_outcomes-requires : goal.fill_outcomes-requires
fill_outcomes-requires c = each_long c.find_each_unchecked.ensures ∙ c.requires.outcomes

pub returns-clause-outcomes : goal.returns-clause-outcomes
returns-clause-outcomes c = record { told = c.find_each_unchecked.new.out; answer = c.find_each_unchecked.ensures; shown = c.fill_outcomes.ensures }
