use Rattle.std.proofs.Common.{refl, ◌∙◌}
use Rattle.sonic_c.proofs.EachLemmas.{each_long, error_told}
use Rattle.sonic_c.specs.Each.{all_paths_told}
use Rattle.sonic_c.proofs.each.follow.Goals as goal

pub fill_outcomes-requires : goal.fill_outcomes-requires
fill_outcomes-requires c = rw c.deref.ensures.value (each_long c.in-Ok.ensures.ok ∙ c.requires)

pub returns-in-Ok : goal.returns-in-Ok
returns-in-Ok c = all_paths_told c.requires c.in-Ok.ensures.ok refl (rw c.deref.ensures.value at c.fill_outcomes.ensures) refl

pub returns-in-Err : goal.returns-in-Err
returns-in-Err c = error_told c.requires c.in-Err.ensures.err c.tell.ensures refl
