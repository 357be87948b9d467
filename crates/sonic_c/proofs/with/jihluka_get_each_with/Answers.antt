use Rattle.std.proofs.Common.{refl, ◌∙◌}
use Rattle.sonic_c.proofs.with.jihluka_get_each_with.Goals as goal

pub returns-in_default-clause-call : goal.returns-in_default-clause-call
returns-in_default-clause-call c = let none = c.in_default.ensures.none refl in rw none.0 (c.tell_none.ensures.call c.args.json.now)

pub returns-clause-call : goal.returns-clause-call
returns-clause-call c = rw (c.deref_mut.ensures.value ∙ c.in-Some.ensures.some.0) at c.follow_each-status.ensures.call
