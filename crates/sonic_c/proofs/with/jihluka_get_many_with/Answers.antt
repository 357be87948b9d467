use Rattle.std.proofs.Common.{refl}
use Rattle.sonic_c.proofs.with.jihluka_get_many_with.Goals as goal

pub returns-in_default-clause-call : goal.returns-in_default-clause-call
returns-in_default-clause-call c = let none = c.in_default.ensures.none refl in rw none.0 (c.follow_none.ensures.call c.args.json.now)
