use Rattle.std.proofs.Common.{refl}
use Rattle.sonic_c.proofs.ManyLemmas.{refused_told}
use Rattle.sonic_c.proofs.many.jihluka_get_many.Goals as goal

pub returns-in-Err : goal.returns-in-Err
returns-in-Err c = refused_told c.in-Err.ensures.refused refl

pub returns : goal.returns
returns c = rw (← c.in-Ok.ensures.kept) (c.follow.ensures _ c.in-Ok.ensures.says)
