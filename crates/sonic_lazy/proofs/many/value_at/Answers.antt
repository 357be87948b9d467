use Rattle.std.proofs.Common.{refl}
use Rattle.sonic_lazy.proofs.many.value_at.Goals as goal

pub at-requires : goal.at-requires
at-requires g c κs = ((refl, tt), (c.requires.part c.in-Found.span c.in-Found.is, c.requires.escaped c.in-Found.span c.in-Found.is))
