use Rattle.std.proofs.Common.{refl}
use Rattle.sonic_value.proofs.OpenLemmas.{taken_of}
use Rattle.sonic_value.proofs.fill.level.Level.take.Goals as goal

pub returns : goal.returns
returns c = λ key last. taken_of c.index_mut.result.now _ c.replace-value.result c.replace-value.new.dest last c.index_mut.ensures.value c.replace-value.ensures.value refl refl
