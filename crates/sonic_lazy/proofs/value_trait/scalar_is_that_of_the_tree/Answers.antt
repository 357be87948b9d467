use Rattle.std.proofs.Common.{refl}
use Rattle.sonic_lazy.proofs.ScalarLemmas.{scalar_means}
use Rattle.sonic_lazy.proofs.value_trait.scalar_is_that_of_the_tree.Goals as goal

-- the first byte says what the tree is
pub returns : goal.returns
returns c = λ t x means. scalar_means refl means
