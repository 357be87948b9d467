use Rattle.sonic_owned.specs.Internal.Bulks.{bulk, node_form}
use Rattle.sonic_owned.proofs.value.Node.drop.Given as goal

abbrev pub decreases-values : goal.decreases-values
decreases-values l = bulk (node_form l.self)
