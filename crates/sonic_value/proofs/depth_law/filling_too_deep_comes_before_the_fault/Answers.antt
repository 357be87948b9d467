use Rattle.sonic_value.proofs.DepthLemmas.{nested_before_fault}
use Rattle.sonic_value.proofs.SchemaLemmas.{deep_nested}
use Rattle.sonic_value.proofs.depth_law.filling_too_deep_comes_before_the_fault.Goals as goal

pub returns : goal.returns
returns c = λ t n schema i p s x f. let y = (deep_nested x.deep).1 in nested_before_fault y.kind y.inside y.bracket f
