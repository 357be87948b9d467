use Rattle.sonic_value.proofs.DepthLemmas.{nested_before_fault}
use Rattle.sonic_value.proofs.depth_law.too_deep_comes_before_the_fault.Goals as goal

pub returns : goal.returns
returns c = λ t n i p s x f. nested_before_fault x.nested.kind x.nested.inside x.nested.bracket f
