use Rattle.std.proofs.Common.{◌∙◌}
use Rattle.sonic_value.proofs.KeepingLemmas.{kept_same}
use Rattle.sonic_value.specs.Views.{tree}
use Rattle.sonic_value.proofs.value.Value.clone.Goals as goal

pub returns-in-Ok-clause-ok : goal.returns-in-Ok-clause-ok
returns-in-Ok-clause-ok c = c.in-Ok.ensures ∙ kept_same (tree c.args.self.now)
