use Rattle.std.proofs.Common.{◌∙◌, refl}
use Rattle.sonic_reports.proofs.GeneratedLemmas.{rest_absent}
use Rattle.sonic_reports.proofs.commands.generated.counts.Goals as goal

pub returns : goal.returns
returns c = c.in_ok-text.ensures.ok ∙ rest_absent c.args.values.now _ _ _ c.found-found.ensures refl c.length-length.ensures
