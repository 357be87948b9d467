use Rattle.sonic_blocks.proofs.ElementLemmas.{set_fitting}
use Rattle.sonic_blocks.proofs.elements.fitting.Goals as goal

pub returns : goal.returns
returns c bytes is = set_fitting bytes c.args.masks is
