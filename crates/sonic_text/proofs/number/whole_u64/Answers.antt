use Rattle.sonic_text.proofs.Decimals.{whole_parsed}
use Rattle.sonic_text.proofs.number.whole_u64.Goals as goal

pub returns : goal.returns
returns c = rw c.ok.ensures.value (whole_parsed _ _ c.requires c.parse.ensures.value.0)
