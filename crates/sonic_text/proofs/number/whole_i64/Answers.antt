use Rattle.sonic_text.proofs.Decimals.{signed_parsed}
use Rattle.sonic_text.proofs.number.whole_i64.Goals as goal

pub returns : goal.returns
returns c = rw c.ok.ensures.value (signed_parsed _ _ c.requires c.parse.ensures.value.0)
