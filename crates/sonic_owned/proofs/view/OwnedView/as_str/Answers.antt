use Rattle.std.proofs.Common.{refl}
use Rattle.sonic_owned.proofs.LentTexts.{raw_lent}
use Rattle.sonic_owned.proofs.view.OwnedView.as_str.Goals as goal

pub returns-in-Raw-clause-lent : goal.returns-in-Raw-clause-lent
returns-in-Raw-clause-lent c = rw c.in-Raw.is (raw_lent c.as_str-in-Raw.result refl refl c.as_str-in-Raw.ensures.text)
