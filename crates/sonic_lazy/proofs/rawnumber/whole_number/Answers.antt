use Rattle.std.proofs.Common.{refl}
use Rattle.sonic_lazy.proofs.RawNumberLemmas.{whole_utf8, longer_no_number, fault_no_number}
use Rattle.sonic_lazy.proofs.rawnumber.whole_number.Goals as goal
use Rattle.sonic_lazy.proofs.rawnumber.whole_number.Goals.{in_default-via-in-Some+else-end-bytes, in_default-via-in_default}

pub from_utf8_unchecked-requires : goal.from_utf8_unchecked-requires
from_utf8_unchecked-requires c = whole_utf8 c.in-Some.ensures.some.2 c.if-end-bytes.true

pub returns-in_default-clause-none : goal.returns-in_default-clause-none
returns-in_default-clause-none c = λ none. elim c.in_default.branch [
  | in_default-via-in-Some+else-end-bytes w ↦ longer_no_number w.in-Some.ensures.some.2 w.if-end-bytes.false
  | in_default-via-in_default w ↦ fault_no_number (w.in_default.ensures.none refl).1
]
