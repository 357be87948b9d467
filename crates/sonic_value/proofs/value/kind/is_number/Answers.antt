use Rattle.std.proofs.Common.{refl}
use Rattle.std.proofs.lemmas.Bool.{false≢true}
use Rattle.sonic_lazy.proofs.RawNumberLemmas.{fault_no_number}
use Rattle.sonic_value.proofs.value.kind.is_number.Goals as goal

pub returns-in-None : goal.returns-in-None
returns-in-None c = (λ none. absurd (false≢true none), λ whole. absurd (fault_no_number (c.in-None.ensures.none refl).1 (rw c.as_bytes.ensures.value whole)))
