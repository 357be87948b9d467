use Rattle.std.proofs.Common.{refl}
use Rattle.sonic_lazy.proofs.HonestLemmas.{honest_next}
use Rattle.sonic_lazy.proofs.IteratorLemmas.{next_given, next_stuck, next_over, fault_error, element_given}
use Rattle.sonic_lazy.proofs.iterator.ArrayJsonIter.next.Goals as goal
use Rattle.sonic_lazy.proofs.iterator.ArrayJsonIter.next.Goals.{in-Some-Ok, in-Some-Err, in-None}

pub returns-clause-next : goal.returns-clause-next
returns-clause-next c = rw (← c.self.view_is) (elim c.match-next.branch [
  | in-Some-Ok w ↦
      let given = rw w.in-Some-Ok.field-0-is at w.in-Some-Ok.ensures.found in
      rw w.result-is (next_given (element_given c.self.invariant given w.lazy_value.ensures))
  | in-Some-Err w ↦
      let f = w.in-Some-Err in
      let ends = rw f.field-0-is at f.ensures.fault in
      let memory = rw f.field-0-is at f.ensures.memory in
      let ended = rw f.field-0-is at f.ensures.ended in
      let error = rw (w.text.ensures, ended) at w.error.ensures in
      rw w.result-is (next_stuck (record {
        going = rw f.field-0-is at f.ensures.going;
        error = fault_error f.fault ends (λ e. memory (rw e refl)) error;
        ended = rw ended refl;
      }))
  | in-None w ↦ rw w.result-is (next_over w.in-None.ensures.none)
])

pub returns-clause-honest : goal.returns-clause-honest
returns-clause-honest c = honest_next _ (returns-clause-next c)
