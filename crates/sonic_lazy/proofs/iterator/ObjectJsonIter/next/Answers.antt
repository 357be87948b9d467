use Rattle.std.proofs.Common.{refl}
use Rattle.sonic_lazy.proofs.ItemLemmas.{member_key}
use Rattle.sonic_lazy.proofs.HonestLemmas.{honest_next}
use Rattle.sonic_lazy.proofs.IteratorLemmas.{next_stuck, next_over, fault_error, member_next}
use Rattle.sonic_lazy.proofs.iterator.ObjectJsonIter.next.Goals as goal

pub member-requires-clause-key : goal.member-requires-clause-key
member-requires-clause-key c =
    let given = rw c.in-Some-Ok.field-0-is at c.in-Some-Ok.ensures.found in
    let part = given.shown in
    rw given.moved (member_key c.in-Some-Ok.found.key c.self.invariant part.found.head part.key)

pub returns-in-Some-Ok-clause-next : goal.returns-in-Some-Ok-clause-next
returns-in-Some-Ok-clause-next c =
    let given = rw c.in-Some-Ok.field-0-is at c.in-Some-Ok.ensures.found in
    let x = c.member.ensures in
    rw (← c.self.view_is) (member_next c.member.result given c.self.invariant x.kept x.text x.value x.err x.ended x.memory)

pub returns-in-Some-Err-clause-next : goal.returns-in-Some-Err-clause-next
returns-in-Some-Err-clause-next c =
    let f = c.in-Some-Err in
    let ends = rw f.field-0-is at f.ensures.fault in
    let memory = rw f.field-0-is at f.ensures.memory in
    let ended = rw f.field-0-is at f.ensures.ended in
    let error = rw (c.text.ensures, ended) at c.error.ensures in
    rw (← c.self.view_is) (next_stuck (record {
      going = rw f.field-0-is at f.ensures.going;
      error = fault_error f.fault ends (λ e. memory (rw e refl)) error;
      ended = rw ended refl;
    }))

pub returns-in-None-clause-next : goal.returns-in-None-clause-next
returns-in-None-clause-next c = rw (← c.self.view_is) (next_over c.in-None.ensures.none)

pub returns-in-Some-Ok-clause-honest : goal.returns-in-Some-Ok-clause-honest
returns-in-Some-Ok-clause-honest c = honest_next _ (returns-in-Some-Ok-clause-next c)

pub returns-in-Some-Err-clause-honest : goal.returns-in-Some-Err-clause-honest
returns-in-Some-Err-clause-honest c = honest_next _ (returns-in-Some-Err-clause-next c)
