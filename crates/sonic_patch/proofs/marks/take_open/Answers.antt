use Rattle.sonic_patch.proofs.StackLemmas.{all_taken, none_taken, one_taken}
use Rattle.sonic_patch.proofs.marks.take_open.Goals as goal

pub slots-init : goal.slots-init
slots-init c = record { taken = λ numbers cells s. rw c.requires (none_taken s) }

pub slots-preserved : goal.slots-preserved
slots-preserved c = record {
  taken = λ numbers cells s.
      rw c.in_ok-push-in-Done.ensures.items
      (one_taken c.pop.new.self.items c.in-Some.slot c.in-Done.is c.in-Some.ensures.items (c.slots.invariant.taken numbers cells s));
}

pub returns-in-Begun : goal.returns-in-Begun
returns-in-Begun c = λ numbers cells s.
    all_taken c.pop.new.self.items c.in-Some.slot c.in-Begun.is c.in-Some.ensures.items (c.slots.invariant.taken numbers cells s)
