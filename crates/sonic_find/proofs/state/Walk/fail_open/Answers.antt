use Rattle.sonic_find.proofs.state.Walk.fail_open.Goals as goal
use Rattle.std.proofs.Common.{arith}
use Rattle.std.proofs.lemmas.List.{length-map}
use Rattle.sonic_find.proofs.WalkLemmas.End.{set_escapes}
use Rattle.sonic_find.proofs.WalkLemmas.List.{set_back, set_mapped}
use Rattle.sonic_find.specs.Found.{told_at}

pub settle_open-requires-clause-slots : goal.settle_open-requires-clause-slots
settle_open-requires-clause-slots c =
    let long = rw (← c.self.view_is) at c.requires.slots in
    omega (arith, long, length-map c.self.inside.slots.items told_at)

pub invariant_of-self : goal.invariant_of-self
invariant_of-self c = record {
  checks = c.self.invariant.checks;
  escaped = set_escapes _ (set_back _ _ c.deref_mut.ensures.value c.deref_mut.ensures.len c.settle_open.ensures) c.self.invariant.escaped (λ v e. absurd cc);
}

pub returns-clause-filled : goal.returns-clause-filled
returns-clause-filled c = rw (← c.self.view_is) (set_mapped told_at (set_back _ _ c.deref_mut.ensures.value c.deref_mut.ensures.len c.settle_open.ensures))
