-- The copy stays the same, and what is left falls.
use Rattle.std.proofs.Common.{◌≡◌, ◌≤◌}
use Rattle.sonic_owned.specs.Internal.Copies.{copied_form, copying_bulk}
use Rattle.sonic_owned.proofs.value.copy.Copying.next.Given as goal

abbrev pub invariant-items : goal.invariant-items
invariant-items l = record {
  same : copied_form l.self ≡ copied_form l.fn.self;
  less : copying_bulk l.self ≤ copying_bulk l.fn.self;
}

abbrev pub decreases-items : goal.decreases-items
decreases-items l = copying_bulk l.self
