use Rattle.std.proofs.Common.{arith, refl, inr, ◌≤◌, ◌+◌, length}
use Rattle.sonic_lazy.proofs.ItemLemmas.{after_found, found_count, found_part, looked_at}
use Rattle.sonic_lazy.proofs.iteration.Items.next.Goals as goal
use Rattle.sonic_lazy.specs.Items.{at_bracket}

pub find_next-requires-clause-after : goal.find_next-requires-clause-after
find_next-requires-clause-after c = c.self.invariant.after c.if-self.false

pub overflow_add-self : goal.overflow_add-self
overflow_add-self c =
    let count = found_count (rw c.in-Ok-Some.field-0-is at c.in-Ok-Some.ensures.found) in
    let fits = rw c.in-Ok-Some.field-0-is at c.in-Ok-Some.ensures.fits in
    omega arith

pub invariant_of-self : goal.invariant_of-self
invariant_of-self c =
    let f = rw c.in-Ok-Some.field-0-is at c.in-Ok-Some.ensures.found in
    let count = found_count f in
    let utf8 = looked_at c.self.inside.is_bytes c.in-Ok-Some.ensures.utf8 c.self.invariant.utf8 in
    let within : c.self.inside.given + 1 ≤ length c.self.inside.cursor.text = omega arith in
    rw c.in-Ok-Some.ensures.moved record {
      raw = c.self.invariant.raw;
      text = c.self.invariant.text;
      after = λ _. after_found f (rw c.in-Ok-Some.field-0-is at c.in-Ok-Some.ensures.place);
      within = within;
      utf8 = λ e _. utf8 e;
      sure = c.self.invariant.sure;
    }

pub returns-in-Ok-Some-clause-found : goal.returns-in-Ok-Some-clause-found
returns-in-Ok-Some-clause-found c =
    let f = rw c.in-Ok-Some.field-0-is at c.in-Ok-Some.ensures.found in
    let count = found_count f in
    let utf8 = looked_at c.self.inside.is_bytes c.in-Ok-Some.ensures.utf8 c.self.invariant.utf8 in
    let part = found_part c.self.inside.cursor.checks utf8 (λ e. (c.self.invariant.sure e).0) f in
    rw (← c.self.view_is, c.in-Ok-Some.ensures.moved) record { going = c.if-self.false; utf8 = c.in-Ok-Some.ensures.utf8; shown = part; within = omega arith; moved = refl }

pub returns-in-Ok-None-clause-none : goal.returns-in-Ok-None-clause-none
returns-in-Ok-None-clause-none c =
    let closed = c.in-Ok-None.ensures.closed c.in-Ok-None.field-0-is in
    rw (← c.self.view_is, c.in-Ok-None.ensures.moved) record { reason = inr (at_bracket c.in-Ok-None.ensures.utf8 closed refl); ended = refl }
