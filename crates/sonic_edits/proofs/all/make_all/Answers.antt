use Rattle.std.proofs.Common.{ap, arith, length, map}
use Rattle.std.proofs.lemmas.List.{length-map}
use Rattle.sonic_owned.specs.Changes.{change_of}
use Rattle.sonic_pointer.specs.Nodes.{node_of}
use Rattle.sonic_edits.proofs.EditingLemmas.{comes_next, comes_to_all, comes_to_failure, comes_to_refusal, comes_to_stop, joined_of_none, next_path, none_left, short_at}
use Rattle.sonic_edits.proofs.all.make_all.Goals as goal

pub changes-preserved : goal.changes-preserved
changes-preserved c =
    let v = c.changes.invariant in
    let next = next_path c.args.paths.now c.changes.number c.index-paths-number.result (change_of c.in-Some.change) (map change_of c.next.new.self.rest.items) (omega (arith, v.even, ap length c.in-Some.ensures.steps.0)) c.index-paths-number.is in
    let comes = rw (c.in-Some.ensures.steps.0, next) at v.comes in
    record {
      comes = comes_next comes (rw c.as_slice.ensures.value at (c.in-Ok-true.ensures.made c.in-Ok-true.field-0-test));
      even = omega (arith, v.even, ap length c.in-Some.ensures.steps.0);
    }

pub returns-in-Ok-false-clause-refused : goal.returns-in-Ok-false-clause-refused
returns-in-Ok-false-clause-refused c =
    let v = c.changes.invariant in
    let next = next_path c.args.paths.now c.changes.number c.index-paths-number.result (change_of c.in-Some.change) (map change_of c.next.new.self.rest.items) (omega (arith, v.even, ap length c.in-Some.ensures.steps.0)) c.index-paths-number.is in
    comes_to_refusal (rw (c.in-Some.ensures.steps.0, next) at v.comes)
    (rw c.as_slice.ensures.value at (c.in-Ok-false.ensures.refused c.in-Ok-false.field-0-test))

pub returns-in-Ok-false-clause-left : goal.returns-in-Ok-false-clause-left
returns-in-Ok-false-clause-left c =
    let v = c.changes.invariant in
    let next = next_path c.args.paths.now c.changes.number c.index-paths-number.result (change_of c.in-Some.change) (map change_of c.next.new.self.rest.items) (omega (arith, v.even, ap length c.in-Some.ensures.steps.0)) c.index-paths-number.is in
    comes_to_stop (rw (c.in-Some.ensures.steps.0, next) at v.comes)
    (rw c.as_slice.ensures.value at (c.in-Ok-false.ensures.refused c.in-Ok-false.field-0-test))
    (rw c.as_slice.ensures.value at (c.in-Ok-false.ensures.same c.in-Ok-false.field-0-test))

pub returns-in-Err-clause-failed : goal.returns-in-Err-clause-failed
returns-in-Err-clause-failed c =
    let v = c.changes.invariant in
    let next = next_path c.args.paths.now c.changes.number c.index-paths-number.result (change_of c.in-Some.change) (map change_of c.next.new.self.rest.items) (omega (arith, v.even, ap length c.in-Some.ensures.steps.0)) c.index-paths-number.is in
    let short = short_at c.args.paths.now c.changes.number c.index-paths-number.result c.requires.short (omega (arith, v.even, ap length c.in-Some.ensures.steps.0)) c.index-paths-number.is in
    comes_to_failure (rw (c.in-Some.ensures.steps.0, next) at v.comes)
    ((rw c.as_slice.ensures.value at c.in-Err.ensures.memory) (omega (arith, short, length-map c.index-paths-number.result.items node_of))) (rw c.as_slice.ensures.value at c.in-Err.ensures.kept)

pub returns-clause-made : goal.returns-clause-made
returns-clause-made c = λ e.
    let none = none_left c.changes.change-iterator.rest.items (omega (arith, c.changes.change-iterator.rest.ok.0, c.in-None.ensures.steps.0)) in
    comes_to_all (rw (none, joined_of_none _) at c.changes.invariant.comes)
