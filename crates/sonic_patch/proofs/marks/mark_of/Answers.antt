use Rattle.std.proofs.Common.{◌≡◌, [], length}
use Rattle.sonic_patch.specs.Internal.Walks.{TellsFirst}
use Rattle.sonic_patch.proofs.StackLemmas.{begun_way, next_way, whole_way}
use Rattle.sonic_patch.proofs.marks.mark_of.Goals as goal

pub parts-init : goal.parts-init
parts-init c = record {
  kept = c.requires.numbers;
  more = λ f n h. h;
  goes = λ x m. rw c.new-slots.ensures.items (begun_way x (c.new-walk.ensures.start x (length c.args.text.now) m));
}

pub parts-preserved : goal.parts-preserved
parts-preserved c = record {
  kept = c.in_ok-take_in.ensures.kept;
  more = λ f n h. c.in_ok-take_in.ensures.more f n (c.parts.invariant.more f n h);
  goes = λ x m.
      let u = c.parts.invariant.goes x m in
      let told : TellsFirst c.next.new.self c.in-Some.event u.rest = rw c.in-Some.is at (c.in_ok-event.ensures.next u.rest u.remain) in
      next_way u told c.in_ok-take_in.ensures.slots;
}

pub take_in-requires-clause-event : goal.take_in-requires-clause-event
take_in-requires-clause-event c =
    let u = c.parts.invariant.goes c.requires.text.0 c.requires.text.1 in
    let told : TellsFirst c.next.new.self c.in-Some.event u.rest = rw c.in-Some.is at (c.in_ok-event.ensures.next u.rest u.remain) in
    (told.tag, told.tells)

pub returns-clause-mark : goal.returns-clause-mark
returns-clause-mark c = λ x m.
    let u = c.parts.invariant.goes x m in
    let none : u.rest ≡ [] = rw c.in_default.is at (c.in_ok-event.ensures.next u.rest u.remain) in
    c.in_ok-mark.ensures c.parts.numbers.given x (whole_way u none)
