use Rattle.std.proofs.Common.{refl}
use Rattle.sonic_c.proofs.ContainerLemmas.{resumed, told_item, closed_told, fault_told}
use Rattle.sonic_c.proofs.items.jihluka_items_next.Goals as goal
use Rattle.sonic_c.specs.Containers.{item_told, item_fails, has_ended}

pub returns-in_default-clause-call : goal.returns-in_default-clause-call
returns-in_default-clause-call c = has_ended (c.going.ensures.none c.in_default.is) refl refl

pub pass_item-requires-clause-checks : goal.pass_item-requires-clause-checks
pass_item-requires-clause-checks c = rw c.cursor_at-cursor.ensures refl

pub pass_item-requires-clause-bracket : goal.pass_item-requires-clause-bracket
pass_item-requires-clause-bracket c = rw c.cursor_at-cursor.ensures c.in-Some.ensures.bracket

pub returns-in-Ok-Some-clause-call : goal.returns-in-Ok-Some-clause-call
returns-in-Ok-Some-clause-call c =
    let item = rw (c.in-Ok-Some.field-0-is, c.cursor_at-cursor.ensures) at c.in-Ok-Some.ensures.item in
    item_told (λ kind n x. told_item c.in-Some.ensures.state x (item n) c.state_of-state.ensures) refl refl

pub close-requires : goal.close-requires
close-requires c = rw (c.in-Ok-None.ensures.moved, c.cursor_at-cursor.ensures) at c.place.ensures.inside

pub returns-in-Ok-None-clause-call : goal.returns-in-Ok-None-clause-call
returns-in-Ok-None-clause-call c =
    let closed = rw c.cursor_at-cursor.ensures at c.in-Ok-None.ensures.closed in
    rw c.close.ensures.ended
    (closed_told (λ kind n x. rw c.place.ensures.place (closed c.in-Ok-None.field-0-is n (resumed c.in-Some.ensures.state x).1)) c.close.ensures.tells)

pub tell_stop-requires : goal.tell_stop-requires
tell_stop-requires c = rw c.in-Err-At.field-0-is (rw (c.in-Err-At.field-0-is, c.cursor_at-cursor.ensures) at c.in-Err-At.ensures.stop)

pub returns-clause-call : goal.returns-clause-call
returns-clause-call c =
    let err = rw (c.in-Err-At.field-0-is, c.cursor_at-cursor.ensures) at c.in-Err-At.ensures.err in
    item_fails c.in-Err-At.stop (λ kind n x. fault_told c.in-Some.ensures.state x (err n)) c.tell_stop.ensures.status (rw c.in-Err-At.field-0-is at c.tell_stop.ensures.numbers) c.ended.ensures refl
