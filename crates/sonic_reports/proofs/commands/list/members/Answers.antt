use Rattle.std.proofs.Common.{arith, refl}
use Rattle.sonic_reports.proofs.ListLemmas.{no_lines, member_more, last_error, over_closed}
use Rattle.sonic_reports.proofs.commands.list.members.Goals as goal

pub members-init : goal.members-init
members-init c = record {
  going = rw c.to_object_iter-members.ensures refl;
  lines = rw (c.to_object_iter-members.ensures, c.new-listed.ensures.items) no_lines;
}

pub members-smaller : goal.members-smaller
members-smaller c =
    let given = rw c.in-Ok.is at c.in-Some.ensures.next.item in
    let within = rw c.members.invariant.going at given.within in
    rw given.moved (omega (arith, within))

pub members-preserved : goal.members-preserved
members-preserved c =
    let given = rw c.in-Ok.is at c.in-Some.ensures.next.item in
    let shown = rw c.members.invariant.going at given.shown in
    record {
      going = rw (given.moved, c.members.invariant.going) refl;
      lines = rw (given.moved, c.in_ok-push-in-Ok.ensures.items) (member_more c.members.listed.items _ c.members.invariant.lines shown c.borrowed_text.ensures);
    }

pub returns-in-Err : goal.returns-in-Err
returns-in-Err c =
    let stuck = rw c.in-Err.is at c.in-Some.ensures.next.error in
    rw c.new.ensures record { count = c.members.members.given; lines = c.members.invariant.lines; ending = last_error c.members.invariant.going stuck.error }

pub returns : goal.returns
returns c =
    let over = c.in_default.ensures.next.none in
    rw c.new-2.ensures record { count = c.members.members.given; lines = c.members.invariant.lines; ending = over_closed c.members.invariant.going over }
