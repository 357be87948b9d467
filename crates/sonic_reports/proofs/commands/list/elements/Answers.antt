use Rattle.std.proofs.Common.{arith, refl}
use Rattle.sonic_reports.proofs.ListLemmas.{no_lines, element_more, last_error, over_closed}
use Rattle.sonic_reports.proofs.commands.list.elements.Goals as goal

pub elements-init : goal.elements-init
elements-init c = record {
  going = rw c.to_array_iter-elements.ensures refl;
  lines = rw (c.to_array_iter-elements.ensures, c.new-listed.ensures.items) no_lines;
}

pub elements-smaller : goal.elements-smaller
elements-smaller c =
    let given = rw c.in-Ok.is at c.in-Some.ensures.next.item in
    let within = rw c.elements.invariant.going at given.within in
    rw given.moved (omega (arith, within))

pub elements-preserved : goal.elements-preserved
elements-preserved c =
    let given = rw c.in-Ok.is at c.in-Some.ensures.next.item in
    let shown = rw c.elements.invariant.going at given.shown in
    record {
      going = rw (given.moved, c.elements.invariant.going) refl;
      lines = rw (given.moved, c.in_ok-push-in-Ok.ensures.items) (element_more c.elements.listed.items _ c.elements.invariant.lines shown c.borrowed_text.ensures);
    }

pub returns-in-Err : goal.returns-in-Err
returns-in-Err c =
    let stuck = rw c.in-Err.is at c.in-Some.ensures.next.error in
    rw c.new.ensures record { count = c.elements.elements.given; lines = c.elements.invariant.lines; ending = last_error c.elements.invariant.going stuck.error }

pub returns : goal.returns
returns c =
    let over = c.in_default.ensures.next.none in
    rw c.new-2.ensures record { count = c.elements.elements.given; lines = c.elements.invariant.lines; ending = over_closed c.elements.invariant.going over }
