use Rattle.sonic_parser.proofs.SkippingLemmas.{first_item_expected}
use Rattle.sonic_parser.proofs.parser.Parser.close.Goals as goal

pub close_deep-requires : goal.close_deep-requires
close_deep-requires c =
    let first = first_item_expected (rw (← c.self.view_is) at c.requires.within) (rw (← c.self.view_is) at c.requires.item) in
    let reached = (rw c.as_u8_slice-text.ensures.text at c.pass_items-reached.ensures.reached) c.self.inside.read.place first in
    rw (← c.self.view_is) (rw c.in-Expected.is at reached)

pub returns-in-Closed-clause-ok : goal.returns-in-Closed-clause-ok
returns-in-Closed-clause-ok c =
    let first = first_item_expected (rw (← c.self.view_is) at c.requires.within) (rw (← c.self.view_is) at c.requires.item) in
    let reached = (rw c.as_u8_slice-text.ensures.text at c.pass_items-reached.ensures.reached) c.self.inside.read.place first in
    rw (← c.self.view_is) ((rw c.in-Closed.is at reached).1)

pub returns-in-Ended-clause-err : goal.returns-in-Ended-clause-err
returns-in-Ended-clause-err c =
    let first = first_item_expected (rw (← c.self.view_is) at c.requires.within) (rw (← c.self.view_is) at c.requires.item) in
    let reached = (rw c.as_u8_slice-text.ensures.text at c.pass_items-reached.ensures.reached) c.self.inside.read.place first in
    rw (← c.self.view_is) ((rw c.as_u8_slice-text.ensures.text at c.separator_stop.ensures) c.self.inside.lossy c.self.inside.read.place (rw c.in-Ended.is at reached))
