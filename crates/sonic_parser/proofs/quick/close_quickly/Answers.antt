use Rattle.std.proofs.Common.{◌≡◌, ◌<◌, take, arith}
use Rattle.std.proofs.lemmas.Grind.{common_steps}
use Rattle.std.proofs.lemmas.List.{length-take}
use Rattle.sonic_parser.proofs.SkippingLemmas.{kinds_first}
use Rattle.sonic_parser.proofs.quick.close_quickly.Goals as goal

pub rooms-preserved : goal.rooms-preserved
rooms-preserved c =
    let i = c.rooms.invariant in
    let extent = c.pass_items-extent.ensures in
    let before : take c.len-depth.result c.as_mut_slice.result.now ≡ c.rooms.opened.items = grind (arith, common_steps, kinds_first) in
    let after : c.truncate.new.self.items ≡ take c.pass_items-extent.result.depth c.pass_items-extent.new.kinds = grind (arith, common_steps) in
    let ongoing : 0 < c.pass_items-extent.result.depth = rw c.in-Expected.is at extent.some in
    record {
      within = rw c.in-Expected.is at extent.within;
      some = rw after (omega (arith, length-take c.pass_items-extent.result.depth c.pass_items-extent.new.kinds, ongoing, extent.room));
      reached = λ root start. rw after (rw c.in-Expected.is at (extent.reached root (rw before (i.reached root start))));
    }
