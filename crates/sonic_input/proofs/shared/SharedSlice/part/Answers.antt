use Rattle.std.proofs.Common.{◌≤◌, ◌+◌, arith, sym}
use Rattle.bytes.proofs.Ranges.{slice_range-slice_range}
use Rattle.sonic_input.proofs.shared.SharedSlice.part.Goals as goal

-- a part of a part is a part of the whole
pub returns : goal.returns
returns c =
    let shared = c.args.self.now in
    let inside : shared.start + c.args.end ≤ shared.end = omega arith in
    sym (slice_range-slice_range shared.whole.now shared.start shared.end c.args.start c.args.end c.requires.order inside)
