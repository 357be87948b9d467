use Rattle.std.proofs.Common.{◌<◌, ◌+◌, ◌-◌, get_or, length, refl, arith}
use Rattle.std.proofs.lemmas.Option.{slice_get-get_or, slice_get_within}
use Rattle.sonic_index.proofs.PathLemmas.{no_cell, bound_high, bound_low}
use Rattle.sonic_index.proofs.find.near.Goals as goal

pub loop-low-init : goal.loop-low-init
loop-low-init c =
    let cells = c.args.cells.now in (
      record {
        cell = get_or cells c.args.i no_cell;
        read = slice_get-get_or cells c.args.i no_cell c.requires.within;
        later = omega arith;
        order = omega (arith, c.requires.within);
        within = omega arith;
        inside = λ d x more less e. absurd (omega (arith, more, less));
        after = λ d x past e. absurd (omega (arith, past, slice_get_within cells d x e));
      },
      refl,
    )

pub loop-low-preserved : goal.loop-low-preserved
loop-low-preserved c =
    let s = c.loop-low.invariant.0 in
    let last = c.loop-low.low + (c.loop-low.low - c.args.i) - 1 in
    let within : last < length c.args.cells.now = omega (arith, s.later, s.order, c.loop-low-test.true) in
    bound_low last (omega (arith, s.later)) c.requires.rising c.loop-low.invariant within c.if-end-cells.false (omega (arith, s.later))

pub returns-then-end-cells : goal.returns-then-end-cells
returns-then-end-cells c =
    let s = c.loop-low.invariant.0 in
    let last = c.loop-low.low + (c.loop-low.low - c.args.i) - 1 in
    let within : last < length c.args.cells.now = omega (arith, s.later, s.order, c.loop-low-test.true) in
    (bound_high last c.requires.rising c.loop-low.invariant within c.if-end-cells.true (omega (arith, s.later))).0
