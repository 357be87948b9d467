use Rattle.std.proofs.Common.{◌≡◌, ◌+◌, ◌-◌, ◌/◌, get_or, ap, refl, arith}
use Rattle.std.proofs.lemmas.Option.{slice_get-get_or}
use Rattle.sonic_index.specs.declared.cell.Cell.{Cell}
use Rattle.sonic_index.specs.Internal.Items.{IsBetween}
use Rattle.sonic_index.proofs.PathLemmas.{no_cell, bound_high, bound_low}
use Rattle.sonic_index.proofs.find.after.Goals as goal

pub loop-low-init : goal.loop-low-init
loop-low-init c =
    let s = c.near-bounds.ensures in
    let read = slice_get-get_or c.args.cells.now c.args.i no_cell c.requires.within in
    let there = s.read in
    let same : s.cell ≡ get_or c.args.cells.now c.args.i no_cell = cc in
    (s, ap (λ (o : Cell). o.end) same)

pub loop-low-preserved-then-cells-middle : goal.loop-low-preserved-then-cells-middle
loop-low-preserved-then-cells-middle c =
    let middle = c.loop-low.low + (c.loop-low.high - c.loop-low.low) / 2 in
    bound_low middle refl c.requires.rising c.loop-low.invariant (omega (arith, c.loop-low-test.true)) c.if-cells-middle.true (omega (arith, c.loop-low.invariant.0.later))

pub loop-low-preserved : goal.loop-low-preserved
loop-low-preserved c =
    let middle = c.loop-low.low + (c.loop-low.high - c.loop-low.low) / 2 in
    bound_high middle c.requires.rising c.loop-low.invariant (omega (arith, c.loop-low-test.true)) c.if-cells-middle.false (omega arith)

pub returns : goal.returns
returns c =
    let s = c.loop-low.invariant.0 in
    let same : c.loop-low.high ≡ c.loop-low.low = omega (arith, s.order, c.loop-low-test.false) in
    let there : IsBetween c.args.cells.now c.args.i c.loop-low.low c.loop-low.low = rw same at s in
    there
