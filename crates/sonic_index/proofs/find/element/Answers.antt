use Rattle.std.proofs.Common.{◌≡◌, ◌∙◌, get_or, sym, ap, refl, arith}
use Rattle.std.proofs.lemmas.Option.{slice_get-get_or}
use Rattle.sonic_text.specs.Paths.{index}
use Rattle.sonic_text.specs.Places.{byte}
use Rattle.sonic_find.specs.Paths.{LeadsOn}
use Rattle.sonic_find.proofs.PathLemmas.Lead.{none_unopened}
use Rattle.sonic_index.specs.declared.cell.Cell.{Cell}
use Rattle.sonic_index.proofs.ElementLemmas.{element_leads, element_of, left_above, left_below, left_first, nothing_left, parents_are, under_between}
use Rattle.sonic_index.proofs.PathLemmas.{no_cell, cells_rising}
use Rattle.sonic_index.proofs.find.element.Goals as goal

pub returns-then-byte_at-ne91-clause-none : goal.returns-then-byte_at-ne91-clause-none
returns-then-byte_at-ne91-clause-none c = record {
  from = get_or c.args.cells.now c.args.i no_cell;
  read = slice_get-get_or c.args.cells.now c.args.i no_cell c.requires.within;
  none = λ v. none_unopened (rw c.byte_at.ensures.value at c.if-byte_at-ne91.true) (index c.args.number) v refl;
}

pub after-high-requires-clause-rising : goal.after-high-requires-clause-rising
after-high-requires-clause-rising c = cells_rising c.args.text.now c.args.cells.now c.requires.entries

pub loop-low-init : goal.loop-low-init
loop-low-init c =
    let cells = c.args.cells.now in
    let s = c.after-high.ensures in
    let there = s.read in
    let read = slice_get-get_or cells c.args.i no_cell c.requires.within in
    let same : s.cell ≡ get_or cells c.args.i no_cell = cc in
    record {
      later = omega arith;
      inside = under_between (cells_rising c.args.text.now cells c.requires.entries) s;
      left = rw (ap (λ (o : Cell). o.start) same) at (left_first c.requires.entries s c.args.number);
    }

pub item_around-requires-clause-parents : goal.item_around-requires-clause-parents
item_around-requires-clause-parents c = parents_are c.args.cells.now c.requires.entries

pub early_element-requires-in_default-clause-array : goal.early_element-requires-in_default-clause-array
early_element-requires-in_default-clause-array c = record {
  cell = get_or c.args.cells.now c.args.i no_cell;
  read = slice_get-get_or c.args.cells.now c.args.i no_cell c.requires.within;
  opens = sym c.byte_at.ensures.value ∙ c.if-byte_at-ne91.false;
}

pub returns-then-count-number-clause-some : goal.returns-then-count-number-clause-some
returns-then-count-number-clause-some c =
    let cells = c.args.cells.now in
    let s = c.in-Some.ensures in
    let read = slice_get-get_or cells c.args.i no_cell c.requires.within in
    let opens : byte c.args.text.now (get_or cells c.args.i no_cell).start ≡ 91 = sym c.byte_at.ensures.value ∙ c.if-byte_at-ne91.false in
    let leads : LeadsOn c.args.text.now (get_or cells c.args.i no_cell).start (index c.args.number) s.held.under.inner.start =
    rw c.if-count-number.true at (element_leads opens (element_of c.requires.entries s read opens)) in
    record { from = get_or cells c.args.i no_cell; to = s.held.under.inner; read = read; found = s.held.under.found; leads = leads }

pub loop-low-preserved-then-count-number-2 : goal.loop-low-preserved-then-count-number-2
loop-low-preserved-then-count-number-2 c =
    let v = c.loop-low.invariant in
    let s = c.in-Some.ensures in
    let read = slice_get-get_or c.args.cells.now c.args.i no_cell c.requires.within in
    let element = element_of c.requires.entries s read (sym c.byte_at.ensures.value ∙ c.if-byte_at-ne91.false) in
    record { later = omega (arith, v.later); inside = v.inside; left = left_above c.requires.entries s element c.if-count-number-2.true v.left }

pub loop-low-smaller : goal.loop-low-smaller
loop-low-smaller c = omega (arith, c.loop-low-test.true, c.in-Some.ensures.order)

pub loop-low-preserved : goal.loop-low-preserved
loop-low-preserved c =
    let v = c.loop-low.invariant in
    let s = c.in-Some.ensures in
    let read = slice_get-get_or c.args.cells.now c.args.i no_cell c.requires.within in
    let element = element_of c.requires.entries s read (sym c.byte_at.ensures.value ∙ c.if-byte_at-ne91.false) in
    record {
      later = v.later;
      inside = λ d more less. v.inside d more (omega (arith, less, s.order, c.loop-low-test.true));
      left = left_below c.requires.entries s element (omega (arith, c.if-count-number.false, c.if-count-number-2.false)) v.left;
    }

pub returns-clause-none : goal.returns-clause-none
returns-clause-none c =
    let read = slice_get-get_or c.args.cells.now c.args.i no_cell c.requires.within in
    let from = get_or c.args.cells.now c.args.i no_cell in
    record {
      from = from;
      read = read;
      none = nothing_left c.args.cells.now c.args.i from c.requires.entries read c.loop-low.invariant.left (omega (arith, c.loop-low-test.false));
    }
