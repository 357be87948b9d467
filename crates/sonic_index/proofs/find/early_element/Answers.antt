use Rattle.std.proofs.Common.{◌≡◌, ◌∙◌, get_or, sym, ap, arith}
use Rattle.std.proofs.lemmas.List.{length-map}
use Rattle.std.proofs.lemmas.Option.{get_or_from_slice_get, slice_get-get_or, slice_get_within}
use Rattle.sonic_text.specs.Paths.{index}
use Rattle.sonic_find.specs.Paths.{LeadsOn}
use Rattle.sonic_index.specs.declared.cell.Cell.{Cell}
use Rattle.sonic_index.specs.declared.entry.Entry.{Entry}
use Rattle.sonic_index.specs.Internal.Cells.{entries_of, entry_of}
use Rattle.sonic_index.proofs.CellLemmas.{read_entry}
use Rattle.sonic_index.proofs.ElementLemmas.{its_index, next_element, other_index}
use Rattle.sonic_index.proofs.EntryLemmas.{read_element}
use Rattle.sonic_index.proofs.ItemLemmas.{sought_first, sought_next, sought_leads, sought_none, IsFirst}
use Rattle.sonic_index.proofs.PathLemmas.{no_cell, cells_rising, first_after}
use Rattle.sonic_index.proofs.find.early_element.Goals as goal

pub loop-at-init : goal.loop-at-init
loop-at-init c =
    let cells = c.args.cells.now in
    let a = c.requires.array in
    let same = get_or_from_slice_get cells c.args.i a.cell no_cell a.read in
    rw same (sought_first c.requires.entries c.args.i (entry_of c.args.text.now cells a.cell) (index c.args.number) (read_entry c.args.text.now cells c.args.i a.read))

pub returns-then-whole-item-clause-none : goal.returns-then-whole-item-clause-none
returns-then-whole-item-clause-none c =
    let text = c.args.text.now in
    let cells = c.args.cells.now in
    let a = c.requires.array in
    let item = get_or cells c.loop-at.at no_cell in
    let same = get_or_from_slice_get cells c.args.i a.cell no_cell a.read in
    let sought = rw same at c.loop-at.invariant in
    let there = read_entry text cells c.loop-at.at (slice_get-get_or cells c.loop-at.at no_cell c.loop-at-test.true) in
    let none = sought.next.none (λ z e. let one : z ≡ entry_of text cells item = cc in omega (arith, ap (λ (o : Entry). o.start) one, ap (λ (o : Cell). o.end) same, c.if-whole-item.true)) in
    record {
      from = a.cell;
      read = a.read;
      none = sought_none c.requires.entries (entry_of text cells a.cell) (index c.args.number) (read_element (entries_of text cells) c.args.i (read_entry text cells c.args.i a.read)) sought none;
    }

pub returns-clause-none : goal.returns-clause-none
returns-clause-none c =
    let text = c.args.text.now in
    let cells = c.args.cells.now in
    let es = entries_of text cells in
    let a = c.requires.array in
    let same = get_or_from_slice_get cells c.args.i a.cell no_cell a.read in
    let sought = rw same at c.loop-at.invariant in
    let none = sought.next.none (λ z e. absurd (omega (arith, slice_get_within es c.loop-at.at z e, length-map cells (entry_of text cells), c.loop-at-test.false))) in
    record {
      from = a.cell;
      read = a.read;
      none = sought_none c.requires.entries (entry_of text cells a.cell) (index c.args.number) (read_element es c.args.i (read_entry text cells c.args.i a.read)) sought none;
    }

pub returns-then-item-number-clause-some : goal.returns-then-item-number-clause-some
returns-then-item-number-clause-some c =
    let text = c.args.text.now in
    let cells = c.args.cells.now in
    let a = c.requires.array in
    let item = get_or cells c.loop-at.at no_cell in
    let same = get_or_from_slice_get cells c.args.i a.cell no_cell a.read in
    let sought = rw same at c.loop-at.invariant in
    let to = slice_get-get_or cells c.loop-at.at no_cell c.loop-at-test.true in
    let read = read_element (entries_of text cells) c.args.i (read_entry text cells c.args.i a.read) in
    let here = next_element cells c.requires.entries c.args.i a.read sought to (rw same at c.if-whole-item.false) a.opens in
    let leads : LeadsOn text a.cell.start (index c.args.number) item.start = rw here.start at (sought_leads c.requires.entries (entry_of text cells a.cell) (index c.args.number) read sought here.is (its_index here c.if-item-number.true)) in
    record { from = a.cell; to = item; read = a.read; found = to; leads = leads }

pub after-at-requires-clause-rising : goal.after-at-requires-clause-rising
after-at-requires-clause-rising c = cells_rising c.args.text.now c.args.cells.now c.requires.entries

pub loop-at-preserved : goal.loop-at-preserved
loop-at-preserved c =
    let text = c.args.text.now in
    let cells = c.args.cells.now in
    let a = c.requires.array in
    let same = get_or_from_slice_get cells c.args.i a.cell no_cell a.read in
    let sought = rw same at c.loop-at.invariant in
    let to = slice_get-get_or cells c.loop-at.at no_cell c.loop-at-test.true in
    let read = read_element (entries_of text cells) c.args.i (read_entry text cells c.args.i a.read) in
    let here = next_element cells c.requires.entries c.args.i a.read sought to (rw same at c.if-whole-item.false) a.opens in
    let after = c.after-at.ensures in
    let get = after.read in
    let one : after.cell ≡ get_or cells c.loop-at.at no_cell = cc in
    let end : after.cell.end ≡ here.part.end = ap (λ (o : Cell). o.end) one ∙ sym here.end in
    let first : IsFirst (entries_of text cells) here.part.end c.after-at.result = rw end at (first_after c.requires.entries after) in
    rw same (sought_next c.requires.entries (entry_of text cells a.cell) (index c.args.number) read sought here.is (other_index here c.if-item-number.false) first)
