use Rattle.std.proofs.Common.{◌≡◌, ◌∙◌, true, false, get_or, sym, ap, refl, arith}
use Rattle.std.proofs.lemmas.List.{length-map}
use Rattle.std.proofs.lemmas.Option.{slice_get-get_or, slice_get_within}
use Rattle.sonic_text.specs.Paths.{key}
use Rattle.sonic_find.specs.Paths.{LeadsOn}
use Rattle.sonic_find.proofs.PathLemmas.Lead.{none_unopened}
use Rattle.sonic_index.specs.declared.cell.Cell.{Cell}
use Rattle.sonic_index.specs.declared.entry.Entry.{Entry}
use Rattle.sonic_index.specs.Internal.Cells.{entries_of, entry_of}
use Rattle.sonic_index.proofs.CellLemmas.{read_entry}
use Rattle.sonic_index.proofs.EntryLemmas.{read_element}
use Rattle.sonic_index.proofs.ItemLemmas.{sought_first, sought_next, sought_leads, sought_none, IsFirst}
use Rattle.sonic_index.proofs.PathLemmas.{no_cell, cells_rising, first_after, next_here}
use Rattle.sonic_index.proofs.find.member.Goals as goal

pub returns-then-byte_at-ne123-clause-none : goal.returns-then-byte_at-ne123-clause-none
returns-then-byte_at-ne123-clause-none c = record {
  from = get_or c.args.cells.now c.args.i no_cell;
  read = slice_get-get_or c.args.cells.now c.args.i no_cell c.requires.within;
  none = λ v. none_unopened (rw c.byte_at.ensures.value at c.if-byte_at-ne123.true) (key c.args.wanted.now) v refl;
}

pub loop-at-init : goal.loop-at-init
loop-at-init c =
    let cells = c.args.cells.now in
    let read = read_entry c.args.text.now cells c.args.i (slice_get-get_or cells c.args.i no_cell c.requires.within) in
    sought_first c.requires.entries c.args.i (entry_of c.args.text.now cells (get_or cells c.args.i no_cell)) (key c.args.wanted.now) read

pub returns-then-whole-item-clause-none : goal.returns-then-whole-item-clause-none
returns-then-whole-item-clause-none c =
    let text = c.args.text.now in
    let cells = c.args.cells.now in
    let whole = get_or cells c.args.i no_cell in
    let item = get_or cells c.loop-at.at no_cell in
    let read = slice_get-get_or cells c.args.i no_cell c.requires.within in
    let there = read_entry text cells c.loop-at.at (slice_get-get_or cells c.loop-at.at no_cell c.loop-at-test.true) in
    let none = c.loop-at.invariant.next.none (λ z e. let one : z ≡ entry_of text cells item = cc in omega (arith, ap (λ (o : Entry). o.start) one, c.if-whole-item.true)) in
    record {
      from = whole;
      read = read;
      none = sought_none c.requires.entries (entry_of text cells whole) (key c.args.wanted.now) (read_element (entries_of text cells) c.args.i (read_entry text cells c.args.i read))
          c.loop-at.invariant none;
    }

pub returns-clause-none : goal.returns-clause-none
returns-clause-none c =
    let text = c.args.text.now in
    let cells = c.args.cells.now in
    let es = entries_of text cells in
    let whole = get_or cells c.args.i no_cell in
    let read = slice_get-get_or cells c.args.i no_cell c.requires.within in
    let none = c.loop-at.invariant.next.none (λ z e. absurd (omega (arith, slice_get_within es c.loop-at.at z e, length-map cells (entry_of text cells), c.loop-at-test.false))) in
    record {
      from = whole;
      read = read;
      none = sought_none c.requires.entries (entry_of text cells whole) (key c.args.wanted.now) (read_element es c.args.i (read_entry text cells c.args.i read)) c.loop-at.invariant none;
    }

pub is_named-requires : goal.is_named-requires
is_named-requires c =
    let cells = c.args.cells.now in
    let from = slice_get-get_or cells c.args.i no_cell c.requires.within in
    let to = slice_get-get_or cells c.loop-at.at no_cell c.loop-at-test.true in
    (next_here cells c.requires.entries c.args.i from c.loop-at.invariant to c.if-whole-item.false (sym c.byte_at.ensures.value ∙ c.if-byte_at-ne123.false)).string

pub returns-then-is_named-clause-some : goal.returns-then-is_named-clause-some
returns-then-is_named-clause-some c =
    let text = c.args.text.now in
    let cells = c.args.cells.now in
    let node = key c.args.wanted.now in
    let whole = get_or cells c.args.i no_cell in
    let item = get_or cells c.loop-at.at no_cell in
    let from = slice_get-get_or cells c.args.i no_cell c.requires.within in
    let to = slice_get-get_or cells c.loop-at.at no_cell c.loop-at-test.true in
    let read = read_element (entries_of text cells) c.args.i (read_entry text cells c.args.i from) in
    let here = next_here cells c.requires.entries c.args.i from c.loop-at.invariant to c.if-whole-item.false (sym c.byte_at.ensures.value ∙ c.if-byte_at-ne123.false) in
    let name = here.names.0 (c.is_named.ensures.0 c.if-is_named.true) in
    let leads : LeadsOn text whole.start node item.start = rw here.start at (sought_leads c.requires.entries (entry_of text cells whole) node read c.loop-at.invariant here.is name) in
    record { from = whole; to = item; read = from; found = to; leads = leads }

pub after-at-requires-clause-rising : goal.after-at-requires-clause-rising
after-at-requires-clause-rising c = cells_rising c.args.text.now c.args.cells.now c.requires.entries

pub loop-at-preserved : goal.loop-at-preserved
loop-at-preserved c =
    let text = c.args.text.now in
    let cells = c.args.cells.now in
    let whole = get_or cells c.args.i no_cell in
    let from = slice_get-get_or cells c.args.i no_cell c.requires.within in
    let to = slice_get-get_or cells c.loop-at.at no_cell c.loop-at-test.true in
    let read = read_element (entries_of text cells) c.args.i (read_entry text cells c.args.i from) in
    let here = next_here cells c.requires.entries c.args.i from c.loop-at.invariant to c.if-whole-item.false (sym c.byte_at.ensures.value ∙ c.if-byte_at-ne123.false) in
    let after = c.after-at.ensures in
    let get = after.read in
    let same : after.cell ≡ get_or cells c.loop-at.at no_cell = cc in
    let end : after.cell.end ≡ here.part.end = ap (λ (o : Cell). o.end) same ∙ sym here.end in
    let first : IsFirst (entries_of text cells) here.part.end c.after-at.result = rw end at (first_after c.requires.entries after) in
    sought_next c.requires.entries (entry_of text cells whole) (key c.args.wanted.now) read c.loop-at.invariant here.is
    (λ e. let is = c.is_named.ensures.1 (here.names.1 e) in let clash : true ≡ false = sym is ∙ c.if-is_named.false in absurd cc) first
