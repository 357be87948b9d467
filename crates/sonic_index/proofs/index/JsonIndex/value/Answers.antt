use Rattle.std.proofs.Common.{◌∙◌, arith}
use Rattle.sonic_input.specs.Slices.{slice_bytes}
use Rattle.sonic_text.proofs.Values.{value-longer}
use Rattle.sonic_lazy.proofs.WholeLemmas.{whole_of_part}
use Rattle.sonic_index.specs.Internal.Cells.{entry_of}
use Rattle.sonic_index.proofs.CellLemmas.{read_entry}
use Rattle.sonic_index.proofs.PathLemmas.{cell_within, entry_part}
use Rattle.sonic_index.proofs.index.JsonIndex.value.Goals as goal

pub value_span-value-requires : goal.value_span-value-requires
value_span-value-requires c =
    let v = c.self.inside in
    let read = cell_within (slice_bytes v.json) v.cells.items c.args.i c.index-cell.result.now (rw (← c.self.view_is) at c.requires) c.index-cell.ensures in
    rw c.bytes.ensures (entry_part v.cells.items c.self.invariant.entries c.self.invariant.valid c.args.i c.index-cell.result.now read).value

pub part-requires-clause-order : goal.part-requires-clause-order
part-requires-clause-order c =
    let v = c.self.inside in
    let read = cell_within (slice_bytes v.json) v.cells.items c.args.i c.index-cell.result.now (rw (← c.self.view_is) at c.requires) c.index-cell.ensures in
    let part = entry_part v.cells.items c.self.invariant.entries c.self.invariant.valid c.args.i c.index-cell.result.now read in
    omega (arith, value-longer part.value)

pub part-requires-clause-inside : goal.part-requires-clause-inside
part-requires-clause-inside c =
    let v = c.self.inside in
    let read = cell_within (slice_bytes v.json) v.cells.items c.args.i c.index-cell.result.now (rw (← c.self.view_is) at c.requires) c.index-cell.ensures in
    (entry_part v.cells.items c.self.invariant.entries c.self.invariant.valid c.args.i c.index-cell.result.now read).inside

pub whole-requires : goal.whole-requires
whole-requires c =
    let v = c.self.inside in
    let read = cell_within (slice_bytes v.json) v.cells.items c.args.i c.index-cell.result.now (rw (← c.self.view_is) at c.requires) c.index-cell.ensures in
    let part = entry_part v.cells.items c.self.invariant.entries c.self.invariant.valid c.args.i c.index-cell.result.now read in
    let value = c.value_span-value.ensures in
    whole_of_part c.part.ensures.bytes part (rw (c.bytes.ensures, value.start, value.end) at value.escaped)

pub returns : goal.returns
returns c =
    let v = c.self.inside in
    let read = cell_within (slice_bytes v.json) v.cells.items c.args.i c.index-cell.result.now (rw (← c.self.view_is) at c.requires) c.index-cell.ensures in
    rw (← c.self.view_is) (entry_of (slice_bytes v.json) v.cells.items c.index-cell.result.now, read_entry (slice_bytes v.json) v.cells.items c.args.i read, c.whole.ensures.text ∙ c.part.ensures.bytes)
