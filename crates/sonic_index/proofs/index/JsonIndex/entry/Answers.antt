use Rattle.std.proofs.Common.{ap, sym, ◌∙◌, arith, refl}
use Rattle.std.proofs.lemmas.Option.{slice_get_read}
use Rattle.sonic_text.specs.Values.{type_of}
use Rattle.sonic_index.proofs.CellLemmas.{cell_right, entry_read}
use Rattle.sonic_index.proofs.EntryLemmas.{read_element}
use Rattle.sonic_index.proofs.index.JsonIndex.entry.Goals as goal

pub index-parent-requires : goal.index-parent-requires
index-parent-requires c =
    let v = c.self.inside.cells in
    let read = slice_get_read v.items _ c.args.i c.index-cell.result.now refl (omega (arith, v.ok.0, c.if-len-i.false, c.len.ensures)) c.index-cell.ensures in
    let l = (cell_right _ v.items c.args.i c.index-cell.result.now c.self.invariant.entries read).parent in
    omega (arith, l, v.ok.0)

pub label-requires : goal.label-requires
label-requires c =
    let v = c.self.inside.cells in
    let read = slice_get_read v.items _ c.args.i c.index-cell.result.now refl (omega (arith, v.ok.0, c.if-len-i.false, c.len.ensures)) c.index-cell.ensures in
    let right = cell_right _ v.items c.args.i c.index-cell.result.now c.self.invariant.entries read in
    let parent = slice_get_read v.items _ c.index-cell.result.now.parent c.index-parent.result.now refl right.parent c.index-parent.ensures in
    record { key = rw (c.bytes-text.ensures) (right.key c.index-parent.result.now parent) }

pub returns-clause-entry : goal.returns-clause-entry
returns-clause-entry c =
    let v = c.self.inside.cells in
    let text = c.bytes-text.result.now in
    let cell = c.index-cell.result.now in
    let read = slice_get_read v.items _ c.args.i cell refl (omega (arith, v.ok.0, c.if-len-i.false, c.len.ensures)) c.index-cell.ensures in
    let right = cell_right _ v.items c.args.i cell c.self.invariant.entries read in
    let parent = slice_get_read v.items _ cell.parent c.index-parent.result.now refl right.parent c.index-parent.ensures in
    let entry = entry_read text v.items c.args.i cell c.index-parent.result.now read parent (c.type_of.ensures ∙ ap type_of c.byte_at.ensures.value) c.label.ensures in
    rw (← c.self.view_is) (rw c.bytes-text.ensures at entry)

pub returns-clause-is : goal.returns-clause-is
returns-clause-is c =
    let v = c.self.inside.cells in
    let text = c.bytes-text.result.now in
    let cell = c.index-cell.result.now in
    let read = slice_get_read v.items _ c.args.i cell refl (omega (arith, v.ok.0, c.if-len-i.false, c.len.ensures)) c.index-cell.ensures in
    let right = cell_right _ v.items c.args.i cell c.self.invariant.entries read in
    let parent = slice_get_read v.items _ cell.parent c.index-parent.result.now refl right.parent c.index-parent.ensures in
    let entry = entry_read text v.items c.args.i cell c.index-parent.result.now read parent (c.type_of.ensures ∙ ap type_of c.byte_at.ensures.value) c.label.ensures in
    rw (← c.self.view_is) (c.self.invariant.entries.sound _ (read_element _ c.args.i (sym (rw c.bytes-text.ensures at entry))))

pub returns-then-len-i-clause-all : goal.returns-then-len-i-clause-all
returns-then-len-i-clause-all c = rw (← c.self.view_is) c.self.invariant.entries

pub returns-clause-all : goal.returns-clause-all
returns-clause-all c = rw (← c.self.view_is) c.self.invariant.entries
