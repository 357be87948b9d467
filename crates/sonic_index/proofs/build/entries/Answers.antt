use Rattle.std.proofs.Common.{[]}
use Rattle.sonic_text.specs.declared.kind.Kind.TheVariants.{Array}
use Rattle.sonic_parser.specs.declared.parts.ValueAt.TheVariants.{Ends}
use Rattle.sonic_index.specs.declared.build.At.{At}
use Rattle.sonic_index.specs.Internal.Places.{ExpectsValueAt, IsValueWritten}
use Rattle.sonic_index.proofs.PlaceLemmas.{root_alone, root_expected}
use Rattle.sonic_index.proofs.build.entries.Goals as goal

pub value-requires-clause-expected : goal.value-requires-clause-expected
value-requires-clause-expected c = ([], rw (c.requires.empty, c.first-item.ensures, c.requires.place) (root_expected Array (rw c.requires.place at c.requires.inside)))

pub returns-in-Ends-clause-ok : goal.returns-in-Ends-clause-ok
returns-in-Ends-clause-ok c =
    let at : At = record { item = c.first-item.result; place = c.args.start } in
    let root : ExpectsValueAt c.args.text.now c.args.written.now.cells.items [] at = rw (c.requires.empty, c.first-item.ensures, c.requires.place) (root_expected Array (rw c.requires.place at c.requires.inside)) in
    let w : IsValueWritten c.args.text.now c.args.written.now.cells.items c.value.new.cells.items at (Ends c.in-Ends.end) = rw c.in-Ends.is at c.in_ok-end.ensures.ok in
    root_alone (record { item = c.first-item.result; place = c.in-Ends.end }) (w.1 [] root)

pub returns-in-Ends-clause-inside : goal.returns-in-Ends-clause-inside
returns-in-Ends-clause-inside c =
    let at : At = record { item = c.first-item.result; place = c.args.start } in
    let root : ExpectsValueAt c.args.text.now c.args.written.now.cells.items [] at = rw (c.requires.empty, c.first-item.ensures, c.requires.place) (root_expected Array (rw c.requires.place at c.requires.inside)) in
    let w : IsValueWritten c.args.text.now c.args.written.now.cells.items c.value.new.cells.items at (Ends c.in-Ends.end) = rw c.in-Ends.is at c.in_ok-end.ensures.ok in
    (w.1 [] root).within
