use Rattle.sonic_lines.proofs.RowLemmas.{columns_step}
use Rattle.sonic_lines.proofs.row.add_long_entries.Goals as goal

pub loop-number-preserved : goal.loop-number-preserved
loop-number-preserved c =
    columns_step c.args.line.now c.args.buffers.now c.loop-number.number c.at.result c.args.out.now.items c.loop-number.out.items c.add_tab.new.out.items c.add_entry.new.out.items
    c.at.ensures c.loop-number.invariant c.in_ok-add_tab.ensures.ok c.in_ok-add_entry.ensures.ok
