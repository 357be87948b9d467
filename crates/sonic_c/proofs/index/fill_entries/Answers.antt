use Rattle.std.proofs.Common.{◌∙◌, sym, arith}
use Rattle.sonic_c.proofs.EntryLemmas.{one_more, all_placed}
use Rattle.sonic_c.specs.Indexes.{shown_entry}
use Rattle.sonic_c.proofs.index.fill_entries.Goals as goal

pub loop-i-preserved : goal.loop-i-preserved
loop-i-preserved c =
    let i = c.loop-i.i in
    record {
      now = rw (c.loop-i.invariant.now, c.shown.ensures)
          (one_more shown_entry c.args.index.now.entries c.args.entries.now i c.in-Some.value (omega (arith, c.loop-i-test.true, c.min-i-end.ensures)) (sym c.in-Some.ensures.entry));
    }

pub returns : goal.returns
returns c = c.loop-i.invariant.now ∙ all_placed shown_entry c.args.index.now.entries c.args.entries.now c.loop-i.i (omega (arith, c.loop-i-test.false))
