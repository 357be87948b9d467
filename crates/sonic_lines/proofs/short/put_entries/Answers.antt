use Rattle.std.proofs.Common.{◌≡◌, [], drop, arith, refl}
use Rattle.std.proofs.Math.ListN.{drop_of_length-le}
use Rattle.sonic_lines.proofs.RowLemmas.{columns_down}
use Rattle.sonic_lines.proofs.short.put_entries.Goals as goal

pub loop-number-init : goal.loop-number-init
loop-number-init c =
    let over : drop 128 c.args.short.now ≡ [] = drop_of_length-le c.args.short.now {i = 128} (omega arith) in
    let none = drop_of_length-le c.args.buffers.now {i = c.len-number.result} (omega arith) in
    record { number = omega arith; some = omega (arith, c.put-at.ensures.start); within = omega (arith, c.put-at.ensures.start); text = rw (c.put-at.ensures.text, over, none) refl }

pub loop-number-preserved : goal.loop-number-preserved
loop-number-preserved c =
    let i = c.loop-number.invariant in
    let put = c.in-Some.ensures in
    record {
      number = omega arith;
      some = put.start.0;
      within = omega (arith, i.within, put.start.1, c.put_tab-at.ensures.start);
      text = columns_down c.args.line.now c.args.buffers.now _ c.loop-number.number c.at.result _ _ _ (omega arith) c.at.ensures i.text (rw c.len.ensures at c.put_tab-at.ensures.text) put.text;
    }

pub returns-clause-text : goal.returns-clause-text
returns-clause-text c = let first : c.loop-number.number ≡ 0 = omega arith in rw first at c.loop-number.invariant.text
