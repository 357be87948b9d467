use Rattle.std.proofs.Common.{◌∙◌, ap, [], ◌∷◌, length, arith}
use Rattle.std.proofs.lemmas.List.{length-append}
use Rattle.sonic_find.proofs.TableLemmas.Rows.{rows_more, filled_long, item_longer}
use Rattle.sonic_find.proofs.table.pass_rows.Goals as goal
use Rattle.sonic_find.specs.Internal.Walk.{WalkState}

pub returns-clause-rows : goal.returns-clause-rows
returns-clause-rows c = λ i before.
    let text = ap (λ (w : WalkState). w.text) c.look_ahead.ensures.moved in
    let rule = ap (λ (w : WalkState). w.rule) c.look_ahead.ensures.moved in
    let rows = c.in_ok-look_ahead.ensures.expected c.args.view.now.paths i c.requires.columns before c.if-branch.false in
    let item = rw text at c.in_ok-item.ensures.item in
    let full = rw (text, rule) at c.in_ok-item.ensures.filled in
    let added = rw c.slots.ensures at c.in_ok-push.ensures in
    record {
      n = length c.look_ahead.new.table.items.items;
      many = ap length added.items ∙ length-append c.look_ahead.new.table.items.items (c.in_ok-item.item ∷ []);
      h = c.look_ahead.new.walk.place;
      fit = rows.fit;
      item = c.in_ok-item.item;
      is = item;
      rows = rows_more rows.rows rows.fit item full (filled_long full) added;
    }

pub returns-clause-later : goal.returns-clause-later
returns-clause-later c =
    let text = ap (λ (w : WalkState). w.text) c.look_ahead.ensures.moved in
    let longer = item_longer c.in_ok-item.ensures.item in
    let later = c.in_ok-look_ahead.ensures.later in
    omega (arith, longer, later)

pub returns-clause-slots : goal.returns-clause-slots
returns-clause-slots c = filled_long c.in_ok-item.ensures.filled
