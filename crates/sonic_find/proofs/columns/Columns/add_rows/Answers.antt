use Rattle.std.proofs.Common.{◌∙◌, ap, length, arith}
use Rattle.sonic_find.proofs.ColumnLemmas.Table.{row_more, rows_next, ready_next}
use Rattle.sonic_find.proofs.columns.Columns.add_rows.Goals as goal
use Rattle.sonic_find.specs.Internal.Columns.{keys_of}
use Rattle.sonic_find.specs.Internal.Walk.{WalkState}
use Rattle.sonic_find.specs.declared.columns.Columns.{Columns}
use Rattle.sonic_text.proofs.Values.{value-longer}
use Rattle.sonic_text.specs.declared.kind.Kind.TheVariants.{Array}

pub returns-in_default-clause-ready : goal.returns-in_default-clause-ready
returns-in_default-clause-ready c =
    let inv = c.rows.invariant in
    let text = ap (λ (w : WalkState). w.text) inv.moved in
    let cleared = ap keys_of c.clear.ensures.kept in
    let passed = ap keys_of c.pass_row.ensures.kept in
    let known = rw text at c.pass_row.ensures.known in
    ready_next (cleared ∙ passed) (c.clear.ensures.long ∙ c.pass_row.ensures.long) inv.ready c.clear.ensures.blank (rw (ap (λ (s : Columns). s.known) c.clear.ensures.kept) known)

pub overflow_sub-end : goal.overflow_sub-end
overflow_sub-end c = (let longer = value-longer c.in-Some.ensures.row.value in omega (arith, longer))

pub reserve-requires : goal.reserve-requires
reserve-requires c = (let longer = value-longer c.in-Some.ensures.row.value in omega (arith, longer))

pub push_row-requires : goal.push_row-requires
push_row-requires c = (let longer = value-longer c.in-Some.ensures.row.value in omega (arith, longer))

pub returns-in_default-after_comma-clause-ready : goal.returns-in_default-after_comma-clause-ready
returns-in_default-after_comma-clause-ready c =
    let inv = c.rows.invariant in
    let text = ap (λ (w : WalkState). w.text) inv.moved in
    let pushed = ap keys_of c.push_row.ensures.kept in
    let passed = ap keys_of c.pass_row.ensures.kept in
    let known = rw text at c.pass_row.ensures.known in
    ready_next (pushed ∙ passed) (c.in_ok-push_row.ensures.long ∙ c.pass_row.ensures.long) inv.ready c.in_ok-push_row.ensures.blank
    (rw (ap (λ (s : Columns). s.known) c.push_row.ensures.kept) known)

pub returns-in_default-after_comma-clause-later : goal.returns-in_default-after_comma-clause-later
returns-in_default-after_comma-clause-later c =
    let longer = value-longer c.in-Some.ensures.row.value in
    let later = c.rows.invariant.later in
    let place = ap (λ (w : WalkState). w.place) c.set_place-in_default-after_comma.ensures in
    omega (arith, longer, later, place)

pub returns-in_default-after_comma-clause-behind : goal.returns-in_default-after_comma-clause-behind
returns-in_default-after_comma-clause-behind c = λ paths i same before _.
    let inv = c.rows.invariant in
    let text = ap (λ (w : WalkState). w.text) inv.moved in
    let keys = ap keys_of inv.kept in
    let is = rw (text, keys) at c.in-Some.ensures.row in
    let long = c.pass_row.ensures.long ∙ inv.ready.long ∙ ap length keys in
    let up = row_more (keys_of c.args.self.now) c.pass_row.new.self.row.items (inv.rows paths i same before) is same long
    (rw c.reserve.ensures.items at c.in_ok-push_row.ensures.items) (rw c.reserve.ensures.outcomes at c.in_ok-push_row.ensures.row) in
    rw c.set_place-in_default-after_comma.ensures up

pub rows-smaller : goal.rows-smaller
rows-smaller c =
    let longer = value-longer c.in-Some.ensures.row.value in
    let next = c.in-Some-after_comma.ensures.next Array in
    let long = ap length c.text-text.ensures in
    omega (arith, longer, next.0, next.1, long)

pub rows-preserved : goal.rows-preserved
rows-preserved c =
    let inv = c.rows.invariant in
    let text = ap (λ (w : WalkState). w.text) inv.moved in
    let keys = ap keys_of inv.kept in
    let is = rw (text, keys) at c.in-Some.ensures.row in
    let pushed = ap keys_of c.push_row.ensures.kept in
    let passed = ap keys_of c.pass_row.ensures.kept in
    let known = rw text at c.pass_row.ensures.known in
    let long = c.pass_row.ensures.long ∙ inv.ready.long ∙ ap length keys in
    let longer = value-longer c.in-Some.ensures.row.value in
    let next = c.in-Some-after_comma.ensures.next Array in
    let more = ap length c.text-text.ensures in
    record {
      kept = ap (λ (s : Columns). record s { known = c.push_row.new.self.known; row = c.push_row.new.self.row }) (c.push_row.ensures.kept ∙ ap (λ (s : Columns). record s { row = c.push_row.new.self.row }) c.pass_row.ensures.kept ∙ ap (λ (s : Columns). record s { known = c.pass_row.new.self.known; row = c.push_row.new.self.row }) inv.kept);
      moved = c.pass_row.ensures.moved ∙ ap (λ (w : WalkState). record w { place = c.pass_row.new.walk.place }) inv.moved;
      later = omega (arith, inv.later, longer, next.0);
      within = omega (arith, next.1, more);
      ready = ready_next (pushed ∙ passed) (c.in_ok-push_row.ensures.long ∙ c.pass_row.ensures.long) inv.ready c.in_ok-push_row.ensures.blank
          (rw (ap (λ (s : Columns). s.known) c.push_row.ensures.kept) known);
      rows = λ paths i same before. rows_next (row_more (keys_of c.args.self.now) c.pass_row.new.self.row.items (inv.rows paths i same before) is same long
          (rw c.reserve.ensures.items at c.in_ok-push_row.ensures.items) (rw c.reserve.ensures.outcomes at c.in_ok-push_row.ensures.row)) (rw c.text-text.ensures at next.2);
    }
