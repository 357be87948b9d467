use Rattle.std.proofs.Common.{ap, ◌+◌, ◌<◌, ◌^◌, length, arith, rules}
use Rattle.sonic_find.proofs.ColumnLemmas.Members.{members_past}
use Rattle.sonic_find.proofs.ColumnLemmas.Moved.{key_here}
use Rattle.sonic_find.proofs.columns.Columns.pass_member.Goals as goal
use Rattle.sonic_text.proofs.Places.{after_space_later}
use Rattle.sonic_text.proofs.Values.{value-longer}
use Rattle.sonic_find.specs.declared.columns.Columns.{Columns}

pub overflow_add-key : goal.overflow_add-key
overflow_add-key c =
    let is = key_here c.known_key.new.self.known.items c.in_ok-number.number c.index.result.now c.in_ok-number.ensures.number c.index.ensures c.in_ok-number.ensures.key in
    let short = is.short in
    let fits : length c.args.text.now < 2 ^ 64 = search rules in
    record { fits = omega (arith, short, fits, c.requires.near) }

pub near_space-requires : goal.near_space-requires
near_space-requires c =
    let is = key_here c.known_key.new.self.known.items c.in_ok-number.number c.index.result.now c.in_ok-number.ensures.number c.index.ensures c.in_ok-number.ensures.key in
    let short = is.short in
    omega (arith, short, c.requires.near)

pub pass_value-requires-clause-near : goal.pass_value-requires-clause-near
pass_value-requires-clause-near c =
    let is = key_here c.known_key.new.self.known.items c.in_ok-number.number c.index.result.now c.in_ok-number.ensures.number c.index.ensures c.in_ok-number.ensures.key in
    let short = is.short in
    c.in_ok-value.ensures.near 64 (omega arith) (omega (arith, short, c.requires.near))

pub returns-clause-members : goal.returns-clause-members
returns-clause-members c = λ i before.
    let is = key_here c.known_key.new.self.known.items c.in_ok-number.number c.index.result.now c.in_ok-number.ensures.number c.index.ensures c.in_ok-number.ensures.key in
    let row = ap (λ (s : Columns). s.row.items) c.known_key.ensures.kept in
    let kept = rw row at c.keep.ensures.row in
    members_past (record { start = c.in_ok-value.value; end = c.in_ok-end.end }) before is c.in_ok-value.ensures.space c.in_ok-end.ensures.value kept

pub returns-clause-known : goal.returns-clause-known
returns-clause-known c = rw c.keep.ensures.kept c.known_key.ensures.known

pub returns-clause-near : goal.returns-clause-near
returns-clause-near c =
    let place = c.in_ok-value.ensures.space in
    let later = after_space_later c.args.text.now (c.args.key + c.index.result.now.length) in
    let longer = value-longer c.in_ok-end.ensures.value in
    (omega (arith, place, later, longer), c.in_ok-end.ensures.near)
