use Rattle.std.proofs.Common.{◌∙◌, ap, ◌+◌, length, arith, refl}
use Rattle.sonic_find.proofs.ColumnLemmas.Members.{members_start, members_more, members_end}
use Rattle.sonic_find.proofs.columns.Columns.pass_row.Goals as goal
use Rattle.sonic_find.specs.Internal.Columns.{keys_of}
use Rattle.sonic_find.specs.Internal.Walk.{WalkState}
use Rattle.sonic_find.specs.declared.columns.Columns.{Columns}
use Rattle.sonic_text.proofs.Places.{after_space_later}

pub members-init : goal.members-init
members-init c =
    let text = c.text-text.ensures in
    let ahead = c.if-text-start-lt-AHEAD.false in
    let long = ap length text in
    let near = c.in_ok-key.ensures.near 0 (omega arith) (omega (arith, ahead)) in
    record {
      kept = refl;
      moved = refl;
      within = omega (arith, near, long);
      long = refl;
      known = c.requires.ready.known;
      members = members_start (keys_of c.args.self.now) c.args.self.now.row.items (rw text at c.if-text-start-ne123.false) (rw text at c.in_ok-key.ensures.space)
          (rw text at c.if-text-key-ne34.false) c.requires.ready.blank;
    }

pub bounds-text-key : goal.bounds-text-key
bounds-text-key c =
    let ahead = c.if-text-start-lt-AHEAD.false in
    let near = c.in_ok-key.ensures.near 1 (omega arith) (omega (arith, ahead)) in
    omega (arith, near)

pub pass_member-requires-clause-known : goal.pass_member-requires-clause-known
pass_member-requires-clause-known c = rw (c.text-text.ensures, ap keys_of c.members.invariant.kept) c.members.invariant.known

pub members-smaller : goal.members-smaller
members-smaller c =
    let near = c.in_ok-number.ensures.near in
    let after = c.in_ok-after.ensures.space in
    let next = c.in_ok-key-in-44.ensures.space in
    let later = after_space_later c.text-text.result.now c.in_ok-number.end in
    let far = after_space_later c.text-text.result.now (c.in_ok-after.after + 1) in
    let long = ap length c.text-text.ensures in
    omega (arith, near.0, near.1, after, next, later, far, long)

pub bounds-text-after : goal.bounds-text-after
bounds-text-after c =
    let near = c.in_ok-number.ensures.near in
    let there = c.in_ok-after.ensures.near 4 (omega arith) (omega (arith, near.1)) in
    omega (arith, there)

pub near_space-requires-in-44 : goal.near_space-requires-in-44
near_space-requires-in-44 c =
    let near = c.in_ok-number.ensures.near in
    let there = c.in_ok-after.ensures.near 4 (omega arith) (omega (arith, near.1)) in
    omega (arith, there)

pub members-preserved : goal.members-preserved
members-preserved c =
    let inv = c.members.invariant in
    let text = c.text-text.ensures in
    let keys = ap keys_of inv.kept in
    let near = c.in_ok-number.ensures.near in
    let there = c.in_ok-after.ensures.near 4 (omega arith) (omega (arith, near.1)) in
    let next = c.in_ok-key-in-44.ensures.near 0 (omega arith) (omega (arith, there)) in
    let long = ap length text in
    let past = rw (text, keys) at (c.in_ok-number.ensures.members c.args.start (rw (text, keys) inv.members)) in
    record {
      kept = c.pass_member.ensures.kept ∙ ap (λ (s : Columns). record s { known = c.pass_member.new.self.known; row = c.pass_member.new.self.row }) inv.kept;
      moved = c.pass_member.ensures.moved ∙ ap (λ (w : WalkState). record w { place = c.pass_member.new.walk.place }) inv.moved;
      within = omega (arith, next, long);
      long = c.pass_member.ensures.long ∙ inv.long;
      known = rw (text, keys) at c.pass_member.ensures.known;
      members = members_more past (rw (c.in_ok-after.ensures.space, text) at c.in-44.is) (rw (c.in_ok-after.ensures.space, text) at c.in_ok-key-in-44.ensures.space);
    }

pub returns-in-125-clause-row : goal.returns-in-125-clause-row
returns-in-125-clause-row c =
    let inv = c.members.invariant in
    let text = c.text-text.ensures in
    let keys = ap keys_of inv.kept in
    let near = c.in_ok-number.ensures.near in
    let there = c.in_ok-after.ensures.near 4 (omega arith) (omega (arith, near.1)) in
    let long = ap length text in
    let past = rw (text, keys) at (c.in_ok-number.ensures.members c.args.start (rw (text, keys) inv.members)) in
    members_end past (rw (c.in_ok-after.ensures.space, text) at c.in-125.is, ap (λ n. n + 1) (rw text at c.in_ok-after.ensures.space)) (omega (arith, there, long))

pub returns-in_err-number-clause-known : goal.returns-in_err-number-clause-known
returns-in_err-number-clause-known c = rw (c.text-text.ensures, ap keys_of c.members.invariant.kept) at c.pass_member.ensures.known

pub returns-in_err-after-clause-known : goal.returns-in_err-after-clause-known
returns-in_err-after-clause-known c = rw (c.text-text.ensures, ap keys_of c.members.invariant.kept) at c.pass_member.ensures.known

pub returns-in_err-key-in-44-clause-known : goal.returns-in_err-key-in-44-clause-known
returns-in_err-key-in-44-clause-known c = rw (c.text-text.ensures, ap keys_of c.members.invariant.kept) at c.pass_member.ensures.known

pub returns-in-125-clause-known : goal.returns-in-125-clause-known
returns-in-125-clause-known c = rw (c.text-text.ensures, ap keys_of c.members.invariant.kept) at c.pass_member.ensures.known

pub returns-in_default-clause-known : goal.returns-in_default-clause-known
returns-in_default-clause-known c = rw (c.text-text.ensures, ap keys_of c.members.invariant.kept) at c.pass_member.ensures.known
