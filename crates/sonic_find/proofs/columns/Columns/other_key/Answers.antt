use Rattle.std.proofs.Common.{◌≡◌, ◌∙◌, ℕ, ◌+◌, ◌<◌, length, arith, subst}
use Rattle.std.proofs.lemmas.Option.{get_or_from_slice_get}
use Rattle.sonic_find.proofs.ColumnLemmas.Moved.{known_at, moved_key, known_more, last_known}
use Rattle.sonic_find.proofs.columns.Columns.other_key.Goals as goal
use Rattle.sonic_find.specs.declared.columns.KnownKey.{KnownKey}
use Rattle.sonic_text.specs.Places.{byte}

pub is_at-requires-clause-there : goal.is_at-requires-clause-there
is_at-requires-clause-there c =
    let all = c.len-number-end.ensures in
    let within : c.loop-number.number < length c.args.self.now.known.items = omega (arith, c.loop-number-test.true, all) in
    let known = known_at c.args.self.now.known.items c.loop-number.number c.index.result.now c.requires.known within c.index.ensures in
    let ahead = known.ahead in
    omega (arith, ahead)

pub returns-then-is_at-clause-key : goal.returns-then-is_at-clause-key
returns-then-is_at-clause-key c = λ x there.
    let known = c.requires.known c.loop-number.number x there in
    let same : c.index.result.now ≡ x = c.index.ensures ∙ get_or_from_slice_get c.args.self.now.known.items c.loop-number.number x c.index.result.now there in
    moved_key known c.requires.near (subst (λ (y : KnownKey). (k : ℕ) → k < y.length → byte c.args.text.now (c.args.place + k) ≡ byte c.args.text.now (y.start + k)) same (c.is_at.ensures c.if-is_at.true))

pub returns-in-Err-clause-known : goal.returns-in-Err-clause-known
returns-in-Err-clause-known c = rw c.in-Err.ensures.items (λ n x there. c.requires.known n x (c.make_room.ensures.fewer n x there))

pub returns-in-Ok-clause-key : goal.returns-in-Ok-clause-key
returns-in-Ok-clause-key c = λ x there.
    let known = c.make_room.new.self.known.items in
    let long = c.len-number.ensures in
    let e : c.len-number.result ≡ length known = omega (arith, long) in
    let same : c.in_ok-found.found ≡ x = last_known known c.in_ok-found.found x (rw (← e, ← c.in-Ok.ensures.items) there) in
    let found = rw c.as_slice.ensures.value at c.in_ok-found.ensures.known in
    rw (← same, ← c.in_ok-found.ensures.here) found.is

pub returns-in-Ok-clause-known : goal.returns-in-Ok-clause-known
returns-in-Ok-clause-known c =
    let found = rw c.as_slice.ensures.value at c.in_ok-found.ensures.known in
    rw c.in-Ok.ensures.items (known_more c.make_room.new.self.known.items c.in_ok-found.found (λ n x there. c.requires.known n x (c.make_room.ensures.fewer n x there)) found)
