use Rattle.std.proofs.Common.{◌≡◌, ◌∙◌, ℕ, ◌+◌, ◌<◌, length, arith, subst}
use Rattle.std.proofs.lemmas.Option.{get_or_from_slice_get}
use Rattle.sonic_find.proofs.ColumnLemmas.Moved.{known_at, moved_key}
use Rattle.sonic_find.proofs.columns.Columns.known_key.Goals as goal
use Rattle.sonic_find.specs.declared.columns.KnownKey.{KnownKey}
use Rattle.sonic_text.specs.Places.{byte}

pub is_at-requires-clause-there : goal.is_at-requires-clause-there
is_at-requires-clause-there c =
    let all = c.len.ensures in
    let within : c.args.guess < length c.args.self.now.known.items = omega (arith, c.if-guess-len.true, all) in
    let known = known_at c.args.self.now.known.items c.args.guess c.index.result.now c.requires.known within c.index.ensures in
    let ahead = known.ahead in
    omega (arith, ahead)

pub returns-then-is_at-clause-key : goal.returns-then-is_at-clause-key
returns-then-is_at-clause-key c = λ x there.
    let known = c.requires.known c.args.guess x there in
    let same : c.index.result.now ≡ x = c.index.ensures ∙ get_or_from_slice_get c.args.self.now.known.items c.args.guess x c.index.result.now there in
    moved_key known c.requires.near (subst (λ (y : KnownKey). (k : ℕ) → k < y.length → byte c.args.text.now (c.args.place + k) ≡ byte c.args.text.now (y.start + k)) same (c.is_at.ensures c.if-is_at.true))
