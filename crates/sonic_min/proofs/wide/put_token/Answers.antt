use Rattle.std.proofs.Common.{◌≤◌, length, arith}
use Rattle.sonic_text.specs.Places.{after_space}
use Rattle.sonic_min.specs.Internal.Marks.{IsToken}
use Rattle.sonic_min.proofs.LaidLemmas.{space_stops, span_made, token_one}
use Rattle.sonic_min.proofs.wide.put_token.Goals as goal

pub token_end-last-requires-clause-order : goal.token_end-last-requires-clause-order
token_end-last-requires-clause-order c =
    let t = c.args.text.now in
    let place = c.skip_space-first.ensures.place in
    let within : after_space t c.args.start ≤ length t = rw place at c.skip_space-first.ensures.within in
    rw place (space_stops t c.args.start c.args.end c.requires.order within c.requires.stop)

pub returns-clause-ok : goal.returns-clause-ok
returns-clause-ok c = λ i j x.
    let t = c.args.text.now in
    let first = c.skip_space-first.result in
    let last = c.token_end-last.result in
    let ends = c.token_end-last.ensures in
    let here : IsToken t c.args.start c.args.end first last =
    record { start = c.skip_space-first.ensures.place; order = ends.order.0; within = ends.order.1; spaces = ends.spaces; last = ends.last } in
    let one = token_one x here in
    rw (one.0, one.1) (span_made t first last (omega (arith, ends.order.1, c.requires.within)) c.in_ok-span.ensures.ok)
