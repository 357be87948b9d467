use Rattle.std.proofs.Common.{arith, refl, ◌≢◌}
use Rattle.std.proofs.lemmas.Result.{err_from_is_err_and}
use Rattle.sonic_text.specs.Places.{byte, after_space}
use Rattle.sonic_text.specs.Faults.IsKeyFault.{key_fault, no_colon}
use Rattle.sonic_parser.proofs.container.key_end.Goals as goal

pub returns-in_err-string-clause-err : goal.returns-in_err-string-clause-err
returns-in_err-string-clause-err c =
    let p = err_from_is_err_and c.from_residual.result c.from_residual.ensures.1 in
    rw (p.1, p.2) (key_fault (grind (arith, c.if-byte_at-ne34.false, c.byte_at.ensures.value)) c.in_err-string.ensures.err)

pub returns-then-byte_at-ne58-clause-err : goal.returns-then-byte_at-ne58-clause-err
returns-then-byte_at-ne58-clause-err c =
    let place = c.skip_space-colon.ensures.place in
    let b : byte c.args.text.now (after_space c.args.text.now c.in_ok-string.string.end) ≢ 58 =
    rw (← place, ← c.byte_at-2.ensures.value) c.if-byte_at-ne58.true in
    no_colon c.in_ok-string.ensures.ok.3 b (rw (c.stop_at-then-byte_at-ne58.ensures, place) refl)
