use Rattle.sonic_find.proofs.answer.follow_all.Goals as goal
use Rattle.std.proofs.Common.{◌≡◌, ◌∙◌, sym, true, false}
use Rattle.std.proofs.lemmas.Result.{err_from_is_err_and}
use Rattle.sonic_find.proofs.AnswerLemmas.Cause.{parts_reached}
use Rattle.sonic_find.specs.Found.{slots_of}
use Rattle.sonic_find.specs.Internal.Walk.{IsAllReached, has_stopped, is_broken}
use Rattle.sonic_parser.proofs.FaultLemmas.{stop_weaker}

pub returns-in_err-reach-clause-err : goal.returns-in_err-reach-clause-err
returns-in_err-reach-clause-err g c =
    let p = err_from_is_err_and c.from_residual-in_err-reach.result c.from_residual-in_err-reach.ensures.1 in
    let e = rw (c.unscanned-read.ensures.text, c.to_json_slice.ensures.bytes) at c.in_err-reach.ensures.err in
    rw (p.1, p.2) (stop_weaker c.in_err-reach.field-0.0 (λ s f. has_stopped f) e)

pub returns-in_err-check-clause-err : goal.returns-in_err-check-clause-err
returns-in_err-check-clause-err g c =
    let p = err_from_is_err_and c.from_residual-in_err-check.result c.from_residual-in_err-check.ensures.1 in
    let reached = rw (c.unscanned-read.ensures.text, c.to_json_slice.ensures.bytes) at c.in_ok-reach.ensures.reached in
    let e = rw c.to_u8_slice-text.ensures.bytes at c.in_err-check.ensures.err in
    rw (p.1, p.2) (is_broken reached (sym c.need_utf8_valid.ensures ∙ c.if-need_utf8_valid.true) e.0 e.1 e.2)

pub returns-in_ok-check-clause-reached : goal.returns-in_ok-check-clause-reached
returns-in_ok-check-clause-reached g c =
    let reached = rw (c.unscanned-read.ensures.text, c.to_json_slice.ensures.bytes) at c.in_ok-reach.ensures.reached in
    let utf8 = rw c.to_u8_slice-text.ensures.bytes at c.in_ok-check.ensures.ok in
    record { place = c.in_ok-reach.reach; reached = reached; utf8 = λ e. utf8 }

pub returns-in_ok-check-clause-escaped : goal.returns-in_ok-check-clause-escaped
returns-in_ok-check-clause-escaped g c = rw (c.unscanned-read.ensures.text, c.to_json_slice.ensures.bytes) at c.in_ok-reach.ensures.escaped

pub returns-in_ok-check-clause-parts : goal.returns-in_ok-check-clause-parts
returns-in_ok-check-clause-parts g c =
    let reached = rw (c.unscanned-read.ensures.text, c.to_json_slice.ensures.bytes) at c.in_ok-reach.ensures.reached in
    let utf8 = rw c.to_u8_slice-text.ensures.bytes at c.in_ok-check.ensures.ok in
    let all : IsAllReached c.args.rule (g.I.JsonInput.content c.args.json.now) g.I.JsonInput.is_bytes c.args.tree.now c.args.each (slots_of c.reach.new.memory.found.items) =
    record { place = c.in_ok-reach.reach; reached = reached; utf8 = λ e. utf8 } in
    parts_reached c.reach.new.memory.found.items all c.to_u8_slice-text.ensures.utf8

pub returns-else-need_utf8_valid-clause-reached : goal.returns-else-need_utf8_valid-clause-reached
returns-else-need_utf8_valid-clause-reached g c =
    let reached = rw (c.unscanned-read.ensures.text, c.to_json_slice.ensures.bytes) at c.in_ok-reach.ensures.reached in
    record {
      place = c.in_ok-reach.reach;
      reached = reached;
      utf8 = λ e. (let clash : true ≡ false = sym e ∙ (sym c.need_utf8_valid.ensures ∙ c.if-need_utf8_valid.false) in absurd cc);
    }

pub returns-else-need_utf8_valid-clause-escaped : goal.returns-else-need_utf8_valid-clause-escaped
returns-else-need_utf8_valid-clause-escaped g c = rw (c.unscanned-read.ensures.text, c.to_json_slice.ensures.bytes) at c.in_ok-reach.ensures.escaped

pub returns-else-need_utf8_valid-clause-parts : goal.returns-else-need_utf8_valid-clause-parts
returns-else-need_utf8_valid-clause-parts g c =
    let reached = rw (c.unscanned-read.ensures.text, c.to_json_slice.ensures.bytes) at c.in_ok-reach.ensures.reached in
    let all : IsAllReached c.args.rule (g.I.JsonInput.content c.args.json.now) g.I.JsonInput.is_bytes c.args.tree.now c.args.each (slots_of c.reach.new.memory.found.items) =
    record {
      place = c.in_ok-reach.reach;
      reached = reached;
      utf8 = λ e. (let clash : true ≡ false = sym e ∙ (sym c.need_utf8_valid.ensures ∙ c.if-need_utf8_valid.false) in absurd cc);
    } in
    parts_reached c.reach.new.memory.found.items all c.to_u8_slice-text.ensures.utf8
