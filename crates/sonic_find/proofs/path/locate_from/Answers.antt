use Rattle.sonic_find.proofs.path.locate_from.Goals as goal
use Rattle.std.proofs.Common.{◌≡◌, ◌∙◌, ap, sym, true, false}
use Rattle.std.proofs.lemmas.Result.{err_from_is_err_and}
use Rattle.sonic_find.proofs.GetLemmas.{dead_answer, dead_within, found_alone, broken_alone}
use Rattle.sonic_parser.proofs.FaultLemmas.{stop_weaker}
use Rattle.sonic_find.proofs.path.locate_from.Goals.{then-is_bytes+in_ok-check_utf8, else-is_bytes}
use Rattle.sonic_find.specs.Cursors.{CursorState}
use Rattle.sonic_text.proofs.Within.{value_within}

pub returns-in_err-found-clause-err : goal.returns-in_err-found-clause-err
returns-in_err-found-clause-err c =
    let p = err_from_is_err_and c.from_residual.result c.from_residual.ensures.1 in
    let dead = rw (c.new-cursor.ensures, c.requires) at c.in_err-found.ensures.err in
    rw (p.1, p.2) (stop_weaker c.in_err-found.field-0.0 (λ s f. dead_answer f) dead)

pub returns-in_err-found-clause-within : goal.returns-in_err-found-clause-within
returns-in_err-found-clause-within c =
    let p = err_from_is_err_and c.from_residual.result c.from_residual.ensures.1 in
    let dead = rw (c.new-cursor.ensures, c.requires) at c.in_err-found.ensures.err in
    rw (p.1, p.2) (stop_weaker c.in_err-found.field-0.0 (λ s f. dead_within _ f) dead)

pub check_utf8-requires : goal.check_utf8-requires
check_utf8-requires c = rw c.locate.ensures.moved (value_within c.in_ok-found.ensures.value)

pub returns-in_err-check_utf8-clause-err : goal.returns-in_err-check_utf8-clause-err
returns-in_err-check_utf8-clause-err c =
    let p = err_from_is_err_and c.from_residual-in_err-check_utf8.result c.from_residual-in_err-check_utf8.ensures.1 in
    let leads = rw (c.new-cursor.ensures, c.requires) at c.in_ok-found.ensures.ok in
    let text : c.locate.new.cursor.text ≡ c.args.read.text = ap (λ (s : CursorState). s.text) c.locate.ensures.moved ∙ ap (λ (s : CursorState). s.text) c.new-cursor.ensures in
    let e = rw text at c.in_err-check_utf8.ensures.err in
    rw (p.1, p.2) (broken_alone leads c.if-is_bytes.true e.0 e.1)

pub returns-clause-ok : goal.returns-clause-ok
returns-clause-ok c =
    let leads = rw (c.new-cursor.ensures, c.requires) at c.in_ok-found.ensures.ok in
    let text : c.locate.new.cursor.text ≡ c.args.read.text = ap (λ (s : CursorState). s.text) c.locate.ensures.moved ∙ ap (λ (s : CursorState). s.text) c.new-cursor.ensures in
    found_alone leads (λ b. elim c.if-is_bytes.branch [
      | then-is_bytes+in_ok-check_utf8 w ↦ rw text at w.in_ok-check_utf8.ensures.ok
      | else-is_bytes w ↦ (let clash : true ≡ false = sym b ∙ w.if-is_bytes.false in absurd cc)
    ])
