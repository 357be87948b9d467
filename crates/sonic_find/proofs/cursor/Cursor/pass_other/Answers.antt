use Rattle.sonic_find.proofs.cursor.Cursor.pass_other.Goals as goal
use Rattle.std.proofs.Common.{◌∙◌, ap, refl, arith}
use Rattle.std.proofs.lemmas.Result.{err_from_is_err_and}
use Rattle.sonic_parser.proofs.FaultLemmas.{stop_weaker}
use Rattle.sonic_find.proofs.WalkLemmas.Start.{dead_by_kind}
use Rattle.sonic_text.proofs.Values.{value-longer}

pub returns-in_err-value-clause-err : goal.returns-in_err-value-clause-err
returns-in_err-value-clause-err c =
    let p = err_from_is_err_and c.from_residual.result c.from_residual.ensures.1 in
    rw (p.1, p.2) (stop_weaker c.in_err-value.field-0.0 (λ s f. (f, c.requires.other)) c.in_err-value.ensures.err)

pub overflow_sub-place : goal.overflow_sub-place
overflow_sub-place c =
    let later = value-longer c.in_ok-value.ensures.value in
    let place = c.offset-place.ensures.place ∙ ap (λ cursor. cursor.place) c.self-2.view_is in
    omega (arith, later, place)

pub returns-clause-passed : goal.returns-clause-passed
returns-clause-passed c =
    let place = c.offset-place.ensures.place ∙ ap (λ cursor. cursor.place) c.self-2.view_is in
    let found = rw (c.byte_at.ensures.value, c.text.ensures, c.offset.ensures.place) at c.type_of-found.ensures in
    let value = rw (← place) at c.in_ok-value.ensures.value in
    record {
      value = record { value = c.in_ok-value.ensures.value; begins = c.in_ok-value.ensures.span.0; ends = c.in_ok-value.ensures.span.1; escaped = c.in_ok-value.ensures.escaped };
      dead = dead_by_kind value c.requires.other (rw (c.wanted_of-wanted.ensures, ← c.self.view_is, found) refl);
    }
