use Rattle.std.proofs.Common.{◌≡◌, ◌∙◌, refl, arith}
use Rattle.std.proofs.lemmas.Result.{err_from_is_err_and, IfOk-weaker, IfErr-weaker}
use Rattle.sonic_parser.proofs.FaultLemmas.{stop_weaker}
use Rattle.sonic_text.proofs.Values.{value-longer}
use Rattle.sonic_text.proofs.Within.{value_within}
use Rattle.sonic_text.specs.Places.{after_space}
use Rattle.sonic_value.proofs.ReaderLemmas.{same_place}
use Rattle.sonic_value.proofs.UnfilledLemmas.{unfillable_at, unfillable_within, broken_at, part_utf8, filled_again, never_stopped}
use Rattle.sonic_value.proofs.schema.fill_broken.Goals as goal
use Rattle.sonic_value.specs.Views.{tree}

pub returns-in_err-fill_value-clause-err : goal.returns-in_err-fill_value-clause-err
returns-in_err-fill_value-clause-err c =
    let p = err_from_is_err_and c.from_residual-in_err-fill_value.result c.from_residual-in_err-fill_value.ensures.1 in
    let start = rw c.at-reader.ensures at c.skip_space.ensures in
    let stop = rw (start, c.in_ok-spelled.ensures) at c.in_err-fill_value.ensures.err in
    rw (p.1, p.2) (stop_weaker c.in_err-fill_value.field-0.0 (λ s f. unfillable_at s c.requires.object (f (tree c.args.schema) refl)) stop)

pub returns-in_err-fill_value-clause-within : goal.returns-in_err-fill_value-clause-within
returns-in_err-fill_value-clause-within c =
    let p = err_from_is_err_and c.from_residual-in_err-fill_value.result c.from_residual-in_err-fill_value.ensures.1 in
    let start = rw c.at-reader.ensures at c.skip_space.ensures in
    let stop = rw (start, c.in_ok-spelled.ensures) at c.in_err-fill_value.ensures.err in
    rw (p.1, p.2) (stop_weaker c.in_err-fill_value.field-0.0 (λ s f. unfillable_within s (f (tree c.args.schema) refl)) stop)

pub slice_bounds-at-count : goal.slice_bounds-at-count
slice_bounds-at-count c =
    let start = rw c.at-reader.ensures at c.skip_space.ensures in
    let first : c.place-start.result ≡ after_space c.args.text.now c.args.place = c.place-start.ensures.place ∙ same_place start in
    let read = rw (start, c.in_ok-spelled.ensures) at c.in_ok-fill_value.ensures.ok in
    omega (arith, first, c.place-end.ensures.place, value-longer read.value)

pub slice_bounds-at-start : goal.slice_bounds-at-start
slice_bounds-at-start c =
    let start = rw c.at-reader.ensures at c.skip_space.ensures in
    let first : c.place-start.result ≡ after_space c.args.text.now c.args.place = c.place-start.ensures.place ∙ same_place start in
    let read = rw (start, c.in_ok-spelled.ensures) at c.in_ok-fill_value.ensures.ok in
    omega (arith, first, c.place-end.ensures.place, value-longer read.value, value_within read.value)

pub at-requires-clause-utf8 : goal.at-requires-clause-utf8
at-requires-clause-utf8 c = λ known.
    let start = rw c.at-reader.ensures at c.skip_space.ensures in
    let first : c.place-start.result ≡ after_space c.args.text.now c.args.place = c.place-start.ensures.place ∙ same_place start in
    let read = rw (start, c.in_ok-spelled.ensures) at c.in_ok-fill_value.ensures.ok in
    let utf8 = rw c.place-end.ensures.place at c.in-Ok.ensures.cases.1 in
    rw (first, c.place-end.ensures.place) (part_utf8 read.value utf8)

pub returns-in-Ok-clause-ok : goal.returns-in-Ok-clause-ok
returns-in-Ok-clause-ok c =
    let start = rw c.at-reader.ensures at c.skip_space.ensures in
    let first : c.place-start.result ≡ after_space c.args.text.now c.args.place = c.place-start.ensures.place ∙ same_place start in
    let read = rw (start, c.in_ok-spelled.ensures) at c.in_ok-fill_value.ensures.ok in
    let utf8 = rw c.place-end.ensures.place at c.in-Ok.ensures.cases.1 in
    let again = rw (c.at.ensures, first, c.place-end.ensures.place) at c.fill_value-in-Ok.ensures.ok in
    IfOk-weaker c.fill_value-in-Ok.result _ _ (λ made x. filled_again c.requires.object read utf8 x) again

pub returns-in-Ok-clause-err : goal.returns-in-Ok-clause-err
returns-in-Ok-clause-err c =
    let start = rw c.at-reader.ensures at c.skip_space.ensures in
    let first : c.place-start.result ≡ after_space c.args.text.now c.args.place = c.place-start.ensures.place ∙ same_place start in
    let read = rw (start, c.in_ok-spelled.ensures) at c.in_ok-fill_value.ensures.ok in
    let again = rw (c.at.ensures, first, c.place-end.ensures.place) at c.fill_value-in-Ok.ensures.err in
    IfErr-weaker c.fill_value-in-Ok.result _ _ (λ fault h. stop_weaker fault (λ s f. absurd (never_stopped c.requires.object read s f)) h) again

pub returns-in-Ok-clause-within : goal.returns-in-Ok-clause-within
returns-in-Ok-clause-within c =
    let start = rw c.at-reader.ensures at c.skip_space.ensures in
    let first : c.place-start.result ≡ after_space c.args.text.now c.args.place = c.place-start.ensures.place ∙ same_place start in
    let read = rw (start, c.in_ok-spelled.ensures) at c.in_ok-fill_value.ensures.ok in
    let again = rw (c.at.ensures, first, c.place-end.ensures.place) at c.fill_value-in-Ok.ensures.err in
    IfErr-weaker c.fill_value-in-Ok.result _ _ (λ fault h. stop_weaker fault (λ s f. absurd (never_stopped c.requires.object read s f)) h) again

pub returns-in-Err-clause-err : goal.returns-in-Err-clause-err
returns-in-Err-clause-err c =
    let start = rw c.at-reader.ensures at c.skip_space.ensures in
    let read = rw (start, c.in_ok-spelled.ensures) at c.in_ok-fill_value.ensures.ok in
    let broken = rw c.place-end.ensures.place at c.in-Err.ensures.cases.0 in
    rw (c.valid_up_to-place.ensures, c.in-Err.ensures.valid_len, c.place-end.ensures.place) (broken_at c.requires.object read broken)
