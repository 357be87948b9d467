use Rattle.std.proofs.Common.{◌≡◌, ◌∙◌, arith}
use Rattle.std.proofs.lemmas.Result.{err_from_is_err_and}
use Rattle.sonic_parser.proofs.FaultLemmas.{stop_weaker}
use Rattle.sonic_text.specs.Places.{after_space}
use Rattle.sonic_value.proofs.ReaderLemmas.{same_source, same_place}
use Rattle.sonic_value.proofs.DocumentLemmas.{unread_within, root_unread, trailing_unread, root_read}
use Rattle.sonic_value.proofs.read.read_document.Goals as goal

pub returns-in_err-value-clause-err : goal.returns-in_err-value-clause-err
returns-in_err-value-clause-err c =
    let p = err_from_is_err_and c.from_residual.result c.from_residual.ensures.1 in
    let start = rw c.at-reader.ensures at c.skip_space.ensures in
    let stop = rw start at c.in_err-value.ensures.err in
    rw (p.1, p.2) (stop_weaker c.in_err-value.field-0.0 root_unread stop)

pub returns-in_err-value-clause-within : goal.returns-in_err-value-clause-within
returns-in_err-value-clause-within c =
    let p = err_from_is_err_and c.from_residual.result c.from_residual.ensures.1 in
    let start = rw c.at-reader.ensures at c.skip_space.ensures in
    let stop = rw start at c.in_err-value.ensures.err in
    rw (p.1, p.2) (stop_weaker c.in_err-value.field-0.0 unread_within stop)

pub returns-then-place-text-clause-err : goal.returns-then-place-text-clause-err
returns-then-place-text-clause-err c =
    let start = rw c.at-reader.ensures at c.skip_space.ensures in
    let value = rw start at c.in_ok-value.ensures.ok in
    let source : c.read_value.new.reader.source ≡ record { text = c.args.text.now; is_utf8 = c.args.utf8 } = same_source c.in_ok-value.ensures.moved ∙ same_source start in
    let last = rw source at c.skip_space-2.ensures in
    let place : c.place-place.result ≡ after_space c.args.text.now c.read_value.new.reader.place = c.place-place.ensures.place ∙ same_place last in
    rw place (trailing_unread value (rw place at c.if-place-text.true))

pub returns-clause-ok : goal.returns-clause-ok
returns-clause-ok c =
    let start = rw c.at-reader.ensures at c.skip_space.ensures in
    let value = rw start at c.in_ok-value.ensures.ok in
    let source : c.read_value.new.reader.source ≡ record { text = c.args.text.now; is_utf8 = c.args.utf8 } = same_source c.in_ok-value.ensures.moved ∙ same_source start in
    let last = rw source at c.skip_space-2.ensures in
    let place : c.place-place.result ≡ after_space c.args.text.now c.read_value.new.reader.place = c.place-place.ensures.place ∙ same_place last in
    let within = rw last at c.place-place.ensures.inside in
    root_read value (omega (arith, place, within, c.if-place-text.false))
