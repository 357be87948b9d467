use Rattle.std.proofs.Common.{◌≡◌, ◌∙◌, arith}
use Rattle.std.proofs.lemmas.Result.{err_from_is_err_and}
use Rattle.sonic_parser.proofs.FaultLemmas.{stop_weaker}
use Rattle.sonic_value.proofs.OpenLemmas.{begun_filling, expected_within}
use Rattle.sonic_value.proofs.ReaderLemmas.{same_source}
use Rattle.sonic_value.proofs.fill.fill_value.Goals as goal
use Rattle.sonic_value.specs.Views.{tree}

pub members-init : goal.members-init
members-init c =
    let reader = c.args.reader.now in
    record {
      kept = c.in_ok-begun.ensures.moved;
      filling = begun_filling reader.source c.args.depth_left (tree c.args.schema) reader.place c.begin.new.reader.place c.in_ok-begun.begun c.new-opened.ensures.items c.in_ok-begun.ensures.ok;
    }

pub returns-in_err-begun-in-Open-clause-err : goal.returns-in_err-begun-in-Open-clause-err
returns-in_err-begun-in-Open-clause-err c =
    let p = err_from_is_err_and c.from_residual-in_err-begun-in-Open.result c.from_residual-in_err-begun-in-Open.ensures.1 in
    let source : c.members.reader.source ≡ c.args.reader.now.source = same_source c.members.invariant.kept in
    let expected = rw c.in-Open.is at c.members.invariant.filling in
    let stopped = rw source at c.in_err-begun-in-Open.ensures.err in
    rw (p.1, p.2) (stop_weaker c.in_err-begun-in-Open.field-0.0 (λ s f. f (tree c.args.schema) c.args.reader.now.place expected) stopped)

pub members-smaller : goal.members-smaller
members-smaller c =
    let source : c.members.reader.source ≡ c.args.reader.now.source = same_source c.members.invariant.kept in
    let after : c.fill_member.new.reader.source ≡ c.args.reader.now.source = same_source c.in_ok-begun-in-Open.ensures.moved ∙ source in
    let expected = rw c.in-Open.is at c.members.invariant.filling in
    rw (after, source) (omega (arith, expected_within expected, c.in_ok-begun-in-Open.ensures.later))
