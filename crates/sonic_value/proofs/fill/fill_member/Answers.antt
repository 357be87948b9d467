use Rattle.std.proofs.Common.{◌≡◌, ◌∙◌, arith}
use Rattle.std.proofs.lemmas.Result.{err_from_is_err_and, IfOk-weaker, IfErr-weaker}
use Rattle.sonic_parser.proofs.FaultLemmas.{stop_weaker}
use Rattle.sonic_text.proofs.Values.{head-later, items-later, value-longer}
use Rattle.sonic_value.proofs.FillingLemmas.{last_within}
use Rattle.sonic_value.proofs.IndexLemmas.{on_ok}
use Rattle.sonic_value.proofs.OpenLemmas.{expected_key_stops, expected_skipped, expected_unskipped, expected_opens, expected_stops, expected_filled}
use Rattle.sonic_value.proofs.ReaderLemmas.{same_source}
use Rattle.sonic_value.proofs.fill.fill_member.Goals as goal
use Rattle.sonic_value.specs.Internal.Fillers.{IsLastWith}
use Rattle.sonic_value.specs.Views.{tree}

pub returns-in_err-index-clause-err : goal.returns-in_err-index-clause-err
returns-in_err-index-clause-err c =
    let p = err_from_is_err_and c.from_residual.result c.from_residual.ensures.1 in
    rw (p.1, p.2) (stop_weaker c.in_err-index.field-0.0 (λ stop f schema i expected. expected_key_stops expected stop f) c.in_err-index.ensures.err)

-- a member that fills none
pub returns-in_err-skip_value-clause-err : goal.returns-in_err-skip_value-clause-err
returns-in_err-skip_value-clause-err c =
    let p = err_from_is_err_and c.from_residual-in_err-skip_value.result c.from_residual-in_err-skip_value.ensures.1 in
    let headed : c.find_next.new.reader.source ≡ c.args.reader.now.source = same_source c.in_ok-index.ensures.moved in
    let key = rw c.deref.ensures.value at c.in_ok-index.ensures.ok in
    let none = rw c.in_default.is at key.place in
    let fault = rw headed at c.in_err-skip_value.ensures.err in
    rw (p.1, p.2) (stop_weaker c.in_err-skip_value.field-0.0 (λ stop f schema i expected. expected_unskipped expected key.head stop none f) fault)

pub returns-in_default-clause-ok : goal.returns-in_default-clause-ok
returns-in_default-clause-ok c =
    let headed : c.find_next.new.reader.source ≡ c.args.reader.now.source = same_source c.in_ok-index.ensures.moved in
    let passed : c.skip_value.new.self.source ≡ c.args.reader.now.source = same_source c.in_ok-skip_value.ensures.moved ∙ headed in
    let key = rw c.deref.ensures.value at c.in_ok-index.ensures.ok in
    let none = rw c.in_default.is at key.place in
    let value = rw headed at c.in_ok-skip_value.ensures.ok in
    IfOk-weaker c.leave.result _ _ (λ begun f schema i expected. f c.args.depth_left schema i (expected_skipped expected key.head none value)) (rw passed at c.leave.ensures.ok)

pub returns-in_default-clause-later : goal.returns-in_default-clause-later
returns-in_default-clause-later c =
    let key = rw c.deref.ensures.value at c.in_ok-index.ensures.ok in
    on_ok c.leave.result (λ later. omega (arith, later, head-later key.head.head, value-longer c.in_ok-skip_value.ensures.ok)) c.leave.ensures.later

pub returns-in_default-clause-err : goal.returns-in_default-clause-err
returns-in_default-clause-err c =
    let headed : c.find_next.new.reader.source ≡ c.args.reader.now.source = same_source c.in_ok-index.ensures.moved in
    let passed : c.skip_value.new.self.source ≡ c.args.reader.now.source = same_source c.in_ok-skip_value.ensures.moved ∙ headed in
    let key = rw c.deref.ensures.value at c.in_ok-index.ensures.ok in
    let none = rw c.in_default.is at key.place in
    let value = rw headed at c.in_ok-skip_value.ensures.ok in
    IfErr-weaker c.leave.result _ _ (λ fault h. stop_weaker fault (λ stop f schema i expected. f c.args.depth_left schema i (expected_skipped expected key.head none value)) h) (rw passed at c.leave.ensures.err)

-- or the last with its key
pub take-level-requires : goal.take-level-requires
take-level-requires c =
    let key = rw c.deref.ensures.value at c.in_ok-index.ensures.ok in
    let last : IsLastWith key.key c.args.members.items c.in-Some.index = rw c.in-Some.is at key.place in
    last_within last

pub returns-in_err-value-clause-err : goal.returns-in_err-value-clause-err
returns-in_err-value-clause-err c =
    let p = err_from_is_err_and c.from_residual-in_err-value.result c.from_residual-in_err-value.ensures.1 in
    let headed : c.find_next.new.reader.source ≡ c.args.reader.now.source = same_source c.in_ok-index.ensures.moved in
    let key = rw c.deref.ensures.value at c.in_ok-index.ensures.ok in
    let last : IsLastWith key.key c.args.members.items c.in-Some.index = rw c.in-Some.is at key.place in
    let taken = c.take-level.ensures key.key last in
    let stopped = rw headed at c.in_err-value.ensures.err in
    rw (p.1, p.2) (stop_weaker c.in_err-value.field-0.0 (λ stop f schema i expected. expected_stops expected key.head taken stop f) stopped)

pub returns-in-Filled-clause-ok : goal.returns-in-Filled-clause-ok
returns-in-Filled-clause-ok c =
    let headed : c.find_next.new.reader.source ≡ c.args.reader.now.source = same_source c.in_ok-index.ensures.moved in
    let key = rw c.deref.ensures.value at c.in_ok-index.ensures.ok in
    let last : IsLastWith key.key c.args.members.items c.in-Some.index = rw c.in-Some.is at key.place in
    let taken = c.take-level.ensures key.key last in
    let passed : c.begin.new.reader.source ≡ c.args.reader.now.source = same_source c.in_ok-value.ensures.moved ∙ headed in
    let read = rw (headed, c.in-Filled.is) at c.in_ok-value.ensures.ok in
    let put = c.put.ensures key.key _ _ taken in
    IfOk-weaker c.leave-in-Filled.result _ _ (λ begun f schema i expected. f c.args.depth_left schema i (expected_filled expected key.head taken read put)) (rw passed at c.leave-in-Filled.ensures.ok)

pub returns-in-Filled-clause-later : goal.returns-in-Filled-clause-later
returns-in-Filled-clause-later c =
    let key = rw c.deref.ensures.value at c.in_ok-index.ensures.ok in
    let read = rw c.in-Filled.is at c.in_ok-value.ensures.ok in
    on_ok c.leave-in-Filled.result (λ later. omega (arith, later, head-later key.head.head, value-longer read.value)) c.leave-in-Filled.ensures.later

pub returns-in-Filled-clause-err : goal.returns-in-Filled-clause-err
returns-in-Filled-clause-err c =
    let headed : c.find_next.new.reader.source ≡ c.args.reader.now.source = same_source c.in_ok-index.ensures.moved in
    let key = rw c.deref.ensures.value at c.in_ok-index.ensures.ok in
    let last : IsLastWith key.key c.args.members.items c.in-Some.index = rw c.in-Some.is at key.place in
    let taken = c.take-level.ensures key.key last in
    let passed : c.begin.new.reader.source ≡ c.args.reader.now.source = same_source c.in_ok-value.ensures.moved ∙ headed in
    let read = rw (headed, c.in-Filled.is) at c.in_ok-value.ensures.ok in
    let put = c.put.ensures key.key _ _ taken in
    IfErr-weaker c.leave-in-Filled.result _ _ (λ fault h. stop_weaker fault (λ stop f schema i expected. f c.args.depth_left schema i (expected_filled expected key.head taken read put)) h) (rw passed at c.leave-in-Filled.ensures.err)

pub returns-in_ok-push-in-Open-clause-ok : goal.returns-in_ok-push-in-Open-clause-ok
returns-in_ok-push-in-Open-clause-ok c = λ schema i expected.
    let headed : c.find_next.new.reader.source ≡ c.args.reader.now.source = same_source c.in_ok-index.ensures.moved in
    let key = rw c.deref.ensures.value at c.in_ok-index.ensures.ok in
    let last : IsLastWith key.key c.args.members.items c.in-Some.index = rw c.in-Some.is at key.place in
    let taken = c.take-level.ensures key.key last in
    let begun = rw (headed, c.in-Open.is) at c.in_ok-value.ensures.ok in
    rw c.in_ok-push-in-Open.ensures.items (record {
      w = tree c.take-level.result.1;
      k = c.find_next.new.reader.place;
      xs = begun.xs;
      around = expected_opens expected key.head taken;
      object = begun.object;
      read = begun.read;
    })

pub returns-in_ok-push-in-Open-clause-later : goal.returns-in_ok-push-in-Open-clause-later
returns-in_ok-push-in-Open-clause-later c =
    let key = rw c.deref.ensures.value at c.in_ok-index.ensures.ok in
    let begun = rw c.in-Open.is at c.in_ok-value.ensures.ok in
    omega (arith, head-later key.head.head, items-later begun.read.fit)
