use Rattle.std.proofs.Common.{arith, refl, ap}
use Rattle.sonic_edits.proofs.ReadingLemmas.{no_text, one_text, two_texts, ok_weaker, some_weaker}
use Rattle.sonic_edits.proofs.SayingLemmas.{pair_key}
use Rattle.sonic_edits.proofs.change.said_change.Goals as goal
use Rattle.sonic_edits.specs.Internal.Reading.SaysChange.{sets, pushes, pairs, takes}
use Rattle.sonic_owned.specs.TreeEdits.{set, push}

pub returns-in-take-clause-some : goal.returns-in-take-clause-some
returns-in-take-clause-some c = rw (no_text c.args.operands.now (omega arith)) (takes c.in-take.is refl)

pub returns-in_ok-kept-in-set-clause-some : goal.returns-in_ok-kept-in-set-clause-some
returns-in_ok-kept-in-set-clause-some c =
    rw (one_text c.args.operands.now c.value-item.result (omega arith) (omega arith) c.value-item.is)
    (sets c.in-set.is (ap (λ f. set f) c.in_ok-kept-in-set.ensures))

pub returns-in_ok-kept-in-push-clause-some : goal.returns-in_ok-kept-in-push-clause-some
returns-in_ok-kept-in-push-clause-some c =
    rw (one_text c.args.operands.now c.value-item.result (omega arith) (omega arith) c.value-item.is)
    (pushes c.in-push.is (ap (λ f. push f) c.in_ok-kept-in-push.ensures))

pub returns-in-pair-clause-some : goal.returns-in-pair-clause-some
returns-in-pair-clause-some c =
    rw (two_texts c.args.operands.now c.key-item.result c.value-item-then-operands-lt3.result (omega arith) (omega arith) c.key-item.is c.value-item-then-operands-lt3.is)
    (ok_weaker c.said_pair.result (λ found. some_weaker found (λ change h. pairs c.in-pair.is h.1 h.2)) c.said_pair.ensures.some)

pub returns-in-pair-clause-none : goal.returns-in-pair-clause-none
returns-in-pair-clause-none c =
    rw (two_texts c.args.operands.now c.key-item.result c.value-item-then-operands-lt3.result (omega arith) (omega arith) c.key-item.is c.value-item-then-operands-lt3.is)
    (ok_weaker c.said_pair.result (λ found none is change said. let key = pair_key said in none is key.0 key.1) c.said_pair.ensures.none)
