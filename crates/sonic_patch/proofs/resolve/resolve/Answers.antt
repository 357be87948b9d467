use Rattle.std.proofs.Common.{refl}
use Rattle.sonic_patch.proofs.ResolveLemmas.{first_up_to, next_up_to, next_nowhere, next_stuck, all_used}
use Rattle.sonic_patch.proofs.resolve.resolve.Goals as goal

pub tokens-init : goal.tokens-init
tokens-init c = rw c.new-nodes.ensures.items first_up_to

pub returns-in_default-clause-none : goal.returns-in_default-clause-none
returns-in_default-clause-none c = λ e.
    next_nowhere c.tokens.token-index c.token-item.result c.tokens.invariant c.tokens-test.true c.token-item.is (λ u m. rw c.in_default.is at (c.node_in.ensures u m))

pub returns-in_default-get-clause-none : goal.returns-in_default-get-clause-none
returns-in_default-get-clause-none c = λ e.
    next_stuck c.tokens.token-index c.token-item.result c.tokens.invariant c.tokens-test.true c.token-item.is c.in-Some.node (λ u m. rw c.in-Some.is at (c.node_in.ensures u m))
    (c.get.ensures.none c.in_default-get.is)

pub tokens-preserved : goal.tokens-preserved
tokens-preserved c = rw c.in_ok-push.ensures.items
    (next_up_to c.tokens.token-index c.token-item.result c.tokens.invariant c.tokens-test.true c.token-item.is c.tokens.nodes.items c.in-Some.node refl
    (λ u m. rw c.in-Some.is at (c.node_in.ensures u m)) c.in-Some-get.ensures.some)

pub returns-clause-some : goal.returns-clause-some
returns-clause-some c = record { leads = c.tokens.invariant.leads; path = all_used c.tokens.token-index c.tokens.invariant c.tokens-test.false }
