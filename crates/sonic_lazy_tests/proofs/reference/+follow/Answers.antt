use Rattle.sonic_find.specs.Paths.EvaluatesBy.{goes_on}
use Rattle.sonic_lazy_tests.proofs.reference.+follow.Goals as goal

pub miss-requires-clause-whole : goal.miss-requires-clause-whole
miss-requires-clause-whole t c = c.in_ok-next.ensures.whole (cc c.in-Nowhere.is)

pub returns-in-On-clause-found : goal.returns-in-On-clause-found
returns-in-On-clause-found t c = λ i j e.
    let leads = c.in_ok-next.ensures.on c.in-On.next (cc c.in-On.is) in
    rw c.in-Some.ensures.cases.0 (goes_on leads (c.follow.ensures.found i j e))

pub returns-in-On-clause-lacks : goal.returns-in-On-clause-lacks
returns-in-On-clause-lacks t c = λ q e.
    let leads = c.in_ok-next.ensures.on c.in-On.next (cc c.in-On.is) in
    rw c.in-Some.ensures.cases.0 (goes_on leads (c.follow.ensures.lacks q e))

pub returns-in-On-clause-fails : goal.returns-in-On-clause-fails
returns-in-On-clause-fails t c = λ s e.
    let leads = c.in_ok-next.ensures.on c.in-On.next (cc c.in-On.is) in
    rw c.in-Some.ensures.cases.0 (goes_on leads (c.follow.ensures.fails s e))

pub returns-in-On-clause-cut : goal.returns-in-On-clause-cut
returns-in-On-clause-cut t c = λ s e.
    let leads = c.in_ok-next.ensures.on c.in-On.next (cc c.in-On.is) in
    rw c.in-Some.ensures.cases.0 (goes_on leads (c.follow.ensures.cut s e))
