use Rattle.std.proofs.Common.{refl}
use Rattle.sonic_owned.proofs.ReachLemmas.{if_some_then, kept_as_before}
use Rattle.sonic_owned.proofs.value.OwnedLazyValue.with_mut.Goals as goal

pub returns-clause-some : goal.returns-clause-some
returns-clause-some g c =
    if_some_then c.reach.result (λ given d. record { part = d.part; left = d.left; change = d.change; put = d.put }) c.reach.ensures.some

pub returns-then-path-gt-MAX_NODES-clause-kept : goal.returns-then-path-gt-MAX_NODES-clause-kept
returns-then-path-gt-MAX_NODES-clause-kept g c = kept_as_before refl
