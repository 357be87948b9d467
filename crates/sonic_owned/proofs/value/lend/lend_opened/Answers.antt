use Rattle.std.proofs.Common.{refl}
use Rattle.sonic_owned.proofs.Lent.{item_put}
use Rattle.sonic_owned.proofs.ReachLemmas.{level_along}
use Rattle.sonic_owned.proofs.value.lend.lend_opened.Goals as goal
use Rattle.sonic_owned.specs.Reached.{as_before}
use Rattle.sonic_owned.specs.Internal.Lends.{lacks_item, other_kind}

pub returns-in-Some : goal.returns-in-Some
returns-in-Some g c =
    let opened = c.if-not-open_level.ensures.opened refl in (
      (refl, (λ w _. item_put c.lend_item.result c.in-Some.item c.in-Some.is opened (c.lend_item.follows.holds w)), tt),
      record { back = tt; found = record { level = _; opened = opened; item = c.in-Some.ensures.some } },
    )

pub returns-in-None : goal.returns-in-None
returns-in-None g c =
    let opened = c.if-not-open_level.ensures.opened refl in (
      (refl, (λ w _. tt), level_along (c.if-not-is_for.ensures.0 refl) opened c.lend_item.follows.holds-at-none),
      record { back = tt; found = lacks_item opened (c.in-None.ensures.none refl) },
    )

pub returns-then-not-is_for : goal.returns-then-not-is_for
returns-then-not-is_for g c =
    ((refl, (λ w e. tt), as_before refl), record { back = tt; found = other_kind (λ k. let b = c.if-not-is_for.ensures.1 k in absurd cc) })
