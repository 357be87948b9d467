use Rattle.std.proofs.Common.{refl, sym}
use Rattle.sonic_value.proofs.HeldLemmas.{of_lent}
use Rattle.sonic_value.proofs.index.lend_or_insert.Goals as goal

pub returns : goal.returns
returns g c =
    let inserted = c.in_ok-insert.ensures.ok in (
      (refl, (λ w _. (_, inserted.base, (of_lent c.lend_item.result c.in-Some.item _ c.in-Some.is (c.lend_item.follows.holds w)).0)), tt),
      record { back = tt; value = (_, inserted.base, sym c.in-Some.ensures.value); err = tt },
    )
