use Rattle.std.proofs.Common.{◌≡◌, refl, option_map}
use Rattle.sonic_text.specs.TreePaths.{child}
use Rattle.sonic_value.proofs.PathLemmas.{some_there, at_first, lent_at_first}
use Rattle.sonic_value.proofs.value.lend.lend_first.Goals as goal
use Rattle.sonic_value.specs.Views.{tree}

pub returns : goal.returns
returns g c =
    let path = c.args.path.now in
    let o = c.lend_item.result in
    let old = g.A.Holds.shown c.args.value.now in
    let on = some_there path c.is_empty.result c.is_empty.ensures c.if-is_empty.false in (
      (refl, (λ w. lent_at_first o path on _ _ _ (c.lend_item.follows.holds w)), c.lend_item.follows.holds-at-none),
      record { back = tt; value = at_first path on _ (λ node. option_map (λ found. tree found.now) o ≡ child node old) c.lend_item.ensures.value },
    )
