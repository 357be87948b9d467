use Rattle.std.proofs.Common.{refl, arith}
use Rattle.sonic_owned.proofs.Lent.{all_nodes, path_found, left_behind}
use Rattle.sonic_owned.proofs.ReachLemmas.{kept_as_before}
use Rattle.sonic_owned.proofs.value.lend.lend_part.Goals as goal

pub returns : goal.returns
returns g c =
    let path = c.args.path.now in
    let f = g.A.Walks.seen c.args.value.now in
    let r = c.walk.result in (
      (
        refl,
        (λ w is. rw (all_nodes path) at (c.walk.follows.holds w is)),
        left_behind path f _ r c.if-path-gt-MAX_NODES.false c.walk.follows.holds-at-none,
      ),
      record { back = tt; found = path_found path f r c.if-path-gt-MAX_NODES.false c.walk.ensures.found },
    )

pub returns-then-path-gt-MAX_NODES : goal.returns-then-path-gt-MAX_NODES
returns-then-path-gt-MAX_NODES g c =
    ((refl, (λ w e. tt), (kept_as_before refl, λ long. refl)), record { back = tt; found = omega (arith, c.if-path-gt-MAX_NODES.true) })
