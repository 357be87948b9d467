use Rattle.sonic_find.proofs.visited.Visited.is_done.Goals as goal
use Rattle.std.proofs.Common.{◌≡◌, arith, not}
use Rattle.std.proofs.lemmas.Bool.Decides.{nat_tests}
use Rattle.std.specs.Prelude.{count_by}
use Rattle.sonic_find.proofs.WalkLemmas.List.{none_open, some_open}

pub returns-clause-done : goal.returns-clause-done
returns-clause-done c = λ e some.
    let counted : c.self.inside.left ≡ count_by not c.args.self.now = rw (← c.self.view_is) c.self.invariant.left in
    let none : count_by not c.args.self.now ≡ 0 = grind (arith, nat_tests) in
    none_open c.args.self.now some.0 none some.1

pub returns-clause-some : goal.returns-clause-some
returns-clause-some c = λ e.
    let counted : c.self.inside.left ≡ count_by not c.args.self.now = rw (← c.self.view_is) c.self.invariant.left in
    some_open c.args.self.now (λ z. grind (arith, nat_tests))
