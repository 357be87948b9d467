use Rattle.std.proofs.lemmas.Bool.Decides.{same_from_decides}
use Rattle.sonic_value.specs.Equality.{same_tree}
use Rattle.sonic_value.specs.Internal.EqualityLaws.{tree_same}
use Rattle.sonic_value.specs.Views.{tree}
use Rattle.sonic_value.proofs.value.equal.ValuePartialEq.eq.Goals as goal

pub returns-in-Known-clause-eq : goal.returns-in-Known-clause-eq
returns-in-Known-clause-eq c = let x = tree c.args.self.now in let y = tree c.args.other.now in same_from_decides c.in-Known.same (same_tree x y) c.in-Known.ensures.same (tree_same x y)

pub returns-in-Open-clause-eq : goal.returns-in-Open-clause-eq
returns-in-Open-clause-eq c =
    let x = tree c.args.self.now in
    let y = tree c.args.other.now in
    let begun = c.in-Open.ensures.same in
    let level = c.same_level.ensures in
    same_from_decides c.same_level.result (same_tree x y) (λ yes. begun.0 (level.0 yes), λ same. level.1 (begun.1 same)) (tree_same x y)
