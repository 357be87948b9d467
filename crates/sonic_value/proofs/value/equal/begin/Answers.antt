use Rattle.std.proofs.Common.{arith, ◌≡◌, ◌∙◌, ◌+◌, ap, map}
use Rattle.sonic_value.proofs.ComparisonLemmas.{array_begun, object_begun}
use Rattle.sonic_value.proofs.Folds.{tree_object}
use Rattle.sonic_value.specs.Internal.ValueCounts.{value_count, items_value_count}
use Rattle.sonic_value.specs.Views.{tree, key_and_tree, members_of}
use Rattle.sonic_value.proofs.value.equal.begin.Goals as goal

pub returns-in-Array-other-clause-same : goal.returns-in-Array-other-clause-same
returns-in-Array-other-clause-same c = array_begun c.args.one.now c.args.other.now c.in-Array.elements c.in-Array-other.others c.in-Array.is c.in-Array-other.is

pub returns-in-Object-other-clause-same : goal.returns-in-Object-other-clause-same
returns-in-Object-other-clause-same c = object_begun c.args.one.now c.args.other.now c.in-Object.members c.in-Object-other.others c.in-Object.is c.in-Object-other.is

pub returns-in-Object-other-clause-less : goal.returns-in-Object-other-clause-less
returns-in-Object-other-clause-less c =
    let own : value_count (tree c.args.one.now) ≡ 1 + items_value_count (members_of (map key_and_tree c.in-Object.members.items)) = ap value_count (ap tree c.in-Object.is ∙ tree_object c.in-Object.members) in
    omega (arith, own)
