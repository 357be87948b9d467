use Rattle.std.proofs.Common.{rules, arith, ◌≡◌, ◌∙◌, ◌+◌, ap, sym, map}
use Rattle.sonic_owned.proofs.UnwrittenLemmas.{up_to}
use Rattle.sonic_value.proofs.Folds.{tree_object}
use Rattle.sonic_value.specs.CompactTexts.{compact}
use Rattle.sonic_value.specs.Internal.ValueCounts.{value_count, items_value_count}
use Rattle.sonic_value.specs.Views.{tree, key_and_tree, members_of}
use Rattle.sonic_value.proofs.value.show.begin.Goals as goal

pub returns-in-Object-clause-text : goal.returns-in-Object-clause-text
returns-in-Object-clause-text g c = λ p.
    up_to (c.write_str-in-Object.ensures.writes p (search rules)) (sym (ap compact (ap tree c.in-Object.is ∙ tree_object c.in-Object.members)))

pub returns-in-Object-clause-less : goal.returns-in-Object-clause-less
returns-in-Object-clause-less g c =
    let own : value_count (tree c.args.value.now) ≡ 1 + items_value_count (members_of (map key_and_tree c.in-Object.members.items)) = ap value_count (ap tree c.in-Object.is ∙ tree_object c.in-Object.members) in
    omega (arith, own)
