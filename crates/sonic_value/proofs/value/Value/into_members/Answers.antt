use Rattle.std.proofs.Common.{◌∙◌, ap, arith, sym}
use Rattle.std.proofs.lemmas.Bool.{eqb-false}
use Rattle.sonic_value.proofs.FillingLemmas.{some_members}
use Rattle.sonic_value.proofs.Folds.{tree_object}
use Rattle.sonic_value.proofs.value.Value.into_members.Goals as goal
use Rattle.sonic_value.specs.Views.{tree}

pub returns-clause-some : goal.returns-clause-some
returns-clause-some c =
    let some = eqb-false _ 0 (sym c.if-is_empty.ensures) in
    record {
      is = ap tree c.in-Object.is ∙ tree_object c.in-Object.members;
      has = some_members c.in-Object.members.items (omega (arith, c.in-Object.members.ok.0, some));
    }
