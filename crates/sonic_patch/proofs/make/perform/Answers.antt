use Rattle.std.proofs.Common.{OnOk, IfErr}
use Rattle.sonic_owned.specs.Forms.{Form}
use Rattle.sonic_owned.specs.Views.{form}
use Rattle.sonic_patch.proofs.StepLemmas.{on_ok_then, on_missing, add_unmade, remove_unmade, replace_unmade}
use Rattle.sonic_patch.proofs.make.perform.Goals as goal
use Rattle.sonic_patch.specs.Internal.Refusals.{IsMissing}
use Rattle.sonic_patch.specs.Operations as operations
use Rattle.sonic_patch.specs.Patches.{IsAddition, IsReplacement, IsUnmade, adds, removes, replaces}
use Rattle.sonic_patch.specs.Views.{tokens_of}

pub returns-in_ok-new-in-Add-clause-made : goal.returns-in_ok-new-in-Add-clause-made
returns-in_ok-new-in-Add-clause-made c =
    let own : OnOk c.add.result (IsAddition (tokens_of c.in-Add.path) (form c.in-Add.new) (form c.args.value.now) (form c.add.new.value)) = rw c.in_ok-new-in-Add.ensures at c.add.ensures.made in
    rw c.in-Add.is (on_ok_then c.add.result adds own)

pub returns-in_ok-new-in-Add-clause-unmade : goal.returns-in_ok-new-in-Add-clause-unmade
returns-in_ok-new-in-Add-clause-unmade c =
    let own : IfErr c.add.result (IsMissing ((h : Form) → ¬ IsAddition (tokens_of c.in-Add.path) (form c.in-Add.new) (form c.args.value.now) h)) =
    rw c.in_ok-new-in-Add.ensures at c.add.ensures.refused in
    rw c.in-Add.is
    (on_missing c.add.result (IsUnmade (operations.add (tokens_of c.in-Add.path) (form c.in-Add.new)) (form c.args.value.now))
    (add_unmade (tokens_of c.in-Add.path) (form c.in-Add.new) (form c.args.value.now)) own)

pub returns-in-Remove-clause-made : goal.returns-in-Remove-clause-made
returns-in-Remove-clause-made c = rw c.in-Remove.is (on_ok_then c.remove.result removes c.remove.ensures.made)

pub returns-in-Remove-clause-unmade : goal.returns-in-Remove-clause-unmade
returns-in-Remove-clause-unmade c = rw c.in-Remove.is
    (on_missing c.remove.result (IsUnmade (operations.remove (tokens_of c.in-Remove.path)) (form c.args.value.now)) (remove_unmade (tokens_of c.in-Remove.path) (form c.args.value.now))
    c.remove.ensures.refused)

pub returns-in_ok-new-in-Replace-clause-made : goal.returns-in_ok-new-in-Replace-clause-made
returns-in_ok-new-in-Replace-clause-made c =
    let own : OnOk c.replace.result (IsReplacement (tokens_of c.in-Replace.path) (form c.in-Replace.new) (form c.args.value.now) (form c.replace.new.value)) =
    rw c.in_ok-new-in-Replace.ensures at c.replace.ensures.made in
    rw c.in-Replace.is (on_ok_then c.replace.result replaces own)

pub returns-in_ok-new-in-Replace-clause-unmade : goal.returns-in_ok-new-in-Replace-clause-unmade
returns-in_ok-new-in-Replace-clause-unmade c =
    let own : IfErr c.replace.result (IsMissing ((h : Form) → ¬ IsReplacement (tokens_of c.in-Replace.path) (form c.in-Replace.new) (form c.args.value.now) h)) =
    rw c.in_ok-new-in-Replace.ensures at c.replace.ensures.refused in
    rw c.in-Replace.is
    (on_missing c.replace.result (IsUnmade (operations.replace (tokens_of c.in-Replace.path) (form c.in-Replace.new)) (form c.args.value.now))
    (replace_unmade (tokens_of c.in-Replace.path) (form c.in-Replace.new) (form c.args.value.now)) own)
