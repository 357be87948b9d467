use Rattle.std.proofs.Common.{OnOk, IfErr}
use Rattle.sonic_owned.proofs.ValueLemmas.{value_sound}
use Rattle.sonic_owned.specs.Forms.{Form, raw, text}
use Rattle.sonic_owned.specs.Views.{form}
use Rattle.sonic_patch.proofs.StepLemmas.{on_ok_then, on_missing, copy_unadded}
use Rattle.sonic_patch.proofs.make.copy_to.Goals as goal
use Rattle.sonic_patch.specs.Internal.Refusals.{IsMissing}
use Rattle.sonic_patch.specs.Operations.{copy}
use Rattle.sonic_patch.specs.Patches.{IsAddition, IsUnmade, copies}
use Rattle.sonic_patch.specs.Views.{tokens_of}

pub returns-clause-made : goal.returns-clause-made
returns-clause-made c =
    let (g, points, e) = c.in_ok-copied.ensures.found in
    let own : OnOk c.add.result (IsAddition (tokens_of c.args.path.now) (raw (text g)) (form c.args.value.now) (form c.add.new.value)) = rw e at c.add.ensures.made in
    on_ok_then c.add.result (copies points) own

pub returns-clause-unmade : goal.returns-clause-unmade
returns-clause-unmade c =
    let (g, points, e) = c.in_ok-copied.ensures.found in
    let own : IfErr c.add.result (IsMissing ((h : Form) → ¬ IsAddition (tokens_of c.args.path.now) (raw (text g)) (form c.args.value.now) h)) = rw e at c.add.ensures.refused in
    on_missing c.add.result (IsUnmade (copy (tokens_of c.args.from.now) (tokens_of c.args.path.now)) (form c.args.value.now))
    (copy_unadded (tokens_of c.args.from.now) (tokens_of c.args.path.now) (form c.args.value.now) (value_sound c.args.value.now) points) own
