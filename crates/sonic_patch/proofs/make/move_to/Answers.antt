use Rattle.std.proofs.Common.{◌≡◌, ◌∙◌, sym, true, false, OnOk, IfErr}
use Rattle.std.proofs.lemmas.Result.{err_from_is_err_and}
use Rattle.sonic_owned.proofs.ValueLemmas.{value_sound}
use Rattle.sonic_owned.specs.Forms.{Form, raw, text}
use Rattle.sonic_owned.specs.Views.{form}
use Rattle.sonic_patch.proofs.StepLemmas.{on_ok_then, on_missing, missing_then, move_child, move_lost, move_kept, move_unadded}
use Rattle.sonic_patch.proofs.make.move_to.Goals as goal
use Rattle.sonic_patch.specs.Internal.Refusals.{IsMissing}
use Rattle.sonic_patch.specs.Operations.{move}
use Rattle.sonic_patch.specs.Patches.{IsAddition, IsUnmade, moves}
use Rattle.sonic_patch.specs.Patching.{is_before}
use Rattle.sonic_patch.specs.Views.{tokens_of}

pub returns-then-is_before-clause-unmade : goal.returns-then-is_before-clause-unmade
returns-then-is_before-clause-unmade c =
    let before : is_before (tokens_of c.args.from.now) (tokens_of c.args.path.now) ≡ true =
    rw (c.as_slice.ensures.value, c.as_slice-2.ensures.value) at (sym c.is_before.ensures ∙ c.if-is_before.true) in
    move_child (tokens_of c.args.from.now) (tokens_of c.args.path.now) (form c.args.value.now) before

pub returns-in_err-moved-clause-unmade : goal.returns-in_err-moved-clause-unmade
returns-in_err-moved-clause-unmade c =
    let other : is_before (tokens_of c.args.from.now) (tokens_of c.args.path.now) ≡ false =
    rw (c.as_slice.ensures.value, c.as_slice-2.ensures.value) at (sym c.is_before.ensures ∙ c.if-is_before.false) in
    let p = err_from_is_err_and c.from_residual.result c.from_residual.ensures.1 in
    rw (p.1, p.2)
    (missing_then c.in_err-moved.field-0.0 (IsUnmade (move (tokens_of c.args.from.now) (tokens_of c.args.path.now)) (form c.args.value.now))
    (move_lost (tokens_of c.args.from.now) (tokens_of c.args.path.now) (form c.args.value.now) other) c.in_err-moved.ensures.missing)

pub returns-in_err-remove-clause-unmade : goal.returns-in_err-remove-clause-unmade
returns-in_err-remove-clause-unmade c =
    let other : is_before (tokens_of c.args.from.now) (tokens_of c.args.path.now) ≡ false =
    rw (c.as_slice.ensures.value, c.as_slice-2.ensures.value) at (sym c.is_before.ensures ∙ c.if-is_before.false) in
    let (g, points, e) = c.in_ok-moved.ensures.found in
    let p = err_from_is_err_and c.from_residual-in_err-remove.result c.from_residual-in_err-remove.ensures.1 in
    rw (p.1, p.2)
    (missing_then c.in_err-remove.field-0.0 (IsUnmade (move (tokens_of c.args.from.now) (tokens_of c.args.path.now)) (form c.args.value.now))
    (move_kept (tokens_of c.args.from.now) (tokens_of c.args.path.now) (form c.args.value.now) other points) c.in_err-remove.ensures.refused)

pub returns-clause-made : goal.returns-clause-made
returns-clause-made c =
    let other : is_before (tokens_of c.args.from.now) (tokens_of c.args.path.now) ≡ false =
    rw (c.as_slice.ensures.value, c.as_slice-2.ensures.value) at (sym c.is_before.ensures ∙ c.if-is_before.false) in
    let (g, points, e) = c.in_ok-moved.ensures.found in
    let own : OnOk c.add.result (IsAddition (tokens_of c.args.path.now) (raw (text g)) (form c.remove.new.value) (form c.add.new.value)) = rw e at c.add.ensures.made in
    on_ok_then c.add.result (moves other points c.in_ok-remove.ensures.made) own

pub returns-clause-unmade : goal.returns-clause-unmade
returns-clause-unmade c =
    let other : is_before (tokens_of c.args.from.now) (tokens_of c.args.path.now) ≡ false =
    rw (c.as_slice.ensures.value, c.as_slice-2.ensures.value) at (sym c.is_before.ensures ∙ c.if-is_before.false) in
    let (g, points, e) = c.in_ok-moved.ensures.found in
    let own : IfErr c.add.result (IsMissing ((h : Form) → ¬ IsAddition (tokens_of c.args.path.now) (raw (text g)) (form c.remove.new.value) h)) = rw e at c.add.ensures.refused in
    on_missing c.add.result (IsUnmade (move (tokens_of c.args.from.now) (tokens_of c.args.path.now)) (form c.args.value.now))
    (move_unadded (tokens_of c.args.from.now) (tokens_of c.args.path.now) (form c.args.value.now) (value_sound c.args.value.now) other points c.in_ok-remove.ensures.made) own
