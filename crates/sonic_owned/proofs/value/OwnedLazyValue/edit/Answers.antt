use Rattle.sonic_owned.proofs.ChangeLemmas.{edit_refused, edit_same, edit_failed, edit_takes, edit_nowhere, edit_unreached}
use Rattle.sonic_owned.proofs.ReachLemmas.{kept_longer, on_err}
use Rattle.sonic_owned.proofs.ValueLemmas.{value_sound, sound_means}
use Rattle.sonic_owned.specs.Changes.{change_of}
use Rattle.sonic_owned.specs.Internal.Changed.{IsChanged}
use Rattle.sonic_owned.specs.Reached.{IsChangedAt, for_a_level}
use Rattle.sonic_owned.specs.Views.{form}
use Rattle.sonic_owned.proofs.value.OwnedLazyValue.edit.Goals as goal

pub returns-in-Some-clause-refused : goal.returns-in-Some-clause-refused
returns-in-Some-clause-refused c =
    let d : IsChangedAt _ _ _ _ = rw c.in-Some.is at c.in_ok-changed.ensures.some in
    let changed : IsChanged (change_of c.args.change) (form d.part) (form d.left) c.in-Some.made = rw (← d.change.shows, ← d.change.leaves) d.change.met in
    edit_refused c.in-Some.made d.put changed

pub returns-in-Some-clause-same : goal.returns-in-Some-clause-same
returns-in-Some-clause-same c =
    let d : IsChangedAt _ _ _ _ = rw c.in-Some.is at c.in_ok-changed.ensures.some in
    let changed : IsChanged (change_of c.args.change) (form d.part) (form d.left) c.in-Some.made = rw (← d.change.shows, ← d.change.leaves) d.change.met in
    edit_same c.in-Some.made d.put changed

pub returns-in-Some-clause-err : goal.returns-in-Some-clause-err
returns-in-Some-clause-err c =
    let d : IsChangedAt _ _ _ _ = rw c.in-Some.is at c.in_ok-changed.ensures.some in
    let changed : IsChanged (change_of c.args.change) (form d.part) (form d.left) c.in-Some.made = rw (← d.change.shows, ← d.change.leaves) d.change.met in
    edit_unreached c.args.path.now c.in-Some.made (λ long. let e = (c.in_ok-changed.ensures.limit long).0 in cc) (edit_failed c.in-Some.made d.put changed).0

pub returns-in-Some-clause-kept : goal.returns-in-Some-clause-kept
returns-in-Some-clause-kept c =
    let d : IsChangedAt _ _ _ _ = rw c.in-Some.is at c.in_ok-changed.ensures.some in
    let changed : IsChanged (change_of c.args.change) (form d.part) (form d.left) c.in-Some.made = rw (← d.change.shows, ← d.change.leaves) d.change.met in
    (edit_failed c.in-Some.made d.put changed).1

pub returns-in-None-clause-refused : goal.returns-in-None-clause-refused
returns-in-None-clause-refused c = λ e.
    edit_nowhere (sound_means (value_sound c.args.self.now)).1 (c.in_ok-changed.ensures.none c.in-None.is)

pub returns-in_err-changed-clause-kept : goal.returns-in_err-changed-clause-kept
returns-in_err-changed-clause-kept c = on_err c.from_residual.result (kept_longer _ c.in_err-changed.ensures.kept)

pub returns-in_err-changed-clause-memory : goal.returns-in_err-changed-clause-memory
returns-in_err-changed-clause-memory c = on_err c.from_residual.result (λ short. for_a_level (c.in_err-changed.ensures.memory short))

pub returns-in-Some-clause-memory : goal.returns-in-Some-clause-memory
returns-in-Some-clause-memory c =
    let d : IsChangedAt _ _ _ _ = rw c.in-Some.is at c.in_ok-changed.ensures.some in
    let changed : IsChanged (change_of c.args.change) (form d.part) (form d.left) c.in-Some.made = rw (← d.change.shows, ← d.change.leaves) d.change.met in
    edit_takes _ c.in-Some.made d.put changed
