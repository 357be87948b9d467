use Rattle.std.proofs.Common.{rules, refl}
use Rattle.sonic_owned.proofs.ChangeLemmas.{change_stopped, not_paired, object_paired}
use Rattle.sonic_owned.proofs.ReachLemmas.{object_same, level_along, on_some}
use Rattle.sonic_owned.specs.Reached.{as_before}
use Rattle.sonic_owned.specs.Internal.Changed.{change_made, change_refused, change_failed}
use Rattle.sonic_owned.specs.Views.{members}
use Rattle.sonic_owned.proofs.value.OwnedLazyValue.append_member.Goals.{in-Ok, in-Err}
use Rattle.sonic_owned.proofs.value.OwnedLazyValue.append_member.Goals as goal

pub returns-then-not-is_object : goal.returns-then-not-is_object
returns-then-not-is_object c = change_refused (λ h. not_paired (λ s. let t = c.if-not-is_object.ensures.1 s in cc)) refl

pub returns-in_err-load : goal.returns-in_err-load
returns-in_err-load c = change_stopped c.from_residual.result c.from_residual.ensures.0 (search rules) (c.if-not-is_object.ensures.0 refl) (as_before c.in_err-load.ensures.same)

pub returns : goal.returns
returns c =
    let all = on_some c.in-Some.is (c.object_level.follows.holds c.append_pair.new.self) in
    elim c.match-append_pair.branch [
      | in-Ok w ↦ rw w.result-is (change_made (object_paired (members c.in-Some.object.now) c.in_ok-load.ensures.ok c.in-Some.ensures.some w.in-Ok.ensures.ok all))
      | in-Err w ↦ rw w.result-is (change_failed {e = w.plain.result} (search rules) (c.if-not-is_object.ensures.0 refl)
          (level_along (c.if-not-is_object.ensures.0 refl) c.in_ok-load.ensures.ok (object_same c.in-Some.ensures.some w.in-Err.ensures.same all)))
    ]
