use Rattle.std.proofs.Common.{rules, refl}
use Rattle.sonic_owned.proofs.ChangeLemmas.{change_stopped, not_pushed, array_pushed}
use Rattle.sonic_owned.proofs.ReachLemmas.{array_same, level_along, on_some}
use Rattle.sonic_owned.specs.Reached.{as_before}
use Rattle.sonic_owned.specs.Internal.Changed.{change_made, change_refused, change_failed}
use Rattle.sonic_owned.specs.Views.{elements}
use Rattle.sonic_owned.proofs.value.OwnedLazyValue.push_element.Goals.{in-Ok, in-Err}
use Rattle.sonic_owned.proofs.value.OwnedLazyValue.push_element.Goals as goal

pub returns-then-not-is_array : goal.returns-then-not-is_array
returns-then-not-is_array c = change_refused (λ h. not_pushed (λ s. let t = c.if-not-is_array.ensures.1 s in cc)) refl

pub returns-in_err-load : goal.returns-in_err-load
returns-in_err-load c = change_stopped c.from_residual.result c.from_residual.ensures.0 (search rules) (c.if-not-is_array.ensures.0 refl) (as_before c.in_err-load.ensures.same)

pub returns : goal.returns
returns c =
    let all = on_some c.in-Some.is (c.array_level.follows.holds c.push.new.self) in
    elim c.match-push.branch [
      | in-Ok w ↦ rw w.result-is (change_made (array_pushed (elements c.in-Some.array.now) c.in_ok-load.ensures.ok c.in-Some.ensures.some w.in-Ok.ensures.ok all))
      | in-Err w ↦ rw w.result-is (change_failed {e = w.plain.result} (search rules) (c.if-not-is_array.ensures.0 refl)
          (level_along (c.if-not-is_array.ensures.0 refl) c.in_ok-load.ensures.ok (array_same c.in-Some.ensures.some w.in-Err.ensures.same all)))
    ]
