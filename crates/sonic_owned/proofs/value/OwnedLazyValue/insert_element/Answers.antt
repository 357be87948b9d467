use Rattle.std.proofs.Common.{◌≤◌, length, arith, rules, refl}
use Rattle.sonic_owned.proofs.ChangeLemmas.{change_stopped}
use Rattle.sonic_owned.proofs.ItemLemmas.{element_inserted, element_within, never_inserted, none_of, not_inserted, some_of}
use Rattle.sonic_owned.proofs.ReachLemmas.{array_same, level_along, on_some}
use Rattle.sonic_owned.specs.Internal.Changed.{change_made, change_refused, change_failed}
use Rattle.sonic_owned.specs.Reached.{as_before, HasPlace}
use Rattle.sonic_owned.specs.Seen.{view_form}
use Rattle.sonic_owned.specs.Views.{form, elements}
use Rattle.sonic_owned.proofs.value.OwnedLazyValue.insert_element.Goals.{in-Ok, in-Err, else-i-gt0-via-then-i-gt0+else-is_none, else-i-gt0-via-else-i-gt0}
use Rattle.sonic_owned.proofs.value.OwnedLazyValue.insert_element.Goals as goal

pub returns-then-not-is_array : goal.returns-then-not-is_array
returns-then-not-is_array c = change_refused (never_inserted (λ s. let t = c.if-not-is_array.ensures.1 s in cc)) refl

pub returns-then-is_none : goal.returns-then-is_none
returns-then-is_none c =
    change_refused (not_inserted c.if-i-gt0.true (c.get.ensures.none (none_of c.get.result c.is_none.ensures c.if-is_none.true))) refl

pub returns-in_err-load : goal.returns-in_err-load
returns-in_err-load c =
    let place : HasPlace c.args.i (form c.args.self.now) = elim c.else-i-gt0.branch [
      | else-i-gt0-via-then-i-gt0+else-is_none w ↦
          let led = some_of w.get.result w.is_none.ensures w.if-is_none.false w.get.ensures.some in
          (c.if-not-is_array.ensures.0 refl, λ after. (view_form led.0, led.1))
      | else-i-gt0-via-else-i-gt0 w ↦ (c.if-not-is_array.ensures.0 refl, λ after. absurd (omega (arith, w.if-i-gt0.false, after)))
    ] in
    change_stopped c.from_residual.result c.from_residual.ensures.0 (search rules) place (as_before c.in_err-load.ensures.same)

pub insert-requires : goal.insert-requires
insert-requires c = elim c.else-i-gt0.branch [
  | else-i-gt0-via-then-i-gt0+else-is_none w ↦
      let led = some_of w.get.result w.is_none.ensures w.if-is_none.false w.get.ensures.some in
      let inside = element_within (elements c.in-Some.array.now) c.in_ok-load.ensures.ok c.in-Some.ensures.some led.1 in
      omega (arith, inside)
  | else-i-gt0-via-else-i-gt0 w ↦ omega (arith, w.if-i-gt0.false)
]

pub returns : goal.returns
returns c =
    let all = on_some c.in-Some.is (c.array_level.follows.holds c.insert.new.self) in
    let within : c.args.i ≤ length (elements c.in-Some.array.now) = elim c.else-i-gt0.branch [
      | else-i-gt0-via-then-i-gt0+else-is_none w ↦
          let led = some_of w.get.result w.is_none.ensures w.if-is_none.false w.get.ensures.some in
          let inside = element_within (elements c.in-Some.array.now) c.in_ok-load.ensures.ok c.in-Some.ensures.some led.1 in
          omega (arith, inside)
      | else-i-gt0-via-else-i-gt0 w ↦ omega (arith, w.if-i-gt0.false)
    ] in
    let place : HasPlace c.args.i (form c.args.self.now) = elim c.else-i-gt0.branch [
      | else-i-gt0-via-then-i-gt0+else-is_none w ↦
          let led = some_of w.get.result w.is_none.ensures w.if-is_none.false w.get.ensures.some in
          (c.if-not-is_array.ensures.0 refl, λ after. (view_form led.0, led.1))
      | else-i-gt0-via-else-i-gt0 w ↦ (c.if-not-is_array.ensures.0 refl, λ after. absurd (omega (arith, w.if-i-gt0.false, after)))
    ] in
    elim c.match-insert.branch [
      | in-Ok w ↦ rw w.result-is (change_made (element_inserted (elements c.in-Some.array.now) c.args.i c.in_ok-load.ensures.ok c.in-Some.ensures.some within w.in-Ok.ensures.ok all))
      | in-Err w ↦ rw w.result-is (change_failed {e = w.plain.result} (search rules) place
          (level_along (c.if-not-is_array.ensures.0 refl) c.in_ok-load.ensures.ok (array_same c.in-Some.ensures.some w.in-Err.ensures.same all)))
    ]
