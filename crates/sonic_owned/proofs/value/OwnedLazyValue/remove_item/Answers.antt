use Rattle.std.proofs.Common.{◌∙◌, ◌∷◌, [], ap, rules, refl, subst}
use Rattle.sonic_find.specs.Paths.{kind_of}
use Rattle.sonic_lazy.specs.Scalars.{container}
use Rattle.sonic_owned.proofs.ChangeLemmas.{change_stopped, kind_opened}
use Rattle.sonic_owned.proofs.ItemLemmas.{element_removed, led_kind, member_removed, none_of, not_removed, some_of}
use Rattle.sonic_owned.proofs.ReachLemmas.{closed_of, object_lacks, on_some}
use Rattle.sonic_owned.proofs.ValueLemmas.{value_sound}
use Rattle.sonic_owned.specs.Internal.Changed.{change_made, change_refused}
use Rattle.sonic_owned.specs.Leading.{LeadsTo}
use Rattle.sonic_owned.specs.Reached.{as_before}
use Rattle.sonic_owned.specs.Seen.{view_form}
use Rattle.sonic_owned.specs.Views.{form, elements, members}
use Rattle.sonic_pointer.specs.Nodes.{node_of}
use Rattle.sonic_owned.proofs.value.OwnedLazyValue.remove_item.Goals as goal

pub returns-then-is_none : goal.returns-then-is_none
returns-then-is_none c = change_refused (not_removed (c.get.ensures.none (none_of c.get.result c.is_none.ensures c.if-is_none.true))) refl

pub returns-in_err-load : goal.returns-in_err-load
returns-in_err-load c =
    let led = some_of c.get.result c.is_none.ensures c.if-is_none.false c.get.ensures.some in
    change_stopped c.from_residual.result c.from_residual.ensures.0 (search rules)
    (closed_of (form c.args.self.now) c.in_err-load.ensures.memory (led_kind (value_sound c.args.self.now) led.1), (view_form led.0, led.1))
    (as_before c.in_err-load.ensures.same)

pub unreachable-requires : goal.unreachable-requires
unreachable-requires c =
    let led = some_of c.get.result c.is_none.ensures c.if-is_none.false c.get.ensures.some in
    let kind = led_kind (value_sound c.args.self.now) led.1 ∙ ap (λ n. container (kind_of (node_of n))) c.in-Index.is in
    let (ms, is) = kind_opened c.in_ok-load.ensures.ok kind in
    c.array_level.ensures.none c.in_default-array_level.is ms is

pub returns-in-Index : goal.returns-in-Index
returns-in-Index c =
    let led = some_of c.get.result c.is_none.ensures c.if-is_none.false c.get.ensures.some in
    let here = subst (λ n. LeadsTo (node_of n ∷ []) (form c.args.self.now) (view_form led.0)) c.in-Index.is led.1 in
    let all = on_some c.in-Some.is (c.array_level.follows.holds c.remove.new.self) in
    rw c.in-Index.is
    (change_made (element_removed (elements c.in-Some.array.now) c.in-Index.i c.in_ok-load.ensures.ok c.in-Some.ensures.some here c.remove.ensures.rest all))

pub unreachable-requires-in_default-object_level : goal.unreachable-requires-in_default-object_level
unreachable-requires-in_default-object_level c =
    let led = some_of c.get.result c.is_none.ensures c.if-is_none.false c.get.ensures.some in
    let kind = led_kind (value_sound c.args.self.now) led.1 ∙ ap (λ n. container (kind_of (node_of n))) c.in-Key.is in
    let (ms, is) = kind_opened c.in_ok-load.ensures.ok kind in
    c.object_level.ensures.none c.in_default-object_level.is ms is

pub unreachable-requires-in_default-first_of_key : goal.unreachable-requires-in_default-first_of_key
unreachable-requires-in_default-first_of_key c =
    let led = some_of c.get.result c.is_none.ensures c.if-is_none.false c.get.ensures.some in
    let path = ap (λ n. node_of n ∷ []) c.in-Key.is in
    object_lacks (members c.in-Some-object_level.object.now) path c.in_ok-load.ensures.ok c.in-Some-object_level.ensures.some
    (c.first_of_key.ensures.none c.in_default-first_of_key.is) _ led.1

pub returns : goal.returns
returns c =
    let all = on_some c.in-Some-object_level.is (c.object_level.follows.holds c.remove-2.new.self) in
    rw c.in-Key.is
    (change_made (member_removed (members c.in-Some-object_level.object.now) c.in-Key.key.now c.in-Some-first_of_key.i c.in_ok-load.ensures.ok c.in-Some-object_level.ensures.some
    c.in-Some-first_of_key.ensures.some c.remove-2.ensures.rest all))
