use Rattle.std.proofs.Common.{◌∙◌, ◌≡◌, sym, ap, refl, Some, IfSome}
use Rattle.sonic_owned.proofs.LeadingLemmas.{item_of_none}
use Rattle.sonic_owned.proofs.Lent.{element_there, element_lent, value_there, value_lent, no_element, value_is_lent}
use Rattle.sonic_owned.proofs.ReachLemmas.{on_some}
use Rattle.sonic_owned.proofs.value.lend.lend_item.Goals as goal
use Rattle.sonic_owned.specs.Forms.{level, unnamed, named}
use Rattle.sonic_owned.specs.Leading.{item_in}
use Rattle.sonic_owned.specs.Puts.{put_in}
use Rattle.sonic_owned.specs.Views.{form, elements, members}
use Rattle.sonic_owned.specs.declared.value.LazyArray.{LazyArray}
use Rattle.sonic_owned.specs.declared.value.LazyObject.{LazyObject}
use Rattle.sonic_owned.specs.declared.value.OwnedLazyValue.{OwnedLazyValue}
use Rattle.sonic_text.specs.Paths.{index, key}
use Rattle.sonic_text.specs.declared.kind.Kind.TheVariants.{Array, Object}

pub returns-in_ok-array_level-in-Index : goal.returns-in_ok-array_level-in-Index
returns-in_ok-array_level-in-Index g c =
    let o = c.at_mut.result in
    let array = c.in_ok-array_level-in-Index.field-0 in
    let f = g.A.Opens.seen c.args.value.now in
    let n = c.in-Index.i in
    let last : (x : LazyArray) → g.A.Opens.seen (c.array_level.follows.lender x) ≡ level Array (unnamed (elements x)) =
    λ x. on_some c.in_ok-array_level-in-Index.was (c.array_level.follows.holds x) in
    let lent : (w : OwnedLazyValue) → IfSome o (λ x. (item_in (index n) f ≡ Some (form x.now)) ×
    (g.A.Opens.seen (c.array_level.follows.lender (c.at_mut.follows.lender w)) ≡ put_in (index n) (form w) f)) =
    λ w. element_lent o (elements array.now) _ n (form w) c.in_ok-array_level-in-Index.ensures.some c.at_mut.ensures.value (last (c.at_mut.follows.lender w))
    (c.at_mut.follows.holds w) in
    rw c.in-Index.is (
      (refl, lent, last _ ∙ ap (λ l. level Array (unnamed l)) c.at_mut.follows.holds-at-none ∙ sym c.in_ok-array_level-in-Index.ensures.some),
      record {
        back = tt;
        some = element_there o (elements array.now) n c.in_ok-array_level-in-Index.ensures.some c.at_mut.ensures.value;
        none = no_element o (elements array.now) n c.in_ok-array_level-in-Index.ensures.some c.at_mut.ensures.value;
      },
    )

pub returns-in_ok-i-in-Key : goal.returns-in_ok-i-in-Key
returns-in_ok-i-in-Key g c =
    let o = c.at_mut-in-Key.result in
    let object = c.in_ok-level-in-Key.level in
    let f = g.A.Opens.seen c.args.value.now in
    let k = c.in-Key.key.now in
    let i = c.in_ok-i-in-Key.i in
    let is = c.in_ok-level-in-Key.ensures.some in
    let first = c.in_ok-i-in-Key.ensures.some in
    let at = c.at_mut-in-Key.ensures.value in
    let last : (x : LazyObject) → g.A.Opens.seen (c.object_level.follows.lender x) ≡ level Object (named (members x)) =
    λ x. on_some c.in_ok-level-in-Key.was (c.object_level.follows.holds x) in
    let left = c.at_mut-in-Key.follows in
    let lent : (w : OwnedLazyValue) → IfSome o (λ x. (item_in (key k) f ≡ Some (form x.now)) ×
    (g.A.Opens.seen (c.object_level.follows.lender (left.lender w)) ≡ put_in (key k) (form w) f)) =
    λ w. value_lent o (members object.now) _ k i (form w) is first at (last (left.lender w)) (left.holds w) in
    rw c.in-Key.is (
      (refl, lent, last _ ∙ ap (λ l. level Object (named l)) left.holds-at-none ∙ sym is),
      record { back = tt; some = value_there o (members object.now) k i is first at; none = λ e. absurd (value_is_lent o (members object.now) k i first at e) },
    )

pub returns-in_err-i-in-Key : goal.returns-in_err-i-in-Key
returns-in_err-i-in-Key g c =
    let f = g.A.Opens.seen c.args.value.now in
    let object = c.in_ok-level-in-Key.level in
    let k = c.in-Key.key.now in
    let last = on_some c.in_ok-level-in-Key.was (c.object_level.follows.holds object.now) in
    let is = c.in_ok-level-in-Key.ensures.some in
    rw (c.in-Key.is, c.from_residual-in_err-i-in-Key.ensures) (
      (refl, (λ w. tt), last ∙ sym is),
      record { back = tt; some = tt; none = λ e. rw is (item_of_none (members object.now) k (c.in_err-i-in-Key.ensures.none refl)) },
    )
