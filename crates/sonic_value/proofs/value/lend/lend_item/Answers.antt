use Rattle.std.proofs.Common.{◌≡◌, refl, map}
use Rattle.std.specs.declared.alloc.Global.{Global}
use Rattle.std.specs.declared.string.String.{String}
use Rattle.std.specs.declared.vec.Vec.{Vec}
use Rattle.sonic_text.specs.Trees.Tree.{container}
use Rattle.sonic_text.specs.declared.kind.Kind.TheVariants.{Array, Object}
use Rattle.sonic_value.proofs.HeldLemmas.{of_lent, both_lent}
use Rattle.sonic_value.proofs.value.lend.lend_item.Goals as goal
use Rattle.sonic_value.specs.Internal.Keys.{seen}
use Rattle.sonic_value.specs.Views.{tree, elements_of, members_of}
use Rattle.sonic_value.specs.declared.value.Value.{Value}

pub returns-in-Some : goal.returns-in-Some
returns-in-Some g c =
    let old = c.args.value.now in
    let whole = c.elements.follows in
    let part = c.element_mut.follows in
    let lent : (w : Vec Value Global) → (g.A.Holds.shown (whole.lender w) ≡ container Array (elements_of (map tree w.items)))
    × (w ≡ c.in-Some.elements.now → whole.lender w ≡ old) = λ w. of_lent c.elements.result c.in-Some.elements _ c.in-Some.is (whole.holds w) in
    rw (c.in-Index.is, c.in-Some.ensures.some) (
      (refl, (λ w. both_lent c.element_mut.result w Array _ _ _ _ _ _ (lent (part.lender w)).0 (lent (part.lender w)).1 (part.holds w)), (lent part.lender-at-none).1 part.holds-at-none),
      record { back = tt; value = c.element_mut.ensures.value },
    )

pub returns-in-Some-members : goal.returns-in-Some-members
returns-in-Some-members g c =
    let old = c.args.value.now in
    let whole = c.members.follows in
    let part = c.member_mut.follows in
    let lent : (w : Vec (String Global × Value) Global) → (g.A.Holds.shown (whole.lender w) ≡ container Object (members_of (seen w.items)))
    × (w ≡ c.in-Some-members.members.now → whole.lender w ≡ old) = λ w. of_lent c.members.result c.in-Some-members.members _ c.in-Some-members.is (whole.holds w) in
    rw (c.in-Key.is, c.in-Some-members.ensures.some) (
      (refl, (λ w. both_lent c.member_mut.result w Object _ _ _ _ _ _ (lent (part.lender w)).0 (lent (part.lender w)).1 (part.holds w)), (lent part.lender-at-none).1 part.holds-at-none),
      record { back = tt; value = c.member_mut.ensures.value },
    )
