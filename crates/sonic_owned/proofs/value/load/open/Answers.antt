use Rattle.std.proofs.Common.{◌≡◌, ◌∙◌, ap, refl}
use Rattle.sonic_lazy.specs.Iterators.{IteratorState}
use Rattle.sonic_lazy.specs.Scalars.{container, scalar_of}
use Rattle.sonic_owned.proofs.Folds.{form-node, form-raw, form-array, form-object, form-roll}
use Rattle.sonic_owned.specs.Internal.Bulks.{node_form}
use Rattle.sonic_owned.proofs.LeadingLemmas.{closed_raw}
use Rattle.sonic_owned.specs.Forms.{unnamed, named}
use Rattle.sonic_owned.specs.Opened.{AreAllMembers}
use Rattle.sonic_owned.specs.Opened.IsOpened.{level_opened}
use Rattle.sonic_owned.specs.Views.{elements, members}
use Rattle.sonic_text.specs.declared.kind.Kind.TheVariants.{Array, Object}
use Rattle.sonic_owned.proofs.value.load.open.Goals as goal

pub returns-in-Some-clause-some : goal.returns-in-Some-clause-some
returns-in-Some-clause-some c =
    let t = c.in-Raw.raw.text in
    let text = ap (λ (it : IteratorState). it.text) c.in-Some.ensures.elements ∙ c.as_lazy.ensures in
    let array : scalar_of t ≡ container Array = rw c.as_lazy.ensures at (c.in-Some.ensures.kind.0 refl) in
    let all : AreAllMembers t Array (unnamed (elements c.in_ok-open_elements.field-0)) = rw text at c.in_ok-open_elements.ensures in
    level_opened (form-node c.args.value.now ∙ ap node_form c.in-Raw.is ∙ form-raw c.in-Raw.raw) array all (form-roll _ ∙ form-array c.in_ok-open_elements.field-0)

pub returns-in_ok-open_members-in-Some-into_object_iter-clause-some : goal.returns-in_ok-open_members-in-Some-into_object_iter-clause-some
returns-in_ok-open_members-in-Some-into_object_iter-clause-some c =
    let t = c.in-Raw.raw.text in
    let found = c.in-Some-into_object_iter.ensures in
    let made = c.in_ok-open_members-in-Some-into_object_iter in
    let text = ap (λ (it : IteratorState). it.text) found.members ∙ c.as_lazy-2.ensures in
    let object : scalar_of t ≡ container Object = rw c.as_lazy-2.ensures at (found.kind.0 refl) in
    let all : AreAllMembers t Object (named (members made.field-0)) = rw text at made.ensures in
    level_opened (form-node c.args.value.now ∙ ap node_form c.in-Raw.is ∙ form-raw c.in-Raw.raw) object all (form-roll _ ∙ form-object made.field-0)

pub returns-in_default : goal.returns-in_default
returns-in_default c = record {
  some = tt;
  none = λ e is.
      let raw = closed_raw c.args.value.now.node (rw form-node at is) in
      c.in_default.not-Raw raw.0 raw.1;
  memory = tt;
}
