use Rattle.std.proofs.Common.{◌≡◌, ◌∙◌, ap, inl, inr}
use Rattle.sonic_owned.proofs.Folds.{form-node, form-array, form-object}
use Rattle.sonic_owned.specs.Internal.Bulks.{node_form}
use Rattle.sonic_owned.proofs.ValueLemmas.{level_whole, value_sound}
use Rattle.sonic_owned.specs.Forms.{level, unnamed, named}
use Rattle.sonic_owned.specs.Views.{form, elements, members}
use Rattle.sonic_text.specs.declared.kind.Kind.TheVariants.{Array, Object}
use Rattle.sonic_owned.proofs.view.OwnedView.closed.Goals as goal

pub whole-requires : goal.whole-requires
whole-requires c =
    let value = c.in-Node.value.now in
    let shown = c.from-text.ensures.0 ∙ c.as_str.ensures.value ∙ c.in_ok-text-in-Array.ensures.ok in
    elim c.in-Array.is [
      | inl a ↦
          let shape : form value ≡ level Array (unnamed (elements a.0)) = form-node value ∙ ap node_form a.1 ∙ form-array a.0 in
          rw shown (level_whole shape (value_sound value))
      | inr o ↦
          let shape : form value ≡ level Object (named (members o.0)) = form-node value ∙ ap node_form o.1 ∙ form-object o.0 in
          rw shown (level_whole shape (value_sound value))
    ]
