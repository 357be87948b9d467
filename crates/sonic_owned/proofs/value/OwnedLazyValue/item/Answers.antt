use Rattle.std.proofs.Common.{◌≡◌, ◌∙◌, ap, sym, refl}
use Rattle.sonic_owned.proofs.Folds.{form-node, form-array, form-object}
use Rattle.sonic_owned.specs.Internal.Bulks.{node_form}
use Rattle.sonic_owned.proofs.LeadingLemmas.{item_at_list, item_of_first, item_of_none}
use Rattle.sonic_owned.proofs.value.OwnedLazyValue.item.Goals as goal
use Rattle.sonic_owned.specs.Forms.{level, unnamed, named}
use Rattle.sonic_owned.specs.Views.{form, elements, members}
use Rattle.sonic_text.specs.declared.kind.Kind.TheVariants.{Array, Object}

pub returns-in-Array-Index : goal.returns-in-Array-Index
returns-in-Array-Index c =
    let a = c.in-Array-Index.level in
    let shape : form c.args.self.now ≡ level Array (unnamed (elements a)) = form-node c.args.self.now ∙ ap node_form c.in-Array-Index.is-0 ∙ form-array a in
    rw (shape, c.in-Array-Index.is-1) (c.at.ensures ∙ sym (item_at_list (elements a) c.in-Array-Index.i))

pub returns-in_err-i-in-Object-Key : goal.returns-in_err-i-in-Object-Key
returns-in_err-i-in-Object-Key c =
    let o = c.in-Object-Key.level in
    let shape : form c.args.self.now ≡ level Object (named (members o)) = form-node c.args.self.now ∙ ap node_form c.in-Object-Key.is-0 ∙ form-object o in
    rw (shape, c.in-Object-Key.is-1, c.from_residual.ensures)
    (sym (item_of_none (members o) c.in-Object-Key.key.now (c.in_err-i-in-Object-Key.ensures.none refl)))

pub returns-in_ok-value-in-Object-Key : goal.returns-in_ok-value-in-Object-Key
returns-in_ok-value-in-Object-Key c =
    let o = c.in-Object-Key.level in
    let shape : form c.args.self.now ≡ level Object (named (members o)) = form-node c.args.self.now ∙ ap node_form c.in-Object-Key.is-0 ∙ form-object o in
    let found = c.in_ok-value-in-Object-Key in
    rw (shape, c.in-Object-Key.is-1)
    (sym (item_of_first (members o) c.in-Object-Key.key.now c.in_ok-i-in-Object-Key.i (found.field-0-0.now, form found.value.now) c.in_ok-i-in-Object-Key.ensures.some (sym found.ensures)))
