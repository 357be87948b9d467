use Rattle.std.proofs.Common.{◌≡◌, ◌∙◌, ap, refl}
use Rattle.std.specs.Fmt.{signed_decimal}
use Rattle.sonic_owned.proofs.Folds.{form-node, form-integer}
use Rattle.sonic_owned.specs.Internal.Bulks.{node_form}
use Rattle.sonic_owned.proofs.IntegerLemmas.{known}
use Rattle.sonic_owned.specs.Forms.{raw}
use Rattle.sonic_owned.specs.Integers.{value}
use Rattle.sonic_owned.specs.Views.{form}
use Rattle.sonic_owned.proofs.value.kind.OwnedLazyValueJsonValueTrait.get_type.Goals as goal

pub returns-in-Integer : goal.returns-in-Integer
returns-in-Integer c =
    let z = c.in-Integer.field-0 in
    let shape : form c.args.self.now ≡ raw (signed_decimal (value z.kept)) = form-node c.args.self.now ∙ ap node_form c.in-Integer.is ∙ form-integer z in
    rw (shape, known z) refl
