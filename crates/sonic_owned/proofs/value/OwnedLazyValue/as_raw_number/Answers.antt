use Rattle.std.proofs.Common.{◌≡◌, ◌∙◌, ap, refl}
use Rattle.std.specs.Fmt.{signed_decimal}
use Rattle.sonic_lazy.proofs.RawNumberLemmas.{number_document_one, number_but_memory}
use Rattle.sonic_lazy.specs.RawNumbers.{IsNumberDocument, IsNumberText}
use Rattle.sonic_owned.proofs.Folds.{form-node, form-integer}
use Rattle.sonic_owned.specs.Internal.Bulks.{node_form}
use Rattle.sonic_owned.proofs.IntegerLemmas.{integer_document, integer_number}
use Rattle.sonic_owned.specs.Forms.{raw, text}
use Rattle.sonic_owned.specs.Integers.{value}
use Rattle.sonic_owned.specs.Views.{form}
use Rattle.sonic_owned.specs.declared.integer.Integer.{Integer}
use Rattle.sonic_owned.specs.declared.value.OwnedLazyValue.{OwnedLazyValue}
use Rattle.sonic_owned.proofs.value.OwnedLazyValue.as_raw_number.Goals as goal

-- the text of a value that is an integer is a number
number_of : (v : OwnedLazyValue) (z : Integer) → form v ≡ raw (signed_decimal (value z.kept)) → IsNumberText (text (form v))
number_of v z shape = rw shape (integer_number (value z.kept) z.short)

pub returns-in_default-format-clause-memory : goal.returns-in_default-format-clause-memory
returns-in_default-format-clause-memory c =
    let z = c.in-Integer.integer in
    number_of c.args.self.now z (form-node c.args.self.now ∙ ap node_form c.in-Integer.is ∙ form-integer z)

pub returns-in-Ok-from_str-clause-some : goal.returns-in-Ok-from_str-clause-some
returns-in-Ok-from_str-clause-some c =
    let z = c.in-Integer.integer in
    (λ s. number_of c.args.self.now z (form-node c.args.self.now ∙ ap node_form c.in-Integer.is ∙ form-integer z), λ n. refl)

pub returns-in-Ok-from_str-clause-text : goal.returns-in-Ok-from_str-clause-text
returns-in-Ok-from_str-clause-text c =
    let z = c.in-Integer.integer in
    let shape : form c.args.self.now ≡ raw (signed_decimal (value z.kept)) = form-node c.args.self.now ∙ ap node_form c.in-Integer.is ∙ form-integer z in
    rw shape (number_document_one c.in-Ok-from_str.ensures.ok (rw (c.deref.ensures, c.in-Ok.ensures.ok) (integer_document z)))

pub returns-clause-err : goal.returns-clause-err
returns-clause-err c =
    let z = c.in-Integer.integer in
    let is : IsNumberDocument c.deref.result.now (signed_decimal (value z.kept)) = rw (c.deref.ensures, c.in-Ok.ensures.ok) (integer_document z) in
    number_but_memory is c.in-Err.ensures.err

pub returns-clause-memory : goal.returns-clause-memory
returns-clause-memory c =
    let z = c.in-Integer.integer in
    number_of c.args.self.now z (form-node c.args.self.now ∙ ap node_form c.in-Integer.is ∙ form-integer z)
