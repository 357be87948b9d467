use Rattle.std.proofs.Common.{rules, ◌≡◌, ◌∙◌, ap, Some}
use Rattle.std.specs.Fmt.{signed_decimal}
use Rattle.std.proofs.lemmas.Int.{to_z-of_z}
use Rattle.std.specs.Int.{w64}
use Rattle.std.specs.Option.{SomeIff}
use Rattle.std.specs.Prelude.{FitsSigned}
use Rattle.sonic_owned.proofs.Folds.{form-node, form-integer}
use Rattle.sonic_owned.proofs.IntegerLemmas.{integer_i64}
use Rattle.sonic_owned.specs.Forms.{raw}
use Rattle.sonic_owned.specs.Integers.{value}
use Rattle.sonic_owned.specs.Internal.Bulks.{node_form}
use Rattle.sonic_owned.specs.Views.{form}
use Rattle.sonic_owned.proofs.value.kind.OwnedLazyValueJsonValueTrait.as_i64.Goals as goal

pub returns-in-Unsigned : goal.returns-in-Unsigned
returns-in-Unsigned c =
    let z = c.in-Integer.integer in
    let shape : form c.args.self.now ≡ raw (signed_decimal (value z.kept)) = form-node c.args.self.now ∙ ap node_form c.in-Integer.is ∙ form-integer z in
    let is : SomeIff c.ok.result (FitsSigned w64 (value z.kept)) (value z.kept) = rw c.in-Unsigned.is (search rules) in
    rw shape (integer_i64 (value z.kept) c.ok.result z.short is)

pub returns-in-Signed : goal.returns-in-Signed
returns-in-Signed c =
    let z = c.in-Integer.integer in
    let shape : form c.args.self.now ≡ raw (signed_decimal (value z.kept)) = form-node c.args.self.now ∙ ap node_form c.in-Integer.is ∙ form-integer z in
    let is : SomeIff (Some c.in-Signed.z) (FitsSigned w64 (value z.kept)) (value z.kept) = rw c.in-Signed.is (search rules) in
    let whole = integer_i64 (value z.kept) (Some c.in-Signed.z) z.short is in
    let fits : FitsSigned w64 c.in-Signed.z = search rules in
    let same = to_z-of_z w64 c.in-Signed.z fits in
    rw shape (whole.0, same ∙ whole.1)
