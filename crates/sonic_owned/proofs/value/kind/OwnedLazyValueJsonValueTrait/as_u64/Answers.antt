use Rattle.std.proofs.Common.{rules, ◌≡◌, ◌∙◌, ap, refl, Some}
use Rattle.std.specs.Fmt.{signed_decimal}
use Rattle.sonic_owned.proofs.Folds.{form-node, form-integer}
use Rattle.sonic_owned.proofs.IntegerLemmas.{integer_u64}
use Rattle.sonic_owned.specs.Forms.{raw}
use Rattle.sonic_owned.specs.Integers.{value}
use Rattle.sonic_owned.specs.Internal.Bulks.{node_form}
use Rattle.sonic_owned.specs.Internal.Naturals.{natural}
use Rattle.sonic_owned.specs.Views.{form}
use Rattle.sonic_owned.proofs.value.kind.OwnedLazyValueJsonValueTrait.as_u64.Goals as goal

pub returns-in-Unsigned : goal.returns-in-Unsigned
returns-in-Unsigned c =
    let z = c.in-Integer.integer in
    let shape : form c.args.self.now ≡ raw (signed_decimal (value z.kept)) = form-node c.args.self.now ∙ ap node_form c.in-Integer.is ∙ form-integer z in
    let is : natural (value z.kept) ≡ Some c.in-Unsigned.n = rw c.in-Unsigned.is refl in
    rw shape (rw is at (integer_u64 (value z.kept) z.short))

pub returns-in-Signed : goal.returns-in-Signed
returns-in-Signed c =
    let z = c.in-Integer.integer in
    let shape : form c.args.self.now ≡ raw (signed_decimal (value z.kept)) = form-node c.args.self.now ∙ ap node_form c.in-Integer.is ∙ form-integer z in
    let is : c.ok.result ≡ natural (value z.kept) = rw c.in-Signed.is (search rules) in
    rw shape (rw is (integer_u64 (value z.kept) z.short))
