use Rattle.std.proofs.Common.{◌≡◌, ◌∙◌, sym, ap, ◌+◌, [], length, arith}
use Rattle.std.proofs.lemmas.List.{append-nil}
use Rattle.std.specs.Fmt.{signed_decimal}
use Rattle.sonic_owned.proofs.Folds.{form-node, form-integer, form-raw, form-text}
use Rattle.sonic_owned.specs.Internal.Bulks.{node_form}
use Rattle.sonic_owned.proofs.IntegerLemmas.{known}
use Rattle.sonic_owned.proofs.LentTexts.{raw_lent, raw_not_made}
use Rattle.sonic_owned.specs.Integers.{value}
use Rattle.sonic_owned.specs.Forms.{raw, text}
use Rattle.sonic_owned.specs.Views.{form}
use Rattle.sonic_text.specs.Quoting.{quoted}
use Rattle.sonic_text.specs.Strings.{strict, IsString}
use Rattle.sonic_owned.proofs.value.OwnedLazyValue.as_str.Goals as goal

pub returns-in-Text-clause-text : goal.returns-in-Text-clause-text
returns-in-Text-clause-text c =
    let s = c.in-Text.text.text in
    let end : 0 + length (quoted s) ≡ length (quoted s) = omega arith in
    let alone : IsString strict (quoted s) 0 (length (quoted s)) s = rw (append-nil (quoted s), end) at (c.quoted_text_is_a_string.ensures.string [] s []) in
    let shown : text (form c.args.self.now) ≡ quoted s = ap text (form-node c.args.self.now ∙ ap node_form c.in-Text.is ∙ form-text c.in-Text.text) in
    rw (shown, c.as_str.ensures) alone

pub returns-in-Integer : goal.returns-in-Integer
returns-in-Integer c =
    let z = c.in-Integer.field-0 in
    let shape : form c.args.self.now ≡ raw (signed_decimal (value z.kept)) = form-node c.args.self.now ∙ ap node_form c.in-Integer.is ∙ form-integer z in
    rw (shape, known z) (record { some = (λ e. absurd cc, λ e. absurd cc); text = tt; err = tt; lent = tt; memory = tt })

pub returns-in-Raw-clause-lent : goal.returns-in-Raw-clause-lent
returns-in-Raw-clause-lent c =
    let none = raw_not_made c.args.self.now c.in-Raw.raw c.in-Raw.is in
    let shape = ap text (form-node c.args.self.now ∙ ap node_form c.in-Raw.is ∙ form-raw c.in-Raw.raw) ∙ sym c.as_lazy.ensures in
    raw_lent c.as_str-in-Raw.result none shape c.as_str-in-Raw.ensures.text
