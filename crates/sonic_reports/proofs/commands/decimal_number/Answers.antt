use Rattle.std.proofs.Common.{◌≡◌, ◌∙◌, ap, sym}
use Rattle.std.specs.Fmt.{decimal}
use Rattle.sonic_reports.proofs.CommandLemmas.{parsed_number, texts_apart}
use Rattle.sonic_reports.proofs.commands.decimal_number.Goals as goal

pub returns-in_default-clause-none : goal.returns-in_default-clause-none
returns-in_default-clause-none c n e small = let r = parsed_number c.parse.result e small c.parse.ensures.value.0 in let is = c.in_default.is in absurd cc

pub returns-then-ne-clause-none : goal.returns-then-ne-clause-none
returns-then-ne-clause-none c n e small =
    let r = parsed_number c.parse.result e small c.parse.ensures.value.0 in
    let is = c.in-Ok.is in
    let same : c.in-Ok.number ≡ n = cc in
    let text : c.format.result.now ≡ c.args.text.now = c.format.ensures.text ∙ ap decimal same ∙ sym e in
    texts_apart c.if-ne.ensures text
