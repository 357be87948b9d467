use Rattle.std.proofs.Common.{◌∙◌, sym, ap}
use Rattle.sonic_text.proofs.Strings.{string_never_both}
use Rattle.sonic_index.proofs.CellLemmas.{label_member, string_end_is}
use Rattle.sonic_index.specs.declared.entry.Label.TheVariants.{Key}
use Rattle.sonic_index.proofs.index.label.Goals as goal

pub unreachable-requires : goal.unreachable-requires
unreachable-requires c =
    let string = c.requires.key c.if-parent-cell.false (sym c.byte_at.ensures.value ∙ c.if-byte_at-ne123.false) in
    string_never_both string.2 c.in-Err.ensures.err

pub returns : goal.returns
returns c =
    let a = c.args in
    let member = label_member a.text.now a.parent a.cell c.if-parent-cell.false (sym c.byte_at.ensures.value ∙ c.if-byte_at-ne123.false) in
    ap (Key a.cell.label) (sym (string_end_is c.in-Ok.ensures.ok.3)) ∙ sym member
