use Rattle.std.proofs.Common.{◌∙◌, ap, refl, sym}
use Rattle.std.proofs.lemmas.Option.{get_or_from_slice_get, IfSome_then}
use Rattle.sonic_text.specs.declared.kind.Kind.TheVariants.{Object}
use Rattle.sonic_text.specs.Paths.{key}
use Rattle.sonic_text.specs.Places.{byte}
use Rattle.sonic_find.proofs.PathLemmas.Lead.{none_unopened}
use Rattle.sonic_index.specs.declared.cell.Cell.{Cell}
use Rattle.sonic_index.proofs.MemberPathLemmas.{leads_first, leads_none, none_then}
use Rattle.sonic_index.proofs.PathLemmas.{no_cell}
use Rattle.sonic_index.proofs.members.wide_member.Goals as goal

pub returns-then-byte_at-ne123-clause-none : goal.returns-then-byte_at-ne123-clause-none
returns-then-byte_at-ne123-clause-none c =
    let a = c.args in
    let w = c.requires.wide in
    let first = ap (λ (o : Cell). byte a.text.now o.start) (get_or_from_slice_get a.cells.now a.i w.cell no_cell w.read) in
    record { from = w.cell; read = w.read; none = λ v. none_unopened {kind = Object} (λ e. c.if-byte_at-ne123.true (c.byte_at.ensures.value ∙ first ∙ e)) (key a.wanted.now) v refl }

pub returns-clause-some : goal.returns-clause-some
returns-clause-some c = IfSome_then c.first.result c.first.ensures.some (λ n s. leads_first c.requires.entries s)

pub returns-clause-none : goal.returns-clause-none
returns-clause-none c =
    let a = c.args in
    let w = c.requires.wide in
    let first = ap (λ (o : Cell). byte a.text.now o.start) (get_or_from_slice_get a.cells.now a.i w.cell no_cell w.read) in
    none_then c.first.result (λ none. leads_none c.requires.entries w.cell w.read (sym first ∙ sym c.byte_at.ensures.value ∙ c.if-byte_at-ne123.false) none) c.first.ensures.none
