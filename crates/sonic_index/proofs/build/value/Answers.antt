use Rattle.std.proofs.Common.{◌++◌, ◌∷◌, []}
use Rattle.std.proofs.lemmas.List.{length-append}
use Rattle.std.proofs.lemmas.Result.{err_from_is_err_and}
use Rattle.sonic_text.specs.Strings.{strict}
use Rattle.sonic_text.proofs.Stops.{fault_within}
use Rattle.sonic_parser.specs.declared.parts.ValueAt.TheVariants.{Ends, Opens}
use Rattle.sonic_parser.specs.Parts.{IsValueAt}
use Rattle.sonic_index.proofs.PlaceLemmas.{value_ended, value_opened, value_stop}
use Rattle.sonic_index.proofs.WalkLemmas.{cell_for}
use Rattle.sonic_index.proofs.build.value.Goals as goal

pub returns-in_err-found-clause-err : goal.returns-in_err-found-clause-err
returns-in_err-found-clause-err c =
    let p = err_from_is_err_and c.from_residual.result c.from_residual.ensures.1 in
    rw (p.1, p.2) (value_stop c.args.at c.in_err-found.field-0.0 c.requires.expected.1 c.in_err-found.ensures.err)

pub returns-in_err-found-clause-within : goal.returns-in_err-found-clause-within
returns-in_err-found-clause-within c =
    let p = err_from_is_err_and c.from_residual.result c.from_residual.ensures.1 in
    rw (p.1, p.2) (fault_within c.in_err-found.ensures.err)

pub returns-in_ok-add-in-Ends-clause-ok : goal.returns-in_ok-add-in-Ends-clause-ok
returns-in_ok-add-in-Ends-clause-ok c =
    let v : IsValueAt strict c.args.text.now c.args.at.place (Ends c.in-Ends.end) = rw c.in-Ends.is at c.in_ok-found.ensures.ok in
    rw (c.in_ok-add-in-Ends.ensures, c.ended.ensures, c.begun-cell.ensures) (v.0.0, λ kinds s. value_ended c.args.at s v)

pub returns-in_ok-add-in-Opens-clause-ok : goal.returns-in_ok-add-in-Opens-clause-ok
returns-in_ok-add-in-Opens-clause-ok c =
    let v : IsValueAt strict c.args.text.now c.args.at.place (Opens c.in-Opens.field-0 c.in-Opens.field-1) = rw c.in-Opens.is at c.in_ok-found.ensures.ok in
    let cells = c.args.cells.now.items in
    let cell = cell_for c.args.at.place 0 c.args.at.item in
    let i = c.requires.expected in
    rw (c.in-Opens.is, c.in_ok-add-in-Opens.ensures, c.begun-cell.ensures)
    (v.0, length-append cells (cell ∷ []), (i.0 ++ c.in-Opens.field-0 ∷ [], value_opened c.args.at c.in-Opens.field-0 0 i.1 v.0 v.1 v.2))
