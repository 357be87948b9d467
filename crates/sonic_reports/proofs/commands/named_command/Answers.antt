use Rattle.std.proofs.Common.{ap, ◌∷◌, []}
use Rattle.sonic_reports.specs.Commands.Asks.{get_word, list_word, edit_word, fill_word, fast_word, index_word, lines_word, min_word, patch_word}
use Rattle.sonic_reports.proofs.commands.named_command.Goals as goal

pub returns-in-get-clause-asked : goal.returns-in-get-clause-asked
returns-in-get-clause-asked c = get_word (ap (λ w. w ∷ []) c.in-get.is)

pub returns-in-list-clause-asked : goal.returns-in-list-clause-asked
returns-in-list-clause-asked c = list_word (ap (λ w. w ∷ []) c.in-list.is)

pub returns-in-edit-clause-asked : goal.returns-in-edit-clause-asked
returns-in-edit-clause-asked c = edit_word (ap (λ w. w ∷ []) c.in-edit.is)

pub returns-in-fill-clause-asked : goal.returns-in-fill-clause-asked
returns-in-fill-clause-asked c = fill_word (ap (λ w. w ∷ []) c.in-fill.is)

pub returns-in-fast-clause-asked : goal.returns-in-fast-clause-asked
returns-in-fast-clause-asked c = fast_word (ap (λ w. w ∷ []) c.in-fast.is)

pub returns-in-index-clause-asked : goal.returns-in-index-clause-asked
returns-in-index-clause-asked c = index_word (ap (λ w. w ∷ []) c.in-index.is)

pub returns-in-lines-clause-asked : goal.returns-in-lines-clause-asked
returns-in-lines-clause-asked c = lines_word (ap (λ w. w ∷ []) c.in-lines.is)

pub returns-in-min-clause-asked : goal.returns-in-min-clause-asked
returns-in-min-clause-asked c = min_word (ap (λ w. w ∷ []) c.in-min.is)

pub returns-in-patch-clause-asked : goal.returns-in-patch-clause-asked
returns-in-patch-clause-asked c = patch_word (ap (λ w. w ∷ []) c.in-patch.is)
