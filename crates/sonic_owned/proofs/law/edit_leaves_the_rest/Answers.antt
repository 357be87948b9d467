use Rattle.sonic_owned.proofs.UntouchedLemmas.{edit_behind, edit_beside}
use Rattle.sonic_owned.proofs.law.edit_leaves_the_rest.Goals as goal

pub returns-clause-beside : goal.returns-clause-beside
returns-clause-beside c = λ e path f h k x parts. let alike = edit_beside x parts in (alike.on k, alike.back k)

pub returns-clause-below : goal.returns-clause-below
returns-clause-below c = λ e before after rest f h k. edit_behind rest
