use Rattle.std.proofs.Common.{refl, ap, ◌∙◌}
use Rattle.sonic_c.proofs.BegunLemmas.{means_begins, never_none}
use Rattle.sonic_c.proofs.kind.jihluka_type.Goals as goal
use Rattle.sonic_c.specs.Begun.{first_byte}
use Rattle.sonic_c.specs.Values.{type_told}
use Rattle.sonic_error.specs.Kinds.{number_of}
use Rattle.sonic_text.proofs.TreeLemmas.{type_means}
use Rattle.sonic_text.specs.Trees.{type_of_tree}

pub returns-in-Ok-clause-call : goal.returns-in-Ok-clause-call
returns-in-Ok-clause-call c = type_told c.in-Ok.found c.in-Ok.ensures.kind refl (rw c.found_number.ensures.number refl)

pub returns-in-Ok-clause-means : goal.returns-in-Ok-clause-means
returns-in-Ok-clause-means c = λ j x m. (refl, c.found_number.ensures.number ∙ ap number_of (c.in-Ok.ensures.same ∙ type_means m))

pub returns-in-Err-clause-means : goal.returns-in-Err-clause-means
returns-in-Err-clause-means c = λ j x m. absurd (never_none (type_of_tree x) (first_byte c.args.json.now) (means_begins m) c.in-Err.ensures.none.0)
