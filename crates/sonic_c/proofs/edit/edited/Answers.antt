use Rattle.std.proofs.Common.{refl}
use Rattle.sonic_c.proofs.TextLemmas.{document_refused}
use Rattle.sonic_c.proofs.edit.edited.Goals as goal
use Rattle.sonic_c.specs.Changes.{IsEditRefused, no_value, value_refused, edits_unmade}
use Rattle.sonic_c.specs.Internal.Texts.{refuses}

pub returns-in-Err-value_of-clause-refused : goal.returns-in-Err-value_of-clause-refused
returns-in-Err-value_of-clause-refused c =
    let edits = c.in-Ok.ensures in
    document_refused (λ x. edits_unmade edits.say (no_value x)) c.in-Err-value_of.ensures.err (rw edits.kept at c.tell.ensures)

pub returns-in-Ok-Some-clause-refused : goal.returns-in-Ok-Some-clause-refused
returns-in-Ok-Some-clause-refused c =
    let value = c.in-Ok-value_of.ensures in
    let first = rw c.in-Ok-Some.field-0-is at c.in-Ok-Some.ensures.refused in
    let refused : IsEditRefused _ _ _ _ = record { number = c.in-Ok-Some.number; first = first; told = c.at_line.ensures; says = refl } in
    refuses (edits_unmade c.in-Ok.ensures.say (value_refused _ (record { valid = value.valid; document = value.ok }) refused))
