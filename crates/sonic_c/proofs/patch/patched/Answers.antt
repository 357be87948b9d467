use Rattle.sonic_c.proofs.PatchLemmas.{no_patch_told, unmade_told}
use Rattle.sonic_c.proofs.TextLemmas.{document_refused}
use Rattle.sonic_c.proofs.patch.patched.Goals as goal
use Rattle.sonic_c.specs.Changes.{no_value, value_refused}
use Rattle.sonic_c.specs.Patches.{no_patch, patch_unmade}

pub returns-in-Err-clause-refused : goal.returns-in-Err-clause-refused
returns-in-Err-clause-refused c = no_patch_told c.in-Err.reason no_patch c.in-Err.ensures.err c.tell_patch.ensures

pub returns-in-Err-value_of-clause-refused : goal.returns-in-Err-value_of-clause-refused
returns-in-Err-value_of-clause-refused c =
    document_refused (λ x. patch_unmade c.in-Ok.ensures.ok (no_value x)) c.in-Err-value_of.ensures.err c.tell.ensures

pub returns-clause-refused : goal.returns-clause-refused
returns-clause-refused c =
    let value = c.in-Ok-value_of.ensures in
    unmade_told c.in-Err-apply.reason (λ x. patch_unmade c.in-Ok.ensures.ok (value_refused _ (record { valid = value.valid; document = value.ok }) x)) c.in-Err-apply.ensures.err
    c.tell_patch-in-Err-apply.ensures
