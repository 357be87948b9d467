use Rattle.std.proofs.Common.{refl}
use Rattle.sonic_find.proofs.DocumentLemmas.{after_root}
use Rattle.sonic_find.proofs.document.pass_alone.Goals as goal
use Rattle.sonic_find.specs.Documents.{text_after}

pub returns-then-place-text-clause-err : goal.returns-then-place-text-clause-err
returns-then-place-text-clause-err c = λ is_bytes. text_after (after_root c.in_ok-value.ensures.ok) (rw c.as_u8_slice-text.ensures.text at c.if-place-text.true) refl
