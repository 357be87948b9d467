use Rattle.std.proofs.Common.{refl}
use Rattle.sonic_find.specs.Documents.{text_after}
use Rattle.sonic_index.proofs.PlaceLemmas.{document_after}
use Rattle.sonic_index.proofs.build.whole.Goals as goal

pub returns-then-place-text-clause-err : goal.returns-then-place-text-clause-err
returns-then-place-text-clause-err c = λ is_bytes.
    let passed = document_after c.in_ok-end.ensures.ok c.skip_space-place.ensures.place in
    let text = c.as_u8_slice-text.ensures.text in
    text_after (rw text at passed.0) (rw text at c.if-place-text.true) refl

pub returns-clause-kept : goal.returns-clause-kept
returns-clause-kept c =
    let passed = document_after c.in_ok-end.ensures.ok c.skip_space-place.ensures.place in
    rw c.as_u8_slice-text.ensures.text at passed.1
