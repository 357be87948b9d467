use Rattle.std.proofs.Common.{refl}
use Rattle.sonic_lazy.specs.LazyValues.{raw_bytes}
use Rattle.sonic_patch.proofs.OperationLemmas.{any_read, of_texts, read_of, some_of}
use Rattle.sonic_patch.specs.Internal.Texts.{texts_of, HasTexts}
use Rattle.sonic_patch.specs.Reading.HasFault.{no_shape, no_pointers, long_pointers}
use Rattle.sonic_patch.proofs.read.read_operation.Goals as goal

pub returns-in_default-clause-err : goal.returns-in_default-clause-err
returns-in_default-clause-err c = (refl, no_shape (c.in_ok-parts.ensures.none c.in_default.is))

pub returns-in-Fits-clause-ok : goal.returns-in-Fits-clause-ok
returns-in-Fits-clause-ok c =
    let has : HasTexts (raw_bytes c.args.element.now) (texts_of c.in-Some.parts) = rw c.in-Some.is at c.in_ok-parts.ensures.some in
    of_texts (texts_of c.in-Some.parts) has c.in_ok-made-in-Fits.ensures

pub returns-in-TooLong-clause-err : goal.returns-in-TooLong-clause-err
returns-in-TooLong-clause-err c =
    let texts = texts_of c.in-Some.parts in
    let has : HasTexts (raw_bytes c.args.element.now) texts = rw c.in-Some.is at c.in_ok-parts.ensures.some in
    let judged = c.in-TooLong.ensures in
    (refl, long_pointers (some_of texts has judged.0) (λ some. judged.1 (read_of texts has some)))

pub returns-clause-err : goal.returns-clause-err
returns-clause-err c =
    let texts = texts_of c.in-Some.parts in
    let has : HasTexts (raw_bytes c.args.element.now) texts = rw c.in-Some.is at c.in_ok-parts.ensures.some in
    (refl, no_pointers (some_of texts has (any_read texts)) (λ some. c.in-Bad.ensures (read_of texts has some)))
