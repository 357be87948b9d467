use Rattle.std.proofs.Common.{◌≡◌, ◌∙◌, ap, sym, codes}
use Rattle.std.specs.Cow.{cow_str_bytes}
use Rattle.sonic_lazy.specs.LazyValues.{raw_bytes}
use Rattle.sonic_patch.specs.Reading.{SaysText}
use Rattle.sonic_patch.specs.Internal.Texts.{word_text}
use Rattle.sonic_patch.proofs.OperationLemmas.{no_op, no_word, no_path, no_value, no_from}
use Rattle.sonic_patch.proofs.parts.parts_of.Goals as goal

pub returns-in_default-clause-none : goal.returns-in_default-clause-none
returns-in_default-clause-none c = λ _. no_op (c.in_ok-op.ensures.none c.in_default.is)

pub returns-in_default-word_of-clause-none : goal.returns-in_default-word_of-clause-none
returns-in_default-word_of-clause-none c =
    let op : SaysText (raw_bytes c.args.object.now) (codes "op") (cow_str_bytes c.in-Some.op) = rw c.in-Some.is at c.in_ok-op.ensures.some in
    let none = rw c.as_str.ensures.value at (c.word_of.ensures.none c.in_default-word_of.is) in
    λ _. no_word op none

pub returns-in_default-2-clause-none : goal.returns-in_default-2-clause-none
returns-in_default-2-clause-none c = λ _. no_path (c.in_ok-path.ensures.none c.in_default-2.is)

pub returns-in-Valued-clause-none : goal.returns-in-Valued-clause-none
returns-in-Valued-clause-none c =
    let op : SaysText (raw_bytes c.args.object.now) (codes "op") (cow_str_bytes c.in-Some.op) = rw c.in-Some.is at c.in_ok-op.ensures.some in
    let word : c.as_str.result.now ≡ word_text c.in-Some-word_of.word = rw c.in-Some-word_of.is at c.word_of.ensures.some in
    let same = sym c.as_str.ensures.value ∙ word ∙ ap word_text c.in-Valued.is in
    λ _. no_value c.in-Valued.word (rw same at op) (c.member.ensures.none c.in-None.is)

pub returns-clause-none : goal.returns-clause-none
returns-clause-none c =
    let op : SaysText (raw_bytes c.args.object.now) (codes "op") (cow_str_bytes c.in-Some.op) = rw c.in-Some.is at c.in_ok-op.ensures.some in
    let word : c.as_str.result.now ≡ word_text c.in-Some-word_of.word = rw c.in-Some-word_of.is at c.word_of.ensures.some in
    let same = sym c.as_str.ensures.value ∙ word ∙ ap word_text c.in-Paired.is in
    λ _. no_from c.in-Paired.word (rw same at op) (c.in_ok-from-in-Paired.ensures.none c.in-None-2.is)
