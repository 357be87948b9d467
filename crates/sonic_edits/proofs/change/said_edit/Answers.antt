use Rattle.std.proofs.Common.{◌≡◌, ◌∙◌, ◌-◌, arith, take, drop, length, map}
use Rattle.std.specs.Cow.{cow_str_bytes}
use Rattle.sonic_edits.proofs.ReadingLemmas.{more_texts}
use Rattle.sonic_edits.proofs.SayingLemmas.{parts_of, says_change, denotes_one}
use Rattle.sonic_edits.proofs.change.said_edit.Goals as goal
use Rattle.sonic_edits.specs.Lines.{Denotes}
use Rattle.sonic_edits.specs.Internal.Reading.{SaysChange}
use Rattle.sonic_lazy.specs.LazyValues.{raw_bytes}
use Rattle.sonic_owned.specs.Changes.{change_of}
use Rattle.sonic_paths.specs.Lines.{IsNodeLine}

pub returns-in_default-2-clause-none : goal.returns-in_default-2-clause-none
returns-in_default-2-clause-none c =
    let line : c.as_bytes.result.now ≡ raw_bytes c.path-item.result = c.as_bytes.ensures.value ∙ c.as_raw_str.ensures in
    rw (more_texts c.args.elements.now c.word-item.result c.path-item.result (omega arith) c.word-item.is c.path-item.is)
    (λ _ e said. let parts = parts_of said in c.in_ok-path.ensures.none c.in_default-2.is e.path (rw line parts.path))

pub returns-in_default-3-clause-none : goal.returns-in_default-3-clause-none
returns-in_default-3-clause-none c =
    rw (more_texts c.args.elements.now c.word-item.result c.path-item.result (omega arith) c.word-item.is c.path-item.is)
    (λ _ e said. let parts = parts_of said in c.in_ok-word.ensures.none c.in_default-3.is parts.denoted parts.word)

pub returns-in-Some-3-clause-some : goal.returns-in-Some-3-clause-some
returns-in-Some-3-clause-some c =
    let line : c.as_bytes.result.now ≡ raw_bytes c.path-item.result = c.as_bytes.ensures.value ∙ c.as_raw_str.ensures in
    let path : IsNodeLine (raw_bytes c.path-item.result) c.in-Some.path = rw line at (rw c.in-Some.is at c.in_ok-path.ensures.some) in
    let word : Denotes (raw_bytes c.word-item.result) (cow_str_bytes c.in-Some-2.word) = rw c.in-Some-2.is at c.in_ok-word.ensures.some in
    let change : SaysChange c.as_str.result.now (map raw_bytes (take (length c.args.elements.now - 2) (drop 2 c.args.elements.now))) (change_of c.in-Some-3.change) = rw c.in-Some-3.is at c.in_ok-change.ensures.some in
    rw (more_texts c.args.elements.now c.word-item.result c.path-item.result (omega arith) c.word-item.is c.path-item.is)
    (says_change word path (rw c.as_str.ensures.value at change))

pub returns-in-None-clause-none : goal.returns-in-None-clause-none
returns-in-None-clause-none c =
    let word : Denotes (raw_bytes c.word-item.result) (cow_str_bytes c.in-Some-2.word) = rw c.in-Some-2.is at c.in_ok-word.ensures.some in
    rw (more_texts c.args.elements.now c.word-item.result c.path-item.result (omega arith) c.word-item.is c.path-item.is)
    (λ _ e said.
    let parts = parts_of said in
    let one = denotes_one parts.word word in
    let change : SaysChange c.as_str.result.now (map raw_bytes (take (length c.args.elements.now - 2) (drop 2 c.args.elements.now))) e.change = rw (c.as_str.ensures.value, ← one) parts.change in
    c.in_ok-change.ensures.none c.in-None.is e.change change)
