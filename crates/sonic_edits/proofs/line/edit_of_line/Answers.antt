use Rattle.std.proofs.Common.{arith, map}
use Rattle.sonic_edits.proofs.ElementLemmas.{own_one}
use Rattle.sonic_edits.proofs.ReadingLemmas.{ok_weaker}
use Rattle.sonic_edits.proofs.SayingLemmas.{line_elements, says_four}
use Rattle.sonic_edits.proofs.line.edit_of_line.Goals as goal
use Rattle.sonic_edits.specs.Lines.{SaysEdit}
use Rattle.sonic_edits.specs.Internal.Reading.{HasElements}
use Rattle.sonic_lazy.specs.LazyValues.{raw_bytes}

pub returns-in_default-2-clause-none : goal.returns-in_default-2-clause-none
returns-in_default-2-clause-none c = λ _ e line.
    let has : HasElements c.in-Ok.text.now line.elements = rw c.in-Ok.ensures.cases.0 (line_elements line) in
    let many = c.in_ok-elements.ensures.none c.in_default-2.is line.elements has in
    let few = says_four line.says in
    omega arith

pub returns-clause-none : goal.returns-clause-none
returns-clause-none c =
    let has : HasElements c.args.line.now (map raw_bytes c.in-Some.elements.items) =
    rw c.in-Ok.ensures.cases.0 at (rw c.in-Some.is at c.in_ok-elements.ensures.some) in
    ok_weaker c.said_edit.result (λ found none is e line.
    let own : SaysEdit (map raw_bytes c.as_slice.result.now) e = rw (c.as_slice.ensures.value, own_one has (line_elements line)) line.says in
    none is e own) c.said_edit.ensures.none
