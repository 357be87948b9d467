use Rattle.std.proofs.Common.{◌≡◌, ap}
use Rattle.sonic_edits.proofs.ElementLemmas.{own_elements, elements_array}
use Rattle.sonic_edits.proofs.ReadingLemmas.{ok_weaker}
use Rattle.sonic_edits.proofs.elements.few_elements.Goals as goal
use Rattle.sonic_lazy.proofs.WholeLemmas.{false_not_true}
use Rattle.sonic_lazy.specs.Iterators.{IteratorState}
use Rattle.sonic_lazy.specs.LazyValues.{raw_bytes}

pub returns-in-Some-clause-none : goal.returns-in-Some-clause-none
returns-in-Some-clause-none c =
    let text : c.in-Some.array.text ≡ raw_bytes c.in-Ok.value = ap (λ (it : IteratorState). it.text) c.in-Some.ensures.elements in
    ok_weaker c.first_elements.result (λ found none is texts has. none is texts (rw text (own_elements c.in-Ok.ensures.ok has))) c.first_elements.ensures.none

pub returns-in-None-clause-none : goal.returns-in-None-clause-none
returns-in-None-clause-none c = λ _ texts has.
    let array = elements_array c.in-Ok.value texts (own_elements c.in-Ok.ensures.ok has) in
    absurd (false_not_true (c.in-None.ensures.kind.1 array))
