use Rattle.std.proofs.Common.{◌<◌, ◌≤◌, ◌∙◌, ap, sym, length, rules, Some}
use Rattle.std.proofs.lemmas.List.{length-map}
use Rattle.sonic_owned.proofs.Folds.{elements_of, elements-roll, elements-out}
use Rattle.sonic_owned.proofs.Lists.{elements-at, elements-past, elements-remove, remove-past}
use Rattle.sonic_owned.specs.Views.{form}
use Rattle.sonic_owned.specs.declared.value.LazyArray.{out-LazyArray}
use Rattle.sonic_owned.proofs.value.LazyArray.remove.Goals as goal

pub returns-then-i-len-clause-removed : goal.returns-then-i-len-clause-removed
returns-then-i-len-clause-removed c =
    let items = (out-LazyArray c.args.self.now).elements.items in
    let inside : c.args.i < length items = search rules in
    rw (elements-out c.args.self.now) (ap (λ v. Some (form v)) c.remove.ensures.value ∙ sym (elements-at items c.args.i c.remove.result inside))

pub returns-then-i-len-clause-rest : goal.returns-then-i-len-clause-rest
returns-then-i-len-clause-rest c =
    let items = (out-LazyArray c.args.self.now).elements.items in
    rw (elements-roll, elements-out c.args.self.now) (ap elements_of c.remove.ensures.items ∙ elements-remove items c.args.i)

pub returns-else-i-len-clause-removed : goal.returns-else-i-len-clause-removed
returns-else-i-len-clause-removed c = rw (elements-out c.args.self.now) (search (rules, elements-past))

pub returns-else-i-len-clause-rest : goal.returns-else-i-len-clause-rest
returns-else-i-len-clause-rest c =
    let items = (out-LazyArray c.args.self.now).elements.items in
    let past : length items ≤ c.args.i = search rules in
    rw (elements-out c.args.self.now) (sym (remove-past (elements_of items) c.args.i (rw (length-map items form) past)))
