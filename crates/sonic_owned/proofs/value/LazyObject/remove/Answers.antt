use Rattle.std.proofs.Common.{◌<◌, ◌≤◌, ◌∙◌, ap, sym, length, map, rules, Some}
use Rattle.std.proofs.lemmas.List.{length-map}
use Rattle.sonic_owned.proofs.Folds.{formed, members_of, members-roll, members-out}
use Rattle.sonic_owned.proofs.Lists.{members-at, members-past, members-remove, remove-past}
use Rattle.sonic_owned.specs.Views.{pair_of}
use Rattle.sonic_owned.specs.declared.value.LazyObject.{out-LazyObject}
use Rattle.sonic_owned.proofs.value.LazyObject.remove.Goals as goal

pub returns-then-i-len-clause-removed : goal.returns-then-i-len-clause-removed
returns-then-i-len-clause-removed c =
    let items = (out-LazyObject c.args.self.now).members.items in
    let inside : c.args.i < length items = search rules in
    rw (members-out c.args.self.now)
    (ap (λ m. Some (pair_of (formed m))) c.remove-key.ensures.value ∙ sym (members-at items c.args.i c.remove-key.result inside))

pub returns-then-i-len-clause-rest : goal.returns-then-i-len-clause-rest
returns-then-i-len-clause-rest c =
    let items = (out-LazyObject c.args.self.now).members.items in
    rw (members-roll, members-out c.args.self.now) (ap members_of c.remove-key.ensures.items ∙ members-remove items c.args.i)

pub returns-else-i-len-clause-removed : goal.returns-else-i-len-clause-removed
returns-else-i-len-clause-removed c = rw (members-out c.args.self.now) (search (rules, members-past))

pub returns-else-i-len-clause-rest : goal.returns-else-i-len-clause-rest
returns-else-i-len-clause-rest c =
    let items = (out-LazyObject c.args.self.now).members.items in
    let past : length items ≤ c.args.i = search rules in
    rw (members-out c.args.self.now) (sym (remove-past (members_of items) c.args.i (rw (length-map (map formed items) pair_of, length-map items formed) past)))
