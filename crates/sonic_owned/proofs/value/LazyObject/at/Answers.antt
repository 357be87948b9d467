use Rattle.std.proofs.Common.{◌≡◌, ◌<◌, get_or, length, rules, ap, sym, ◌∙◌, Some}
use Rattle.sonic_owned.proofs.Folds.{formed, members-out}
use Rattle.sonic_owned.proofs.Lists.{members-at, members-past}
use Rattle.sonic_owned.specs.Views.{pair_of}
use Rattle.sonic_owned.proofs.value.LazyObject.at.Goals as goal

pub returns-in-Some : goal.returns-in-Some
returns-in-Some c =
    let pair = c.in-Some.field-0.now in
    let items = c.deref.result.now in
    let inside : c.args.i < length items = search rules in
    let there : pair ≡ get_or items c.args.i pair = search rules in
    let one = ap (λ m. Some (pair_of (formed m))) there ∙ sym (members-at items c.args.i pair inside) in
    rw (members-out c.args.self.now) (rw c.deref.ensures.value at one)

pub returns-in-None : goal.returns-in-None
returns-in-None c = rw (members-out c.args.self.now) (search (rules, members-past))
