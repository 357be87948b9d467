use Rattle.std.proofs.Common.{◌≡◌, ◌∙◌, ap, arith, sym, true, false}
use Rattle.std.specs.Cmp.{Equal-is}
use Rattle.std.specs.Ordering.{is_eq}
use Rattle.sonic_index.proofs.MemberLemmas.{as_many, first_placed, member_at, none_placed, other_placed}
use Rattle.sonic_index.proofs.members.first.Goals as goal

pub returns-then-at-numbers-clause-none : goal.returns-then-at-numbers-clause-none
returns-then-at-numbers-clause-none c =
    let o = c.requires.ordered in
    none_placed o c.requires.wide (c.place-at.ensures o) c.if-at-numbers.true

pub compare-requires : goal.compare-requires
compare-requires c =
    let o = c.requires.ordered in
    let y = member_at o c.place-at.result (omega (arith, (c.place-at.ensures o).within, as_many o, c.if-at-numbers.false)) in
    (y.x.0, y.x.1.now, rw y.number at y.is.member)

pub returns-then-is_eq-clause-some : goal.returns-then-is_eq-clause-some
returns-then-is_eq-clause-some c =
    let o = c.requires.ordered in
    let y = member_at o c.place-at.result (omega (arith, (c.place-at.ensures o).within, as_many o, c.if-at-numbers.false)) in
    let is = c.compare.ensures y.x.0 y.x.1.now (rw y.number at y.is.member) in
    first_placed o c.requires.wide (c.place-at.ensures o) y (sym is ∙ (Equal-is c.compare.result).0 (sym c.is_eq.ensures ∙ c.if-is_eq.true))

pub returns-else-is_eq-clause-none : goal.returns-else-is_eq-clause-none
returns-else-is_eq-clause-none c =
    let o = c.requires.ordered in
    let y = member_at o c.place-at.result (omega (arith, (c.place-at.ensures o).within, as_many o, c.if-at-numbers.false)) in
    let is = c.compare.ensures y.x.0 y.x.1.now (rw y.number at y.is.member) in
    other_placed o c.requires.wide (c.place-at.ensures o) y.x y.read
    (λ tied. let f : true ≡ false = ap is_eq (sym (is ∙ tied)) ∙ sym c.is_eq.ensures ∙ c.if-is_eq.false in absurd cc)
