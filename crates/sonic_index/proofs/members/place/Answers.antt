use Rattle.std.proofs.Common.{◌≡◌, ◌∙◌, ◌+◌, ◌-◌, ◌/◌, ap, arith, sym, true, false}
use Rattle.std.specs.Ordering.{is_lt}
use Rattle.sonic_index.proofs.MemberLemmas.{as_many, is_less, member_at, place_high, place_low}
use Rattle.sonic_index.proofs.members.place.Goals as goal

pub compare-requires : goal.compare-requires
compare-requires c =
    let o = c.requires in
    let k = c.loop-low.low + (c.loop-low.high - c.loop-low.low) / 2 in
    let y = member_at o k (omega (arith, c.loop-low-test.true, (c.loop-low.invariant o).within, as_many o)) in
    (y.x.0, y.x.1.now, rw y.number at y.is.member)

pub loop-low-preserved-then-is_lt : goal.loop-low-preserved-then-is_lt
loop-low-preserved-then-is_lt c = λ o.
    let k = c.loop-low.low + (c.loop-low.high - c.loop-low.low) / 2 in
    let y = member_at o k (omega (arith, c.loop-low-test.true, (c.loop-low.invariant o).within, as_many o)) in
    let is = c.compare.ensures y.x.0 y.x.1.now (rw y.number at y.is.member) in
    place_low k y.x o.sorted (c.loop-low.invariant o) y.read (sym is ∙ is_less c.compare.result (sym c.is_lt.ensures ∙ c.if-is_lt.true)) (omega (arith, c.loop-low-test.true))

pub loop-low-preserved : goal.loop-low-preserved
loop-low-preserved c = λ o.
    let k = c.loop-low.low + (c.loop-low.high - c.loop-low.low) / 2 in
    let y = member_at o k (omega (arith, c.loop-low-test.true, (c.loop-low.invariant o).within, as_many o)) in
    let is = c.compare.ensures y.x.0 y.x.1.now (rw y.number at y.is.member) in
    place_high k y.x o.sorted (c.loop-low.invariant o) y.read
    (λ less. let f : true ≡ false = ap is_lt (sym (is ∙ less)) ∙ sym c.is_lt.ensures ∙ c.if-is_lt.false in absurd cc)
    (omega arith) (omega (arith, c.loop-low-test.true))
