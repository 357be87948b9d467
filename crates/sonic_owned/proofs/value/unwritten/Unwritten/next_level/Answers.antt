use Rattle.std.proofs.Common.{rules, arith, ◌≡◌, None}
use Rattle.sonic_owned.proofs.UnwrittenLemmas.{up_to_more, up_to_within}
use Rattle.sonic_owned.specs.Internal.Unwritten.{left_text}
use Rattle.sonic_owned.proofs.value.unwritten.Unwritten.next_level.Goals as goal

pub items-preserved : goal.items-preserved
items-preserved g c = record {
  written = λ p.
      let i = c.items.invariant.written p in
      let item = rw c.in-Some.is at c.in_ok-item.ensures.text i.has.plain in
      let none : c.in_ok-inner.field-0 ≡ None = search rules in
      up_to_more i (up_to_within (left_text c.next.new.self) item (rw none at c.in_ok-inner.ensures.text item.has.plain));
  less = let item = rw c.in-Some.is at c.in_ok-item.ensures.less in omega (arith, item, c.items.invariant.less);
}

pub returns-in-Some-2-clause-text : goal.returns-in-Some-2-clause-text
returns-in-Some-2-clause-text g c = λ p.
    let i = c.items.invariant.written p in
    let item = rw c.in-Some.is at c.in_ok-item.ensures.text i.has.plain in
    let inner = rw c.in-Some-2.is at c.in_ok-inner.ensures.text item.has.plain in
    up_to_more i (up_to_within (left_text c.next.new.self) item inner)

pub returns-clause-text : goal.returns-clause-text
returns-clause-text g c = λ p.
    let i = c.items.invariant.written p in
    let none : c.in_ok-item.field-0 ≡ None = search rules in
    up_to_more i (rw none at c.in_ok-item.ensures.text i.has.plain)
