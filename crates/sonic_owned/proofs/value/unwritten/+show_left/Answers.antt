use Rattle.std.proofs.Common.{rules, arith, ◌≡◌, ◌∙◌, ◌++◌, ◌∷◌, [], ap, sym, length, None, append_assoc}
use Rattle.sonic_owned.proofs.UnwrittenLemmas.{up_to_past, up_to_within, popped_text, popped_bulk, opened_more, opened_bulk_more}
use Rattle.sonic_owned.specs.Internal.Unwritten.{all_bulk, left_text, opened_text, opened_bulk}
use Rattle.sonic_owned.proofs.value.unwritten.+show_left.Goals as goal

-- after the last item of a level
pub levels-smaller-in_default-2 : goal.levels-smaller-in_default-2
levels-smaller-in_default-2 g t c =
    let popped = popped_bulk c.levels.opened.items c.pop-level.new.self.items c.pop-level.result c.pop-level.ensures.items (λ e. omega (arith, (rw e at c.pop-level.ensures.cases).0, c.levels.opened.ok.0)) in
    rw c.in-Some.is (omega (arith, popped))

pub levels-preserved-in_default-2 : goal.levels-preserved-in_default-2
levels-preserved-in_default-2 g t c =
    let us = c.levels.opened.items in
    let none : c.in_ok-inner.field-0 ≡ None = search rules in
    let empty : c.pop-level.result ≡ None → length us ≡ 0 = λ e. omega (arith, (rw e at c.pop-level.ensures.cases).0, c.levels.opened.ok.0) in
    let popped = popped_bulk us c.pop-level.new.self.items c.pop-level.result c.pop-level.ensures.items empty in
    let now = ap (λ o. all_bulk o us) c.in-Some.is in
    record {
      written = λ p.
          let i = rw c.in-Some.is at c.levels.invariant.written p in
          let end = up_to_within (opened_text us) i (rw none at c.in_ok-inner.ensures.text i.has.plain) in
          rw (sym (popped_text us c.pop-level.new.self.items c.pop-level.result c.pop-level.ensures.items empty)) end;
      less = omega (arith, now, popped, c.levels.invariant.less);
    }

-- in a level, which waits
pub levels-smaller-then-is_ok : goal.levels-smaller-then-is_ok
levels-smaller-then-is_ok g t c =
    let inner = rw c.in-Some-2.is at c.in_ok-inner.ensures.less in
    let items : c.push.new.self.items ≡ c.levels.opened.items ++ c.next_level.new.self ∷ [] = search rules in
    let more = ap opened_bulk items ∙ opened_bulk_more c.levels.opened.items c.next_level.new.self in
    rw c.in-Some.is (omega (arith, inner, more))

pub levels-preserved-then-is_ok : goal.levels-preserved-then-is_ok
levels-preserved-then-is_ok g t c =
    let us = c.levels.opened.items in
    let level = left_text c.next_level.new.self in
    let items : c.push.new.self.items ≡ us ++ c.next_level.new.self ∷ [] = search rules in
    let less = rw c.in-Some-2.is at c.in_ok-inner.ensures.less in
    let more = ap opened_bulk items ∙ opened_bulk_more us c.next_level.new.self in
    let now = ap (λ o. all_bulk o us) c.in-Some.is in
    record {
      written = λ p.
          let i = rw c.in-Some.is at c.levels.invariant.written p in
          let inner = rw c.in-Some-2.is at c.in_ok-inner.ensures.text i.has.plain in
          let all = up_to_within (opened_text us) i inner in
          rw (items, opened_more us c.next_level.new.self, ← append_assoc (left_text c.in-Some-2.inner) level (opened_text us)) all;
      less = omega (arith, now, less, more, c.levels.invariant.less);
    }

-- or is in hand again, where it can't wait
pub levels-preserved : goal.levels-preserved
levels-preserved g t c =
    let us = c.levels.opened.items in
    let same : c.push.new.self.items ≡ us = search rules in
    let less = rw c.in-Some-2.is at c.in_ok-inner.ensures.less in
    let now = ap (λ o. all_bulk o us) c.in-Some.is in
    record {
      written = λ p.
          let i = rw c.in-Some.is at c.levels.invariant.written p in
          let all = up_to_within (opened_text us) i (rw c.in-Some-2.is at c.in_ok-inner.ensures.text i.has.plain) in
          rw same (up_to_past (left_text c.in-Some-2.inner) (left_text c.next_level.new.self) (opened_text us) all (c.show_left.ensures all.has.plain (search rules)));
      less = omega (arith, now, less, ap opened_bulk same, c.levels.invariant.less);
    }
