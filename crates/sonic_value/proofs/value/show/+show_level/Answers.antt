use Rattle.std.proofs.Common.{rules, arith, ◌≡◌, ◌∙◌, ◌++◌, ◌∷◌, [], ap, sym, length, None, append_assoc}
use Rattle.sonic_owned.proofs.UnwrittenLemmas.{up_to_past, up_to_within}
use Rattle.sonic_value.proofs.OpenTextLemmas.{some_shown, sizes_fewer, sizes_more, texts_fewer, texts_more}
use Rattle.sonic_value.specs.Internal.OpenTexts.{all_shown_size, shown_sizes, shown_text, shown_texts}
use Rattle.sonic_value.proofs.value.show.+show_level.Goals as goal

-- the container is written to its end
pub levels-smaller-in_default-2 : goal.levels-smaller-in_default-2
levels-smaller-in_default-2 g t c =
    let now = ap (λ o. all_shown_size o c.levels.opened.items) c.in-Some.is in
    omega (arith, now, some_shown c.in-Some.level, sizes_fewer c.levels.opened.items c.pop-next.new.self.items c.pop-next.result c.pop-next.ensures.items)

pub levels-preserved-in_default-2 : goal.levels-preserved-in_default-2
levels-preserved-in_default-2 g t c =
    let opened = c.levels.opened.items in
    let none : c.in_ok-inner.field-0 ≡ None = search rules in
    let empty : c.pop-next.result ≡ None → length opened ≡ 0 = λ e. omega (arith, (rw e at c.pop-next.ensures.cases).0, c.levels.opened.ok.0) in
    let now = ap (λ o. all_shown_size o opened) c.in-Some.is in
    let fewer = sizes_fewer opened c.pop-next.new.self.items c.pop-next.result c.pop-next.ensures.items in
    record {
      written = λ p.
          let i = rw c.in-Some.is at c.levels.invariant.written p in
          let rest = up_to_within (shown_texts opened) i (rw none at c.in_ok-inner.ensures.text i.has.plain) in
          rw (sym (texts_fewer opened c.pop-next.new.self.items c.pop-next.result c.pop-next.ensures.items empty)) rest;
      less = omega (arith, now, fewer, c.levels.invariant.less);
    }

-- or another one begins inside it, and it waits
pub levels-smaller-then-is_ok : goal.levels-smaller-then-is_ok
levels-smaller-then-is_ok g t c =
    let now = ap (λ o. all_shown_size o c.levels.opened.items) c.in-Some.is in
    let less = rw c.in-Some-2.is at c.in_ok-inner.ensures.less in
    let items : c.push.new.self.items ≡ c.levels.opened.items ++ c.in-Some-2.outer ∷ [] = search rules in
    let more = ap shown_sizes items ∙ sizes_more c.levels.opened.items c.in-Some-2.outer in
    omega (arith, now, less, more)

pub levels-preserved-then-is_ok : goal.levels-preserved-then-is_ok
levels-preserved-then-is_ok g t c =
    let opened = c.levels.opened.items in
    let now = ap (λ o. all_shown_size o opened) c.in-Some.is in
    let less = rw c.in-Some-2.is at c.in_ok-inner.ensures.less in
    let items : c.push.new.self.items ≡ opened ++ c.in-Some-2.outer ∷ [] = search rules in
    let more = ap shown_sizes items ∙ sizes_more opened c.in-Some-2.outer in
    record {
      written = λ p.
          let i = rw c.in-Some.is at c.levels.invariant.written p in
          let all = up_to_within (shown_texts opened) i (rw c.in-Some-2.is at c.in_ok-inner.ensures.text i.has.plain) in
          rw (items, texts_more opened c.in-Some-2.outer, ← append_assoc (shown_text c.in-Some-2.inner) (shown_text c.in-Some-2.outer) (shown_texts opened)) all;
      less = omega (arith, now, less, more, c.levels.invariant.less);
    }

-- or is in hand again, where it can't wait
pub levels-preserved : goal.levels-preserved
levels-preserved g t c =
    let opened = c.levels.opened.items in
    let same : c.push.new.self.items ≡ opened = search rules in
    let now = ap (λ o. all_shown_size o opened) c.in-Some.is in
    let less = rw c.in-Some-2.is at c.in_ok-inner.ensures.less in
    record {
      written = λ p.
          let i = rw c.in-Some.is at c.levels.invariant.written p in
          let all = up_to_within (shown_texts opened) i (rw c.in-Some-2.is at c.in_ok-inner.ensures.text i.has.plain) in
          rw same (up_to_past (shown_text c.in-Some-2.inner) (shown_text c.in-Some-2.outer) (shown_texts opened) all (c.show_level.ensures all.has.plain (search rules)));
      less = omega (arith, now, less, ap shown_sizes same, c.levels.invariant.less);
    }
