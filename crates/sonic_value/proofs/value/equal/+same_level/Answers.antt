use Rattle.std.proofs.Common.{rules, arith, ℕ, ◌≡◌, ◌↔◌, ◌<◌, ◌∙◌, ◌++◌, ◌∷◌, [], ap}
use Rattle.sonic_value.proofs.ComparisonLemmas.{alike_fewer, alike_more, sizes_fewer, sizes_more, some_compared}
use Rattle.sonic_value.specs.Internal.Comparisons.{compared_size, compared_sizes, found_alike, found_size, with_size, IsAlike}
use Rattle.sonic_value.proofs.value.equal.+same_level.Goals as goal
use Rattle.sonic_value.proofs.value.equal.+same_level.Goals.{Then-is_ok, in-Arrays-level, in-Objects-level}

-- what is found is the same where what was left is
found_here : (t : ℕ) (c : Then-is_ok t) → (found_alike c.match-level-2.found ↔ IsAlike c.in-Some.level) × (found_size c.match-level-2.found < compared_size c.in-Some.level)
found_here t c = elim c.match-level-2.branch [
  | in-Arrays-level w ↦ rw (w.found-is, w.in-Arrays-level.is) (w.next_elements-found.ensures.same, w.next_elements-found.ensures.less)
  | in-Objects-level w ↦ rw (w.found-is, w.in-Objects-level.is) (w.next_members-found.ensures.same, w.next_members-found.ensures.less)
]

-- the containers in hand are the same
pub levels-smaller-in-Known-true : goal.levels-smaller-in-Known-true
levels-smaller-in-Known-true t c =
    let now = ap (λ o. with_size o c.levels.opened.items) c.in-Some.is in
    omega (arith, now, some_compared c.in-Some.level, sizes_fewer c.levels.opened.items c.pop-next.new.self.items c.pop-next.result c.pop-next.ensures.items)

pub levels-preserved-in-Known-true : goal.levels-preserved-in-Known-true
levels-preserved-in-Known-true t c =
    let now = ap (λ o. with_size o c.levels.opened.items) c.in-Some.is in
    let i = rw c.in-Some.is at c.levels.invariant.same in
    let found : found_alike c.match-level-2.found ↔ IsAlike c.in-Some.level = elim c.match-level-2.branch [
      | in-Arrays-level w ↦ rw (w.found-is, w.in-Arrays-level.is) w.next_elements-found.ensures.same
      | in-Objects-level w ↦ rw (w.found-is, w.in-Objects-level.is) w.next_members-found.ensures.same
    ] in
    let here = (rw c.in-Known-true.is at found).0 (rw c.in-Known-true.is at c.in-Known-true.field-0-test) in
    let rest = alike_fewer c.levels.opened.items c.pop-next.new.self.items c.pop-next.result c.pop-next.ensures.items (λ e. omega (arith, (rw e at c.pop-next.ensures.cases).0, c.levels.opened.ok.0)) in
    record {
      same = (λ all. i.0 (here, rest.0 all), λ all. rest.1 (i.1 all).1);
      less = omega (arith, now, c.levels.invariant.less, sizes_fewer c.levels.opened.items c.pop-next.new.self.items c.pop-next.result c.pop-next.ensures.items);
    }

-- or others inside them are in hand next
pub levels-smaller-then-is_ok : goal.levels-smaller-then-is_ok
levels-smaller-then-is_ok t c =
    let now = ap (λ o. with_size o c.levels.opened.items) c.in-Some.is in
    let less = rw c.in-Open.is at (found_here t c).1 in
    let items : c.push.new.self.items ≡ c.levels.opened.items ++ c.in-Open.outer ∷ [] = search rules in
    let more = ap compared_sizes items ∙ sizes_more c.levels.opened.items c.in-Open.outer in
    omega (arith, now, more, less)

pub levels-preserved-then-is_ok : goal.levels-preserved-then-is_ok
levels-preserved-then-is_ok t c =
    let now = ap (λ o. with_size o c.levels.opened.items) c.in-Some.is in
    let i = rw c.in-Some.is at c.levels.invariant.same in
    let found = rw c.in-Open.is at (found_here t c).0 in
    let less = rw c.in-Open.is at (found_here t c).1 in
    let items : c.push.new.self.items ≡ c.levels.opened.items ++ c.in-Open.outer ∷ [] = search rules in
    let more = ap compared_sizes items ∙ sizes_more c.levels.opened.items c.in-Open.outer in
    let wait = alike_more c.levels.opened.items c.in-Open.outer in
    record {
      same = (
        λ all. let parts = wait.1 (rw items at all.1) in i.0 (found.0 (all.0, parts.0), parts.1),
        λ all. let parts = i.1 all in let two = found.1 parts.0 in (two.0, rw items (wait.0 (two.1, parts.1))),
      );
      less = omega (arith, now, more, c.levels.invariant.less, less);
    }
