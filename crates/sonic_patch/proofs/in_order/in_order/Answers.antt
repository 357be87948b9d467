use Rattle.std.proofs.Common.{◌≡◌, ◌∙◌, sym, refl, length, []}
use Rattle.sonic_patch.specs.Internal.Walks.{TellsFirst}
use Rattle.sonic_patch.proofs.WordLemmas.{begun_in_step, none_told, still_in_step}
use Rattle.sonic_patch.proofs.in_order.in_order.Goals as goal

pub parts-init : goal.parts-init
parts-init c = record {
  steps = λ x y m n. begun_in_step x y (c.new-one.ensures.start x (length c.args.left.now) m) (c.new-other.ensures.start y (length c.args.right.now) n);
}

pub returns-in_default : goal.returns-in_default
returns-in_default c = λ yes x y m n.
    let s = c.parts.invariant.steps x y m n in
    let none : s.rest ≡ [] = rw c.in_default.is at (c.in_ok-part.ensures.next s.rest s.remain) in
    let no_more : s.others ≡ [] = none_told c.next-in-parts.new.self c.in_ok-counterpart.counterpart (rw (c.is_none.ensures, yes) refl) (c.in_ok-counterpart.ensures.next s.others s.others_remain) in
    s.same (none ∙ sym no_more)

pub same_events-requires-clause-one : goal.same_events-requires-clause-one
same_events-requires-clause-one c =
    let s = c.parts.invariant.steps c.requires.left.0 c.requires.right.0 c.requires.left.1 c.requires.right.1 in
    let told : TellsFirst c.next.new.self c.in-Some.part s.rest = rw c.in-Some.is at (c.in_ok-part.ensures.next s.rest s.remain) in
    (told.tag, told.tells)

pub same_events-requires-clause-other : goal.same_events-requires-clause-other
same_events-requires-clause-other c =
    let s = c.parts.invariant.steps c.requires.left.0 c.requires.right.0 c.requires.left.1 c.requires.right.1 in
    let told : TellsFirst c.next-in-parts.new.self c.in-Some-counterpart.counterpart s.others =
    rw c.in-Some-counterpart.is at (c.in_ok-counterpart.ensures.next s.others s.others_remain) in
    (told.tag, told.tells)

pub parts-preserved : goal.parts-preserved
parts-preserved c = record {
  steps = λ x y m n.
      let s = c.parts.invariant.steps x y m n in
      let told : TellsFirst c.next.new.self c.in-Some.part s.rest = rw c.in-Some.is at (c.in_ok-part.ensures.next s.rest s.remain) in
      let other : TellsFirst c.next-in-parts.new.self c.in-Some-counterpart.counterpart s.others =
      rw c.in-Some-counterpart.is at (c.in_ok-counterpart.ensures.next s.others s.others_remain) in
      still_in_step s told other (c.in_ok-same_events.ensures c.if-not-branch.false);
}
