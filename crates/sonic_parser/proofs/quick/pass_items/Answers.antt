use Rattle.std.proofs.Common.{◌≡◌, ◌+◌, ◌∙◌, take, arith, refl, sym}
use Rattle.std.proofs.lemmas.List.{take_more_set, length-set}
use Rattle.sonic_parser.specs.declared.quick.Peek.TheVariants.{Inside, Value}
use Rattle.sonic_parser.specs.Parts.{IsValueEnd}
use Rattle.sonic_parser.proofs.SkippingLemmas.{item_inside, item_ended, next_expected, top_of_first}
use Rattle.sonic_parser.proofs.quick.pass_items.Goals as goal
use Rattle.sonic_parser.proofs.quick.pass_items.Goals.{in_default-via-in-Value-1, in_default-via-in-Inside+else-depth-kinds}

pub items-init : goal.items-init
items-init c =
    let top = top_of_first c.args.kinds.now c.args.depth c.requires.some c.requires.room in
    record {
      within = c.pass-place.ensures.within;
      some = c.requires.some;
      long = refl;
      room = c.requires.room;
      top = top;
      reached = λ root before. c.pass-place.ensures.items c.args.lossy root (take c.args.depth c.args.kinds.now) top before;
    }

pub items-preserved-in-items : goal.items-preserved-in-items
items-preserved-in-items c =
    let i = c.items.invariant in
    let opened = c.open_arrays-count.ensures in
    let top = top_of_first c.open_arrays-count.new.kinds (c.items.depth + 1 + c.open_arrays-count.result) (omega arith) opened.room in
    record {
      within = c.pass-place-in-items.ensures.within;
      some = omega arith;
      long = opened.long ∙ length-set c.items.kinds c.items.depth c.in-Inside.inner ∙ i.long;
      room = opened.room;
      top = top;
      reached = λ root before.
          c.pass-place-in-items.ensures.items c.args.lossy root (take (c.items.depth + 1 + c.open_arrays-count.result) c.open_arrays-count.new.kinds) top
          (opened.reached c.args.lossy root (rw (take_more_set c.items.kinds c.items.depth c.in-Inside.inner (omega (arith, i.room, c.if-depth-kinds.true))) (item_inside (i.reached root before).1 i.top c.in-Some.ensures c.in-Inside.ensures)));
    }

pub items-preserved-in-AfterItem : goal.items-preserved-in-AfterItem
items-preserved-in-AfterItem c =
    let i = c.items.invariant in
    let ahead = c.in-AfterItem.ensures in
    let after = ahead.2 c.items.kind in
    record {
      within = after.1;
      some = i.some;
      long = i.long;
      room = i.room;
      top = i.top;
      reached = λ root before. next_expected c.items.kind (item_ended (i.reached root before).1 i.top c.in-Some.ensures ahead.1) after;
    }

pub items-smaller-in-AfterItem : goal.items-smaller-in-AfterItem
items-smaller-in-AfterItem c =
    let ahead = c.in-AfterItem.ensures in
    let after = ahead.2 c.items.kind in
    omega (arith, after.0, after.1, ahead.1.0, c.in-Some.ensures.later)

pub items-preserved : goal.items-preserved
items-preserved c =
    let i = c.items.invariant in
    let left = c.leave-extent.ensures in
    let ended : IsValueEnd c.args.lossy c.args.text.now c.in-Some.value c.in-Value.ended = elim c.in_default.branch [
      | in_default-via-in-Value-1 w ↦ rw (sym w.ahead-is ∙ c.in-Value.is) at c.look-ahead.ensures
      | in_default-via-in-Inside+else-depth-kinds w ↦ (let clash : Inside w.in-Inside.inner w.in-Inside.first ≡ Value c.in-Value.ended = sym w.ahead-is ∙ c.in-Value.is in absurd cc)
    ] in
    record {
      within = rw c.in-Expected.is at left.within;
      some = rw c.in-Expected.is at left.some;
      long = i.long;
      room = omega (arith, left.fewer, i.room);
      top = top_of_first c.items.kinds c.leave-extent.result.depth (rw c.in-Expected.is at left.some) (omega (arith, left.fewer, i.room));
      reached = λ root before. rw c.in-Expected.is at (left.reached c.args.lossy root (item_ended (i.reached root before).1 i.top c.in-Some.ensures ended));
    }

pub returns-in_default-reached : goal.returns-in_default-reached
returns-in_default-reached c =
    let i = c.items.invariant in
    let left = c.leave-extent.ensures in
    let ended : IsValueEnd c.args.lossy c.args.text.now c.in-Some.value c.in-Value.ended = elim c.in_default.branch [
      | in_default-via-in-Value-1 w ↦ rw (sym w.ahead-is ∙ c.in-Value.is) at c.look-ahead.ensures
      | in_default-via-in-Inside+else-depth-kinds w ↦ (let clash : Inside w.in-Inside.inner w.in-Inside.first ≡ Value c.in-Value.ended = sym w.ahead-is ∙ c.in-Value.is in absurd cc)
    ] in
    rw c.new-in_default-reached.ensures record {
      long = i.long;
      room = omega (arith, left.fewer, i.room);
      some = left.some;
      within = left.within;
      reached = λ root before. left.reached c.args.lossy root (item_ended (i.reached root before).1 i.top c.in-Some.ensures ended);
    }
