use Rattle.sonic_find.proofs.table.Table.push.Goals as goal
use Rattle.std.proofs.Common.{◌≡◌, ◌∙◌, ◌++◌, ap, [], ◌∷◌, get_or, take, ◌+◌}
use Rattle.std.proofs.lemmas.List.{append_assoc, take_more, map-append}
use Rattle.sonic_find.proofs.AnswerLemmas.Walk.{first_value}
use Rattle.sonic_find.proofs.TableLemmas.Rows.{telling_more}
use Rattle.sonic_find.specs.Found.{slots_of, told_at}

pub loop-slot-preserved : goal.loop-slot-preserved
loop-slot-preserved c =
    let i = c.loop-slot.slot-index in
    let slot = get_or c.args.slots.now i first_value in
    let more : slots_of (take (i + 1) c.args.slots.now) ≡ slots_of (take i c.args.slots.now) ++ told_at slot ∷ [] =
    ap slots_of (take_more c.args.slots.now i first_value c.loop-slot-test.true) ∙ map-append told_at (take i c.args.slots.now) (slot ∷ []) in
    let one = rw c.span_of.ensures at c.tell.ensures in
    record {
      items = c.loop-slot.invariant.items;
      row = c.loop-slot.invariant.row ++ c.tell.result ∷ [];
      outcomes = c.in_ok-push-2.ensures.items ∙ ap (λ xs. xs ++ c.tell.result ∷ []) c.loop-slot.invariant.outcomes
          ∙ append_assoc c.args.self.now.outcomes.items c.loop-slot.invariant.row (c.tell.result ∷ []);
      tell = rw more (telling_more (slots_of (take i c.args.slots.now)) c.loop-slot.invariant.row c.loop-slot.invariant.tell one);
    }
