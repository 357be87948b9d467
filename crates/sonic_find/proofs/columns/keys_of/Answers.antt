use Rattle.std.proofs.Common.{◌∙◌, ap, get_or, arith}
use Rattle.std.specs.Prelude.{Some}
use Rattle.std.proofs.lemmas.List.{length-set}
use Rattle.std.proofs.lemmas.Option.{slice_get_within, slice_get-get_or}
use Rattle.sonic_find.proofs.ColumnLemmas.Keys.{order_path, keys_set, keys_more}
use Rattle.sonic_find.specs.Internal.Columns.{key_path}
use Rattle.sonic_find.proofs.columns.keys_of.Goals as goal

pub index_mut-requires : goal.index_mut-requires
index_mut-requires c =
    let there = order_path c.orders-order-items.result.now c.loop-order.order-index c.orders-order-items.ensures c.loop-order-test.true in
    let path = rw (c.child-child.ensures.paths, c.child-child.ensures.prefix, c.requires.root, c.in-Key.is) at there in
    let within = slice_get_within c.args.view.now.paths (get_or c.orders-order-items.result.now c.loop-order.order-index 0) (key_path c.in-Key.key.now) path in
    omega (arith, within, c.loop-order.invariant.long)

pub loop-order-preserved : goal.loop-order-preserved
loop-order-preserved c =
    let there = order_path c.orders-order-items.result.now c.loop-order.order-index c.orders-order-items.ensures c.loop-order-test.true in
    let path = rw (c.child-child.ensures.paths, c.child-child.ensures.prefix, c.requires.root, c.in-Key.is) at there in
    let within = slice_get_within c.args.view.now.paths (get_or c.orders-order-items.result.now c.loop-order.order-index 0) (key_path c.in-Key.key.now) path in
    record {
      long = length-set c.loop-order.found.items _ _ ∙ c.loop-order.invariant.long;
      found = keys_set (λ k. k.now) c.args.view.now.paths c.loop-order.found.items _ c.in-Key.key c.loop-order.invariant.found (omega (arith, within, c.loop-order.invariant.long)) path;
    }

pub loop-key-preserved : goal.loop-key-preserved
loop-key-preserved c =
    let known = c.deref-key-items.result.now in
    let are = rw (← c.deref-key-items.ensures.value) at c.loop-i.invariant.found in
    let there = slice_get-get_or known c.loop-key.key-index _ c.loop-key-test.true ∙ ap Some c.in-Some.is in
    rw c.in_ok-push.ensures.items (keys_more (λ k. k.now) c.args.view.now.paths c.loop-key.keys.items known c.loop-key.key-index c.in-Some.key are there c.loop-key.invariant)
