use Rattle.std.proofs.Common.{◌≡◌, ◌+◌, ◌-◌, ◌∷◌, [], arith, refl}
use Rattle.std.proofs.lemmas.List.{map-append}
use Rattle.std.proofs.lemmas.Result.{err_from_is_err_and, IfOk-weaker, IfErr-weaker}
use Rattle.sonic_parser.proofs.FaultLemmas.{stop_weaker}
use Rattle.sonic_text.specs.declared.kind.Kind.TheVariants.{Array, Object}
use Rattle.sonic_value.proofs.DepthLemmas.{too_deep_here}
use Rattle.sonic_value.proofs.Folds.{element, member, array_items, object_items}
use Rattle.sonic_value.proofs.ReaderLemmas.{no_label, container_begins, key_stops, value_stops, separator_stops, item_kept, item_goes_on, item_leaves_less}
use Rattle.sonic_value.specs.Internal.Readers.{too_deep}
use Rattle.sonic_value.proofs.read.+read.Goals as goal

pub read_array-loop-more-init : goal.read_array-loop-more-init
read_array-loop-more-init t c = record {
  kept = c.enter-more.ensures.moved;
  read = rw c.new-elements.ensures.items (container_begins c.args.reader.now.source Array c.args.depth_left c.args.reader.now.place c.enter-more.result c.requires c.enter-more.ensures.item c.enter-more.ensures.empty);
}

pub read_array-loop-more-preserved : goal.read_array-loop-more-preserved
read_array-loop-more-preserved t c =
    let read = rw c.loop-more-test.true at c.loop-more.invariant.read in
    let m = c.in_ok-more in
    record {
      kept = item_kept c.loop-more.invariant.kept read refl (no_label refl) c.in_ok-read_value.ensures.moved c.in_ok-read_value.ensures.ok m.ensures.moved m.more m.ensures.item m.ensures.end;
      read = rw (c.in_ok-push.ensures.items, map-append element c.loop-more.elements.items (c.in_ok-read_value.field-0 ∷ []))
          (item_goes_on c.loop-more.invariant.kept read refl (no_label refl) c.in_ok-read_value.ensures.moved c.in_ok-read_value.ensures.ok m.ensures.moved m.more m.ensures.item m.ensures.end);
    }

pub read_array-loop-more-smaller : goal.read_array-loop-more-smaller
read_array-loop-more-smaller t c =
    let read = rw c.loop-more-test.true at c.loop-more.invariant.read in
    let m = c.in_ok-more in
    item_leaves_less c.loop-more.invariant.kept read refl (no_label refl) c.in_ok-read_value.ensures.moved c.in_ok-read_value.ensures.ok m.ensures.moved m.more m.ensures.item m.ensures.end

pub read_array-returns-clause-ok : goal.read_array-returns-clause-ok
read_array-returns-clause-ok t c = rw (array_items c.loop-more.elements) (rw c.loop-more-test.false at c.loop-more.invariant.read)

pub read_array-returns-in_err-read_value-clause-err : goal.read_array-returns-in_err-read_value-clause-err
read_array-returns-in_err-read_value-clause-err t c =
    let p = err_from_is_err_and c.from_residual.result c.from_residual.ensures.1 in
    let read = rw c.loop-more-test.true at c.loop-more.invariant.read in
    rw (p.1, p.2) (stop_weaker c.in_err-read_value.field-0.0 (λ s f. value_stops c.loop-more.invariant.kept read refl (no_label refl) f) c.in_err-read_value.ensures.err)

pub read_array-returns-in_err-more-clause-err : goal.read_array-returns-in_err-more-clause-err
read_array-returns-in_err-more-clause-err t c =
    let p = err_from_is_err_and c.from_residual-in_err-more.result c.from_residual-in_err-more.ensures.1 in
    let read = rw c.loop-more-test.true at c.loop-more.invariant.read in
    rw (p.1, p.2) (separator_stops c.loop-more.invariant.kept read refl (no_label refl) c.in_ok-read_value.ensures.moved c.in_ok-read_value.ensures.ok c.in_err-more.ensures.err)

pub read_object-loop-more-init : goal.read_object-loop-more-init
read_object-loop-more-init t c = record {
  kept = c.enter-more.ensures.moved;
  read = rw c.new-members.ensures.items (container_begins c.args.reader.now.source Object c.args.depth_left c.args.reader.now.place c.enter-more.result c.requires c.enter-more.ensures.item c.enter-more.ensures.empty);
}

pub read_object-loop-more-preserved : goal.read_object-loop-more-preserved
read_object-loop-more-preserved t c =
    let read = rw c.loop-more-test.true at c.loop-more.invariant.read in
    let m = c.in_ok-more in
    record {
      kept = item_kept c.loop-more.invariant.kept read c.in_ok-key.ensures.moved c.in_ok-key.ensures.ok c.in_ok-read_value.ensures.moved c.in_ok-read_value.ensures.ok m.ensures.moved m.more m.ensures.item m.ensures.end;
      read = rw (c.in_ok-push.ensures.items, map-append member c.loop-more.members.items ((c.in_ok-key.key, c.in_ok-read_value.field-0) ∷ []))
          (item_goes_on c.loop-more.invariant.kept read c.in_ok-key.ensures.moved c.in_ok-key.ensures.ok c.in_ok-read_value.ensures.moved c.in_ok-read_value.ensures.ok m.ensures.moved m.more m.ensures.item m.ensures.end);
    }

pub read_object-loop-more-smaller : goal.read_object-loop-more-smaller
read_object-loop-more-smaller t c =
    let read = rw c.loop-more-test.true at c.loop-more.invariant.read in
    let m = c.in_ok-more in
    item_leaves_less c.loop-more.invariant.kept read c.in_ok-key.ensures.moved c.in_ok-key.ensures.ok c.in_ok-read_value.ensures.moved c.in_ok-read_value.ensures.ok m.ensures.moved m.more m.ensures.item m.ensures.end

pub read_object-returns-clause-ok : goal.read_object-returns-clause-ok
read_object-returns-clause-ok t c = rw (object_items c.loop-more.members) (rw c.loop-more-test.false at c.loop-more.invariant.read)

pub read_object-returns-in_err-key-clause-err : goal.read_object-returns-in_err-key-clause-err
read_object-returns-in_err-key-clause-err t c =
    let p = err_from_is_err_and c.from_residual.result c.from_residual.ensures.1 in
    let read = rw c.loop-more-test.true at c.loop-more.invariant.read in
    rw (p.1, p.2) (stop_weaker c.in_err-key.field-0.0 (λ s f. key_stops c.loop-more.invariant.kept read refl f) c.in_err-key.ensures.err)

pub read_object-returns-in_err-read_value-clause-err : goal.read_object-returns-in_err-read_value-clause-err
read_object-returns-in_err-read_value-clause-err t c =
    let p = err_from_is_err_and c.from_residual-in_err-read_value.result c.from_residual-in_err-read_value.ensures.1 in
    let read = rw c.loop-more-test.true at c.loop-more.invariant.read in
    rw (p.1, p.2) (stop_weaker c.in_err-read_value.field-0.0 (λ s f. value_stops c.loop-more.invariant.kept read c.in_ok-key.ensures.moved c.in_ok-key.ensures.ok f) c.in_err-read_value.ensures.err)

pub read_object-returns-in_err-more-clause-err : goal.read_object-returns-in_err-more-clause-err
read_object-returns-in_err-more-clause-err t c =
    let p = err_from_is_err_and c.from_residual-in_err-more.result c.from_residual-in_err-more.ensures.1 in
    let read = rw c.loop-more-test.true at c.loop-more.invariant.read in
    rw (p.1, p.2) (separator_stops c.loop-more.invariant.kept read c.in_ok-key.ensures.moved c.in_ok-key.ensures.ok c.in_ok-read_value.ensures.moved c.in_ok-read_value.ensures.ok c.in_err-more.ensures.err)

pub read_value-returns-in_default-clause-ok : goal.read_value-returns-in_default-clause-ok
read_value-returns-in_default-clause-ok t c = IfOk-weaker c.scalar.result _ _ (λ made read. read c.args.depth_left) c.scalar.ensures.ok

pub read_value-returns-in_default-clause-err : goal.read_value-returns-in_default-clause-err
read_value-returns-in_default-clause-err t c = IfErr-weaker c.scalar.result _ _ (λ fault h. stop_weaker fault (λ s f. f c.args.depth_left) h) c.scalar.ensures.err

pub read_value-returns-in-Array-clause-err : goal.read_value-returns-in-Array-clause-err
read_value-returns-in-Array-clause-err t c =
    let depth_left : c.args.depth_left - 1 + 1 ≡ c.args.depth_left = omega arith in
    rw depth_left at c.read_array.ensures.err

pub read_value-returns-in-Object-clause-err : goal.read_value-returns-in-Object-clause-err
read_value-returns-in-Object-clause-err t c =
    let depth_left : c.args.depth_left - 1 + 1 ≡ c.args.depth_left = omega arith in
    rw depth_left at c.read_object.ensures.err

pub read_value-returns-then-depth_left-eq0-clause-err : goal.read_value-returns-then-depth_left-eq0-clause-err
read_value-returns-then-depth_left-eq0-clause-err t c =
    rw (c.if-depth_left-eq0.true, c.place-place.ensures.place) (too_deep (too_deep_here c.in-Some.kind c.in-Some.ensures.some) refl)
