use Rattle.std.proofs.Common.{◌≡◌, sym, ◌+◌, ◌-◌, ◌∙◌, ap, length, take, drop, replicate, arith}
use Rattle.std.proofs.lemmas.Slice.{take-put_mid}
use Rattle.std.proofs.lemmas.List.{length-replicate, length-take, length-drop}
use Rattle.sonic_text.specs.declared.kind.Kind.TheVariants.{Array}
use Rattle.sonic_text.proofs.Places.{byte_within}
use Rattle.sonic_parser.proofs.SkippingLemmas.{arrays_inside}
use Rattle.sonic_parser.proofs.quick.open_nested.Goals as goal

pub returns-clause-within : goal.returns-clause-within
returns-clause-within c =
    let count = c.nested_arrays-count.result in
    let last = c.nested_arrays-count.ensures.nested count (omega arith) in
    omega (arith, byte_within c.args.text.now (c.args.place + count) (λ z. omega (arith, last, z)))

pub returns-clause-reached : goal.returns-clause-reached
returns-clause-reached c = λ m root top before.
    let count = c.nested_arrays-count.result in
    let filled = c.fill.ensures.after (λ y e. e) in
    let long : length c.fill.new.self ≡ count =
    rw filled (length-replicate _ Array) ∙ length-take (c.args.depth + count - c.args.depth) (drop c.args.depth c.args.kinds.now) ∙ omega (arith, length-drop c.args.depth c.args.kinds.now, c.nested_arrays-count.ensures.few, c.requires.room) in
    let kinds = take-put_mid c.args.depth (c.args.depth + count - c.args.depth) c.args.kinds.now c.fill.new.self (c.args.depth + count) (omega (arith, long)) (omega (arith, c.requires.room)) in
    let spread : c.fill.new.self ≡ replicate count Array = filled ∙ ap (λ n. replicate n Array) (sym c.fill.ensures.len ∙ long) in
    rw (kinds, spread) (arrays_inside count c.args.place (take c.args.depth c.args.kinds.now) c.nested_arrays-count.ensures.nested top before).0
