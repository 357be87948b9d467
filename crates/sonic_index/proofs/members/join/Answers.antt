use Rattle.std.proofs.Common.{◌≡◌, ◌∙◌, ◌+◌, ◌++◌, [], ◌∷◌, ap, get_or, refl, sym, take}
use Rattle.std.proofs.lemmas.List.{take_more}
use Rattle.std.proofs.lemmas.Option.{slice_get-get_or}
use Rattle.sonic_index.proofs.MemberLemmas.{joined_more}
use Rattle.sonic_index.proofs.PathLemmas.{no_cell}
use Rattle.sonic_index.proofs.members.join.Goals as goal

pub loop-other-preserved : goal.loop-other-preserved
loop-other-preserved c =
    let escaped = c.args.escaped.now in
    let k = c.loop-other.other-index in
    let u = c.other-item.result in
    let within = rw (← c.other-item.is) at (c.requires k u c.loop-other-test.true) in
    let taken : take (k + 1) escaped ≡ take k escaped ++ u ∷ [] = take_more escaped k u c.loop-other-test.true ∙ ap (λ x. take k escaped ++ x ∷ []) (sym c.other-item.is) in
    rw taken (joined_more u _ c.loop-other.invariant
    (record { cell = get_or c.args.cells.now u.number no_cell; read = slice_get-get_or c.args.cells.now u.number no_cell within; object = refl; key = c.as_slice.ensures.value; number = refl })
    c.in_ok-push.ensures.items)
