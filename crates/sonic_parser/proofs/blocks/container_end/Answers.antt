use Rattle.std.proofs.Common.{◌∙◌, sym}
use Rattle.sonic_parser.proofs.BlockLemmas.{same_kind}
use Rattle.sonic_parser.proofs.blocks.container_end.Goals as goal

pub end_of_kind-requires-clause-begins : goal.end_of_kind-requires-clause-begins
end_of_kind-requires-clause-begins g c =
    let x = c.requires in
    let first = c.first_kind.ensures c.args.tape.now c.args.start x.1 c.masks_at-masks.ensures.masks x.4 in
    same_kind c.args.tape.now c.args.start (sym c.in-Array.is ∙ first) x.4

pub end_of_kind-requires-in-Object-clause-begins : goal.end_of_kind-requires-in-Object-clause-begins
end_of_kind-requires-in-Object-clause-begins g c =
    let x = c.requires in
    let first = c.first_kind.ensures c.args.tape.now c.args.start x.1 c.masks_at-masks.ensures.masks x.4 in
    same_kind c.args.tape.now c.args.start (sym c.in-Object.is ∙ first) x.4
