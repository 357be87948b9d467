use Rattle.std.proofs.Common.{lit<}
use Rattle.std.proofs.lemmas.Str.Pattern.{split_parts}
use Rattle.sonic_patch.proofs.PieceLemmas.{whole_piece, first_before}
use Rattle.sonic_patch.proofs.pointer.first_piece.Goals as goal

pub returns-in-Some : goal.returns-in-Some
returns-in-Some c =
    let parts = rw c.in-Some.is at (split_parts 47 c.args.rest.now c.split_once.result c.split_once.ensures.cases (lit< tt)) in
    first_before c.in-Some.behind.now parts.0 parts.1

pub returns-in-None : goal.returns-in-None
returns-in-None c = whole_piece c.args.rest.now (rw c.in-None.is at (split_parts 47 c.args.rest.now c.split_once.result c.split_once.ensures.cases (lit< tt)))
