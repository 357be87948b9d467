use Rattle.std.proofs.Common.{◌≡◌, ◌≢◌, ◌∙◌, ◌+◌, [], ◌∷◌, sym, ap}
use Rattle.sonic_text.specs.Places.{byte, after_space}
use Rattle.sonic_text.specs.Values.{opening, closing}
use Rattle.sonic_min.specs.Internal.Outputs.{Adds}
use Rattle.sonic_min.proofs.LaidLemmas.{empty_laid, filled_laid}
use Rattle.sonic_min.proofs.wide.open.Goals as goal

pub returns-then-byte_at-closing-clause-laid : goal.returns-then-byte_at-closing-clause-laid
returns-then-byte_at-closing-clause-laid c =
    let t = c.args.text.now in
    let kind = c.opened_at-kind.result in
    let first = c.skip_space-first.ensures.place in
    let close : byte t (after_space t (c.args.place + 1)) ≡ closing kind = rw first at (sym c.byte_at.ensures.value ∙ c.if-byte_at-closing.true ∙ c.closing.ensures) in
    let adds : Adds c.args.out.now (opening kind ∷ closing kind ∷ []) c.pair.new.self =
    rw (c.opening.ensures, c.closing-then-byte_at-closing.ensures) at c.in_ok-pair.ensures.ok in
    rw first (empty_laid kind c.requires.laid c.requires.next c.opened_at-kind.ensures close adds)

pub returns-clause-laid : goal.returns-clause-laid
returns-clause-laid c =
    let t = c.args.text.now in
    let kind = c.opened_at-kind.result in
    let filled : byte t (after_space t (c.args.place + 1)) ≢ closing kind =
    λ e. c.if-byte_at-closing.false (c.byte_at.ensures.value ∙ ap (byte t) c.skip_space-first.ensures.place ∙ e ∙ sym c.closing.ensures) in
    filled_laid kind c.requires.laid c.requires.next c.opened_at-kind.ensures filled c.in_ok-blanks.ensures.ok (rw c.opening-2.ensures at c.in_ok-byte_line.ensures.ok)
