use Rattle.std.proofs.Common.{◌≡◌, refl}
use Rattle.sonic_text.specs.Places.{byte}
use Rattle.sonic_text.specs.Values.{opening, empty}
use Rattle.sonic_parser.proofs.DescentLemmas.{empty_unfilled, items_begin}
use Rattle.sonic_parser.proofs.descent.Descent.enter.Goals as goal

pub returns-then-not-enter-clause-ok : goal.returns-then-not-enter-clause-ok
returns-then-not-enter-clause-ok c =
    let b : byte c.self.inside.parser.text c.self.inside.parser.place ≡ opening c.args.kind = rw (← c.self.view_is) at c.requires in
    let e = c.enter.ensures.empty c.if-not-enter.true in
    rw (← c.self.view_is) (refl, empty c.args.kind b e.0 e.1)

pub returns-clause-ok : goal.returns-clause-ok
returns-clause-ok c =
    let b : byte c.self.inside.parser.text c.self.inside.parser.place ≡ opening c.args.kind = rw (← c.self.view_is) at c.requires in
    let e = c.enter.ensures.item c.if-not-enter.false in
    rw (← c.self.view_is) (c.in_default.ensures.items, items_begin b e.value_start e.item)

pub returns-then-not-enter-clause-parts : goal.returns-then-not-enter-clause-parts
returns-then-not-enter-clause-parts c =
    let b : byte c.self.inside.parser.text c.self.inside.parser.place ≡ opening c.args.kind = rw (← c.self.view_is) at c.requires in
    let e = c.enter.ensures.empty c.if-not-enter.true in
    rw (← c.self.view_is) (λ passed. empty_unfilled c.self.inside.parser.text c.args.kind c.self.inside.parser.place b e.0)
