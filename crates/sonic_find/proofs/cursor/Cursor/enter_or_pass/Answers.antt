use Rattle.sonic_find.proofs.cursor.Cursor.enter_or_pass.Goals as goal
use Rattle.std.proofs.Common.{◌≡◌, ◌∙◌, ◌+◌, ◌-◌, sym, ap, arith, refl}
use Rattle.sonic_find.proofs.WalkLemmas.Start.{dead_in_empty}
use Rattle.sonic_find.proofs.WalkLemmas.End.{empty_passed}
use Rattle.sonic_text.specs.Places.{after_space}

pub returns-clause-passed : goal.returns-clause-passed
returns-clause-passed c =
    let parser = c.self.inside.parser in
    let end = rw (← c.self.view_is) at (c.if-enter.ensures.empty refl) in
    let passed = c.offset-end.ensures.place ∙ ap (λ cursor. cursor.place) c.self-2.view_is in
    let bracket = rw (c.text.ensures, c.offset-start.ensures.place) at (sym c.byte_at.ensures.value ∙ c.if-byte_at-opening.false ∙ c.opening.ensures) in
    let place : c.offset-end.result - 1 ≡ after_space parser.text (parser.place + 1) = omega (arith, passed, end.1) in
    let start = c.offset-start.ensures.place in
    let value = empty_passed c.args.kind bracket end (c.plain.ensures ∙ rw (start, passed) refl) in
    record { value = rw (← c.self.view_is) value; dead = rw (← c.self.view_is, c.empty_code-code.ensures, place) (dead_in_empty bracket end.0 refl) }
