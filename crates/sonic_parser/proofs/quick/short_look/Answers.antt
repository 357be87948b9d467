use Rattle.std.proofs.Common.{◌≡◌, ◌+◌, ◌∙◌, false, refl, sym, ap, arith}
use Rattle.std.proofs.lemmas.Bool.Decides.{nat_tests}
use Rattle.sonic_text.specs.Places.{byte, is_space, after_space}
use Rattle.sonic_parser.proofs.BeginningLemmas.{filled_begun}
use Rattle.sonic_parser.proofs.SkippingLemmas.{byte_stays}
use Rattle.sonic_parser.proofs.quick.short_look.Goals as goal

pub returns-then-text-place-eq34 : goal.returns-then-text-place-eq34
returns-then-text-place-eq34 c m =
    let quote = c.if-text-place-eq34.true in
    filled_begun c.if-byte-eq123.true (omega arith, omega arith, sym (byte_stays c.args.text.now (c.args.place + 1) 34 quote (omega arith) refl), λ z. omega (arith, z, quote))

pub returns-then-text-place-ne93 : goal.returns-then-text-place-ne93
returns-then-text-place-ne93 c m =
    let t = c.args.text.now in
    let first = byte t (c.args.place + 1) in
    let some = c.if-text-place-gt32.true in
    let none : is_space first ≡ false = grind (arith, nat_tests, some) in
    filled_begun c.if-byte-eq91.true (omega arith, omega arith, sym (byte_stays t (c.args.place + 1) first refl (omega (arith, some)) none), c.if-text-place-ne93.true)

pub returns-then-text-end-eq44 : goal.returns-then-text-end-eq44
returns-then-text-end-eq44 c m =
    let t = c.args.text.now in
    let comma = c.if-text-end-eq44.true in
    let here = byte_stays t c.in-Some.end 44 comma (omega arith) refl in
    let space = c.short_space.ensures in
    (c.in-Some.end, c.in-Some.ensures.end m, λ kind. (omega (arith, space.later), space.within, (ap (byte t) here ∙ comma, space.place ∙ ap (λ p. after_space t (p + 1)) (sym here))))
