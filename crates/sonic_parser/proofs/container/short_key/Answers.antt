use Rattle.std.proofs.Common.{◌≡◌, ◌+◌, ◌∙◌, refl, sym, ap, arith}
use Rattle.sonic_text.specs.Places.{byte, after_space}
use Rattle.sonic_parser.proofs.SkippingLemmas.{byte_stays}
use Rattle.sonic_parser.proofs.container.short_key.Goals as goal

pub returns : goal.returns
returns c m =
    let t = c.args.text.now in
    let end = c.in_ok-stop.stop + 1 in
    let string = c.in_ok-stop.ensures.string c.if-text-stop-ne34.false m in
    let here = byte_stays t end 58 c.if-text-stop-ne58.false (omega arith) refl in
    let behind : c.in_ok-stop.stop + 2 ≡ end + 1 = omega arith in (
      omega (arith, c.in_ok-stop.ensures.near.0, c.short_space.ensures.later),
      c.short_space.ensures.within,
      string.0,
      record {
        end = end;
        string = string.1;
        colon = ap (byte t) here ∙ c.if-text-stop-ne58.false;
        value_start = c.short_space.ensures.place ∙ ap (after_space t) behind ∙ ap (λ p. after_space t (p + 1)) (sym here);
      },
    )
