use Rattle.sonic_min.specs.Texts.{IsWideText}
use Rattle.sonic_min.proofs.LaidLemmas.{wide_utf8}
use Rattle.sonic_min.proofs.wide.indent.Goals as goal

pub from_utf8_unchecked-requires : goal.from_utf8_unchecked-requires
from_utf8_unchecked-requires g c =
    let made : IsWideText (g.I.JsonInput.content c.args.json) c.args.width c.in-Ok.bytes.items = rw c.to_u8_slice.ensures.bytes at c.in-Ok.ensures.ok in
    wide_utf8 c.in_ok-validate.ensures.ok made
