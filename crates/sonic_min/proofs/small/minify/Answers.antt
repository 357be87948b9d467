use Rattle.std.proofs.Common.{◌∙◌, length, ap}
use Rattle.sonic_min.specs.Internal.Kept.{kept}
use Rattle.sonic_min.proofs.KeptLemmas.{small_of}
use Rattle.sonic_min.proofs.small.minify.Goals as goal

pub from_utf8_unchecked-requires : goal.from_utf8_unchecked-requires
from_utf8_unchecked-requires g c =
    (small_of c.in_ok-validate.ensures.ok (c.in_ok-bytes.ensures ∙ ap (λ t. kept t (length t)) c.to_u8_slice.ensures.bytes)).utf8

pub returns-clause-ok : goal.returns-clause-ok
returns-clause-ok g c =
    let e = ap (λ v. v.items) c.from_utf8_unchecked.ensures.value in
    let is = c.in_ok-bytes.ensures ∙ ap (λ t. kept t (length t)) c.to_u8_slice.ensures.bytes in
    (small_of c.in_ok-validate.ensures.ok (e ∙ is)).text
