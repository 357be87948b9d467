use Rattle.std.proofs.Common.{◌≡◌, ◌∙◌, ap, Decides}
use Rattle.std.specs.Ordering.{is_eq}
use Rattle.std.specs.Str.{bytes_eq}
use Rattle.std.proofs.lemmas.Map.Text.{is_eq-slice_cmp}
use Rattle.std.proofs.lemmas.Slice.Eq.{bytes_eq-Decides}
use Rattle.sonic_text.specs.Strings.{IsString, strict}
use Rattle.sonic_text.proofs.Strings.{string_one}
use Rattle.sonic_text.proofs.key.same_key.Goals as goal

pub returns : goal.returns
returns c =
    let a = c.args in
    let (b, s) = c.requires in
    let e : c.is_eq.result ≡ bytes_eq b a.key.now = c.is_eq.ensures ∙ (ap is_eq (c.compare_key.ensures b s) ∙ is_eq-slice_cmp b a.key.now) in
    let same : Decides c.is_eq.result (b ≡ a.key.now) = rw e (bytes_eq-Decides b a.key.now) in (
      λ h. (let k : IsString strict a.text.now a.start a.end a.key.now = rw (← same.0 h) s in k),
      λ k. same.1 (string_one s k).1,
    )
