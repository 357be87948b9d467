use Rattle.std.proofs.Common.{inr, sym, ap, ◌∙◌, length}
use Rattle.sonic_c.specs.Codes.{placed}
use Rattle.sonic_c.proofs.CodeLemmas.{same_text}
use Rattle.sonic_c.proofs.text.jihluka_code_text.Goals as goal

pub returns : goal.returns
returns c = record {
  text = λ code e.
      let text = c.as_bytes.ensures.value ∙ c.in-Ok.ensures.ok ∙ same_text c.in-Some.code code (c.in-Some.ensures.has ∙ sym e) in
      inr (c.len.ensures ∙ sym c.as_bytes.ensures.len ∙ ap length text, c.place.ensures ∙ ap (λ t. placed t c.args.room.now) text);
  no_code = λ none. absurd (none c.in-Some.code c.in-Some.ensures.has);
}
