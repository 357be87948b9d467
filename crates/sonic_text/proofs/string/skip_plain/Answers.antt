use Rattle.std.proofs.Common.{sym, ◌∙◌, length, inl, inr, arith}
use Rattle.std.proofs.lemmas.Bool.{cases_lt, false≢true}
use Rattle.std.proofs.lemmas.List.{get_or_past}
use Rattle.sonic_blocks.specs.Runs.{is_plain}
use Rattle.sonic_blocks.proofs.RunLemmas.{run_passes, run_fails}
use Rattle.sonic_text.specs.Places.{byte}
use Rattle.sonic_text.proofs.ReadingLemmas.{plain_unescaped, unescaped_plain}
use Rattle.sonic_text.proofs.string.skip_plain.Goals as goal

pub returns-clause-plain : goal.returns-clause-plain
returns-clause-plain c k from to = plain_unescaped (byte c.args.text.now k) (run_passes is_plain c.args.text.now c.args.place k from (omega (arith, c.plain_end.ensures.run)))

pub returns-clause-stop : goal.returns-clause-stop
returns-clause-stop c h =
    let t = c.args.text.now in
    elim (cases_lt c.plain_end.result (length t)) [
      | inl inside ↦ false≢true (sym (run_fails is_plain t c.args.place c.plain_end.result c.requires c.plain_end.ensures.run inside) ∙ unescaped_plain (byte t c.plain_end.result) h)
      | inr past ↦ (let none = get_or_past t c.plain_end.result 0 past in let no : ⊥ = omega (arith, h.0, none) in no)
    ]
