use Rattle.std.proofs.Common.{◌≡◌, ◌∙◌, ap}
use Rattle.std.proofs.lemmas.Result.{IfErr-weaker}
use Rattle.sonic_find.specs.Documents.{IsDocumentValue}
use Rattle.sonic_lazy.proofs.WholeLemmas.{false_not_true}
use Rattle.sonic_lazy.specs.Iterators.{IteratorState}
use Rattle.sonic_lazy.specs.LazyValues.{raw_bytes}
use Rattle.sonic_patch.proofs.ElementLemmas.{elements_array}
use Rattle.sonic_patch.proofs.RefusalLemmas.{fault_no_patch, json_reason}
use Rattle.sonic_patch.specs.Reading.HasReason.{is_other}
use Rattle.sonic_patch.proofs.read.read_patch.Goals as goal

pub returns-in-Some-clause-err : goal.returns-in-Some-clause-err
returns-in-Some-clause-err c =
    let text : c.in-Some.elements.text ≡ raw_bytes c.in-Ok.value = ap (λ (it : IteratorState). it.text) c.in-Some.ensures.elements in
    let value : IsDocumentValue c.args.json.now c.in-Some.elements.text = rw text c.in-Ok.ensures.ok in
    IfErr-weaker c.read_elements.result _ _ (λ e h. fault_no_patch e value h) c.read_elements.ensures.err

pub returns-in-None-clause-err : goal.returns-in-None-clause-err
returns-in-None-clause-err c =
    is_other c.in-Ok.ensures.ok (λ texts all. false_not_true (c.in-None.ensures.kind.1 (elements_array c.in-Ok.value texts all)))

pub returns-in_default : goal.returns-in_default
returns-in_default c = record {
  ok = tt;
  err = json_reason c.in-Err.ensures.err (λ e. c.in_default.not-NoMemory (c.code.ensures ∙ e));
}
