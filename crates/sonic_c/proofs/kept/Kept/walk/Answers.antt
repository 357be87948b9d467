use Rattle.std.proofs.Common.{refl, sym, ap, subst, ◌∙◌, length}
use Rattle.std.proofs.lemmas.Bool.{eqb-true}
use Rattle.std.proofs.lemmas.List.{length-map}
use Rattle.std.specs.Prelude.{map}
use Rattle.sonic_find.specs.Outcomes.{told_span}
use Rattle.sonic_c.specs.Kept.{PathList}
use Rattle.sonic_c.specs.Lists.{IsListCall}
use Rattle.sonic_c.proofs.ListLemmas.{answer_long, list_found, list_of_none, list_refused, outcomes_shown}
use Rattle.sonic_c.proofs.kept.Kept.walk.Goals.{in-Ok, in-Err}
use Rattle.sonic_c.proofs.kept.Kept.walk.Goals as goal

pub returns-then-is_empty-clause-call : goal.returns-then-is_empty-clause-call
returns-then-is_empty-clause-call c = let none = eqb-true _ 0 (sym c.if-is_empty.ensures) in list_of_none c.requires none refl refl

pub fill_from_buffers-requires : goal.fill_from_buffers-requires
fill_from_buffers-requires c =
    sym (length-map c.find_many_by.new.buffers told_span) ∙ answer_long c.in-Ok.ensures.ok ∙ (ap (λ (list : PathList). length list.paths) c.self.view_is ∙ c.requires)

pub returns-clause-call : goal.returns-clause-call
returns-clause-call c =
    let long = ap (λ (list : PathList). length list.paths) c.self.view_is ∙ c.requires in
    let buffers = c.find_many_by.new.buffers in
    subst
    (λ (list : PathList).
    IsListCall c.args.json.now list (record { spans = c.args.spans.now; error = c.args.error.now })
    (record { spans = c.match-find_many_by.spans; error = c.match-find_many_by.error }) c.match-find_many_by.result)
    c.self.view_is
    (elim c.match-find_many_by.branch [
      | in-Ok w ↦ rw (w.spans-is, w.error-is, w.result-is) (list_found (map told_span buffers) w.in-Ok.ensures.ok refl (w.fill_from_buffers.ensures ∙ outcomes_shown buffers) refl)
      | in-Err w ↦ rw (w.spans-is, w.error-is, w.result-is) (list_refused w.in-Err.reason long w.in-Err.ensures.err w.in-Err.ensures.complete w.tell.ensures refl)
    ])
