use Rattle.std.proofs.Common.{refl, sym, ap, subst, ◌∙◌, length}
use Rattle.std.proofs.lemmas.Bool.{eqb-true}
use Rattle.sonic_c.specs.Each.{IsEachListCall, all_paths_told}
use Rattle.sonic_c.specs.Kept.{PathList}
use Rattle.sonic_c.proofs.EachLemmas.{each_long, error_told, none_told}
use Rattle.sonic_c.proofs.kept.Kept.walk_each.Goals.{in-Ok, in-Err}
use Rattle.sonic_c.proofs.kept.Kept.walk_each.Goals as goal

pub returns-then-is_empty-clause-call : goal.returns-then-is_empty-clause-call
returns-then-is_empty-clause-call c = let none = eqb-true _ 0 (sym c.if-is_empty.ensures) in none_told c.args.json.now c.requires none refl refl refl

pub tell_from_buffers-requires : goal.tell_from_buffers-requires
tell_from_buffers-requires c = each_long c.in-Ok.ensures.ok ∙ (ap (λ (list : PathList). length list.paths) c.self.view_is ∙ c.requires)

pub returns-clause-call : goal.returns-clause-call
returns-clause-call c =
    let long = ap (λ (list : PathList). length list.paths) c.self.view_is ∙ c.requires in
    subst
    (λ (list : PathList).
    IsEachListCall c.args.json.now list (record { outcomes = c.args.outcomes.now; error = c.args.error.now })
    (record { outcomes = c.match-find_each_by.outcomes; error = c.match-find_each_by.error }) c.match-find_each_by.result)
    c.self.view_is
    (elim c.match-find_each_by.branch [
      | in-Ok w ↦ rw (w.outcomes-is, w.error-is, w.result-is) (all_paths_told long w.in-Ok.ensures.ok refl w.tell_from_buffers.ensures refl)
      | in-Err w ↦ rw (w.outcomes-is, w.error-is, w.result-is) (error_told long w.in-Err.ensures.err w.tell.ensures refl)
    ])
