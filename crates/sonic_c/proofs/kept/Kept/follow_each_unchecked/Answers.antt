use Rattle.sonic_c.proofs.kept.Kept.follow_each_unchecked.Goals as goal
use Rattle.std.proofs.Common.{◌≡◌, ◌∙◌, ap, refl, subst, sym, length}
use Rattle.sonic_pointer.specs.declared.rule.KeyRule.{KeyRule}
use Rattle.sonic_c.proofs.EachLemmas.{outcomes_told}
use Rattle.sonic_c.specs.Each.{IsEachListCall}
use Rattle.sonic_c.specs.Kept.{PathList}
use Rattle.sonic_c.specs.Statuses.{status_ok}

pub returns-in-First-clause-call : goal.returns-in-First-clause-call
returns-in-First-clause-call c =
    let long = ap (λ (list : PathList). length list.paths) c.self.view_is ∙ (sym c.len-len.ensures ∙ sym c.if-outcomes-len.false) in
    subst
    (λ (list : PathList).
    IsEachListCall c.args.json.now list (record { outcomes = c.args.outcomes.now; error = c.args.error.now })
    (record { outcomes = c.tell_each_unchecked.new.outcomes; error = c.args.error.now }) status_ok)
    (rw c.in-First.is at c.self.view_is) (outcomes_told long c.tell_each_unchecked.ensures.outcomes refl refl)

pub returns-in_default : goal.returns-in_default
returns-in_default c = record {
  call = c.walk_each.ensures.call;
  memory = λ first. absurd (c.in_default.not-First (ap (λ (list : PathList). list.rule) c.self.view_is ∙ first));
  no_paths = λ none empty. c.walk_each.ensures.no_paths none;
  kept = c.walk_each.ensures.kept;
}
