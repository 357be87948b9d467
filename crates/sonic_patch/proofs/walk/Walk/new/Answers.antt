use Rattle.std.proofs.Common.{◌∙◌}
use Rattle.sonic_patch.proofs.WalkLemmas.{started}
use Rattle.sonic_patch.proofs.walk.Walk.new.Goals as goal

pub returns-clause-start : goal.returns-clause-start
returns-clause-start c = λ x e m. (
  c.new-2.ensures.lossy ∙ c.new.ensures.lossy,
  started (c.new-2.ensures.text ∙ c.new.ensures.text ∙ c.from.ensures.text) (c.new-2.ensures.place ∙ c.new.ensures.place ∙ c.from.ensures.place) c.new-2.ensures.opened m,
)
