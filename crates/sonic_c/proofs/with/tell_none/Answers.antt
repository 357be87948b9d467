use Rattle.std.proofs.Common.{refl, sym}
use Rattle.std.proofs.lemmas.Bool.{eqb-true}
use Rattle.sonic_c.proofs.EachLemmas.{none_told}
use Rattle.sonic_c.specs.Each.{paths_miscounted}
use Rattle.sonic_c.proofs.with.tell_none.Goals as goal

pub returns-then-is_empty-clause-call : goal.returns-then-is_empty-clause-call
returns-then-is_empty-clause-call c = λ text. let none = eqb-true _ 0 (sym c.if-is_empty.ensures) in none_told text (sym none) none refl refl refl
