use Rattle.std.proofs.Common.{refl}
use Rattle.std.proofs.lemmas.Option.{IfSome_then}
use Rattle.sonic_text.specs.Paths.{key}
use Rattle.sonic_pointer.proofs.TargetLemmas.{IfNone_then}
use Rattle.sonic_pointer.proofs.view.TreeView.of_key.Goals as goal

pub number_of-requires : goal.number_of-requires
number_of-requires c = (key c.requires.0, (c.requires.0, c.requires.1, refl))

pub returns-clause-some : goal.returns-clause-some
returns-clause-some c = IfSome_then c.number_of.result c.number_of.ensures.some (λ i h b s. h (key b) (b, s, refl))

pub returns-clause-none : goal.returns-clause-none
returns-clause-none c = IfNone_then c.number_of.result c.number_of.ensures.none (λ h b s. h (key b) (b, s, refl))
