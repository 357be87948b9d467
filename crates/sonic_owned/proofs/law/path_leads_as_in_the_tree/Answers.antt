use Rattle.sonic_owned.proofs.MeantPathLemmas.{leads_meant, meant_leads}
use Rattle.sonic_owned.proofs.law.path_leads_as_in_the_tree.Goals as goal

pub returns-clause-some : goal.returns-clause-some
returns-clause-some c = λ path f g x m l. leads_meant l m

pub returns-clause-all : goal.returns-clause-all
returns-clause-all c = λ path f x y m e. meant_leads m e
