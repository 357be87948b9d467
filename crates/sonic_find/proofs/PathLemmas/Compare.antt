-- How the rules for equal keys compare.
use Rattle.std.proofs.Common.{ℕ, List, [], ◌∷◌}
use Rattle.sonic_find.specs.FirstPaths.{EvaluatesFirst, found_first, goes_first, nowhere_first, cut_first, cut_before_first}
use Rattle.sonic_find.specs.Paths.{Outcome, found, lacks, EvaluatesBy, LeadsBy}
use Rattle.sonic_find.specs.Paths.EvaluatesBy.{found_here, goes_on, leads_nowhere, cut_here, cut_before}
use Rattle.sonic_pointer.specs.declared.rule.KeyRule.{KeyRule}
use Rattle.sonic_pointer.specs.declared.rule.KeyRule.TheVariants.{First, Last, Refuse}
use Rattle.sonic_text.specs.Paths.{Node, key, index}

-- what the clauses of first equal keys say holds under First
pub under_first : {t : List ℕ} {i : ℕ} {path : List Node} {o : Outcome} → EvaluatesFirst t i path o → EvaluatesBy First t i path o
under_first (found_first x) = found_here x
under_first (goes_first l a) = goes_on l (under_first a)
under_first (nowhere_first x none e) = leads_nowhere x none e
under_first (cut_first f) = cut_here f
under_first (cut_before_first f none) = cut_before f none

-- and what holds under First they say
pub from_first : {t : List ℕ} (path : List Node) {i : ℕ} {o : Outcome} → EvaluatesBy First t i path o → EvaluatesFirst t i path o
from_first [] (found_here x) = found_first x
from_first [] (cut_here f) = cut_first f
from_first (node ∷ rest) (goes_on l a) = goes_first l (from_first rest a)
from_first (node ∷ rest) (leads_nowhere x none e) = nowhere_first x none e
from_first (node ∷ rest) (cut_before f none) = cut_before_first f none

-- a node that leads on under Refuse does so under each rule
pub refuse_leads : (r : KeyRule) (t : List ℕ) (i : ℕ) (node : Node) (v : ℕ) → LeadsBy Refuse t i node v → LeadsBy r t i node v
refuse_leads First t i (key k) v l = l.first
refuse_leads First t i (index n) v l = l
refuse_leads Last t i (key k) v l = l.last
refuse_leads Last t i (index n) v l = l
refuse_leads Refuse t i node v l = l

-- so what is found under Refuse is found under each rule
pub refuse_finds : {t : List ℕ} (r : KeyRule) (path : List Node) {i a b : ℕ} → EvaluatesBy Refuse t i path (found a b) → EvaluatesBy r t i path (found a b)
refuse_finds r [] (found_here x) = found_here x
refuse_finds {t} r (node ∷ rest) {i} (goes_on {v} l a) = goes_on (refuse_leads r t i node v l) (refuse_finds r rest a)
refuse_finds r (node ∷ rest) (leads_nowhere x none e) = leads_nowhere x none e

-- and a key that is lacked
pub refuse_lacks : {t : List ℕ} (r : KeyRule) (path : List Node) {i q : ℕ} → EvaluatesBy Refuse t i path (lacks q) → EvaluatesBy r t i path (lacks q)
refuse_lacks r [] x = elim x [ ]
refuse_lacks {t} r (node ∷ rest) {i} (goes_on {v} l a) = goes_on (refuse_leads r t i node v l) (refuse_lacks r rest a)
refuse_lacks r (node ∷ rest) (leads_nowhere x none e) = leads_nowhere x none e
