-- What all paths come to under the rule of the first key.
use Rattle.std.specs.Prelude.{ℕ, List}
use Rattle.sonic_text.specs.Paths.{Path}
use Rattle.sonic_find.specs.Paths.{Outcome}
use Rattle.sonic_pointer.specs.declared.rule.KeyRule.TheVariants.{First}
use Rattle.sonic_find.specs.Answers.{AllLeadBy}

-- and by first equal keys
abbrev pub AllLead : List ℕ → List Path → List Outcome → Type 0
AllLead t paths os = AllLeadBy First t paths os
