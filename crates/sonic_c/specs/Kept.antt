-- Paths that are kept from call to call.
use Rattle.std.specs.Prelude.{ℕ, List, []}
use Rattle.sonic_text.specs.Paths.{Path}
use Rattle.sonic_pointer.specs.declared.rule.KeyRule.{KeyRule}
use Rattle.sonic_pointer.specs.declared.rule.KeyRule.TheVariants.{First, Last, Refuse}

-- the paths in their order, and which of equal keys counts
pub record PathList : Type 0 where
  pub rule : KeyRule
  pub paths : List Path

-- no path
abbrev pub no_list : PathList
no_list = record { rule = First; paths = [] }

-- the number of a rule, as callers in C say it
abbrev pub rule_number : KeyRule → ℕ
rule_number First = 0
rule_number Last = 1
rule_number Refuse = 2
