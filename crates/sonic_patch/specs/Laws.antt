-- The law of patches.
use Rattle.std.specs.Prelude.{◌≡◌, ◌⊎◌, ℕ, List}
use Rattle.sonic_owned.specs.Forms.{Form}
use Rattle.sonic_patch.specs.Operations.{Operation}
use Rattle.sonic_patch.specs.Reading.{SaysPatch, Reason, HasReason}

-- the text says one list of operations, or it says none for one reason, and never both
pub record SaysOneThing (t : List ℕ) : Type 0 where
  pub some : ((ops : List (Operation Form)) × SaysPatch t ops) ⊎ ((reason : Reason) × HasReason t reason)
  pub one_list : (ops others : List (Operation Form)) → SaysPatch t ops → SaysPatch t others → ops ≡ others
  pub one_reason : (reason other : Reason) → HasReason t reason → HasReason t other → reason ≡ other
  pub never_both : (ops : List (Operation Form)) (reason : Reason) → SaysPatch t ops → ¬ HasReason t reason
