-- The law of heads.
use Rattle.std.specs.Prelude.{◌≡◌, ◌⊎◌, ℕ, List}
use Rattle.sonic_edits.specs.Heads.{SaysEditsOf, SaysBadEdit}
use Rattle.sonic_owned.specs.Forms.{Form}
use Rattle.sonic_owned.specs.TreeEdits.{Edit}

-- the head of the input says the edits of its lines, or which line is the first that says none, and nothing else
pub record SaysOneListOfEdits (input : List ℕ) : Type 0 where
  pub some : ((es : List (Edit Form)) × (d : ℕ) × SaysEditsOf input es d) ⊎ ((n : ℕ) × SaysBadEdit input n)
  pub one_list : (es fs : List (Edit Form)) (d e : ℕ) → SaysEditsOf input es d → SaysEditsOf input fs e → (es ≡ fs) × (d ≡ e)
  pub one_number : (n m : ℕ) → SaysBadEdit input n → SaysBadEdit input m → n ≡ m
  pub never_both : (es : List (Edit Form)) (d n : ℕ) → SaysEditsOf input es d → ¬ SaysBadEdit input n
