-- What is expected at a place has one outcome, and what a fault says of other texts.
use Rattle.std.specs.Prelude.{◌≡◌, ◌≢◌, ℕ, ◌+◌, ◌⊎◌, Bool, List, [], ◌++◌, length, take}
use Rattle.sonic_text.specs.declared.stop.Stop.{Stop}
use Rattle.sonic_text.specs.Places.{after_space}
use Rattle.sonic_text.specs.Values.{IsValue}
use Rattle.sonic_text.specs.Faults.{IsFault}

-- either it ends at exactly one place, or it isn't there for exactly one reason, and never both
pub record HasOneOutcome (Ends : ℕ → Type 0) (Fails : Stop → Type 0) : Type 0 where
  pub some_outcome : ((j : ℕ) × Ends j) ⊎ ((s : Stop) × Fails s)
  pub one_end : (j k : ℕ) → Ends j → Ends k → j ≡ k
  pub one_fault : (s r : Stop) → Fails s → Fails r → s ≡ r
  pub never_both : (j : ℕ) (s : Stop) → Ends j → Fails s → ⊥

-- some longer text that begins with this one is a value after white space, up to its end
abbrev pub MayGoOn : Bool → List ℕ → Type 0
MayGoOn m t = (w : List ℕ) × (w ≢ []) × IsValue m (t ++ w) (after_space (t ++ w) 0) (length (t ++ w))

-- every text with the same bytes up to the stop, and with its byte, has that fault
abbrev pub IsFinal : Bool → List ℕ → Stop → Type 0
IsFinal m t s = (u : List ℕ) → take (s.place + 1) u ≡ take (s.place + 1) t → IsFault m u (after_space u 0) s
