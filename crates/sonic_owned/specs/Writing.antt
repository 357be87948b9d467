-- How far a formatter has come with a text that is written piece by piece.
use Rattle.std.specs.Prelude.{◌≡◌, ℕ, List, ◌++◌, Result, IfOk}
use Rattle.std.specs.Fmt.{HasWritten, IsPlainFormatter}
use Rattle.std.specs.declared.fmt.Error.{Error}
use Rattle.std.specs.declared.fmt.Formatter.{Formatter}

-- g is f after writing all before the rest
pub record IsWrittenUpTo {W : Type 0} (took : W → List ℕ → W → Type 0) (f : Formatter W) (all rest : List ℕ) (g : Formatter W) : Type 0 where
  pub done : List ℕ
  pub has : HasWritten took f done g
  pub whole : done ++ rest ≡ all

-- if f is plain and r is `Ok`, g is f after writing all before what is left
abbrev pub WritesUpTo : {W A : Type 0} → (W → List ℕ → W → Type 0) → Formatter W → List ℕ → (A → List ℕ) → Result A Error → Formatter W → Type 0
WritesUpTo took f all rest r g = IsPlainFormatter f → IfOk r (λ a. IsWrittenUpTo took f all (rest a) g)
