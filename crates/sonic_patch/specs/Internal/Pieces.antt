-- How a pointer is read piece by piece, and a piece from tilde to tilde.
use Rattle.std.specs.Prelude.{◌≡◌, ◌<◌, ◌++◌, ℕ, List, ◌∷◌, length}
use Rattle.sonic_patch.specs.Pointers.{Token, SaysToken, AreTokens}

-- the text is a token
abbrev pub IsTokenText : List ℕ → Type 0
IsTokenText t = (token : Token) × SaysToken t token

-- the text is read so, as tokens
abbrev pub IsReadBy : (List ℕ → List Token → Type 0) → List ℕ → Type 0
IsReadBy Reads t = (tokens : List Token) × Reads t tokens

-- how the rest of a piece begins: bytes up to a tilde, that with the next byte stands for c, and more
pub record IsTokenEscape (rest plain : List ℕ) (c : ℕ) (more : List ℕ) : Type 0 where
  pub ascii : c < 128
  pub less : length more < length rest
  pub says : (u : Token) → SaysToken more u → SaysToken rest (plain ++ (c ∷ u))
  pub said : IsTokenText rest → IsTokenText more

-- pieces say so many tokens
pub record SayTokens (pieces : List (List ℕ)) (n : ℕ) : Type 0 where
  pub tokens : List Token
  pub are : AreTokens pieces tokens
  pub count : length tokens ≡ n
