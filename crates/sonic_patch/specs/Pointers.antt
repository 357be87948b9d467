-- Pointers (RFC 6901).
use Rattle.std.specs.Prelude.{◌≢◌, ◌==◌, ◌≤◌, ℕ, List, [], ◌∷◌, length}
use Rattle.std.specs.List.{slice_split}

-- a token, unescaped
abbrev pub Token : Type 0
Token = List ℕ

-- what a piece of a pointer says (section 4): `~1` a slash, `~0` a tilde, and every other byte itself
pub data SaysToken : List ℕ → Token → Type 0 where
  no_byte : SaysToken [] []
  a_slash : {t u : List ℕ} → SaysToken t u → SaysToken (126 ∷ 49 ∷ t) (47 ∷ u)
  a_tilde : {t u : List ℕ} → SaysToken t u → SaysToken (126 ∷ 48 ∷ t) (126 ∷ u)
  a_byte : {b : ℕ} {t u : List ℕ} → b ≢ 126 → SaysToken t u → SaysToken (b ∷ t) (b ∷ u)

-- and what pieces say, one by one
pub data AreTokens : List (List ℕ) → List Token → Type 0 where
  no_more_tokens : AreTokens [] []
  one_more_token : {piece : List ℕ} {pieces : List (List ℕ)} {token : Token} {tokens : List Token} → SaysToken piece token → AreTokens pieces tokens
      → AreTokens (piece ∷ pieces) (token ∷ tokens)

-- the pieces between slashes
abbrev pub pieces : List ℕ → List (List ℕ)
pieces t = slice_split (λ b. b == 47) t

-- what a pointer says (section 3): nothing where it is empty, and else it begins with a slash, and says a token behind each slash
pub data SaysTokens : List ℕ → List Token → Type 0 where
  no_token : SaysTokens [] []
  some_tokens : {t : List ℕ} {tokens : List Token} → AreTokens (pieces t) tokens → SaysTokens (47 ∷ t) tokens

-- and there are at most 255 of them
abbrev pub SaysFewTokens : List ℕ → List Token → Type 0
SaysFewTokens t tokens = SaysTokens t tokens × (length tokens ≤ 255)
