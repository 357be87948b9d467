-- The tokens that a text says as a pointer are keys.
use Rattle.std.proofs.Common.{◌<◌, ◌+◌, inl, inr, refl, ℕ, List, [], ◌∷◌, ◌++◌, length, length-append, append_assoc, get_or, take, drop, codes, arith}
use Rattle.std.proofs.Math.Seq.{take-append_seam, drop-append-add, get_or-append_seam}
use Rattle.std.proofs.lemmas.Bool.Decides.{eqb_tells}
use Rattle.std.proofs.lemmas.List.{append-nil}
use Rattle.std.proofs.lemmas.List.Elements.{All-cons, All-head, All-nil, All-tail}
use Rattle.std.proofs.lemmas.Str.{IsUtf8-append, IsUtf8-drop, IsUtf8-take, IsCharBoundary-after_ascii, IsCharBoundary-before_ascii}
use Rattle.std.specs.List.{All, onto_first}
use Rattle.std.specs.Str.{IsUtf8}
use Rattle.sonic_patch.specs.Patches.{AreKeys}
use Rattle.sonic_patch.specs.Pointers.{pieces, Token, SaysToken, no_byte, a_slash, a_tilde, a_byte, AreTokens, no_more_tokens, one_more_token, SaysTokens, no_token, some_tokens}

-- what comes before an ASCII byte is a text, and so is what comes behind it
around_ascii : (before : List ℕ) {b : ℕ} {behind : List ℕ} → b < 128 → IsUtf8 (before ++ (b ∷ behind)) → IsUtf8 before × IsUtf8 behind
around_ascii before {b} {behind} low utf8 =
    let all = before ++ (b ∷ behind) in
    let n = length before in
    let within : n < length all = omega (arith, length-append before (b ∷ behind)) in
    let ascii : get_or all n 0 < 128 = omega (arith, get_or-append_seam before b behind 0, low) in
    let first : IsUtf8 (take n all) = IsUtf8-take all n utf8 (IsCharBoundary-before_ascii all n within ascii) in
    let rest : IsUtf8 (drop (n + 1) all) = IsUtf8-drop all (n + 1) utf8 (IsCharBoundary-after_ascii all n utf8 within ascii) in
    (rw (take-append_seam before (b ∷ behind)) at first, rw (drop-append-add before (b ∷ behind) 1) at rest)

-- and with one more in their place they are one
slash_utf8 : IsUtf8 (47 ∷ [])
unfolding lib.Utf8.encode
slash_utf8 = (codes "/", (refl, refl))

tilde_utf8 : IsUtf8 (126 ∷ [])
unfolding lib.Utf8.encode
tilde_utf8 = (codes "~", (refl, refl))

escape_utf8 : (before : List ℕ) (b : ℕ) {c : ℕ} {t u : List ℕ} → c < 128 → IsUtf8 (b ∷ []) → (IsUtf8 t → IsUtf8 u) → IsUtf8 (before ++ (126 ∷ c ∷ t)) → IsUtf8 (before ++ (b ∷ u))
escape_utf8 before b {u = u} low one rest utf8 =
    let parts = around_ascii before (omega arith) utf8 in
    IsUtf8-append before (b ∷ u) parts.0 (IsUtf8-append (b ∷ []) u one (rest (around_ascii [] low parts.1).1))

-- so what a piece of a text says is a text, behind what comes before it
token_utf8 : {t u : List ℕ} → SaysToken t u → (before : List ℕ) → IsUtf8 (before ++ t) → IsUtf8 (before ++ u)
token_utf8 no_byte before utf8 = utf8
token_utf8 (a_slash x) before utf8 = escape_utf8 before 47 (omega arith) slash_utf8 (token_utf8 x []) utf8
token_utf8 (a_tilde x) before utf8 = escape_utf8 before 126 (omega arith) tilde_utf8 (token_utf8 x []) utf8
token_utf8 (a_byte {b} {t} {u} n x) before utf8 =
    let all : IsUtf8 ((before ++ b ∷ []) ++ t) = rw (append_assoc before (b ∷ []) t) utf8 in
    let said : IsUtf8 ((before ++ b ∷ []) ++ u) = token_utf8 x (before ++ b ∷ []) all in
    rw (append_assoc before (b ∷ []) u) at said

-- pieces are texts, the first one behind what comes before it
abbrev AreTexts : List ℕ → List (List ℕ) → Type 0
AreTexts before [] = ⊥
AreTexts before (piece ∷ more) = IsUtf8 (before ++ piece) × All IsUtf8 more

all_texts : (ps : List (List ℕ)) → AreTexts [] ps → All IsUtf8 ps
all_texts [] x = absurd x
all_texts (piece ∷ more) x = All-cons IsUtf8 piece more x.0 x.1

onto_texts : (before : List ℕ) (b : ℕ) (ps : List (List ℕ)) → AreTexts (before ++ b ∷ []) ps → AreTexts before (onto_first b ps)
onto_texts before b [] x = absurd x
onto_texts before b (piece ∷ more) x = (rw (append_assoc before (b ∷ []) piece) at x.0, x.1)

-- those of a text are
pieces_utf8 : (t before : List ℕ) → IsUtf8 (before ++ t) → AreTexts before (pieces t)
pieces_utf8 [] before utf8 = (utf8, All-nil IsUtf8)
pieces_utf8 (b ∷ t) before utf8 = elim (eqb_tells b 47) [
  | inl slash ↦
      let parts = around_ascii before (omega (arith, slash.1)) utf8 in
      let first : IsUtf8 (before ++ []) = rw (append-nil before) parts.0 in
      rw slash.0 (first, all_texts (pieces t) (pieces_utf8 t [] parts.1))
  | inr other ↦
      let all : IsUtf8 ((before ++ b ∷ []) ++ t) = rw (append_assoc before (b ∷ []) t) utf8 in
      rw other.0 (onto_texts before b (pieces t) (pieces_utf8 t (before ++ b ∷ []) all))
]

-- so are the tokens of a pointer
tokens_utf8 : {ps : List (List ℕ)} {ts : List Token} → AreTokens ps ts → All IsUtf8 ps → AreKeys ts
tokens_utf8 no_more_tokens all = All-nil IsUtf8
tokens_utf8 (one_more_token {piece} {pieces = more} {token} {tokens} x xs) all =
    All-cons IsUtf8 token tokens (token_utf8 x [] (All-head IsUtf8 piece more all)) (tokens_utf8 xs (All-tail IsUtf8 piece more all))

pub pointer_utf8 : {t : List ℕ} {ts : List Token} → SaysTokens t ts → IsUtf8 t → AreKeys ts
pointer_utf8 no_token utf8 = All-nil IsUtf8
pointer_utf8 (some_tokens {t} xs) utf8 = tokens_utf8 xs (all_texts (pieces t) (pieces_utf8 t [] (around_ascii [] (omega arith) utf8).1))
