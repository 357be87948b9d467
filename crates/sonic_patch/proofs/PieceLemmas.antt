-- The pieces of a pointer, and the tokens that they say.
use Rattle.std.proofs.Common.{◌≡◌, ◌≢◌, ◌==◌, ◌+◌, ◌<◌, ◌≤◌, ap, ap₂, refl, inl, inr, ℕ, false, List, [], ◌∷◌, ◌++◌, length, length-append, arith}
use Rattle.std.proofs.lemmas.Bool.Decides.{eqb_tells}
use Rattle.sonic_patch.proofs.EscapeLemmas.{Lacks, lacks_first, lacks_rest, token_one}
use Rattle.sonic_patch.specs.Internal.Pieces.{IsTokenText, IsReadBy, SayTokens}
use Rattle.sonic_patch.specs.Pointers.{pieces, Token, AreTokens, no_more_tokens, one_more_token, SaysTokens, no_token, some_tokens, SaysFewTokens}

-- a byte that is no slash
no_slash : (b : ℕ) → b ≢ 47 → (b == 47) ≡ false
no_slash b other = elim (eqb_tells b 47) [ inl e ↦ absurd (other e.1) | inr d ↦ d.0 ]

-- a text without a slash is one piece
pub whole_piece : (t : List ℕ) → Lacks t 47 → pieces t ≡ t ∷ []
whole_piece [] none = refl
whole_piece (b ∷ t) none = rw (no_slash b (lacks_first t none), whole_piece t (lacks_rest t none)) refl

-- and one with a slash is what comes before it, and the pieces behind it
piece_before : (piece behind : List ℕ) → Lacks piece 47 → pieces (piece ++ (47 ∷ behind)) ≡ piece ∷ pieces behind
piece_before [] behind none = refl
piece_before (b ∷ piece) behind none = rw (no_slash b (lacks_first piece none), piece_before piece behind (lacks_rest piece none)) refl

pub first_before : {t piece : List ℕ} (behind : List ℕ) → t ≡ piece ++ (47 ∷ behind) → Lacks piece 47 → (pieces t ≡ piece ∷ pieces behind) × (length behind < length t)
first_before {piece = piece} behind e none = (
  rw e (piece_before piece behind none),
  omega (arith, ap length e, length-append piece (47 ∷ behind)),
)

-- tokens of pieces, one by one
pub are_head : {ps qs : List (List ℕ)} {p : List ℕ} {ts : List Token} → AreTokens ps ts → ps ≡ p ∷ qs → IsTokenText p × (us : List Token) × AreTokens qs us
are_head no_more_tokens e = absurd cc
are_head {qs = qs} {p} (one_more_token {piece} {pieces = rest} {token} {tokens} x xs) e =
    let first : piece ≡ p = cc in
    let others : rest ≡ qs = cc in
    ((token, rw first at x), tokens, rw others at xs)

-- so a piece that is no token spoils them
pub spoils : {ps qs : List (List ℕ)} {p : List ℕ} → ps ≡ p ∷ qs → ¬ IsTokenText p → (ts : List Token) → ¬ AreTokens ps ts
spoils e bad ts are = bad (are_head are e).0

pub others_said : {ps qs : List (List ℕ)} {p : List ℕ} {ts : List Token} → ps ≡ p ∷ qs → AreTokens ps ts → (us : List Token) × AreTokens qs us
others_said e are = let parts = are_head are e in (parts.1, parts.2)

-- the last piece says one token, and another one says one more
pub last_token : {ps : List (List ℕ)} {p : List ℕ} → ps ≡ p ∷ [] → IsTokenText p → SayTokens ps 1
last_token e x = record { tokens = x.0 ∷ []; are = rw e (one_more_token x.1 no_more_tokens); count = refl }

pub more_tokens : {ps qs : List (List ℕ)} {p : List ℕ} {n : ℕ} → ps ≡ p ∷ qs → IsTokenText p → SayTokens qs n → SayTokens ps (1 + n)
more_tokens {n = n} e x say = record { tokens = x.0 ∷ say.tokens; are = rw e (one_more_token x.1 say.are); count = omega (arith, say.count) }

-- pieces say one list of tokens
pub are_one : {ps qs : List (List ℕ)} {ts us : List Token} → AreTokens ps ts → AreTokens qs us → ps ≡ qs → ts ≡ us
are_one no_more_tokens no_more_tokens e = refl
are_one no_more_tokens (one_more_token y ys) e = absurd cc
are_one (one_more_token x xs) no_more_tokens e = absurd cc
are_one (one_more_token {piece = p} {pieces = ps} x xs) (one_more_token {piece = q} {pieces = qs} y ys) e =
    let first : p ≡ q = cc in
    let rest : ps ≡ qs = cc in
    ap₂ (λ t ts. t ∷ ts) (token_one x y first) (are_one xs ys rest)

-- what a pointer says behind its first slash
pub behind_slash : {s t : List ℕ} {ts : List Token} → SaysTokens s ts → s ≡ 47 ∷ t → AreTokens (pieces t) ts
behind_slash no_token e = absurd cc
behind_slash {t = t} (some_tokens {t = behind} xs) e = let same : behind ≡ t = cc in rw same at xs

-- so a pointer says one list of tokens
pub tokens_one : {s t : List ℕ} {ts us : List Token} → SaysTokens s ts → SaysTokens t us → s ≡ t → ts ≡ us
tokens_one no_token no_token e = refl
tokens_one no_token (some_tokens ys) e = absurd cc
tokens_one (some_tokens xs) no_token e = absurd cc
tokens_one (some_tokens {t} xs) (some_tokens {t = s} ys) e = let same : t ≡ s = cc in are_one xs ys (ap pieces same)

-- a text that is empty is a pointer, and one that begins with another byte than a slash is none
pub empty_fits : (t : List ℕ) → length t ≡ 0 → IsReadBy SaysFewTokens t
empty_fits [] e = ([], (no_token, omega arith))
empty_fits (b ∷ t) e = absurd (omega (arith, e))

pub other_start : {t : List ℕ} {ts : List Token} → length t ≢ 0 → ((behind : List ℕ) → t ≢ 47 ∷ behind) → ¬ SaysTokens t ts
other_start some none no_token = some refl
other_start some none (some_tokens {t} xs) = none t refl

-- behind a slash there are as many tokens as the pieces say
pub few_fit : {t behind : List ℕ} {n : ℕ} → t ≡ 47 ∷ behind → SayTokens (pieces behind) n → n ≤ 255 → IsReadBy SaysFewTokens t
few_fit e say few = (say.tokens, (rw e (some_tokens say.are), omega (arith, say.count, few)))

pub many_never_fit : {t behind : List ℕ} {n : ℕ} → t ≡ 47 ∷ behind → SayTokens (pieces behind) n → 255 < n
    → IsReadBy SaysTokens t × ¬ IsReadBy SaysFewTokens t
many_never_fit e say many = (
  (say.tokens, rw e (some_tokens say.are)),
  λ x.
      let same = are_one (behind_slash x.1.0 e) say.are refl in
      omega (arith, x.1.1, ap length same, say.count, many),
)

pub none_behind : {t behind : List ℕ} → t ≡ 47 ∷ behind → ((tokens : List Token) → ¬ AreTokens (pieces behind) tokens) → ¬ IsReadBy SaysTokens t
none_behind e none x = none x.0 (behind_slash x.1 e)

-- so where a pointer has few tokens, its tokens are few
pub few_said : {t : List ℕ} {ts : List Token} → IsReadBy SaysFewTokens t → SaysTokens t ts → length ts ≤ 255
few_said fits x = let f = fits.1 in omega (arith, ap length (tokens_one x f.0 refl), f.1)

-- what a pointer that doesn't begin with a slash says
pub none_said : {t : List ℕ} {ts : List Token} → SaysTokens t ts → ((behind : List ℕ) → t ≢ 47 ∷ behind) → SaysTokens t []
none_said no_token none = no_token
none_said (some_tokens {t} xs) none = absurd (none t refl)

-- tokens between slashes, with a slash before them
pub after_slash : {t behind : List ℕ} {ts : List Token} → t ≡ 47 ∷ behind → AreTokens (pieces behind) ts → SaysTokens t ts
after_slash e are = rw e (some_tokens are)
