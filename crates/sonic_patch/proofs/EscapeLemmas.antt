-- What a piece of a pointer says, from tilde to tilde.
use Rattle.std.proofs.Common.{◌≡◌, ◌≢◌, ◌<◌, ap, sym, refl, ℕ, suc, List, [], ◌∷◌, ◌++◌, length, length-append, append_assoc, drop, get_or, arith}
use Rattle.sonic_patch.specs.Internal.Pieces.{IsTokenText, IsTokenEscape}
use Rattle.sonic_patch.specs.Pointers.{Token, SaysToken, no_byte, a_slash, a_tilde, a_byte}

-- the byte isn't in the text
abbrev pub Lacks : List ℕ → ℕ → Type 0
Lacks t b = (i : ℕ) → i < length t → get_or t i 0 ≢ b

pub lacks_first : {x b : ℕ} (t : List ℕ) → Lacks (x ∷ t) b → x ≢ b
lacks_first t none = none 0 (omega arith)

pub lacks_rest : {x b : ℕ} (t : List ℕ) → Lacks (x ∷ t) b → Lacks t b
lacks_rest t none i within = none (suc i) (omega (arith, within))

-- plain bytes say themselves, before what says anything
pub plain_says : (plain : List ℕ) {t : List ℕ} {u : Token} → Lacks plain 126 → SaysToken t u → SaysToken (plain ++ t) (plain ++ u)
plain_says [] none x = x
plain_says (b ∷ plain) none x = a_byte (lacks_first plain none) (plain_says plain (lacks_rest plain none) x)

pub plain_token : (t : List ℕ) → Lacks t 126 → SaysToken t t
plain_token [] none = no_byte
plain_token (b ∷ t) none = a_byte (lacks_first t none) (plain_token t (lacks_rest t none))

-- what comes behind a plain byte is a token
pub byte_said : {s t : List ℕ} {b : ℕ} {u : Token} → SaysToken s u → s ≡ b ∷ t → b ≢ 126 → IsTokenText t
byte_said no_byte e other = absurd cc
byte_said (a_slash x) e other = absurd (other cc)
byte_said (a_tilde x) e other = absurd (other cc)
byte_said {t = t} (a_byte {t = s} {u} n x) e other = let same : s ≡ t = cc in (u, rw same at x)

plain_said : (plain : List ℕ) {t : List ℕ} → Lacks plain 126 → IsTokenText (plain ++ t) → IsTokenText t
plain_said [] none x = x
plain_said (b ∷ plain) none x = plain_said plain (lacks_rest plain none) (byte_said x.1 refl (lacks_first plain none))

-- and so is what comes behind an escape
pub data FollowsTilde (t : List ℕ) : Type 0 where
  slash_follows : {more : List ℕ} → t ≡ 49 ∷ more → IsTokenText more → FollowsTilde t
  tilde_follows : {more : List ℕ} → t ≡ 48 ∷ more → IsTokenText more → FollowsTilde t

pub escape_said : {s t : List ℕ} {u : Token} → SaysToken s u → s ≡ 126 ∷ t → FollowsTilde t
escape_said no_byte e = absurd cc
escape_said (a_slash {t = m} {u} x) e = slash_follows {more = m} (ap (drop 1) (sym e)) (u, x)
escape_said (a_tilde {t = m} {u} x) e = tilde_follows {more = m} (ap (drop 1) (sym e)) (u, x)
escape_said (a_byte n x) e = absurd (n cc)

pub behind_said : {d : ℕ} {t more : List ℕ} → t ≡ d ∷ more → FollowsTilde t → IsTokenText more
behind_said {more = more} e (slash_follows {more = m} is x) = let same : m ≡ more = cc in rw same at x
behind_said {more = more} e (tilde_follows {more = m} is x) = let same : m ≡ more = cc in rw same at x

-- a piece up to its first escape, and behind it
escape_at : {rest plain behind more : List ℕ} {d c : ℕ} → c < 128 → rest ≡ plain ++ (126 ∷ behind) → Lacks plain 126 → behind ≡ d ∷ more
    → ((u : Token) → SaysToken more u → SaysToken (126 ∷ d ∷ more) (c ∷ u)) → IsTokenEscape rest plain c more
escape_at {rest} {plain} {behind} {more} {d} low e none is says = record {
  ascii = low;
  less = omega (arith, ap length e, ap length is, length-append plain (126 ∷ behind));
  says = λ u x. rw (e, is) (plain_says plain none (says u x));
  said = λ x.
      let own : IsTokenText (plain ++ (126 ∷ behind)) = rw e at x in
      let tilde = plain_said plain none own in
      behind_said is (escape_said tilde.1 refl);
}

pub slash_at : {rest plain behind more : List ℕ} → rest ≡ plain ++ (126 ∷ behind) → Lacks plain 126 → behind ≡ 49 ∷ more → IsTokenEscape rest plain 47 more
slash_at e none is = escape_at (omega arith) e none is (λ u x. a_slash x)

pub tilde_at : {rest plain behind more : List ℕ} → rest ≡ plain ++ (126 ∷ behind) → Lacks plain 126 → behind ≡ 48 ∷ more → IsTokenEscape rest plain 126 more
tilde_at e none is = escape_at (omega arith) e none is (λ u x. a_tilde x)

-- a tilde before another byte, or at the end, is in no token
pub other_follows : {t : List ℕ} → ((more : List ℕ) → t ≢ 49 ∷ more) → ((more : List ℕ) → t ≢ 48 ∷ more) → ¬ FollowsTilde t
other_follows one null (slash_follows {more} is x) = one more is
other_follows one null (tilde_follows {more} is x) = null more is

pub bad_at : {rest : List ℕ} (plain : List ℕ) {behind : List ℕ} → rest ≡ plain ++ (126 ∷ behind) → Lacks plain 126 → ((more : List ℕ) → behind ≢ 49 ∷ more)
    → ((more : List ℕ) → behind ≢ 48 ∷ more) → ¬ IsTokenText rest
bad_at {rest} plain {behind} e none one null x =
    let own : IsTokenText (plain ++ (126 ∷ behind)) = rw e at x in
    let tilde = plain_said plain none own in
    other_follows one null (escape_said tilde.1 refl)

never_both : {t s : List ℕ} → 126 ∷ 49 ∷ t ≡ 126 ∷ 48 ∷ s → ⊥
never_both e = let clash = ap (λ l. get_or l 1 0) e in omega (arith, clash)

-- what is made of a piece, with one escape more
pub joined : (made plain u : List ℕ) (c : ℕ) → ((made ++ plain) ++ (c ∷ [])) ++ u ≡ made ++ (plain ++ (c ∷ u))
joined made plain u c = simp append_assoc refl

-- a token says one text
pub token_one : {t s : List ℕ} {u w : Token} → SaysToken t u → SaysToken s w → t ≡ s → u ≡ w
token_one no_byte no_byte e = refl
token_one no_byte (a_slash y) e = absurd cc
token_one no_byte (a_tilde y) e = absurd cc
token_one no_byte (a_byte n y) e = absurd cc
token_one (a_slash x) no_byte e = absurd cc
token_one (a_slash x) (a_slash y) e = ap (λ u. 47 ∷ u) (token_one x y cc)
token_one (a_slash {t} x) (a_tilde {t = s} y) e = absurd (never_both e)
token_one (a_slash x) (a_byte n y) e = absurd (n cc)
token_one (a_tilde x) no_byte e = absurd cc
token_one (a_tilde {t} x) (a_slash {t = s} y) e = absurd (never_both (sym e))
token_one (a_tilde x) (a_tilde y) e = ap (λ u. 126 ∷ u) (token_one x y cc)
token_one (a_tilde x) (a_byte n y) e = absurd (n cc)
token_one (a_byte n x) no_byte e = absurd cc
token_one (a_byte n x) (a_slash y) e = absurd (n cc)
token_one (a_byte n x) (a_tilde y) e = absurd (n cc)
token_one (a_byte {b} {u = u} n x) (a_byte {b = c} {u = w} m y) e =
    let first : b ≡ c = cc in
    rw (first, token_one x y cc) refl
