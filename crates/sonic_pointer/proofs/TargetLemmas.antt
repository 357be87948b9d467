-- Strings that are compared with a key by their bytes.
use Rattle.std.proofs.Common.{◌≡◌, ◌≢◌, ℕ, ◌+◌, ◌-◌, ◌<◌, ◌≤◌, List, [], ◌∷◌, length, nat_cmp, Option, Some, None, IfNone, Ordering, Less, Equal, Greater, refl, sym, ap, ◌∙◌, arith}
use Rattle.std.proofs.lemmas.Cmp.{nat_cmp_total, tied_itself}
use Rattle.std.proofs.lemmas.List.Edits.{get_or-between, length-between}
use Rattle.std.specs.Cmp.Lexicographic.{slice_cmp}
use Rattle.std.specs.FinMap.{nat_cmp-IsAntisymmetric}
use Rattle.std.specs.Ordering.{ordering_then}
use Rattle.std.specs.List.{slice_range}
use Rattle.sonic_text.specs.Places.{byte}
use Rattle.sonic_text.specs.Strings.{IsChar, IsString, IsEscapedString, strict}
use Rattle.sonic_text.proofs.Places.{byte_within}
use Rattle.sonic_text.proofs.PlainStrings.{plain_string}
use Rattle.sonic_text.proofs.Strings.{Chain, chain_of}

-- a char that doesn't begin with a backslash is its byte
plain_char : {t : List ℕ} {p q : ℕ} {b : List ℕ} → byte t p ≢ 92 → IsChar strict t p q b → b ≡ byte t p ∷ []
plain_char e (IsChar.unescaped u x y) = y
plain_char e (IsChar.short_escape o l x y) = absurd (e o)
plain_char e (IsChar.unicode_escape u x) = absurd (e u.0)

-- so chars of which the first doesn't begin with a backslash begin with its byte
first_of : {t : List ℕ} {i k : ℕ} {b : List ℕ} → byte t i ≢ 92 → i < k → Chain strict t i k b → (rest : List ℕ) × (b ≡ byte t i ∷ rest)
first_of e l (Chain.done x y) = absurd (omega (arith, x))
first_of e l (Chain.more {c = c} h g is) = (c, rw (is, plain_char e h) refl)

-- of two bytes that differ what follows decides nothing
unequal : (x y : ℕ) (o : Ordering) → x ≢ y → ordering_then (nat_cmp x y) o ≡ nat_cmp x y
unequal x y o differs = elim (nat_cmp x y) as (λ v. nat_cmp x y ≡ v → ordering_then v o ≡ v) [
  | Less ↦ λ _. refl
  | Equal ↦ λ e. absurd (differs (nat_cmp-IsAntisymmetric x y e))
  | Greater ↦ λ _. refl
] refl

first_decides : (x : ℕ) (rest key : List ℕ) → 0 < length key → x ≢ byte key 0 → slice_cmp nat_cmp (x ∷ rest) key ≡ nat_cmp x (byte key 0)
first_decides x rest [] l differs = absurd (omega arith)
first_decides x rest (y ∷ key) l differs = unequal x y _ differs

-- a first byte that isn't the key's decides
pub decided : {t b : List ℕ} {i j : ℕ} (key : List ℕ) → IsString strict t i j b → i + 2 < j → 0 < length key → byte t (i + 1) ≢ 92 → byte t (i + 1) ≢ byte key 0
    → nat_cmp (byte t (i + 1)) (byte key 0) ≡ slice_cmp nat_cmp b key
decided {t} {i = i} key s more some plain differs =
    let (rest, e) = first_of plain (omega (arith, s.end)) (chain_of s.chars) in
    sym (first_decides (byte t (i + 1)) rest key some differs) ∙ ap (λ x. slice_cmp nat_cmp x key) (sym e)

-- a string without a backslash denotes the bytes between its quotes
pub plain_key : {t b : List ℕ} {i j : ℕ} → IsString strict t i j b → ¬ IsEscapedString t i j → b ≡ slice_range t (i + 1) (j - 1)
plain_key {t} s none =
    let closed : s.close < length t = byte_within t s.close (λ e. cc (e, s.closes)) in
    plain_string s none (omega (arith, s.end))

-- what holds where nothing is found
pub IfNone_then : {X P Q : Type 0} (r : Option X) → IfNone r P → (P → Q) → IfNone r Q
IfNone_then None h f = f h
IfNone_then (Some x) h f = tt

-- a string that is written as the key, without a backslash, denotes it
pub written : {t b : List ℕ} {i j : ℕ} (key : List ℕ) → IsString strict t i j b → slice_range t (i + 1) (j - 1) ≡ key
    → ((k : ℕ) → k < length (slice_range t (i + 1) (j - 1)) → byte (slice_range t (i + 1) (j - 1)) k ≢ 92) → Equal ≡ slice_cmp nat_cmp b key
written {t} {b} {i} {j} key s same plain =
    let closed : s.close < length t = byte_within t s.close (λ e. cc (e, s.closes)) in
    let within : j ≤ length t = omega (arith, s.end) in
    let long = length-between t (i + 1) (j - 1) (omega arith) in
    let none : ¬ IsEscapedString t i j = λ x.
    let (opens, k, after, before, is) = x in
    let at : i + 1 + (k - (i + 1)) ≡ k = omega arith in
    plain (k - (i + 1)) (omega (arith, long)) (get_or-between t (i + 1) (j - 1) (k - (i + 1)) 0 (omega arith) ∙ (rw at is)) in
    let e : b ≡ key = plain_string s none within ∙ same in
    rw e (sym (equal key)) where
      equal : (key : List ℕ) → slice_cmp nat_cmp key key ≡ Equal
      equal [] = refl
      equal (x ∷ key) = ap (λ o. ordering_then o (slice_cmp nat_cmp key key)) (tied_itself nat_cmp_total x) ∙ equal key
