-- White space, literals and numbers have no quote, no backslash and no bracket.
use Rattle.std.proofs.Common.{◌≡◌, ◌≢◌, ℕ, zero, suc, ◌+◌, ◌-◌, ◌<◌, ◌==◌, ◌||◌, ◌&&◌, Bool, true, false, not, List, [], ◌∷◌, length, drop, slice_index, refl, sym, ap, ◌∙◌, arith}
use Rattle.std.proofs.lemmas.Bool.{false≢true}
use Rattle.std.proofs.lemmas.List.{get_or-drop}
use Rattle.std.proofs.lemmas.List.Sums.{prefix_len_passes}
use Rattle.std.specs.List.{prefix_len}
use Rattle.sonic_blocks.specs.Outside.{IsClear}
use Rattle.sonic_text.specs.declared.kind.Kind.{Kind}
use Rattle.sonic_text.specs.declared.kind.Kind.TheVariants.{Array, Object}
use Rattle.sonic_text.specs.Places.{byte, is_space, after_space}
use Rattle.sonic_text.specs.Literals.{IsLiteral}
use Rattle.sonic_text.specs.Numbers.{IsNumber}
use Rattle.sonic_text.proofs.LevelLemmas.{Rises, quiet, stays, chain}
use Rattle.sonic_text.proofs.NumberBytes.{in_number, number_bytes}
use Rattle.sonic_text.proofs.Numbers.{number_longer}

-- no quote, no backslash and no bracket
abbrev pub is_ordinary : ℕ → Bool
is_ordinary b = not (b == 34 || b == 92 || b == 91 || b == 93 || b == 123 || b == 125)

-- a test that these six bytes fail
abbrev pub OnlyOrdinary : (ℕ → Bool) → Type 0
OnlyOrdinary test = (test 34 ≡ false) × (test 92 ≡ false) × (test 91 ≡ false) × (test 93 ≡ false) × (test 123 ≡ false) × (test 125 ≡ false)

-- the word has none of them
abbrev all_ordinary : List ℕ → Bool
all_ordinary [] = true
all_ordinary (b ∷ bs) = is_ordinary b && all_ordinary bs

both : (a b : Bool) → (a && b) ≡ true → (a ≡ true) × (b ≡ true)
both true b h = (refl, h)
both false b h = absurd (false≢true h)

each : (word : List ℕ) → all_ordinary word ≡ true → (k : ℕ) → k < length word → is_ordinary (slice_index word k) ≡ true
each [] h k l = absurd (omega arith)
each (b ∷ bs) h zero l = (both (is_ordinary b) (all_ordinary bs) h).0
each (b ∷ bs) h (suc k) l = each bs (both (is_ordinary b) (all_ordinary bs) h).1 k (omega arith)

module _ (kind : Kind) (t : List ℕ) (s : ℕ) where
  -- one byte that passes such a test
  pub ordinary_byte : (test : ℕ → Bool) → OnlyOrdinary test → {p : ℕ} → IsClear t s p → test (byte t p) ≡ true → Rises kind t s 0 p (p + 1)
  ordinary_byte test (quote, slash, array_opens, array_closes, object_opens, object_closes) {p} h passes = go kind
    where
      no : (c : ℕ) → test c ≡ false → byte t p ≢ c
      no c fails is = false≢true (sym fails ∙ ap test (sym is) ∙ passes)

      go : (k : Kind) → Rises k t s 0 p (p + 1)
      go Array = quiet t s h (no 34 quote) (no 92 slash) (no 91 array_opens) (no 93 array_closes)
      go Object = quiet t s h (no 34 quote) (no 92 slash) (no 123 object_opens) (no 125 object_closes)

  -- one byte that is known
  pub known_byte : (b : ℕ) → OnlyOrdinary (λ x. x == b) → (b == b) ≡ true → {p : ℕ} → IsClear t s p → byte t p ≡ b → Rises kind t s 0 p (p + 1)
  known_byte b only same h is = ordinary_byte (λ x. x == b) only h (ap (λ x. x == b) is ∙ same)

  -- n bytes that pass
  stretch : (test : ℕ → Bool) → OnlyOrdinary test → (n : ℕ) {p q : ℕ} → IsClear t s p → q ≡ p + n → ((k : ℕ) → k < n → test (byte t (p + k)) ≡ true) → Rises kind t s 0 p q
  stretch test only zero {p} {q} h e at = let same : q ≡ p = omega arith in rw same (stays t s kind h)
  stretch test only (suc n) {p} {q} h e at =
      let before : Rises kind t s 0 p (p + n) = stretch test only n h refl (λ k l. at k (omega arith)) in
      let same : q ≡ p + n + 1 = omega arith in
      rw same (chain t s before (ordinary_byte test only before.clear (at n (omega arith))))

  -- a run of bytes that pass
  run : (test : ℕ → Bool) → OnlyOrdinary test → {p : ℕ} → IsClear t s p → Rises kind t s 0 p (p + prefix_len test (drop p t))
  run test only {p} h = stretch test only _ h refl (λ k l. ap test (sym (get_or-drop p t k 0)) ∙ prefix_len_passes test (drop p t) k 0 l)

  pub spaces : {p : ℕ} → IsClear t s p → Rises kind t s 0 p (after_space t p)
  spaces h = run is_space (refl, refl, refl, refl, refl, refl) h

  -- a word
  pub letters : (word : List ℕ) → all_ordinary word ≡ true → {p q : ℕ} → IsClear t s p → IsLiteral word t p q → Rises kind t s 0 p q
  letters word all h l = stretch is_ordinary (refl, refl, refl, refl, refl, refl) (length word) h l.1 (λ k m. ap is_ordinary (l.0.1 k m) ∙ each word all k m)

  -- a number
  pub number_level : {i j : ℕ} → IsClear t s i → IsNumber t i j → Rises kind t s 0 i j
  number_level {i} {j} h n =
      let l = number_longer n in
      stretch in_number (refl, refl, refl, refl, refl, refl) (j - i) h (omega arith) (λ k m. number_bytes t i j n (i + k) (omega arith) (omega arith))
