-- A part of a text is a whole value, and what a lazy value holds as a bare fact is so.
use Rattle.std.proofs.Common.{◌≡◌, ◌⊎◌, ◌↔◌, inl, inr, ap, codes, ℕ, zero, suc, ◌+◌, ◌-◌, ◌<◌, List, Bool, true, false, length, arith, refl}
use Rattle.std.proofs.Math.Logic.{∥∥₁_elim, ∥∥₁_map}
use Rattle.std.proofs.lemmas.Bool.{cases_eq, cases_lt}
use Rattle.std.proofs.lemmas.Str.{IsUtf8-had, IsUtf8-from_ascii}
use Rattle.std.specs.Prelude.{IsTrue, slice_range}
use Rattle.sonic_input.specs.Slices.{slice_bytes}
use Rattle.sonic_input.specs.declared.slice.JsonSlice.{JsonSlice}
use Rattle.sonic_lazy.specs.LazyValues.{raw_bytes, has_escapes}
use Rattle.sonic_lazy.specs.Wholes.{IsWholeValue}
use Rattle.sonic_find.specs.Parts.{IsPart}
use Rattle.sonic_lazy.specs.declared.lazyvalue.LazyValue.{LazyValue}
use Rattle.sonic_text.proofs.Outcomes.{value_some_outcome}
use Rattle.sonic_text.proofs.ValueParts.{value_of_part, escaped_of_part}
use Rattle.sonic_text.proofs.Values.{value-longer, value_end_one, value_never_both}
use Rattle.sonic_text.specs.Literals.{IsLiteral}
use Rattle.sonic_text.specs.Places.{byte}
use Rattle.sonic_text.specs.Strings.{strict, IsEscapedString}
use Rattle.sonic_text.specs.Values.{IsValue}
use Rattle.sonic_text.specs.Values.IsValue.{null_literal}

-- what can't be has at most one proof
no_proof : IsProp ⊥
no_proof = hlevel arith

-- what is said to be a value from end to end is one
value_had : (b : List ℕ) → ∥ IsValue strict b 0 (length b) ∥₁ → IsValue strict b 0 (length b)
value_had b h = elim (value_some_outcome strict b 0) [
  | inl x ↦ elim (cases_eq x.0 (length b)) [
    | inl e ↦ rw e at x.1
    | inr d ↦ absurd (∥∥₁_elim h no_proof (λ y. d (value_end_one x.1 y)))
  ]
  | inr f ↦ absurd (∥∥₁_elim h no_proof (λ y. value_never_both y f.1))
]

-- some place before n is such a one, or none is
some_before : (Is : ℕ → Type 0) → ((k : ℕ) → Is k ⊎ ¬ Is k) → (n : ℕ) → ((k : ℕ) × (k < n) × Is k) ⊎ ((k : ℕ) → k < n → ¬ Is k)
some_before Is test zero = inr (λ k l. absurd (omega arith))
some_before Is test (suc n) = elim (some_before Is test n) [
  | inl x ↦ (let l = x.1 in inl (x.0, omega arith, x.2))
  | inr none ↦ elim (test n) [
    | inl is ↦ inl (n, omega arith, is)
    | inr other ↦ inr (λ k l is. elim (cases_eq k n) [ inl e ↦ other (rw e at is) | inr d ↦ none k (omega arith) is ])
  ]
]

-- a backslash after i
abbrev IsBackslash : List ℕ → ℕ → ℕ → Type 0
IsBackslash b i k = (i < k) × (byte b k ≡ 92)

-- is at k, or isn't
backslash_or_not : (b : List ℕ) (i k : ℕ) → IsBackslash b i k ⊎ ¬ IsBackslash b i k
backslash_or_not b i k = elim (cases_lt i k) [
  | inr l ↦ inr (λ x. omega (arith, l, x.0))
  | inl l ↦ elim (cases_eq (byte b k) 92) [ inl c ↦ inl (l, c) | inr c ↦ inr (λ x. c x.1) ]
]

-- a string with a backslash is here, or there is none
escaped_or_not : (b : List ℕ) (i j : ℕ) → IsEscapedString b i j ⊎ ¬ IsEscapedString b i j
escaped_or_not b i j = elim (cases_eq (byte b i) 34) [
  | inr d ↦ inr (λ x. d x.0)
  | inl q ↦ elim (some_before (IsBackslash b i) (backslash_or_not b i) (j - 1)) [
    | inl x ↦ (let l = x.1 in inl (q, x.0, x.2.0, omega arith, x.2.1))
    | inr none ↦ inr (λ x. let l = x.3 in none x.1 (omega arith) (x.2, x.4))
  ]
]

-- false isn't true
pub false_not_true : IsTrue false → ⊥
false_not_true e = cc

-- what is said of escapes is so
escapes_had : (b : List ℕ) (i j : ℕ) (m : Bool) → ∥ IsTrue m ↔ IsEscapedString b i j ∥₁ → IsTrue m ↔ IsEscapedString b i j
escapes_had b i j true h = elim (escaped_or_not b i j) [
  | inl x ↦ (λ t. x, λ y. refl)
  | inr none ↦ absurd (∥∥₁_elim h no_proof (λ e. none (e.0 refl)))
]
escapes_had b i j false h = (λ e. absurd (false_not_true e), λ y. absurd (∥∥₁_elim h no_proof (λ e. false_not_true (e.1 y))))

-- what is said to be a whole value is one
pub whole_had : (b : List ℕ) (m : Bool) → ∥ IsWholeValue b m ∥₁ → IsWholeValue b m
whole_had b m h = record {
  value = value_had b (∥∥₁_map h (λ x. x.value));
  utf8 = IsUtf8-had b (∥∥₁_map h (λ x. x.utf8));
  escapes = escapes_had b 0 (length b) m (∥∥₁_map h (λ x. x.escapes));
}

-- a lazy value holds a whole value
pub lazy_is_whole : (value : LazyValue) → IsWholeValue (raw_bytes value) (has_escapes value)
lazy_is_whole value = whole_had (raw_bytes value) (has_escapes value) value.whole

-- two lazy values of one text that say the same of escapes are one
pub lazy_one : (raw : JsonSlice) (m : Bool) (h g : ∥ IsWholeValue (slice_bytes raw) m ∥₁)
    → ◌≡◌ {A = LazyValue} (record { raw = raw; has_escaped = m; whole = h }) (record { raw = raw; has_escaped = m; whole = g })
lazy_one raw m h g = ap (λ (x : ∥ IsWholeValue (slice_bytes raw) m ∥₁). record { raw = raw; has_escaped = m; whole = x }) (squash₁ h g)

-- the word null is in its own letters
null_is : IsLiteral (codes "null") (codes "null") 0 4
null_is = ((omega arith, λ k l. let e : 0 + k ≡ k = omega arith in rw e refl), refl)

-- it is no string
null_has_none : IsTrue false ↔ IsEscapedString (codes "null") 0 4
null_has_none = (λ e. absurd (false_not_true e), λ x. absurd (let q = x.0 in omega arith))

-- each byte of it is ASCII
null_ascii : (i : ℕ) → byte (codes "null") i < 128
null_ascii zero = omega arith
null_ascii (suc zero) = omega arith
null_ascii (suc (suc zero)) = omega arith
null_ascii (suc (suc (suc zero))) = omega arith
null_ascii (suc (suc (suc (suc i)))) = omega arith

-- and so it is a whole value
pub null_is_whole : IsWholeValue (codes "null") false
null_is_whole = record { value = null_literal null_is; utf8 = IsUtf8-from_ascii (codes "null") null_ascii; escapes = null_has_none }

-- a part of a text is a whole value
pub whole_of_part : {t b : List ℕ} {i j : ℕ} {escaped : Bool} → b ≡ slice_range t i j → IsPart t i j → IsTrue escaped ↔ IsEscapedString t i j → IsWholeValue b escaped
whole_of_part {t} {b} {i} {j} e p (says, has) =
    let (v, w) = escaped_of_part t i j (value-longer p.value) p.inside in
    record {
      value = rw e (value_of_part p.value p.inside);
      utf8 = rw e p.utf8;
      escapes = rw e (λ h. v (says h), λ h. has (w h));
    }

pub ruleset entries = (whole_of_part, value-longer)
