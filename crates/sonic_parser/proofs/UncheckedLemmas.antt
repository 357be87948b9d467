-- From one place to the next, through a container that is known to be whole.
use Rattle.std.proofs.Common.{◌≡◌, ◌≢◌, ℕ, zero, suc, ◌+◌, ◌<◌, ◌≤◌, Bool, true, false, ◌⊎◌, inl, inr, List, length, refl, sym, ◌∙◌, arith}
use Rattle.std.proofs.lemmas.Bool.{cases_lt, cases_eq, cases_order, false≢true}
use Rattle.std.proofs.lemmas.Bool.Decides.{nat_tests}
use Rattle.sonic_blocks.specs.Firsts.{is_one_of}
use Rattle.sonic_blocks.specs.Outside.{is_inside_at, IsClear}
use Rattle.sonic_text.specs.declared.kind.Kind.{Kind}
use Rattle.sonic_text.specs.declared.kind.Kind.TheVariants.{Array, Object}
use Rattle.sonic_text.specs.Brackets.{LeavesString}
use Rattle.sonic_text.specs.Places.{byte}
use Rattle.sonic_text.specs.Values.{opening, IsKey, IsValue}
use Rattle.sonic_text.specs.Values.IsValue.{number, string}
use Rattle.sonic_text.specs.Literals.{IsLiteral, IsLiteralFault}
use Rattle.sonic_text.specs.Numbers.{IsNumber}
use Rattle.sonic_text.specs.Strings.{IsString}
use Rattle.sonic_text.specs.Faults.{IsFault}
use Rattle.sonic_text.specs.Faults.IsFault.{no_value, number_fault, string_fault}
use Rattle.sonic_text.specs.declared.stop.Stop.{Stop}
use Rattle.sonic_text.proofs.BracketLemmas.{clear_start, string_inside}
use Rattle.sonic_text.proofs.LiteralLemmas.{literal_some}
use Rattle.sonic_text.proofs.Numbers.{digit_or_not, number_some}
use Rattle.sonic_text.proofs.Strings.{string_some}
use Rattle.sonic_text.proofs.Values.{value-longer, value_end_one, value_never_both}
use Rattle.sonic_text.proofs.QuotedLemmas.{StaysInside, last_inside, byte_inside}
use Rattle.sonic_text.proofs.Within.{value_within}
use Rattle.sonic_parser.specs.Internal.Skipping.{IsComplete}
use Rattle.sonic_parser.specs.Internal.Unchecked.{IsWholeString, IsInsideString}
use Rattle.sonic_parser.proofs.BeginningLemmas.{plain_value}

-- a byte that is none of three
none_of : (a b c x : ℕ) → is_one_of a b c x ≡ false → (x ≢ a) × (x ≢ b) × (x ≢ c)
none_of a b c x none = (λ e. grind (arith, nat_tests), λ e. grind (arith, nat_tests), λ e. grind (arith, nat_tests))

-- a quote or a backslash that is no quote
pub one_of : (a b x : ℕ) → is_one_of a b b x ≡ true → x ≢ a → x ≡ b
one_of a b x one other = grind (arith, nat_tests)

-- a bracket that opens is that of a kind
pub kind_of_bracket : (b : ℕ) → (b ≡ 91) ⊎ (b ≡ 123) → (kind : Kind) × (b ≡ opening kind)
kind_of_bracket b (inl e) = (Array, e)
kind_of_bracket b (inr e) = (Object, e)

module _ {t : List ℕ} {s p : ℕ} where
  -- over n bytes of a string that are no quotes and no backslashes
  pub others_inside : (n : ℕ) {q r : ℕ} → r ≡ q + n → StaysInside t s p q → ((k : ℕ) → q ≤ k → k < r → is_one_of 34 92 92 (byte t k) ≡ false) → StaysInside t s p r
  others_inside zero {q} {r} e h others = let same : r ≡ q = omega arith in rw same h
  others_inside (suc n) {q} {r} e h others =
      let same : r ≡ q + n + 1 = omega arith in
      let none = none_of 34 92 92 _ (others (q + n) (omega arith) (omega arith)) in
      rw same (byte_inside t s (others_inside n refl h (λ k l m. others k l (omega arith))) none.0 none.1)

  -- what is inside a string ends before a place outside of it
  pub inside_before : {q j : ℕ} → StaysInside t s p q → p ≤ j → is_inside_at t s j ≡ false → q < j
  inside_before {q} {j} h later outside = elim (cases_lt q j) [ inl l ↦ l | inr l ↦ absurd (false≢true (sym outside ∙ h.inside j later l)) ]

-- the last place of a stretch is inside
pub is_inside : {t : List ℕ} {s p q : ℕ} → StaysInside t s p q → IsInsideString t s q
is_inside {t} {s} h = record { from = h.from; no_escape = h.no_escape; in_string = last_inside t s h }

-- and what leaves the string there leaves it
pub leaves_from : {t : List ℕ} {s i q j : ℕ} → StaysInside t s (i + 1) q → LeavesString t s q j → LeavesString t s i j
leaves_from {q = q} h x = record {
  later = omega (arith, h.later, x.later);
  inside = λ k a b. elim (cases_lt q k) [
    | inl after ↦ x.inside k after b
    | inr before ↦ h.inside k (omega arith) before
  ];
  clear = x.clear;
}

-- two places at which one string ends are one
pub leaves_once : {t : List ℕ} {s i j k : ℕ} → LeavesString t s i j → LeavesString t s i k → j ≡ k
leaves_once {j = j} {k} x y = elim (cases_order j k) [
  | inl e ↦ e
  | inr (inl l) ↦ absurd (false≢true (sym x.clear.no_string ∙ y.inside j x.later l))
  | inr (inr l) ↦ absurd (false≢true (sym y.clear.no_string ∙ x.inside k y.later l))
]

-- a value whose first letter is that of a word ends with the word
pub word_end : {m : Bool} {t : List ℕ} {i j : ℕ} (word : List ℕ) → ((k : ℕ) → IsLiteral word t i k → IsValue m t i k)
    → ((s : Stop) → IsLiteralFault word t i s → IsFault m t i s) → IsValue m t i j → j ≡ i + length word
word_end {m} {t} {i} {j} word ends fails x = elim (literal_some word t i (omega (arith, value-longer x, value_within x))) [
  | inl (k, l) ↦ value_end_one x (ends k l) ∙ l.1
  | inr (s, f) ↦ absurd (value_never_both x (fails s f))
]

-- a value that begins with a quote is a string
pub value_string : {m : Bool} {t : List ℕ} {i j : ℕ} → IsValue m t i j → byte t i ≡ 34 → (b : List ℕ) × IsString m t i j b
value_string {m} {t} {i} {j} x quote = elim (string_some m t i quote) [
  | inl (k, (b, y)) ↦ (let same : j ≡ k = value_end_one x (string y) in (b, rw same y))
  | inr (s, f) ↦ absurd (value_never_both x (string_fault quote f))
]

-- so it is known to be whole
pub value_whole_string : {m : Bool} {t : List ℕ} {i j : ℕ} → IsValue m t i j → byte t i ≡ 34 → IsWholeString t i
value_whole_string {m} {t} {i} {j} x quote =
    let y = value_string x quote in
    record {
      from = i;
      place = j;
      clear = clear_start t i;
      opens = quote;
      later = value-longer x;
      within = value_within x;
      outside = (string_inside m t i j y.0 y.1).clear.no_string;
    }

-- a value that begins with another byte than those of strings, containers and literals is a number
pub value_number : {m : Bool} {t : List ℕ} {i j : ℕ} → IsValue m t i j → byte t i ≢ 34 → byte t i ≢ 123 → byte t i ≢ 91 → byte t i ≢ 110 → byte t i ≢ 116 → byte t i ≢ 102 → IsNumber t i j
value_number {m} {t} {i} {j} x quote object array null truth falsehood = elim (number_some t i) [
  | inl (k, n) ↦ (let same : j ≡ k = value_end_one x (number n) in rw same n)
  | inr (s, f) ↦ elim (digit_or_not (byte t i)) [
    | inl d ↦ absurd (value_never_both x (number_fault (inr d) f))
    | inr d ↦ elim (cases_eq (byte t i) 45) [
      | inl e ↦ absurd (value_never_both x (number_fault (inl e) f))
      | inr e ↦ absurd (value_never_both x (no_value (array, object, quote, e, d, null, truth, falsehood) refl))
    ]
  ]
]

-- a value that is no string, and ends here
pub known_value : {m : Bool} {t : List ℕ} {i j e : ℕ} → IsValue m t i j → byte t i ≢ 34 → e ≡ j → IsComplete m t i (record { start = i; end = e; escaped = false })
known_value x other same = rw same (plain_value other (value-longer x) (value_within x) x)

-- what leaves the string that begins with a key's first quote ends with the key
pub key_string_end : {m : Bool} {t : List ℕ} {k v e : ℕ} {b : List ℕ} (key : IsKey m t k v b) → ((s : ℕ) → IsClear t s k → LeavesString t s k e) → e ≡ key.end
key_string_end {m} {t} {k} key leaves = leaves_once (leaves _ (clear_start t k)) (string_inside m t k _ _ key.string)
