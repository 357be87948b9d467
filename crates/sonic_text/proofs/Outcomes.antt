-- A value that is expected has an outcome.
use Rattle.std.proofs.Common.{◌≡◌, ◌⊎◌, ℕ, zero, suc, ◌+◌, ◌<◌, ◌≤◌, inl, inr, length, arith, refl, codes}
use Rattle.std.proofs.lemmas.Bool.{cases_eq}
use Rattle.std.specs.Prelude.{Bool, List}
use Rattle.sonic_text.specs.declared.kind.Kind.{Kind}
use Rattle.sonic_text.specs.declared.kind.Kind.TheVariants.{Object}
use Rattle.sonic_text.specs.declared.stop.Stop.{Stop}
use Rattle.sonic_text.specs.Places.{byte, after_space, IsDigit}
use Rattle.sonic_text.specs.Literals.{IsLiteral, IsLiteralFault}
use Rattle.sonic_text.specs.Values.{opening, closing, IsValue, ItemsFit}
use Rattle.sonic_text.specs.Values.IsValue.{null_literal, true_literal, false_literal, number, string, empty, filled}
use Rattle.sonic_text.specs.Values.ItemsFit.{first_item, next_item}
use Rattle.sonic_text.specs.Faults.{IsFault, NothingFits}
use Rattle.sonic_text.specs.Faults.IsFault.{no_value, null_fault, true_fault, false_fault, number_fault, string_fault, in_key, in_value, after_item}
use Rattle.sonic_text.proofs.FirstByteLemmas.{Sort, none, a_null, a_true, a_false, a_number, a_string, a_container, Begins, sort_of, begins_of}
use Rattle.sonic_text.proofs.Places.{after_space_later, byte_within}
use Rattle.sonic_text.proofs.LiteralLemmas.{literal_some}
use Rattle.sonic_text.proofs.Numbers.{number_some}
use Rattle.sonic_text.proofs.Items.{head_some, opening_not_end}
use Rattle.sonic_text.proofs.Strings.{string_some}
use Rattle.sonic_text.proofs.Values.{head-later, value-longer, items-later}

-- a value that is expected ends somewhere, or it isn't there for some reason
abbrev pub SomeOutcome : Bool → List ℕ → ℕ → Type 0
SomeOutcome m t i = ((j : ℕ) × IsValue m t i j) ⊎ ((s : Stop) × IsFault m t i s)

-- each value that is expected after i has an outcome
abbrev SomeAfter : Bool → List ℕ → ℕ → Type 0
SomeAfter m t i = (w : ℕ) → i < w → SomeOutcome m t w

-- after e is this bracket, or a comma, with the next place after it, or neither fits
data After (t : List ℕ) (e bracket : ℕ) : Type 0 where
  closed : byte t (after_space t e) ≡ bracket → After t e bracket
  leads_on : (w : ℕ) → byte t (after_space t e) ≡ 44 → w ≡ after_space t (after_space t e + 1) → e < length t → e < w → After t e bracket
  neither : NothingFits t e bracket → After t e bracket

-- what follows a value
after : (t : List ℕ) (e bracket : ℕ) → After t e bracket
after t e bracket = elim (cases_eq (byte t (after_space t e)) bracket) [
  | inl c ↦ closed c
  | inr c ↦ elim (cases_eq (byte t (after_space t e)) 44) [
    | inr d ↦ neither (d, c)
    | inl d ↦
        let l : e ≤ after_space t e = after_space_later t e in
        let o : after_space t e < length t = byte_within t (after_space t e) (λ z. omega arith) in
        let p : after_space t e + 1 ≤ after_space t (after_space t e + 1) = after_space_later t (after_space t e + 1) in
        leads_on (after_space t (after_space t e + 1)) d refl (omega arith) (omega arith)
  ]
]

-- a container has an outcome, if the values after its next item have one, and if it has one where a comma leads on
item_step : (m : Bool) (t : List ℕ) (kind : Kind) (i n h : ℕ) → SomeAfter m t i → ItemsFit m t kind i n h
    → ((p g : ℕ) → h < length t → h < g → ItemsFit m t kind i p g → SomeOutcome m t i) → SomeOutcome m t i
item_step m t kind i n h some is next = elim (head_some m t kind h) [
  | inr (s, k, f) ↦ let ks : ItemsFit m t Object i n h = rw (← k) is in inr (s, in_key ks f)
  | inl (v, b, y) ↦
      let l : h ≤ v = head-later y in
      elim (some v (omega (arith, items-later is))) [
        | inr (s, f) ↦ inr (s, in_value is y f)
        | inl (e, x) ↦ elim (after t e (closing kind)) [
          | closed c ↦ inl (after_space t e + 1, filled is y x c refl)
          | neither c ↦ inr (_, after_item is y x c refl)
          | leads_on w c q d o ↦ (let r : v < e = value-longer x in next (n + 1) w (omega arith) (omega arith) (next_item is y x c q refl))
        ]
      ]
]

-- a container of which n items fit has an outcome, by the number of places from the next item on
items_from : (m : Bool) (t : List ℕ) (kind : Kind) (i fuel n h : ℕ) → SomeAfter m t i → ItemsFit m t kind i n h → length t < h + fuel → SomeOutcome m t i
items_from m t kind i zero n h some is l = item_step m t kind i n h some is (λ p w o d fs. absurd (omega arith))
items_from m t kind i (suc fuel) n h some is l = item_step m t kind i n h some is (λ p w o d fs. items_from m t kind i fuel p w some fs (omega arith))

-- a container has an outcome, if the values after its beginning have one
container_some : (m : Bool) (t : List ℕ) (kind : Kind) (i : ℕ) → SomeAfter m t i → byte t i ≡ opening kind → SomeOutcome m t i
container_some m t kind i some b = elim (cases_eq (byte t (after_space t (i + 1))) (closing kind)) [
  | inl c ↦ inl (after_space t (i + 1) + 1, empty kind b c refl)
  | inr c ↦ items_from m t kind i (suc (length t)) 0 (after_space t (i + 1)) some (first_item b refl c refl) (omega arith)
]

-- a value that begins as a word does has an outcome
word_some : (word : List ℕ) (m : Bool) (t : List ℕ) (i : ℕ) → i < length t → ((j : ℕ) → IsLiteral word t i j → IsValue m t i j)
    → ((s : Stop) → IsLiteralFault word t i s → IsFault m t i s) → SomeOutcome m t i
word_some word m t i l value fault = elim (literal_some word t i (omega arith)) [
  | inl h ↦ inl (h.0, value h.0 h.1)
  | inr f ↦ inr (f.0, fault f.0 f.1)
]

-- a value that begins as a number does has an outcome
number_outcome : (m : Bool) (t : List ℕ) (i : ℕ) → (byte t i ≡ 45) ⊎ IsDigit (byte t i) → SomeOutcome m t i
number_outcome m t i b = elim (number_some t i) [ inl h ↦ inl (h.0, number h.1) | inr f ↦ inr (f.0, number_fault b f.1) ]

-- a value that begins as a string does has an outcome
string_outcome : (m : Bool) (t : List ℕ) (i : ℕ) → byte t i ≡ 34 → SomeOutcome m t i
string_outcome m t i b = elim (string_some m t i b) [ inl h ↦ inl (h.0, string h.1.1) | inr f ↦ inr (f.0, string_fault b f.1) ]

-- a value of some sort has an outcome, if the values after it have one
sort_some : (k : Sort) (m : Bool) (t : List ℕ) (i : ℕ) → Begins k (byte t i) → (i < length t → SomeAfter m t i) → SomeOutcome m t i
sort_some none m t i b some = inr (_, no_value b refl)
sort_some a_null m t i b some =
    word_some (codes "null") m t i (byte_within t i (λ e. omega arith)) (λ j h. null_literal h) (λ s f. null_fault b f)
sort_some a_true m t i b some =
    word_some (codes "true") m t i (byte_within t i (λ e. omega arith)) (λ j h. true_literal h) (λ s f. true_fault b f)
sort_some a_false m t i b some =
    word_some (codes "false") m t i (byte_within t i (λ e. omega arith)) (λ j h. false_literal h) (λ s f. false_fault b f)
sort_some a_number m t i b some = number_outcome m t i b
sort_some a_string m t i b some = string_outcome m t i b
sort_some (a_container kind) m t i b some = container_some m t kind i (some (byte_within t i (λ e. opening_not_end kind (omega arith)))) b

-- a value has an outcome, if the values after it have one
some_here : (m : Bool) (t : List ℕ) (i : ℕ) → (i < length t → SomeAfter m t i) → SomeOutcome m t i
some_here m t i some = sort_some (sort_of (byte t i)) m t i (begins_of (sort_of (byte t i)) (byte t i) refl) some

-- a value has an outcome, by the number of places from i on
some_from : (n : ℕ) (m : Bool) (t : List ℕ) (i : ℕ) → length t < i + n → SomeOutcome m t i
some_from zero m t i l = some_here m t i (λ h. absurd (omega arith))
some_from (suc n) m t i l = some_here m t i (λ o w h. some_from n m t w (omega arith))

-- a value that is expected has an outcome
pub value_some_outcome : (m : Bool) (t : List ℕ) (i : ℕ) → SomeOutcome m t i
value_some_outcome m t i = some_from (suc (length t)) m t i (omega arith)
