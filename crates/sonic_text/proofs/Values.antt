-- Values and items lead on, and a value that is expected has at most one outcome.
use Rattle.std.proofs.Common.{◌≡◌, ◌≢◌, ℕ, zero, suc, ◌+◌, ◌<◌, inl, inr, sym, ◌∙◌, length, arith, refl, add-zero, codes}
use Rattle.std.proofs.Common.{Result, Ok, Err, MatchResult}
use Rattle.std.proofs.lemmas.Bool.{cases_order}
use Rattle.std.proofs.lemmas.Bool.Decides.{nat_tests}
use Rattle.std.specs.Prelude.{Bool, true, false, List, Option}
use Rattle.sonic_error.specs.declared.code.ErrorCode.TheVariants.{InvalidJsonValue}
use Rattle.sonic_text.specs.declared.kind.Kind.{Kind}
use Rattle.sonic_text.specs.declared.stop.Stop.{Stop}
use Rattle.sonic_text.specs.Places.{byte, is_space, after_space, stop_at}
use Rattle.sonic_text.specs.Literals.{IsLiteral, IsLiteralFault}
use Rattle.sonic_text.specs.Numbers.{IsNumber, IsNumberFault}
use Rattle.sonic_text.specs.Strings.{IsString, IsStringFault}
use Rattle.sonic_text.specs.Values.{opening, closing, ItemHead, IsValue, ItemsFit}
use Rattle.sonic_text.specs.Values.IsValue.{null_literal, true_literal, false_literal, number, string, empty, filled}
use Rattle.sonic_text.specs.Values.ItemsFit.{first_item, next_item}
use Rattle.sonic_text.specs.Faults.{BeginsNone, IsFault}
use Rattle.sonic_text.specs.Faults.IsFault.{no_value, null_fault, true_fault, false_fault, number_fault, string_fault, in_key, in_value, after_item}
use Rattle.sonic_text.proofs.FirstByteLemmas.{Sort, none, a_null, a_true, a_false, a_number, a_string, a_container, Begins, begins_one}
use Rattle.sonic_text.proofs.Items.{Outcome, OneAt, OneAfter, LastItem, at_key, at_value, last_one, last_no_comma, opening_not_end, opening_one}
use Rattle.sonic_text.proofs.Places.{after_space_later, byte_within, space_stays}
use Rattle.sonic_text.proofs.LiteralLemmas.{literal_never_both, literal_fault_one}
use Rattle.sonic_text.proofs.Numbers.{match_one, number_longer, number_begins, number_outcome_one}
use Rattle.sonic_text.proofs.Strings.{string_longer, string_one, string_never_both, string_fault_one}
use Rattle.sonic_text.proofs.Within.{value_within}
pub use Rattle.sonic_text.proofs.Items.{key-longer, key_one, head-later, head_one}

mutual
  -- a value ends after the place where it begins
  pub value-longer : {m : Bool} {t : List ℕ} {i j : ℕ} → IsValue m t i j → i < j
  value-longer (null_literal h) = omega arith
  value-longer (true_literal h) = omega arith
  value-longer (false_literal h) = omega arith
  value-longer (number h) = number_longer h
  value-longer (string h) = string_longer h
  value-longer {t = t} {i = i} (empty kind b c q) = omega (arith, after_space_later t (i + 1))
  value-longer {t = t} (filled {e = e} is y x c q) = omega (arith, items-later is, head-later y, value-longer x, after_space_later t e)

  -- the items of a container lead on
  pub items-later : {m : Bool} {t : List ℕ} {kind : Kind} {i n h : ℕ} → ItemsFit m t kind i n h → i < h
  items-later {t = t} {i = i} (first_item b q d e) = omega (arith, after_space_later t (i + 1))
  items-later {t = t} (next_item {e = e} is y x c q p) =
      omega (arith, items-later is, head-later y, value-longer x, after_space_later t e, after_space_later t (after_space t e + 1))

-- a container begins with its bracket
pub items_open : {m : Bool} {t : List ℕ} {kind : Kind} {i n h : ℕ} → ItemsFit m t kind i n h → byte t i ≡ opening kind
items_open (first_item b q d e) = b
items_open (next_item is y x c q p) = items_open is

-- so containers at one place are of one kind
pub items_kind : {m : Bool} {t : List ℕ} {a b : Kind} {i n p h g : ℕ} → ItemsFit m t a i n h → ItemsFit m t b i p g → a ≡ b
items_kind {a = a} {b} is fs = opening_one a b (let e = items_open is in let f = items_open fs in omega arith)

-- no closing bracket is where the first item is expected
pub items_not_empty : {m : Bool} {t : List ℕ} {kind : Kind} {i n h : ℕ} → ItemsFit m t kind i n h → byte t (after_space t (i + 1)) ≢ closing kind
items_not_empty (first_item b q d e) = rw q at d
items_not_empty (next_item is y x c q p) = items_not_empty is

-- in the container at i the item after the first n is expected at h, its value is from v to e, and a comma follows
pub record IsItem (m : Bool) (t : List ℕ) (kind : Kind) (i n : ℕ) : Type 0 where
  pub h : ℕ
  pub v : ℕ
  pub e : ℕ
  pub key : Option (List ℕ)
  pub before : ItemsFit m t kind i n h
  pub head : ItemHead m t kind h v key
  pub value : IsValue m t v e
  pub comma : byte t (after_space t e) ≡ 44

-- where n items fit, so does each of them
pub items_before : {m : Bool} {t : List ℕ} {kind : Kind} {i p n h : ℕ} → ItemsFit m t kind i n h → p < n → IsItem m t kind i p
items_before (first_item b q d e) l = absurd (omega arith)
items_before {m} {t} {kind} {i} {p} (next_item {p = k} {u} {v} {e} {l = b} is y x c q o) l = elim (cases_order p k) [
  | inl z ↦ let fs : ItemsFit m t kind i p u = rw z is in record { h = u; v = v; e = e; key = b; before = fs; head = y; value = x; comma = c }
  | inr (inl z) ↦ items_before is z
  | inr (inr z) ↦ absurd (omega arith)
]

-- n items lead to one place, if the values after i have one outcome
items_same : {m : Bool} {t : List ℕ} {kind : Kind} {i n p h g : ℕ} → OneAfter m t i → n ≡ p → ItemsFit m t kind i n h → ItemsFit m t kind i p g → h ≡ g
items_same one e (first_item b q d o) (first_item c p f g) = cc
items_same one e (first_item b q d o) (next_item is y x c p f) = absurd (omega arith)
items_same one e (next_item is y x c p f) (first_item b q d o) = absurd (omega arith)
items_same {m} {t} {kind} {i} one e (next_item {u} {v} {e = a} is y x c q o) (next_item {u = w} {v = z} {e = b} {l = j} fs k r d p g) =
    let same : u ≡ w = items_same one (omega arith) is fs in
    let head : ItemHead m t kind u z j = rw same k in
    let value_start : v ≡ z = (head_one y head).0 in
    let s : IsValue m t v b = rw value_start r in
    let l : i < v = omega (arith, items-later is, head-later y) in
    let ends : ◌≡◌ {A = Result ℕ Stop} (Ok a) (Ok b) = one v l (Ok a) (Ok b) x s in
    let f : a ≡ b = cc in
    rw (q, p, f)

-- the container of this kind at i has this outcome
pub data ContainerOutcome (m : Bool) (t : List ℕ) (kind : Kind) (i : ℕ) (r : Result ℕ Stop) : Type 0 where
  no_item : byte t (after_space t (i + 1)) ≡ closing kind → r ≡ Ok (after_space t (i + 1) + 1) → ContainerOutcome m t kind i r
  at_last : {n h : ℕ} → ItemsFit m t kind i n h → LastItem m t kind h r → ContainerOutcome m t kind i r

-- where more items fit, none of them is the last
last_too_early : {m : Bool} {t : List ℕ} {kind : Kind} {i n p h g : ℕ} {r : Result ℕ Stop} → OneAfter m t i → n < p → ItemsFit m t kind i n h
    → LastItem m t kind h r → ItemsFit m t kind i p g → ⊥
last_too_early {m} {t} {kind} {h = h} one l is a fs =
    let b = items_before fs l in
    let e : b.h ≡ h = items_same one refl b.before is in
    let y : ItemHead m t kind h b.v b.key = rw e at b.head in
    last_no_comma one (items-later is) a y b.value b.comma

-- a container has one outcome, if the values after its beginning have one
container_one : {m : Bool} {t : List ℕ} {kind : Kind} {i : ℕ} {r q : Result ℕ Stop} → OneAfter m t i → ContainerOutcome m t kind i r
    → ContainerOutcome m t kind i q → r ≡ q
container_one one (no_item b e) (no_item c f) = cc
container_one one (no_item b e) (at_last fs z) = absurd (items_not_empty fs b)
container_one one (at_last is a) (no_item c f) = absurd (items_not_empty is c)
container_one {m} {t} {kind} {q = q} one (at_last {n} {h} is a) (at_last {n = p} {h = g} fs b) = elim (cases_order n p) [
  | inl e ↦
      let o : g ≡ h = items_same one (sym e) fs is in
      let c : LastItem m t kind h q = rw o at b in
      last_one one (items-later is) a c
  | inr (inl l) ↦ absurd (last_too_early one l is a fs)
  | inr (inr l) ↦ absurd (last_too_early one l fs b is)
]

-- a string is from i to j, for some bytes
abbrev StringEnds : Bool → List ℕ → ℕ → ℕ → Type 0
StringEnds m t i j = (b : List ℕ) × IsString m t i j b

-- the outcome of a value of this sort
abbrev View : Sort → Bool → List ℕ → ℕ → Result ℕ Stop → Type 0
View none m t i r = r ≡ Err (stop_at t i InvalidJsonValue)
View a_null m t i r = MatchResult r (IsLiteral (codes "null") t i) (IsLiteralFault (codes "null") t i)
View a_true m t i r = MatchResult r (IsLiteral (codes "true") t i) (IsLiteralFault (codes "true") t i)
View a_false m t i r = MatchResult r (IsLiteral (codes "false") t i) (IsLiteralFault (codes "false") t i)
View a_number m t i r = MatchResult r (IsNumber t i) (IsNumberFault t i)
View a_string m t i r = MatchResult r (StringEnds m t i) (IsStringFault m t i)
View (a_container kind) m t i r = ContainerOutcome m t kind i r

-- the outcome of a value with the sort of its first byte
record Viewed (m : Bool) (t : List ℕ) (i : ℕ) (r : Result ℕ Stop) : Type 0 where
  sort : Sort
  begins : Begins sort (byte t i)
  view : View sort m t i r

-- a word at i begins there with its first letter
pub first_letter : (word t : List ℕ) (i : ℕ) {j : ℕ} → 0 < length word → IsLiteral word t i j → byte t i ≡ byte word 0
first_letter word t i l h = rw add-zero at (h.0.1 0 l)

-- an outcome of a container is one of a sort
container_view : {m : Bool} {t : List ℕ} {kind : Kind} {i n h : ℕ} {r : Result ℕ Stop} → ItemsFit m t kind i n h → LastItem m t kind h r → Viewed m t i r
container_view {kind = kind} is a = record { sort = a_container kind; begins = items_open is; view = at_last is a }

-- each outcome is one of a sort
outcome_view : (m : Bool) (t : List ℕ) (i : ℕ) (r : Result ℕ Stop) → Outcome m t i r → Viewed m t i r
outcome_view m t i (Ok j) (null_literal h) = record { sort = a_null; begins = first_letter (codes "null") t i (omega arith) h; view = h }
outcome_view m t i (Ok j) (true_literal h) = record { sort = a_true; begins = first_letter (codes "true") t i (omega arith) h; view = h }
outcome_view m t i (Ok j) (false_literal h) = record { sort = a_false; begins = first_letter (codes "false") t i (omega arith) h; view = h }
outcome_view m t i (Ok j) (number h) = record { sort = a_number; begins = number_begins h; view = h }
outcome_view m t i (Ok j) (string {b = b} h) = record { sort = a_string; begins = h.opens; view = (b, h) }
outcome_view m t i (Ok j) (empty kind b c q) = record { sort = a_container kind; begins = b; view = no_item c (rw q) }
outcome_view m t i (Ok j) (filled {e = e} is y x c q) = container_view is (at_value (Ok e) y x (inl (c, rw q)))
outcome_view m t i (Err s) (no_value h q) = record { sort = none; begins = h; view = rw q }
outcome_view m t i (Err s) (null_fault b f) = record { sort = a_null; begins = b; view = f }
outcome_view m t i (Err s) (true_fault b f) = record { sort = a_true; begins = b; view = f }
outcome_view m t i (Err s) (false_fault b f) = record { sort = a_false; begins = b; view = f }
outcome_view m t i (Err s) (number_fault b f) = record { sort = a_number; begins = b; view = f }
outcome_view m t i (Err s) (string_fault b f) = record { sort = a_string; begins = b; view = f }
outcome_view m t i (Err s) (in_key is f) = container_view is (at_key refl f refl)
outcome_view m t i (Err s) (in_value is y f) = container_view is (at_value (Err s) y f refl)
outcome_view m t i (Err s) (after_item {e = e} is y x c q) = container_view is (at_value (Ok e) y x (inr (c, rw q)))

-- a word has one outcome
word_one : (word t : List ℕ) (i : ℕ) (r q : Result ℕ Stop) → MatchResult r (IsLiteral word t i) (IsLiteralFault word t i)
    → MatchResult q (IsLiteral word t i) (IsLiteralFault word t i) → r ≡ q
word_one word t i r q =
    match_one (IsLiteral word t i) (IsLiteralFault word t i) r q (λ j k h g. cc (h.1, g.1)) (λ s z. literal_fault_one) (λ j s. literal_never_both word t i)

-- a value of one sort has one outcome, if the values after it have one
view_one : (k : Sort) (m : Bool) (t : List ℕ) (i : ℕ) (r q : Result ℕ Stop) → Begins k (byte t i) → (i < length t → OneAfter m t i)
    → View k m t i r → View k m t i q → r ≡ q
view_one none m t i r q b one h g = cc
view_one a_null m t i r q b one h g = word_one (codes "null") t i r q h g
view_one a_true m t i r q b one h g = word_one (codes "true") t i r q h g
view_one a_false m t i r q b one h g = word_one (codes "false") t i r q h g
view_one a_number m t i r q b one h g = number_outcome_one t i r q h g
view_one a_string m t i r q b one h g =
    match_one (StringEnds m t i) (IsStringFault m t i) r q (λ j k x y. (string_one x.1 y.1).0) (λ s z. string_fault_one) (λ j s x. string_never_both x.1) h g
view_one (a_container kind) m t i r q b one h g = container_one (one (byte_within t i (λ e. opening_not_end kind (omega arith)))) h g

-- a value has at most one outcome, if the values after it have one
one_here : (m : Bool) (t : List ℕ) (i : ℕ) → (i < length t → OneAfter m t i) → OneAt m t i
one_here m t i one r q x y =
    let a = outcome_view m t i r x in
    let b = outcome_view m t i q y in
    let e : b.sort ≡ a.sort = sym (begins_one b.sort (byte t i) b.begins) ∙ begins_one a.sort (byte t i) a.begins in
    let w : View a.sort m t i q = rw e at b.view in
    view_one a.sort m t i r q a.begins one a.view w

-- a value has at most one outcome, by the number of places from i on
one_from : (n : ℕ) (m : Bool) (t : List ℕ) (i : ℕ) → length t < i + n → OneAt m t i
one_from zero m t i l = one_here m t i (λ h. absurd (omega arith))
one_from (suc n) m t i l = one_here m t i (λ h v o. one_from n m t v (omega arith))

-- where a container's bracket is, the outcome is one of a container of that kind
pub container_outcome : {m : Bool} {t : List ℕ} {kind : Kind} {i : ℕ} (r : Result ℕ Stop) → byte t i ≡ opening kind → Outcome m t i r
    → ContainerOutcome m t kind i r
container_outcome {m} {t} {kind} {i} r b x =
    let a = outcome_view m t i r x in
    let e : a.sort ≡ a_container kind = sym (begins_one a.sort (byte t i) a.begins) ∙ begins_one (a_container kind) (byte t i) b in
    rw e at a.view

-- a value that is expected has at most one outcome
pub outcome_one : (m : Bool) (t : List ℕ) (i : ℕ) (r q : Result ℕ Stop) → Outcome m t i r → Outcome m t i q → r ≡ q
outcome_one m t i = one_from (suc (length t)) m t i (omega arith)

-- a value has one end
pub value_end_one : {m : Bool} {t : List ℕ} {i j k : ℕ} → IsValue m t i j → IsValue m t i k → j ≡ k
value_end_one {m} {t} {i} {j} {k} x y = let e = outcome_one m t i (Ok j) (Ok k) x y in cc

-- a value that isn't there has one fault
pub value_fault_one : {m : Bool} {t : List ℕ} {i : ℕ} {s r : Stop} → IsFault m t i s → IsFault m t i r → s ≡ r
value_fault_one {m} {t} {i} {s} {r} f g = let e = outcome_one m t i (Err s) (Err r) f g in cc

-- a value that is somewhere has no fault there
pub value_never_both : {m : Bool} {t : List ℕ} {i j : ℕ} {s : Stop} → IsValue m t i j → IsFault m t i s → ⊥
value_never_both {m} {t} {i} {j} {s} x f = let e = outcome_one m t i (Ok j) (Err s) x f in cc

-- n items lead to one place
pub items_one : {m : Bool} {t : List ℕ} {kind : Kind} {i n h g : ℕ} → ItemsFit m t kind i n h → ItemsFit m t kind i n g → h ≡ g
items_one {m} {t} is fs = items_same (λ v l. outcome_one m t v) refl is fs

-- white space begins no value
pub space_begins_none : (b : ℕ) → is_space b ≡ true → BeginsNone b
space_begins_none b e = grind (arith, nat_tests)

-- so a value begins with another byte
no_space : (is : Bool) (b : ℕ) → is_space b ≡ is → ¬ BeginsNone b → is_space b ≡ false
no_space true b e n = absurd (n (space_begins_none b e))
no_space false b e n = e

pub value_no_space : {m : Bool} {t : List ℕ} {i j : ℕ} → IsValue m t i j → is_space (byte t i) ≡ false
value_no_space {t = t} {i} x = no_space (is_space (byte t i)) (byte t i) refl (λ z. value_never_both x (no_value z refl))

-- and no white space leads on from there
pub value_starts : {m : Bool} {t : List ℕ} {i j : ℕ} → IsValue m t i j → after_space t i ≡ i
value_starts {t = t} {i} x = space_stays t i (omega (arith, value-longer x, value_within x)) (value_no_space x)
