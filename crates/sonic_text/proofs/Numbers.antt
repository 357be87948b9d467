-- A number is at a place, or isn't, for one reason.
use Rattle.std.proofs.Common.{◌≡◌, ◌⊎◌, ℕ, ◌+◌, ◌<◌, ◌≤◌, inl, inr, arith, refl}
use Rattle.std.proofs.Common.{Result, Ok, Err, MatchResult}
use Rattle.std.proofs.lemmas.Bool.{cases_lt, cases_eq}
use Rattle.std.proofs.lemmas.Bool.Decides.{nat_tests}
use Rattle.std.specs.Prelude.{List}
use Rattle.sonic_text.specs.declared.stop.Stop.{Stop}
use Rattle.sonic_error.specs.declared.code.ErrorCode.TheVariants.{InvalidNumber}
use Rattle.sonic_text.specs.Places.{byte, stop_at, digits_end, IsDigit}
use Rattle.sonic_text.specs.Numbers.{after_minus, after_sign, IsInt, IsFraction, IsE, IsExponent, IsNumber, IsIntFault, IsFractionFault, IsExponentFault, IsNumberFault}
use Rattle.sonic_text.specs.Numbers.IsNumberFault.{in_int, in_fraction, in_exponent}
use Rattle.sonic_text.proofs.Places.{digits_end_later}

-- a byte is a digit or none
pub digit_or_not : (b : ℕ) → IsDigit b ⊎ ¬ IsDigit b
digit_or_not b = elim (cases_lt b 48) [
  | inl l ↦ inr (λ h. omega arith)
  | inr l ↦ elim (cases_lt 57 b) [ inl m ↦ inr (λ h. omega arith) | inr m ↦ inl (l, m) ]
]

-- a byte is an e or none
e_or_not : (b : ℕ) → IsE b ⊎ ¬ IsE b
e_or_not b = elim (cases_eq b 101) [
  | inl e ↦ inl (inl e)
  | inr e ↦ elim (cases_eq b 69) [ inl f ↦ inl (inr f) | inr f ↦ inr (λ h. grind arith) ]
]

-- a fraction or an exponent: all digits from d on, at least one, after a dot or an e, or nothing where there is none
abbrev pub Tail : List ℕ → Type 0 → ℕ → ℕ → ℕ → Type 0
Tail t Starts d i j = Starts × IsDigit (byte t d) × (j ≡ digits_end t d) ⊎ ¬ Starts × (j ≡ i)

abbrev TailFault : List ℕ → Type 0 → ℕ → Stop → Type 0
TailFault t Starts d s = Starts × ¬ IsDigit (byte t d) × (s ≡ stop_at t d InvalidNumber)

-- an end and a fault that are each the only one, and never both, are one outcome
pub match_one : (P : ℕ → Type 0) (F : Stop → Type 0) (r q : Result ℕ Stop) → ((j k : ℕ) → P j → P k → j ≡ k) → ((s z : Stop) → F s → F z → s ≡ z)
    → ((j : ℕ) (s : Stop) → P j → F s → ⊥) → MatchResult r P F → MatchResult q P F → r ≡ q
match_one P F (Ok j) (Ok k) ends faults never h g = rw (ends j k h g)
match_one P F (Ok j) (Err s) ends faults never h g = absurd (never j s h g)
match_one P F (Err s) (Ok j) ends faults never h g = absurd (never j s g h)
match_one P F (Err s) (Err z) ends faults never h g = rw (faults s z h g)

-- an integer has one outcome
int_one : (t : List ℕ) (i : ℕ) (r q : Result ℕ Stop) → MatchResult r (IsInt t i) (IsIntFault t i) → MatchResult q (IsInt t i) (IsIntFault t i) → r ≡ q
int_one t i r q = match_one (IsInt t i) (IsIntFault t i) r q (λ j k h g. grind arith) (λ s z h g. grind arith) (λ j s h g. grind arith)

-- so has what comes after it
tail_one : (t : List ℕ) (Starts : Type 0) (d i : ℕ) (r q : Result ℕ Stop) → MatchResult r (Tail t Starts d i) (TailFault t Starts d)
    → MatchResult q (Tail t Starts d i) (TailFault t Starts d) → r ≡ q
tail_one t Starts d i r q =
    match_one (Tail t Starts d i) (TailFault t Starts d) r q (λ j k h g. grind arith) (λ s z h g. grind arith) (λ j s h g. grind arith)

-- the outcome of two parts, of which the second begins where the first ends
abbrev Then : (Result ℕ Stop → Type 0) → (ℕ → Result ℕ Stop → Type 0) → Result ℕ Stop → Type 0
Then First Next r = (x : Result ℕ Stop) × First x × MatchResult x (λ w. Next w r) (λ s. r ≡ Err s)

-- is one, if each part has one
then_one : {First : Result ℕ Stop → Type 0} {Next : ℕ → Result ℕ Stop → Type 0} {r q : Result ℕ Stop} → ((x y : Result ℕ Stop) → First x → First y → x ≡ y)
    → ((w : ℕ) (x y : Result ℕ Stop) → Next w x → Next w y → x ≡ y) → Then First Next r → Then First Next q → r ≡ q
then_one {r = r} {q} one next (Ok w, f, h) (y, g, k) = let e : y ≡ Ok w = one y (Ok w) g f in next w r q h (rw e at k)
then_one {q = q} one next (Err s, f, h) (y, g, k) =
    let e : y ≡ Err s = one y (Err s) g f in
    let z : q ≡ Err s = rw e at k in
    cc

-- a number's parts, one after the other
abbrev Parts : List ℕ → ℕ → Result ℕ Stop → Type 0
Parts t i = Then (λ x. MatchResult x (IsInt t (after_minus t i)) (IsIntFault t (after_minus t i)))
    (λ w. Then (λ y. MatchResult y (IsFraction t w) (IsFractionFault t w)) (λ f r. MatchResult r (IsExponent t f) (IsExponentFault t f)))

parts_of : (t : List ℕ) (i : ℕ) (r : Result ℕ Stop) → MatchResult r (IsNumber t i) (IsNumberFault t i) → Parts t i r
parts_of t i (Ok j) h = (Ok h.int_end, h.int, (Ok h.fraction_end, h.fraction, h.exponent))
parts_of t i (Err s) (in_int f) = (Err s, f, refl)
parts_of t i (Err s) (in_fraction {w} a f) = (Ok w, a, (Err s, f, refl))
parts_of t i (Err s) (in_exponent {w} {f = v} a b f) = (Ok w, a, (Ok v, b, f))

-- a number has one outcome
pub number_outcome_one : (t : List ℕ) (i : ℕ) (r q : Result ℕ Stop) → MatchResult r (IsNumber t i) (IsNumberFault t i)
    → MatchResult q (IsNumber t i) (IsNumberFault t i) → r ≡ q
number_outcome_one t i r q h g =
    then_one (int_one t (after_minus t i))
    (λ w x y. then_one (tail_one t (byte t w ≡ 46) (w + 1) w) (λ f. tail_one t (IsE (byte t f)) (after_sign t (f + 1)) f))
    (parts_of t i r h) (parts_of t i q g)

pub number_one : {t : List ℕ} {i j k : ℕ} → IsNumber t i j → IsNumber t i k → j ≡ k
number_one {t} {i} {j} {k} h g = let e = number_outcome_one t i (Ok j) (Ok k) h g in cc

-- an integer is at a place or has a fault there
int_some : (t : List ℕ) (i : ℕ) → ((j : ℕ) × IsInt t i j) ⊎ ((s : Stop) × IsIntFault t i s)
int_some t i = elim (digit_or_not (byte t i)) [
  | inr h ↦ inr (_, inl (h, refl))
  | inl h ↦ elim (cases_eq (byte t i) 48) [
    | inr e ↦ inl (_, inr (omega arith, h.1, refl))
    | inl e ↦ elim (digit_or_not (byte t (i + 1))) [
      | inl d ↦ inr (_, inr (e, d, refl))
      | inr d ↦ inl (_, inl (e, d, refl))
    ]
  ]
]

-- what comes after it has an outcome, by its first byte
tail_some : (t : List ℕ) (Starts : Type 0) (d i : ℕ) → Starts ⊎ ¬ Starts → ((j : ℕ) × Tail t Starts d i j) ⊎ ((s : Stop) × TailFault t Starts d s)
tail_some t Starts d i (inr e) = inl (i, inr (e, refl))
tail_some t Starts d i (inl e) = elim (digit_or_not (byte t d)) [ inl h ↦ inl (_, inl (e, h, refl)) | inr h ↦ inr (_, (e, h, refl)) ]

-- a minus sign leads on
pub after_minus_later : (t : List ℕ) (i : ℕ) → i ≤ after_minus t i
after_minus_later t i = grind (arith, nat_tests)

-- a sign leads on
pub after_sign_later : (t : List ℕ) (i : ℕ) → i ≤ after_sign t i
after_sign_later t i = grind (arith, nat_tests)

-- an integer leads on
pub int_longer : (t : List ℕ) (i j : ℕ) → IsInt t i j → i < j
int_longer t i j h = grind (arith, digits_end_later t i)

-- a fraction leads on or is empty
pub fraction_later : (t : List ℕ) (i j : ℕ) → IsFraction t i j → i ≤ j
fraction_later t i j h = grind (arith, digits_end_later t (i + 1))

-- an exponent leads on or is empty
pub exponent_later : (t : List ℕ) (i j : ℕ) → IsExponent t i j → i ≤ j
exponent_later t i j h = grind (arith, after_sign_later t (i + 1), digits_end_later t (after_sign t (i + 1)))

-- a number leads on
pub number_longer : {t : List ℕ} {i j : ℕ} → IsNumber t i j → i < j
number_longer {t} {i} {j} h =
    let m = after_minus_later t i in
    let l = int_longer t (after_minus t i) h.int_end h.int in
    let f = fraction_later t h.int_end h.fraction_end h.fraction in
    let e = exponent_later t h.fraction_end j h.exponent in
    omega arith

-- a number begins with a minus sign or a digit
pub number_begins : {t : List ℕ} {i j : ℕ} → IsNumber t i j → (byte t i ≡ 45) ⊎ IsDigit (byte t i)
number_begins {t} {i} {j} h = elim (cases_eq (byte t i) 45) [
  | inl e ↦ inl e
  | inr e ↦
      let m : after_minus t i ≡ i = grind (arith, nat_tests) in
      let g : IsInt t i h.int_end = rw m at h.int in
      inr (grind arith)
]

-- a number is at a place or has a fault there
pub number_some : (t : List ℕ) (i : ℕ) → ((j : ℕ) × IsNumber t i j) ⊎ ((s : Stop) × IsNumberFault t i s)
number_some t i = elim (int_some t (after_minus t i)) [
  | inr (s, f) ↦ inr (s, in_int f)
  | inl (w, a) ↦ elim (tail_some t (byte t w ≡ 46) (w + 1) w (cases_eq (byte t w) 46)) [
    | inr (s, f) ↦ inr (s, in_fraction a f)
    | inl (v, b) ↦ elim (tail_some t (IsE (byte t v)) (after_sign t (v + 1)) v (e_or_not (byte t v))) [
      | inr (s, f) ↦ inr (s, in_exponent a b f)
      | inl (j, c) ↦ inl (j, record { int_end = w; fraction_end = v; int = a; fraction = b; exponent = c })
    ]
  ]
]
