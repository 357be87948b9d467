-- Elements that are passed by blocks: where each byte fits after those before it, each element up to a comma is a number.
use Rattle.std.proofs.Common.{◌≡◌, ◌≢◌, ℕ, zero, suc, ◌+◌, ◌-◌, ◌<◌, ◌≤◌, ◌==◌, ◌&&◌, ◌||◌, Bool, true, false, not, inl, inr, List, length, refl, sym, ap, ap₂, ◌∙◌, arith}
use Rattle.std.proofs.lemmas.Bool.{cases_lt, cases_eq}
use Rattle.std.proofs.lemmas.Bool.Decides.{nat_tests}
use Rattle.std.proofs.lemmas.List.Sums.{prefix_len-drop_no, prefix_len-drop_yes, prefix_len-drop_all}
use Rattle.std.specs.Char.{is_ascii_digit}
use Rattle.sonic_blocks.specs.Elements.{passes_before, is_at, is_digit_at, is_first_zero, is_behind_fraction, fits_after, AreWholeElements}
use Rattle.sonic_blocks.proofs.BoolLemmas.{both_true, either_true, never, not_true}
use Rattle.sonic_blocks.proofs.RunLemmas.{run_fails}
use Rattle.sonic_text.specs.declared.kind.Kind.{Kind}
use Rattle.sonic_text.specs.declared.kind.Kind.TheVariants.{Array}
use Rattle.sonic_text.specs.Numbers.{after_minus, IsInt, IsFraction, IsNumber}
use Rattle.sonic_text.specs.Places.{byte, is_space, after_space, digits_end, IsDigit}
use Rattle.sonic_text.specs.Values.{number, ItemsFit, first_item, next_item}
use Rattle.sonic_text.proofs.Items.{opening_not_end}
use Rattle.sonic_text.proofs.Numbers.{number_longer}
use Rattle.sonic_text.proofs.Places.{after_space_later, byte_within, digit_passes}
use Rattle.sonic_text.proofs.Within.{after_space_within}
use Rattle.sonic_parser.specs.declared.skip.Reached.TheVariants.{Expected}
use Rattle.sonic_parser.specs.Internal.Skipping.{IsReached, AreItemsPassed}
use Rattle.sonic_parser.specs.OpenContainers.{IsTop}
use Rattle.sonic_parser.proofs.BeginningLemmas.{element_item}
use Rattle.sonic_parser.proofs.SkippingLemmas.{byte_stays, item_ended, next_expected}

or_true : (a : Bool) → (a || true) ≡ true
or_true true = refl
or_true false = refl

is_digit : (b : ℕ) → is_ascii_digit b ≡ true → IsDigit b
is_digit b e = grind (arith, nat_tests)

byte_is : (x b : ℕ) → (x == b) ≡ true → x ≡ b
byte_is x b e = grind (arith, nat_tests)

byte_is_not : (x b : ℕ) → x ≢ b → (x == b) ≡ false
byte_is_not x b e = grind (arith, nat_tests)

digit_no_space : (b : ℕ) → IsDigit b → is_space b ≡ false
digit_no_space b d = grind (arith, nat_tests)

no_minus : (t : List ℕ) (i : ℕ) → byte t i ≢ 45 → after_minus t i ≡ i
no_minus t i e = grind (arith, nat_tests)

a_minus : (t : List ℕ) (i : ℕ) → byte t i ≡ 45 → after_minus t i ≡ i + 1
a_minus t i e = grind (arith, nat_tests)

-- how a byte fits after the one before it
data Way (bytes : ℕ → ℕ) (k : ℕ) : Type 0 where
  comma : bytes k ≡ 44 → passes_before (is_digit_at bytes) false k ≡ true → Way bytes k
  blank : bytes k ≡ 32 → passes_before (is_at bytes 44) true k ≡ true → Way bytes k
  minus : bytes k ≡ 45 → (passes_before (is_at bytes 44) true k || passes_before (is_at bytes 32) false k) ≡ true → Way bytes k
  dot : bytes k ≡ 46 → passes_before (is_digit_at bytes) false k ≡ true → is_behind_fraction bytes k ≡ false → Way bytes k
  digit : is_ascii_digit (bytes k) ≡ true → passes_before (is_first_zero bytes) false k ≡ false → Way bytes k

way : (bytes : ℕ → ℕ) (k : ℕ) → fits_after bytes k ≡ true → Way bytes k
way bytes k e = elim (either_true _ _ e) [
  | inr d ↦ (let b = both_true _ _ d in digit b.0 (not_true _ b.1))
  | inl p ↦ elim (either_true _ _ p) [
    | inr f ↦ (let b = both_true _ _ f in let g = both_true _ _ b.0 in dot (byte_is (bytes k) 46 g.0) g.1 (not_true _ b.1))
    | inl r ↦ elim (either_true _ _ r) [
      | inr m ↦ (let b = both_true _ _ m in minus (byte_is (bytes k) 45 b.0) b.1)
      | inl s ↦ elim (either_true _ _ s) [
        | inl c ↦ (let b = both_true _ _ c in comma (byte_is (bytes k) 44 b.0) b.1)
        | inr w ↦ (let b = both_true _ _ w in blank (byte_is (bytes k) 32 b.0) b.1)
      ]
    ]
  ]
]

-- what comes directly before the k-th byte from p on
abbrev after_digit : List ℕ → ℕ → ℕ → Bool
after_digit t p k = passes_before (is_digit_at (λ j. byte t (p + j))) false k

abbrev after_comma : List ℕ → ℕ → ℕ → Bool
after_comma t p k = passes_before (is_at (λ j. byte t (p + j)) 44) true k

abbrev after_blank : List ℕ → ℕ → ℕ → Bool
after_blank t p k = passes_before (is_at (λ j. byte t (p + j)) 32) false k

abbrev after_dot : List ℕ → ℕ → ℕ → Bool
after_dot t p k = passes_before (is_at (λ j. byte t (p + j)) 46) false k

abbrev after_zero : List ℕ → ℕ → ℕ → Bool
after_zero t p k = passes_before (is_first_zero (λ j. byte t (p + j))) false k

abbrev behind_fraction : List ℕ → ℕ → ℕ → Bool
behind_fraction t p k = is_behind_fraction (λ j. byte t (p + j)) k

-- what is before the k-th byte from p on, where elements are expected and passed
data Stands (m : Bool) (t : List ℕ) (root : ℕ) (kinds : List Kind) (p k : ℕ) : Type 0 where
  -- an element is expected, perhaps behind white space
  at_element : IsReached m t root kinds (Expected (after_space t (p + k))) → after_digit t p k ≡ false → after_dot t p k ≡ false → Stands m t root kinds p k
  -- a minus sign, with which an element begins
  at_minus : (h : ℕ) → IsReached m t root kinds (Expected h) → after_minus t h ≡ p + k → after_digit t p k ≡ false → after_comma t p k ≡ false
      → after_blank t p k ≡ false → after_dot t p k ≡ false → Stands m t root kinds p k
  -- the first 0 of an element
  at_zero : (h : ℕ) → IsReached m t root kinds (Expected h) → byte t (after_minus t h) ≡ 48 → after_minus t h + 1 ≡ p + k → after_comma t p k ≡ false
      → after_blank t p k ≡ false → after_zero t p k ≡ true → Stands m t root kinds p k
  -- digits of an element, of which the first is no 0
  at_digits : (h : ℕ) → IsReached m t root kinds (Expected h) → 49 ≤ byte t (after_minus t h) → byte t (after_minus t h) ≤ 57
      → digits_end t (after_minus t h) ≡ digits_end t (p + k) → after_digit t p k ≡ true → after_comma t p k ≡ false → after_blank t p k ≡ false → Stands m t root kinds p k
  -- the dot of an element
  at_dot : (h d : ℕ) → IsReached m t root kinds (Expected h) → IsInt t (after_minus t h) d → byte t d ≡ 46 → d + 1 ≡ p + k → after_digit t p k ≡ false
      → after_comma t p k ≡ false → after_blank t p k ≡ false → after_dot t p k ≡ true → Stands m t root kinds p k
  -- digits of its fraction
  at_fraction : (h d : ℕ) → IsReached m t root kinds (Expected h) → IsInt t (after_minus t h) d → byte t d ≡ 46 → IsDigit (byte t (d + 1))
      → digits_end t (d + 1) ≡ digits_end t (p + k) → after_digit t p k ≡ true → after_comma t p k ≡ false → after_blank t p k ≡ false → behind_fraction t p k ≡ true
      → Stands m t root kinds p k

-- a number without an exponent, before a comma
number_before : (t : List ℕ) (h d e : ℕ) → byte t e ≡ 44 → IsInt t (after_minus t h) d → IsFraction t d e → IsNumber t h e
number_before t h d e c int fraction = record {
  int_end = d;
  fraction_end = e;
  int = int;
  fraction = fraction;
  exponent = inr (λ f. elim f [ inl g ↦ omega (arith, c, g) | inr g ↦ omega (arith, c, g) ], refl);
}

module _ (m : Bool) (t : List ℕ) (root : ℕ) (kinds : List Kind) (top : IsTop kinds Array) (p : ℕ) where
  abbrev bytes : ℕ → ℕ
  bytes j = byte t (p + j)

  abbrev Expects : ℕ → Type 0
  Expects h = IsReached m t root kinds (Expected h)

  -- an element that ends at a comma is followed by the next
  after_number : (h e : ℕ) → Expects h → byte t e ≡ 44 → IsNumber t h e → Expects (after_space t (e + 1))
  after_number h e r c n =
      let within : e < length t = byte_within t e (λ z. omega (arith, c, z)) in
      let stays : after_space t e ≡ e = byte_stays t e 44 c (omega arith) refl in
      let ended = item_ended r.1 top (element_item r.0) (number_longer n, omega arith, number n) in
      let separated : byte t (after_space t e) ≡ 44 = rw stays c in
      next_expected Array ended (omega (arith, after_space_later t (e + 1)), after_space_within t (e + 1) (omega arith), (separated, ap (λ q. after_space t (q + 1)) (sym stays)))

  module _ (k : ℕ) where
    abbrev q : ℕ
    q = p + k

    next : p + suc k ≡ q + 1
    next = omega arith

    -- behind a comma
    passed_comma : (h : ℕ) → Expects h → byte t q ≡ 44 → IsNumber t h q → Stands m t root kinds p (suc k)
    passed_comma h r c n = at_element (rw next (after_number h q r c n)) (ap is_ascii_digit c) (ap (λ b. b == 46) c)

    -- behind a comma that follows an integer
    passed_int : (h : ℕ) → Expects h → byte t q ≡ 44 → IsInt t (after_minus t h) q → Stands m t root kinds p (suc k)
    passed_int h r c int = passed_comma h r c (number_before t h q q c int (inr (λ f. omega (arith, c, f), refl)))

    -- behind a dot
    passed_dot : (h : ℕ) → Expects h → byte t q ≡ 46 → IsInt t (after_minus t h) q → Stands m t root kinds p (suc k)
    passed_dot h r b int = at_dot h q r int b (sym next) (ap is_ascii_digit b) (ap (λ x. x == 44) b) (ap (λ x. x == 32) b) (ap (λ x. x == 46) b)

    -- digits end behind a digit where they end behind the next
    another : IsDigit (byte t q) → digits_end t q ≡ digits_end t (p + suc k)
    another d =
        let within : q < length t = byte_within t q (λ z. omega (arith, z, d)) in
        let one = prefix_len-drop_yes is_ascii_digit t q 0 within (digit_passes _ d) in
        let on : digits_end t q ≡ digits_end t (q + 1) = omega (arith, one) in
        on ∙ ap (digits_end t) (sym next)

    -- and they end before another byte
    ends_here : (b : ℕ) → byte t q ≡ b → is_ascii_digit b ≡ false → 0 < b → digits_end t q ≡ q
    ends_here b e other some =
        let within : q < length t = byte_within t q (λ z. omega (arith, e, z, some)) in
        let none = prefix_len-drop_no is_ascii_digit t q 0 within (ap is_ascii_digit e ∙ other) in
        omega (arith, none)

    no_comma : IsDigit (byte t q) → after_comma t p (suc k) ≡ false
    no_comma d = byte_is_not _ 44 (λ e. omega (arith, d, e))

    no_blank : IsDigit (byte t q) → after_blank t p (suc k) ≡ false
    no_blank d = byte_is_not _ 32 (λ e. omega (arith, d, e))

    -- behind the first digit of an element
    first_digit : (h : ℕ) → Expects h → after_minus t h ≡ q → IsDigit (byte t q) → after_digit t p k ≡ false → after_dot t p k ≡ false → Stands m t root kinds p (suc k)
    first_digit h r w d none no_dot = elim (cases_eq (byte t q) 48) [
      | inl z ↦
          at_zero h r (rw w z) (omega (arith, w)) (no_comma d) (no_blank d)
          (ap (λ b. (b == 48) && not (after_digit t p k || after_dot t p k)) z ∙ ap (λ b. not (b || after_dot t p k)) none ∙ ap not no_dot)
      | inr o ↦ at_digits h r (rw w (omega (arith, d, o))) (rw w d.1) (ap (digits_end t) w ∙ another d) (digit_passes _ d) (no_comma d) (no_blank d)
    ]

    -- an integer that ends here
    int_of_zero : (h b : ℕ) → byte t (after_minus t h) ≡ 48 → after_minus t h + 1 ≡ q → byte t q ≡ b → ¬ IsDigit b → IsInt t (after_minus t h) q
    int_of_zero h b z w e other = inl (z, rw (w, e) other, sym w)

    int_of_digits : (h b : ℕ) → 49 ≤ byte t (after_minus t h) → byte t (after_minus t h) ≤ 57 → digits_end t (after_minus t h) ≡ digits_end t q → byte t q ≡ b
        → is_ascii_digit b ≡ false → 0 < b → IsInt t (after_minus t h) q
    int_of_digits h b low high w e other some = inr (low, high, sym (w ∙ ends_here b e other some))

    step : Stands m t root kinds p k → Way bytes k → Stands m t root kinds p (suc k)
    step (at_element r d o) (comma b f) = never d f
    step (at_element r d o) (dot b f g) = never d f
    step (at_element r d o) (blank b f) =
        let within : q < length t = byte_within t q (λ e. omega (arith, b, e)) in
        let one = prefix_len-drop_yes is_space t q 0 within (ap is_space b) in
        let same : after_space t (q + 1) ≡ after_space t q = omega (arith, one) in
        at_element (rw (next, same) r) (ap is_ascii_digit b) (ap (λ x. x == 46) b)
    step (at_element r d o) (minus b f) =
        let stays : after_space t q ≡ q = byte_stays t q 45 b (omega arith) refl in
        at_minus q (rw stays at r) (a_minus t q b ∙ sym next) (ap is_ascii_digit b) (ap (λ x. x == 44) b) (ap (λ x. x == 32) b) (ap (λ x. x == 46) b)
    step (at_element r d o) (digit b f) =
        let a_digit : IsDigit (byte t q) = is_digit _ b in
        let stays : after_space t q ≡ q = byte_stays t q (byte t q) refl (omega (arith, a_digit)) (digit_no_space _ a_digit) in
        first_digit q (rw stays at r) (no_minus t q (λ e. omega (arith, a_digit, e))) a_digit d o
    step (at_minus h r w d c s o) (comma b f) = never d f
    step (at_minus h r w d c s o) (blank b f) = never c f
    step (at_minus h r w d c s o) (minus b f) = elim (either_true _ _ f) [ inl g ↦ never c g | inr g ↦ never s g ]
    step (at_minus h r w d c s o) (dot b f g) = never d f
    step (at_minus h r w d c s o) (digit b f) = first_digit h r w (is_digit _ b) d o
    step (at_zero h r b0 w c s z) (comma b f) = passed_int h r b (int_of_zero h 44 b0 w b (λ d. omega (arith, d)))
    step (at_zero h r b0 w c s z) (blank b f) = never c f
    step (at_zero h r b0 w c s z) (minus b f) = elim (either_true _ _ f) [ inl g ↦ never c g | inr g ↦ never s g ]
    step (at_zero h r b0 w c s z) (dot b f g) = passed_dot h r b (int_of_zero h 46 b0 w b (λ d. omega (arith, d)))
    step (at_zero h r b0 w c s z) (digit b f) = never f z
    step (at_digits h r low high w d c s) (comma b f) = passed_int h r b (int_of_digits h 44 low high w b refl (omega arith))
    step (at_digits h r low high w d c s) (blank b f) = never c f
    step (at_digits h r low high w d c s) (minus b f) = elim (either_true _ _ f) [ inl g ↦ never c g | inr g ↦ never s g ]
    step (at_digits h r low high w d c s) (dot b f g) = passed_dot h r b (int_of_digits h 46 low high w b refl (omega arith))
    step (at_digits h r low high w d c s) (digit b f) =
        let a_digit : IsDigit (byte t q) = is_digit _ b in
        at_digits h r low high (w ∙ another a_digit) b (no_comma a_digit) (no_blank a_digit)
    step (at_dot h e r int b0 w d c s o) (comma b f) = never d f
    step (at_dot h e r int b0 w d c s o) (blank b f) = never c f
    step (at_dot h e r int b0 w d c s o) (minus b f) = elim (either_true _ _ f) [ inl g ↦ never c g | inr g ↦ never s g ]
    step (at_dot h e r int b0 w d c s o) (dot b f g) = never d f
    step (at_dot h e r int b0 w d c s o) (digit b f) =
        let a_digit : IsDigit (byte t q) = is_digit _ b in
        at_fraction h e r int b0 (rw w a_digit) (ap (digits_end t) w ∙ another a_digit) b (no_comma a_digit) (no_blank a_digit)
        (ap (λ x. x && (after_dot t p k || behind_fraction t p k)) b ∙ ap (λ x. x || behind_fraction t p k) o)
    step (at_fraction h e r int b0 first w d c s g) (comma b f) =
        passed_comma h r b (number_before t h e q b int (inl (b0, first, sym (w ∙ ends_here 44 b refl (omega arith)))))
    step (at_fraction h e r int b0 first w d c s g) (blank b f) = never c f
    step (at_fraction h e r int b0 first w d c s g) (minus b f) = elim (either_true _ _ f) [ inl i ↦ never c i | inr i ↦ never s i ]
    step (at_fraction h e r int b0 first w d c s g) (dot b f i) = never i g
    step (at_fraction h e r int b0 first w d c s g) (digit b f) =
        let a_digit : IsDigit (byte t q) = is_digit _ b in
        at_fraction h e r int b0 first (w ∙ another a_digit) b (no_comma a_digit) (no_blank a_digit)
        (ap (λ x. x && (after_dot t p k || behind_fraction t p k)) b ∙ ap (λ x. after_dot t p k || x) g ∙ or_true (after_dot t p k))

-- behind white space none is left
space_passed : (t : List ℕ) (i : ℕ) → i ≤ length t → after_space t (after_space t i) ≡ after_space t i
space_passed t i within = elim (cases_lt (after_space t i) (length t)) [
  | inl l ↦ (let none = prefix_len-drop_no is_space t (after_space t i) 0 l (run_fails is_space t i (after_space t i) within refl l) in omega (arith, none))
  | inr l ↦ (let none = prefix_len-drop_all is_space t (after_space t i) l in omega (arith, none))
]

-- an item is expected where no white space is
expected_stays : {m : Bool} {t : List ℕ} {kind : Kind} {i n h : ℕ} → ItemsFit m t kind i n h → after_space t h ≡ h
expected_stays {t = t} {kind} {i} (first_item b e o z) =
    let within : i < length t = byte_within t i (λ none. opening_not_end kind (sym b ∙ none)) in
    rw e (space_passed t (i + 1) (omega arith))
expected_stays {t = t} (next_item {e = f} is y x c e z) =
    let within : after_space t f < length t = byte_within t (after_space t f) (λ none. omega (arith, c, none)) in
    rw e (space_passed t (after_space t f + 1) (omega arith))

-- where each byte fits, the state after the first n bytes
stands : (m : Bool) (t : List ℕ) (root : ℕ) (kinds : List Kind) → IsTop kinds Array → (p : ℕ) → IsReached m t root kinds (Expected p)
    → (n : ℕ) → ((k : ℕ) → k < n → fits_after (λ j. byte t (p + j)) k ≡ true) → Stands m t root kinds p n
stands m t root kinds top p r zero fit =
    let here : p + 0 ≡ p = omega arith in
    let stays : after_space t p ≡ p = expected_stays r.1.fit in
    at_element (rw (here, stays) r) refl refl
stands m t root kinds top p r (suc n) fit =
    step m t root kinds top p n (stands m t root kinds top p r n (λ k h. fit k (omega arith))) (way (λ j. byte t (p + j)) n (fit n (omega arith)))

-- the state behind a comma
behind_comma : {m : Bool} {t : List ℕ} {root : ℕ} {kinds : List Kind} {p j : ℕ} → byte t (p + j) ≡ 44 → Stands m t root kinds p (suc j)
    → IsReached m t root kinds (Expected (after_space t (p + suc j)))
behind_comma e (at_element r d o) = r
behind_comma e (at_minus h r w d c s o) = never c (ap (λ b. b == 44) e)
behind_comma e (at_zero h r b w c s z) = never c (ap (λ b. b == 44) e)
behind_comma e (at_digits h r low high w d c s) = never c (ap (λ b. b == 44) e)
behind_comma e (at_dot h i r int b w d c s o) = never c (ap (λ b. b == 44) e)
behind_comma e (at_fraction h i r int b first w d c s g) = never c (ap (λ b. b == 44) e)

-- behind the last comma of elements the next one is expected
pub elements_passed : (t : List ℕ) (p n : ℕ) → AreWholeElements (λ j. byte t (p + j)) n → 0 < n → AreItemsPassed Array t p (after_space t (p + n))
elements_passed t p zero are some m root kinds top r = absurd (omega arith)
elements_passed t p (suc n) are some m root kinds top r =
    let last : suc n - 1 ≡ n = omega arith in
    behind_comma (ap (λ j. byte t (p + j)) (sym last) ∙ are.comma some) (stands m t root kinds top p r (suc n) are.fit)

-- bytes that are the same fit in the same way
module _ (f g : ℕ → ℕ) (same : (k : ℕ) → k < 64 → f k ≡ g k) where
  dot_same : (k : ℕ) → k < 64 → passes_before (is_at f 46) false k ≡ passes_before (is_at g 46) false k
  dot_same zero h = refl
  dot_same (suc k) h = ap (λ b. b == 46) (same k (omega arith))

  fraction_same : (k : ℕ) → k < 64 → is_behind_fraction f k ≡ is_behind_fraction g k
  fraction_same zero h = refl
  fraction_same (suc k) h =
      ap₂ (λ b x. is_ascii_digit b && x) (same k (omega arith)) (ap₂ (λ a b. a || b) (dot_same k (omega arith)) (fraction_same k (omega arith)))

  fits_same : (k : ℕ) → k < 64 → fits_after f k ≡ fits_after g k
  fits_same zero h = rw (same 0 h)
  fits_same (suc zero) h = rw (same 1 h, same 0 (omega arith))
  fits_same (suc (suc k)) h = rw (same (suc (suc k)) h, same (suc k) (omega arith), same k (omega arith), dot_same k (omega arith), fraction_same k (omega arith))

-- the bytes of a block are those of the text
pub elements_in_text : (bytes : ℕ → ℕ) (t : List ℕ) (p n : ℕ) → ((k : ℕ) → k < 64 → bytes k ≡ byte t (p + k)) → AreWholeElements bytes n → AreWholeElements (λ j. byte t (p + j)) n
elements_in_text bytes t p n same are =
    let short : n ≤ 64 = are.within in
    record {
      within = short;
      fit = λ k h. sym (fits_same bytes (λ j. byte t (p + j)) same k (omega arith)) ∙ are.fit k h;
      comma = λ some. sym (same (n - 1) (omega arith)) ∙ are.comma some;
    }
