-- A text that holds bytes of another one, there or at other places: white space, words and numbers that end there are in both.
use Rattle.std.proofs.Common.{◌≡◌, ◌≢◌, ◌⊎◌, ◌∙◌, ℕ, ◌+◌, ◌-◌, ◌<◌, ◌≤◌, ◌==◌, ◌||◌, Bool, true, false, inl, inr, List, ◌++◌, length, take, drop, get_or, arith, refl, sym}
use Rattle.std.proofs.lemmas.Bool.{cases_lt}
use Rattle.std.proofs.lemmas.Bool.Decides.{nat_tests}
use Rattle.std.proofs.lemmas.List.{get_or-drop, get_or-take, get_or_append_left, length-take, length-drop, length-append}
use Rattle.std.proofs.lemmas.List.Sums.{prefix_len_is, prefix_len_passes}
use Rattle.std.specs.List.{prefix_len}
use Rattle.std.specs.Char.{is_ascii_digit}
use Rattle.sonic_blocks.proofs.RunLemmas.{run_fails}
use Rattle.sonic_text.specs.declared.kind.Kind.{Kind}
use Rattle.sonic_text.specs.declared.kind.Kind.TheVariants.{Array, Object}
use Rattle.sonic_text.specs.Places.{byte, is_space, after_space, digits_end, IsDigit}
use Rattle.sonic_text.specs.Literals.{IsLiteral}
use Rattle.sonic_text.specs.Numbers.{after_minus, after_sign, IsInt, IsFraction, IsE, IsExponent, IsNumber}
use Rattle.sonic_text.specs.Values.{closing}
use Rattle.sonic_text.proofs.Places.{byte_after, digits_end_later}
use Rattle.sonic_text.proofs.Numbers.{Tail, int_longer, after_minus_later, after_sign_later, fraction_later, exponent_later}

-- before its place n the text u holds the bytes of t, moved: what is at p in t is at p - d + added in u
pub record Shared (t u : List ℕ) (d added n : ℕ) : Type 0 where
  pub reach_t : d + n ≤ added + length t
  pub reach_u : n ≤ length u
  pub bytes : (p q : ℕ) → p + added ≡ d + q → q < n → byte u q ≡ byte t p

-- both texts hold the same bytes before n
abbrev pub Same : List ℕ → List ℕ → ℕ → Type 0
Same t u n = Shared t u 0 0 n

pub same_byte : {t u : List ℕ} {n : ℕ} → Same t u n → (k : ℕ) → k < n → byte u k ≡ byte t k
same_byte h k l = h.bytes k k (omega arith) l

-- they share those before an earlier place
pub same_less : {t u : List ℕ} {d added n : ℕ} (k : ℕ) → Shared t u d added n → k ≤ n → Shared t u d added k
same_less k h l =
    let a = h.reach_t in
    let b = h.reach_u in
    record { reach_t = omega arith; reach_u = omega arith; bytes = λ p q e o. h.bytes p q e (omega arith) }

-- the other way round
pub shared_back : {t u : List ℕ} {d added n : ℕ} (m : ℕ) → m + added ≡ d + n → Shared t u d added n → Shared u t added d m
shared_back m e h =
    let a = h.reach_t in
    let b = h.reach_u in
    record { reach_t = omega arith; reach_u = omega arith; bytes = λ p q z o. sym (h.bytes q p (omega arith) (omega arith)) }

pub same_back : {t u : List ℕ} {n : ℕ} → Same t u n → Same u t n
same_back {n = n} h = shared_back n (omega arith) h

-- texts that begin with the same bytes
pub same_prefix : (t u : List ℕ) (n : ℕ) → n ≤ length t → take n u ≡ take n t → Same t u n
same_prefix t u n l e =
    let f : length (take n u) ≡ length (take n t) = rw e refl in
    record {
      reach_t = omega arith;
      reach_u = omega (arith, length-take n u, length-take n t);
      bytes = λ p q z o.
          let same : p ≡ q = omega arith in
          rw same (sym (get_or-take n u q 0 o) ∙ (rw e (get_or-take n t q 0 o)));
    }

-- a text and a longer one
pub same_longer : (t w : List ℕ) (n : ℕ) → n ≤ length t → Same t (t ++ w) n
same_longer t w n l = record {
  reach_t = omega arith;
  reach_u = omega (arith, length-append t w);
  bytes = λ p q z o. (let same : p ≡ q = omega arith in rw same (get_or_append_left t w 0 q (omega arith)));
}

-- the whole of a text in a longer one
pub same_whole : (t w : List ℕ) → Same t (t ++ w) (length t)
same_whole t w = same_longer t w (length t) (omega arith)

-- u holds before its place k what t holds up to j, and there the byte of t, or one of these
pub record Agrees (P : ℕ → Type 0) (t u : List ℕ) (d added j k : ℕ) : Type 0 where
  pub place : j + added ≡ d + k
  pub before : Shared t u d added k
  pub next : (byte u k ≡ byte t j) ⊎ P (byte u k)

-- so it is at each place of what they share
pub agree_at : {P : ℕ → Type 0} {t u : List ℕ} {d added n : ℕ} → Shared t u d added n → (j k : ℕ) → j + added ≡ d + k → k < n → Agrees P t u d added j k
agree_at h j k e l = record { place = e; before = same_less k h (omega arith); next = inl (h.bytes j k e l) }

-- and at its end, where one of these is
pub agree_end : {P : ℕ → Type 0} {t u : List ℕ} {d added n : ℕ} (j : ℕ) → j + added ≡ d + n → Shared t u d added n → P (byte u n) → Agrees P t u d added j n
agree_end j e h o = record { place = e; before = h; next = inr o }

pub agree_other : {P : ℕ → Type 0} {t u : List ℕ} {n : ℕ} → Same t u n → P (byte u n) → Agrees P t u 0 0 n n
agree_other {n = n} h o = agree_end n (omega arith) h o

module _ {P : ℕ → Type 0} {t u : List ℕ} {d added j k : ℕ} (h : Agrees P t u d added j k) where
  -- they agree up to each place that isn't later
  pub up_to : (p q : ℕ) → p + added ≡ d + q → p ≤ j → Agrees P t u d added p q
  up_to p q e l = elim (cases_lt p j) [
    | inl o ↦ (let f = h.place in agree_at h.before p q e (omega arith))
    | inr o ↦
        let f = h.place in
        let a : p ≡ j = omega arith in
        let b : q ≡ k = omega arith in
        rw (a, b) h
  ]

  -- what holds of the byte of t holds of the byte of u
  pub keeps : {Q : ℕ → Type 0} → ((b : ℕ) → P b → Q b) → Q (byte t j) → Q (byte u k)
  keeps f g = elim h.next [ inl e ↦ rw e g | inr o ↦ f _ o ]

  -- one of more bytes may be there
  pub weaker : {Q : ℕ → Type 0} → ((b : ℕ) → P b → Q b) → Agrees Q t u d added j k
  weaker f = record { place = h.place; before = h.before; next = elim h.next [ inl e ↦ inl e | inr o ↦ inr (f _ o) ] }

-- a run ends where the test fails
run_stops : (f : ℕ → Bool) (t : List ℕ) (i n : ℕ) → f 0 ≡ false → n ≡ i + prefix_len f (drop i t) → f (byte t n) ≡ false
run_stops f t i n z e = elim (cases_lt n (length t)) [
  | inl l ↦ run_fails f t i n (omega arith) e l
  | inr l ↦ rw (byte_after t n l) z
]

-- no white space
abbrev pub NoSpace : ℕ → Type 0
NoSpace b = is_space b ≡ false

-- no digit
abbrev pub NoDigit : ℕ → Type 0
NoDigit b = ¬ IsDigit b

no_digit_fails : (b : ℕ) → NoDigit b → is_ascii_digit b ≡ false
no_digit_fails b h = grind (arith, nat_tests)

-- a byte that ends a number
abbrev pub EndsNumber : ℕ → Type 0
EndsNumber b = NoDigit b × (b ≢ 46) × ¬ IsE b

-- each but these
pub ends_number : (b : ℕ) → (is_ascii_digit b || b == 46 || b == 101 || b == 69) ≡ false → EndsNumber b
ends_number b h = ((λ z. grind (arith, nat_tests)), (λ z. grind (arith, nat_tests)), (λ z. grind (arith, nat_tests)))

pub closing_ends : (kind : Kind) → EndsNumber (closing kind)
closing_ends Array = ends_number 93 refl
closing_ends Object = ends_number 125 refl

-- and no byte, after the end
pub end_ends : (t : List ℕ) (q : ℕ) → length t ≤ q → EndsNumber (byte t q)
end_ends t q l = rw (byte_after t q l) (ends_number 0 refl)

module _ {t u : List ℕ} {d added j k : ℕ} (i x : ℕ) (e : i + added ≡ d + x) where
  -- a run that ends at j does so in both texts
  run_same : (f : ℕ → Bool) → f 0 ≡ false → Agrees (λ b. f b ≡ false) t u d added j k → j ≡ i + prefix_len f (drop i t) → k ≡ x + prefix_len f (drop x u)
  run_same f z h q =
      let r = prefix_len f (drop i t) in
      let p = h.place in
      let a = h.before.reach_u in
      let y : k ≡ x + r = omega arith in
      let s : f (byte u k) ≡ false = keeps h (λ b o. o) (run_stops f t i j z q) in
      let l : r ≤ length (drop x u) = omega (arith, length-drop x u) in
      let passes : (n : ℕ) → n < r → f (get_or (drop x u) n 0) ≡ true = λ n o.
      let g : get_or (drop x u) n 0 ≡ get_or (drop i t) n 0 =
      get_or-drop x u n 0 ∙ h.before.bytes (i + n) (x + n) (omega arith) (omega arith) ∙ sym (get_or-drop i t n 0) in
      rw g (prefix_len_passes f (drop i t) n 0 o) in
      let stops : r < length (drop x u) → f (get_or (drop x u) r 0) ≡ false = λ o. rw (get_or-drop x u r 0) (rw y at s) in
      let g : prefix_len f (drop x u) ≡ r = prefix_len_is f (drop x u) r 0 l passes stops in
      rw g y

  -- white space that ends at j does so in both
  pub space_same : Agrees NoSpace t u d added j k → j ≡ after_space t i → k ≡ after_space u x
  space_same h q = run_same is_space refl h q

  -- digits that end at j do so in both
  pub digits_same : Agrees NoDigit t u d added j k → j ≡ digits_end t i → k ≡ digits_end u x
  digits_same h q = run_same is_ascii_digit refl (weaker h no_digit_fails) q

module _ {t u : List ℕ} {d added : ℕ} (i x : ℕ) (e : i + added ≡ d + x) where
  -- white space that ends before n
  pub space_there : {n : ℕ} → Shared t u d added n → after_space t i + added < d + n → after_space t i + added ≡ d + after_space u x
  space_there h l =
      let p = after_space t i in
      let q = p + added - d in
      let a : p + added ≡ d + q = omega arith in
      let s : q ≡ after_space u x = space_same i x e (agree_at h p q a (omega arith)) refl in
      rw (← s) a

  -- and the byte after it
  pub after_same : {n : ℕ} (b : ℕ) → Shared t u d added n → after_space t i + added < d + n → byte t (after_space t i) ≡ b
      → (after_space t i + added ≡ d + after_space u x) × (byte u (after_space u x) ≡ b)
  after_same b h l f = let a = space_there h l in (a, h.bytes (after_space t i) (after_space u x) a (omega arith) ∙ f)

  -- a minus sign
  minus_same : {n : ℕ} → Shared t u d added n → x < n → after_minus t i + added ≡ d + after_minus u x
  minus_same h l = let b = h.bytes i x e l in grind (arith, nat_tests)

  -- a sign
  sign_same : {n : ℕ} → Shared t u d added n → x < n → after_sign t i + added ≡ d + after_sign u x
  sign_same h l = let b = h.bytes i x e l in grind (arith, nat_tests)

-- in texts that begin alike white space before n ends at one place
pub space_before : {t u : List ℕ} {n : ℕ} (i : ℕ) → Same t u n → after_space t i < n → after_space u i ≡ after_space t i
space_before i h l = omega (arith, space_there i i (omega arith) h (omega arith))

module _ {t u : List ℕ} {d added j k : ℕ} (i x : ℕ) (e : i + added ≡ d + x) where
  -- an integer
  pub int_same : Agrees EndsNumber t u d added j k → IsInt t i j → IsInt u x k
  int_same h (inl g) =
      let p = h.place in
      let a : j ≡ i + 1 = g.2 in
      let y : k ≡ x + 1 = omega arith in
      let n : NoDigit (byte u k) = keeps h (λ b o. o.0) (rw a g.1) in
      inl (h.before.bytes i x e (omega arith) ∙ g.0, rw y at n, y)
  int_same h (inr g) =
      let p = h.place in
      let l : i < j = int_longer t i j (inr g) in
      let b : byte u x ≡ byte t i = h.before.bytes i x e (omega arith) in
      inr (rw b g.0, rw b g.1, digits_same i x e (weaker h (λ b o. o.0)) g.2)

  -- what begins by this byte, with digits after it, or nothing where another byte is
  tail_same : (Starts : ℕ → Type 0) (a c : ℕ) → i < a → (a < j → a + added ≡ d + c) → ((b : ℕ) → EndsNumber b → ¬ Starts b) → Agrees EndsNumber t u d added j k
      → Tail t (Starts (byte t i)) a i j → Tail u (Starts (byte u x)) c x k
  tail_same Starts a c o f n h (inl g) =
      let p = h.place in
      let l : a < j = rw g.2 (digits_end_later t a g.1) in
      let y = f l in
      let b : byte u x ≡ byte t i = h.before.bytes i x e (omega arith) in
      let z : byte u c ≡ byte t a = h.before.bytes a c y (omega arith) in
      inl (rw b g.0, rw z g.1, digits_same a c y (weaker h (λ b o. o.0)) g.2)
  tail_same Starts a c o f n h (inr g) =
      let p = h.place in
      let y : k ≡ x = omega (arith, g.1) in
      let z : ¬ Starts (byte u k) = keeps h n (rw g.1 g.0) in
      inr (rw y at z, y)

  -- a fraction
  pub fraction_same : Agrees EndsNumber t u d added j k → IsFraction t i j → IsFraction u x k
  fraction_same = tail_same (λ b. b ≡ 46) (i + 1) (x + 1) (omega arith) (λ l. omega arith) (λ b o. o.1)

  -- an exponent
  exponent_same : Agrees EndsNumber t u d added j k → IsExponent t i j → IsExponent u x k
  exponent_same h =
      let l = after_sign_later t (i + 1) in
      let p = h.place in
      tail_same IsE (after_sign t (i + 1)) (after_sign u (x + 1)) (omega arith)
      (λ o. sign_same (i + 1) (x + 1) (omega arith) h.before (omega arith)) (λ b o. o.2) h

module _ {t u : List ℕ} {d added j k : ℕ} (i x : ℕ) (e : i + added ≡ d + x) where
  -- a number
  pub number_same : Agrees EndsNumber t u d added j k → IsNumber t i j → IsNumber u x k
  number_same h g =
      let s = after_minus t i in
      let p = h.place in
      let m : i ≤ s = after_minus_later t i in
      let n : s < g.int_end = int_longer t s g.int_end g.int in
      let o : g.int_end ≤ g.fraction_end = fraction_later t g.int_end g.fraction_end g.fraction in
      let r : g.fraction_end ≤ j = exponent_later t g.fraction_end j g.exponent in
      let a : s + added ≡ d + after_minus u x = minus_same i x e h.before (omega arith) in
      let v = g.int_end + added - d in
      let w = g.fraction_end + added - d in
      let f : g.fraction_end + added ≡ d + w = omega arith in
      let to_w = up_to h g.fraction_end w f r in
      record {
        int_end = v;
        fraction_end = w;
        int = int_same s (after_minus u x) a (up_to h g.int_end v (omega arith) (omega arith)) g.int;
        fraction = fraction_same g.int_end v (omega arith) to_w g.fraction;
        exponent = exponent_same g.fraction_end w f h g.exponent;
      }

  -- a word
  pub literal_same : (word : List ℕ) → j + added ≡ d + k → Shared t u d added k → IsLiteral word t i j → IsLiteral word u x k
  literal_same word f h g =
      let a = h.reach_u in
      let b : k ≡ x + length word = omega (arith, g.1) in
      ((omega arith, λ n o. h.bytes (i + n) (x + n) (omega arith) (omega arith) ∙ g.0.1 n o), b)
