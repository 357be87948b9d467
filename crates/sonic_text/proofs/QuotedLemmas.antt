-- A string hides what is between its quotes: it leaves the count of brackets as it was.
use Rattle.std.proofs.Common.{◌≡◌, ◌≢◌, ℕ, zero, suc, ◌+◌, ◌-◌, ◌<◌, ◌≤◌, ◌==◌, ◌&&◌, Bool, true, false, not, inl, inr, List, Some, None, refl, sym, ap, ap₂, ◌∙◌, arith}
use Rattle.std.proofs.lemmas.Bool.{cases_lt, false≢true}
use Rattle.std.proofs.lemmas.Bool.Decides.{nat_tests}
use Rattle.sonic_blocks.specs.Outside.{is_escaped_at, is_inside_at, outside, IsClear}
use Rattle.sonic_blocks.proofs.BoolLemmas.{xor}
use Rattle.sonic_blocks.proofs.OutsideLemmas.{escaped_next, inside_next}
use Rattle.sonic_text.specs.declared.kind.Kind.{Kind}
use Rattle.sonic_text.specs.Brackets.{opened, closed, LeavesString}
use Rattle.sonic_text.specs.Places.{byte}
use Rattle.sonic_text.specs.Strings.{hex_digit, IsEscape, IsChar, AreChars, IsString}
use Rattle.sonic_text.specs.Strings.IsUnicodeChar.{scalar, pair, lone_high, lone_low}
use Rattle.sonic_text.specs.Strings.IsChar.{unescaped, short_escape, unicode_escape}
use Rattle.sonic_text.specs.Strings.AreChars.{no_char, one_more}
use Rattle.sonic_text.specs.Values.{opening, closing}
use Rattle.sonic_text.proofs.LevelLemmas.{Rises, brackets, no_test, yes_test, hidden, not_counted}

-- from p to q all is inside a string, and no escape is open at q
pub record StaysInside (t : List ℕ) (s p q : ℕ) : Type 0 where
  pub from : s ≤ q
  pub later : p ≤ q
  pub no_escape : is_escaped_at t s q ≡ false
  pub inside : (k : ℕ) → p ≤ k → k ≤ q → is_inside_at t s k ≡ true

-- no hexadecimal digit is a quote or a backslash
hex_no : (b a c : ℕ) → hex_digit b ≡ Some a → hex_digit c ≡ None → b ≢ c
hex_no b a c h n e = let g : hex_digit c ≡ Some a = ap hex_digit (sym e) ∙ h in cc

hex_quote : (b a : ℕ) → hex_digit b ≡ Some a → b ≢ 34
unfolding hex_digit
hex_quote b a h = hex_no b a 34 h refl

hex_slash : (b a : ℕ) → hex_digit b ≡ Some a → b ≢ 92
unfolding hex_digit
hex_slash b a h = hex_no b a 92 h refl

module _ (t : List ℕ) (s : ℕ) where
  -- the last place of a stretch is inside
  pub last_inside : {p q : ℕ} → StaysInside t s p q → is_inside_at t s q ≡ true
  last_inside {q = q} h = h.inside q h.later (omega arith)

  -- one more place
  further : {p q : ℕ} → StaysInside t s p q → is_escaped_at t s (q + 1) ≡ false → is_inside_at t s (q + 1) ≡ true → StaysInside t s p (q + 1)
  further {q = q} h no_escape inside = record {
    from = omega (arith, h.from);
    later = omega (arith, h.later);
    no_escape = no_escape;
    inside = λ k l m. elim (cases_lt q k) [ inl n ↦ (let last : k ≡ q + 1 = omega arith in rw last inside) | inr n ↦ h.inside k l n ];
  }

  -- after the first quote
  pub quote_opens : {i : ℕ} → IsClear t s i → byte t i ≡ 34 → StaysInside t s (i + 1) (i + 1)
  quote_opens {i} h quote = record {
    from = omega (arith, h.from);
    later = omega arith;
    no_escape = escaped_next t s i h.from ∙ ap (λ b. b && not (is_escaped_at t s i)) (no_test _ _ (λ e. omega (arith, quote)));
    inside = λ k l m. (
        let first : k ≡ i + 1 = omega arith in
        rw first (inside_next t s i h.from ∙ ap₂ xor h.no_string (ap₂ (λ a b. a && not b) (yes_test _ _ quote) h.no_escape))
        );
  }

  -- after a byte that is no quote and no backslash
  pub byte_inside : {p q : ℕ} → StaysInside t s p q → byte t q ≢ 34 → byte t q ≢ 92 → StaysInside t s p (q + 1)
  byte_inside {q = q} h quote slash =
      further h (escaped_next t s q h.from ∙ ap (λ b. b && not (is_escaped_at t s q)) (no_test _ _ slash))
      (inside_next t s q h.from ∙ ap₂ xor (last_inside h) (ap (λ b. b && not (is_escaped_at t s q)) (no_test _ _ quote)))

  -- after a backslash and the byte after it, whatever it is
  pub escape_inside : {p q : ℕ} → StaysInside t s p q → byte t q ≡ 92 → StaysInside t s p (q + 2)
  escape_inside {p} {q} h slash = rw two record {
    from = omega (arith, h.from);
    later = omega (arith, h.later);
    no_escape = escaped_next t s (q + 1) from ∙ ap (λ b. (byte t (q + 1) == 92) && not b) escape ∙ none (byte t (q + 1) == 92);
    inside = λ k l m. elim (cases_lt q k) [
      | inr n ↦ h.inside k l n
      | inl n ↦ elim (cases_lt (q + 1) k) [
        | inr o ↦ (let here : k ≡ q + 1 = omega arith in rw here first)
        | inl o ↦ (let here : k ≡ q + 1 + 1 = omega arith in rw here second)
      ]
    ];
  }
    where
      two : q + 2 ≡ q + 1 + 1
      two = omega arith

      from : s ≤ q + 1
      from = omega (arith, h.from)

      none : (b : Bool) → (b && false) ≡ false
      none true = refl
      none false = refl

      escape : is_escaped_at t s (q + 1) ≡ true
      escape = escaped_next t s q h.from ∙ ap₂ (λ a b. a && not b) (yes_test _ _ slash) h.no_escape

      first : is_inside_at t s (q + 1) ≡ true
      first = inside_next t s q h.from ∙ ap₂ xor (last_inside h) (ap (λ b. b && not (is_escaped_at t s q)) (no_test _ _ (λ e. omega (arith, slash))))

      second : is_inside_at t s (q + 1 + 1) ≡ true
      second = inside_next t s (q + 1) from ∙ ap₂ xor first (ap (λ b. (byte t (q + 1) == 34) && not b) escape ∙ none (byte t (q + 1) == 34))

  -- the next quote ends it
  pub quote_closes : {i q : ℕ} → StaysInside t s (i + 1) q → byte t q ≡ 34 → LeavesString t s i (q + 1)
  quote_closes {q = q} h quote = record {
    later = omega (arith, h.later);
    inside = λ k l m. h.inside k (omega arith) (omega arith);
    clear = record {
      from = omega (arith, h.from);
      no_escape = escaped_next t s q h.from ∙ ap (λ b. b && not (is_escaped_at t s q)) (no_test _ _ (λ e. omega (arith, quote)));
      no_string = inside_next t s q h.from ∙ ap₂ xor (last_inside h) (ap₂ (λ a b. a && not b) (yes_test _ _ quote) h.no_escape);
    };
  }

  -- an escape of four hexadecimal digits
  unicode_inside : {p q n : ℕ} → StaysInside t s p q → IsEscape t q n → StaysInside t s p (q + 6)
  unicode_inside {p} {q} h u =
      let x = u.2 in
      let a : StaysInside t s p (q + 2) = escape_inside h u.0 in
      let b : StaysInside t s p (q + 2 + 1) = byte_inside a (hex_quote _ _ x.first) (hex_slash _ _ x.first) in
      let two : q + 2 + 1 + 1 ≡ q + 2 + 2 = omega arith in
      let three : q + 2 + 2 + 1 ≡ q + 2 + 3 = omega arith in
      let four : q + 2 + 3 + 1 ≡ q + 6 = omega arith in
      let c : StaysInside t s p (q + 2 + 2) = rw two at (byte_inside b (hex_quote _ _ x.second) (hex_slash _ _ x.second)) in
      let d : StaysInside t s p (q + 2 + 3) = rw three at (byte_inside c (hex_quote _ _ x.third) (hex_slash _ _ x.third)) in
      rw four at (byte_inside d (hex_quote _ _ x.fourth) (hex_slash _ _ x.fourth))

  -- one char
  char_inside : {m : Bool} {p q r : ℕ} {b : List ℕ} → StaysInside t s p q → IsChar m t q r b → StaysInside t s p r
  char_inside h (unescaped u e f) = rw e (byte_inside h u.1 u.2)
  char_inside h (short_escape o k e f) = rw e (escape_inside h o)
  char_inside h (unicode_escape u (scalar a b e f)) = rw e (unicode_inside h u)
  char_inside {q = q} h (unicode_escape u (pair a v b e f)) =
      let both : q + 12 ≡ q + 6 + 6 = omega arith in
      rw (e, both) (unicode_inside (unicode_inside h u) v)
  char_inside h (unicode_escape u (lone_high o a b e f)) = rw e (unicode_inside h u)
  char_inside h (unicode_escape u (lone_low o a e f)) = rw e (unicode_inside h u)

  chars_inside : {m : Bool} {p q : ℕ} {b : List ℕ} → StaysInside t s p p → AreChars m t p q b → StaysInside t s p q
  chars_inside h (no_char e f) = rw e h
  chars_inside h (one_more cs c e) = char_inside (chars_inside h cs) c

  -- a string
  pub string_leaves : {m : Bool} {i j : ℕ} {b : List ℕ} → IsClear t s i → IsString m t i j b → LeavesString t s i j
  string_leaves h str = rw str.end (quote_closes (chars_inside (quote_opens h str.opens) str.chars) str.closes)

  -- nothing is counted inside
  none_counted : (b n : ℕ) {p q : ℕ} → q ≡ p + n → s ≤ p → ((k : ℕ) → p < k → k ≤ q → is_inside_at t s k ≡ true) → outside t s q b ≡ outside t s p b
  none_counted b zero {p} {q} e from inside = let same : q ≡ p = omega arith in rw same refl
  none_counted b (suc n) {p} {q} e from inside =
      let same : q ≡ p + n + 1 = omega arith in
      rw same (hidden t s b (omega arith) (inside (p + n + 1) (omega arith) (omega arith)) ∙ none_counted b n refl from (λ k l m. inside k l (omega arith)))

  -- what leaves a string ends with a quote
  last_quote : {i : ℕ} (q : ℕ) → byte t i ≡ 34 → LeavesString t s i (q + 1) → s ≤ i → byte t q ≡ 34
  last_quote {i} q quote x from = elim (cases_lt i q) [
    | inr n ↦ (let same : q ≡ i = omega (arith, x.later) in rw same quote)
    | inl n ↦
        let was = x.inside q n (omega arith) in
        let closed_by = sym (ap (λ b. xor b ((byte t q == 34) && not (is_escaped_at t s q))) was) ∙ sym (inside_next t s q (omega arith)) ∙ x.clear.no_string in
        let quote : (byte t q == 34) ≡ true = first (byte t q == 34) (not (is_escaped_at t s q)) closed_by in
        grind (arith, nat_tests)
  ]
    where
      first : (a b : Bool) → not (a && b) ≡ false → a ≡ true
      first true b h = refl
      first false b h = absurd (false≢true (sym h))

  -- a string leaves the level as it was
  pub string_level : (kind : Kind) {i j : ℕ} → IsClear t s i → byte t i ≡ 34 → LeavesString t s i j → Rises kind t s 0 i j
  string_level kind {i} {j} h quote x =
      let last : j ≡ j - 1 + 1 = omega (arith, x.later) in
      rw last (level (j - 1) (rw last at x))
    where
      level : (q : ℕ) → LeavesString t s i (q + 1) → Rises kind t s 0 i (q + 1)
      level q x =
          let b = brackets kind in
          let end : byte t q ≡ 34 = last_quote q quote x h.from in
          let later : i ≤ q = omega (arith, x.later) in
          let same : (c k : ℕ) → i ≤ k → k ≤ q → outside t s k c ≡ outside t s i c = λ c k l m. none_counted c (k - i) (omega arith) h.from (λ r y z. x.inside r y (omega arith)) in
          let o = not_counted t s {k = q} (opening kind) (omega (arith, h.from)) (λ e. b.opening_quote (sym e ∙ end)) in
          let c = not_counted t s {k = q} (closing kind) (omega (arith, h.from)) (λ e. b.closing_quote (sym e ∙ end)) in
          let all : (k : ℕ) → i < k → k ≤ q + 1 → (opened kind t s k ≡ opened kind t s i) × (closed kind t s k ≡ closed kind t s i) = λ k l m. elim (cases_lt q k) [
            | inl n ↦ (let e : k ≡ q + 1 = omega arith in rw e (o ∙ same (opening kind) q later (omega arith), c ∙ same (closing kind) q later (omega arith)))
            | inr n ↦ (same (opening kind) k (omega arith) n, same (closing kind) k (omega arith) n)
          ] in
          record {
            clear = x.clear;
            later = omega (arith, x.later);
            above = λ k l m. omega (arith, all k l m);
            level = omega (arith, all (q + 1) x.later (omega arith));
            backslashes = λ k l m e. elim (cases_lt i k) [
              | inl n ↦ x.inside k n m
              | inr n ↦ (let same : k ≡ i = omega arith in absurd (omega (arith, quote, rw same at e)))
            ];
          }
