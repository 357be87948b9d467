-- How far brackets of one kind are opened outside strings, from a place s on: one byte, and one stretch after another.
use Rattle.std.proofs.Common.{◌≡◌, ◌≢◌, ℕ, suc, ◌+◌, ◌<◌, ◌≤◌, Bool, true, false, not, ◌&&◌, ◌==◌, inl, inr, cond, List, refl, sym, ap, ap₂, ◌∙◌, arith}
use Rattle.std.proofs.lemmas.Bool.{cases_lt}
use Rattle.std.proofs.lemmas.Bool.Decides.{nat_tests}
use Rattle.sonic_blocks.specs.Outside.{is_escaped_at, is_inside_at, outside, IsClear}
use Rattle.sonic_blocks.proofs.BoolLemmas.{xor}
use Rattle.sonic_blocks.proofs.OutsideLemmas.{escaped_next, inside_next, outside_next}
use Rattle.sonic_text.specs.declared.kind.Kind.{Kind}
use Rattle.sonic_text.specs.declared.kind.Kind.TheVariants.{Array, Object}
use Rattle.sonic_text.specs.Brackets.{opened, closed, KeepsBackslashes}
use Rattle.sonic_text.specs.Places.{byte}
use Rattle.sonic_text.specs.Values.{opening, closing}

-- from p on the level is at least d higher, and d higher at q, which is clear
pub record Rises (kind : Kind) (t : List ℕ) (s d p q : ℕ) : Type 0 where
  pub clear : IsClear t s q
  pub later : p ≤ q
  pub above : (k : ℕ) → p < k → k ≤ q → opened kind t s p + closed kind t s k + d ≤ closed kind t s p + opened kind t s k
  pub level : closed kind t s p + opened kind t s q ≡ opened kind t s p + closed kind t s q + d
  pub backslashes : KeepsBackslashes t s p q

pub no_test : (b c : ℕ) → b ≢ c → (b == c) ≡ false
no_test b c h = grind (arith, nat_tests)

pub yes_test : (b c : ℕ) → b ≡ c → (b == c) ≡ true
yes_test b c h = grind (arith, nat_tests)

-- the two brackets of a kind are no quotes and no backslashes, and differ
pub record AreBrackets (kind : Kind) : Type 0 where
  pub opening_quote : opening kind ≢ 34
  pub opening_slash : opening kind ≢ 92
  pub closing_quote : closing kind ≢ 34
  pub closing_slash : closing kind ≢ 92
  pub apart : opening kind ≢ closing kind

pub brackets : (kind : Kind) → AreBrackets kind
brackets Array = record { opening_quote = λ e. omega arith; opening_slash = λ e. omega arith; closing_quote = λ e. omega arith; closing_slash = λ e. omega arith; apart = λ e. omega arith }
brackets Object = record { opening_quote = λ e. omega arith; opening_slash = λ e. omega arith; closing_quote = λ e. omega arith; closing_slash = λ e. omega arith; apart = λ e. omega arith }

-- what a bracket of the kind `other` counts
abbrev pub weight : Kind → Kind → ℕ
weight Array Array = 1
weight Array Object = 0
weight Object Array = 0
weight Object Object = 1

module _ (t : List ℕ) (s : ℕ) where
  -- after a byte that is no quote and no backslash it stays clear
  pub clear_next : {k : ℕ} → IsClear t s k → byte t k ≢ 34 → byte t k ≢ 92 → IsClear t s (k + 1)
  clear_next {k} h quote slash = record {
    from = omega (arith, h.from);
    no_escape = escaped_next t s k h.from ∙ ap (λ b. b && not (is_escaped_at t s k)) (no_test _ _ slash);
    no_string = inside_next t s k h.from ∙ ap₂ xor h.no_string (ap (λ b. b && not (is_escaped_at t s k)) (no_test _ _ quote));
  }

  -- a byte outside strings is counted where it is the one that is counted
  pub counted : {k : ℕ} (b : ℕ) → s ≤ k → is_inside_at t s (k + 1) ≡ false → byte t k ≡ b → outside t s (k + 1) b ≡ outside t s k b + 1
  counted {k} b from out e =
      let was = outside t s k b in
      let more : suc was ≡ was + 1 = omega arith in
      outside_next t s k from b ∙ ap₂ (λ x y. cond (x && not y) (suc was) was) (yes_test _ _ e) out ∙ more

  pub not_counted : {k : ℕ} (b : ℕ) → s ≤ k → byte t k ≢ b → outside t s (k + 1) b ≡ outside t s k b
  not_counted {k} b from e =
      let was = outside t s k b in
      outside_next t s k from b ∙ ap (λ x. cond (x && not (is_inside_at t s (k + 1))) (suc was) was) (no_test _ _ e)

  -- inside a string nothing is counted
  pub hidden : {k : ℕ} (b : ℕ) → s ≤ k → is_inside_at t s (k + 1) ≡ true → outside t s (k + 1) b ≡ outside t s k b
  hidden {k} b from inside =
      let was = outside t s k b in
      outside_next t s k from b ∙ ap (λ y. cond ((byte t k == b) && not y) (suc was) was) inside ∙ none (byte t k == b)
    where
      none : (x : Bool) → cond (x && false) (suc (outside t s k b)) (outside t s k b) ≡ outside t s k b
      none true = refl
      none false = refl

  -- nothing rises over no byte
  pub stays : (kind : Kind) {p : ℕ} → IsClear t s p → Rises kind t s 0 p p
  stays kind h = record { clear = h; later = omega arith; above = λ k l m. absurd (omega arith); level = omega arith; backslashes = λ k l m e. absurd (omega arith) }

  -- a stretch, and one after it that does not fall below its beginning
  pub chain : {kind : Kind} {d p q r : ℕ} → Rises kind t s d p q → Rises kind t s 0 q r → Rises kind t s d p r
  chain {q = q} h g = record {
    clear = g.clear;
    later = omega (arith, h.later, g.later);
    above = λ k l m. elim (cases_lt q k) [ inl n ↦ omega (arith, h.level, g.above k n m) | inr n ↦ h.above k l n ];
    level = omega (arith, h.level, g.level);
    backslashes = λ k l m e. elim (cases_lt k q) [ inl n ↦ h.backslashes k l n e | inr n ↦ g.backslashes k n m e ];
  }

  -- one byte that is no backslash
  one_byte : {kind : Kind} {d p : ℕ} → byte t p ≢ 92 → IsClear t s (p + 1)
      → closed kind t s p + opened kind t s (p + 1) ≡ opened kind t s p + closed kind t s (p + 1) + d → Rises kind t s d p (p + 1)
  one_byte {p = p} slash clear level = record {
    clear = clear;
    later = omega arith;
    above = λ k l m. (let last : k ≡ p + 1 = omega arith in rw last (omega (arith, level)));
    level = level;
    backslashes = λ k l m e. (let first : k ≡ p = omega arith in absurd (slash (rw first at e)));
  }

  -- a byte that is no quote, no backslash and no bracket of the kind
  pub quiet : {kind : Kind} {p : ℕ} → IsClear t s p → byte t p ≢ 34 → byte t p ≢ 92 → byte t p ≢ opening kind → byte t p ≢ closing kind
      → Rises kind t s 0 p (p + 1)
  quiet {kind} h quote slash o c =
      one_byte slash (clear_next h quote slash) (omega (arith, not_counted (opening kind) h.from o, not_counted (closing kind) h.from c))

  -- a bracket of the kind that opens
  pub opens_own : (kind : Kind) {p : ℕ} → IsClear t s p → byte t p ≡ opening kind → Rises kind t s 1 p (p + 1)
  opens_own kind {p} h e =
      let b = brackets kind in
      let slash : byte t p ≢ 92 = λ f. b.opening_slash (sym e ∙ f) in
      let n = clear_next h (λ f. b.opening_quote (sym e ∙ f)) slash in
      one_byte slash n (omega (arith, counted (opening kind) h.from n.no_string e, not_counted (closing kind) h.from (λ f. b.apart (sym e ∙ f))))

  -- and one that closes: it is clear after it, and one more is closed
  pub one_closed : (kind : Kind) {q : ℕ} → IsClear t s q → byte t q ≡ closing kind
      → IsClear t s (q + 1) × (closed kind t s (q + 1) ≡ closed kind t s q + 1) × (opened kind t s (q + 1) ≡ opened kind t s q)
  one_closed kind h e =
      let b = brackets kind in
      let n = clear_next h (λ f. b.closing_quote (sym e ∙ f)) (λ f. b.closing_slash (sym e ∙ f)) in
      (n, counted (closing kind) h.from n.no_string e, not_counted (opening kind) h.from (λ f. b.apart (sym f ∙ e)))

  -- a stretch, and the bracket of the kind that closes it
  closes_own : (kind : Kind) {d p q : ℕ} → Rises kind t s (d + 1) p q → byte t q ≡ closing kind → Rises kind t s d p (q + 1)
  closes_own kind {d} {p} {q} g e =
      let n = one_closed kind g.clear e in
      let level : closed kind t s p + opened kind t s (q + 1) ≡ opened kind t s p + closed kind t s (q + 1) + d = omega (arith, g.level, n.1, n.2) in
      record {
        clear = n.0;
        later = omega (arith, g.later);
        above = λ k l m. elim (cases_lt q k) [
          | inl x ↦ (let last : k ≡ q + 1 = omega arith in rw last (omega (arith, level)))
          | inr x ↦ omega (arith, g.above k l x)
        ];
        level = level;
        backslashes = λ k l m x. elim (cases_lt k q) [
          | inl n ↦ g.backslashes k l n x
          | inr n ↦ (let last : k ≡ q = omega arith in absurd ((brackets kind).closing_slash (sym e ∙ rw last at x)))
        ];
      }

  -- a bracket that opens
  pub opens : (kind other : Kind) {p : ℕ} → IsClear t s p → byte t p ≡ opening other → Rises kind t s (weight kind other) p (p + 1)
  opens Array Array h e = opens_own Array h e
  opens Object Object h e = opens_own Object h e
  opens Array Object h e = quiet h (λ f. omega arith) (λ f. omega arith) (λ f. omega arith) (λ f. omega arith)
  opens Object Array h e = quiet h (λ f. omega arith) (λ f. omega arith) (λ f. omega arith) (λ f. omega arith)

  -- a stretch, and the bracket that closes it
  pub closes : (kind other : Kind) {p q : ℕ} → Rises kind t s (weight kind other) p q → byte t q ≡ closing other → Rises kind t s 0 p (q + 1)
  closes Array Array g e = closes_own Array g e
  closes Object Object g e = closes_own Object g e
  closes Array Object g e = chain g (quiet g.clear (λ f. omega arith) (λ f. omega arith) (λ f. omega arith) (λ f. omega arith))
  closes Object Array g e = chain g (quiet g.clear (λ f. omega arith) (λ f. omega arith) (λ f. omega arith) (λ f. omega arith))
