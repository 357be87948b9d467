-- In every value each kind of bracket balances outside strings.
use Rattle.std.proofs.Common.{◌≡◌, inl, inr, ℕ, ◌+◌, Bool, List, Option, Ok, Err, refl, arith, codes}
use Rattle.std.proofs.lemmas.Bool.{cases_lt, cases_order}
use Rattle.sonic_blocks.specs.Outside.{IsClear}
use Rattle.sonic_blocks.proofs.OutsideLemmas.{escaped_start, inside_start, outside_start}
use Rattle.sonic_text.specs.declared.kind.Kind.{Kind}
use Rattle.sonic_text.specs.declared.kind.Kind.TheVariants.{Array, Object}
use Rattle.sonic_text.specs.Brackets.{Closes, IsLevel, KeepsBackslashes, LeavesString}
use Rattle.sonic_text.specs.Places.{byte, after_space}
use Rattle.sonic_text.specs.Strings.{IsString}
use Rattle.sonic_text.specs.Values.{opening, closing, ItemHead, IsValue, ItemsFit}
use Rattle.sonic_text.specs.Values.ItemHead.{no_head, key_head}
use Rattle.sonic_text.specs.Values.IsValue.{null_literal, true_literal, false_literal, number, string, empty, filled}
use Rattle.sonic_text.specs.Values.ItemsFit.{first_item, next_item}
use Rattle.sonic_text.proofs.Items.{at_key, at_value}
use Rattle.sonic_text.proofs.LevelLemmas.{Rises, chain, opens, closes, weight, opens_own}
use Rattle.sonic_text.proofs.OrdinaryLemmas.{known_byte, spaces, letters, number_level}
use Rattle.sonic_text.proofs.QuotedLemmas.{string_leaves, string_level}
use Rattle.sonic_text.proofs.Values.{ContainerOutcome, no_item, at_last, container_outcome, value-longer}

module _ (kind : Kind) (t : List ℕ) (s : ℕ) where
  -- a stretch, and white space after it
  spaced : {d p q : ℕ} → Rises kind t s d p q → Rises kind t s d p (after_space t q)
  spaced g = chain t s g (spaces kind t s g.clear)

  -- a stretch, and a comma with white space after it
  comma : {d p q : ℕ} → Rises kind t s d p q → byte t q ≡ 44 → Rises kind t s d p (after_space t (q + 1))
  comma g e = spaced (chain t s g (known_byte kind t s 44 (refl, refl, refl, refl, refl, refl) refl g.clear e))

  colon : {d p q : ℕ} → Rises kind t s d p q → byte t q ≡ 58 → Rises kind t s d p (after_space t (q + 1))
  colon g e = spaced (chain t s g (known_byte kind t s 58 (refl, refl, refl, refl, refl, refl) refl g.clear e))

  -- a stretch, and a string after it
  quoted : {m : Bool} {d p q r : ℕ} {b : List ℕ} → Rises kind t s d p q → IsString m t q r b → Rises kind t s d p r
  quoted g x = chain t s g (string_level t s kind g.clear x.opens (string_leaves t s g.clear x))

  -- a stretch, and the head of an item after it
  headed : {m : Bool} {other : Kind} {d p h v : ℕ} {l : Option (List ℕ)} → Rises kind t s d p h → ItemHead m t other h v l → Rises kind t s d p v
  headed g (no_head e) = rw e g
  headed g (key_head y) = rw y.value_start (colon (spaced (quoted g y.string)) y.colon)

  mutual
    -- a value
    pub value_rises : {m : Bool} {i j : ℕ} → IsClear t s i → IsValue m t i j → Rises kind t s 0 i j
    value_rises h (null_literal l) = letters kind t s (codes "null") refl h l
    value_rises h (true_literal l) = letters kind t s (codes "true") refl h l
    value_rises h (false_literal l) = letters kind t s (codes "false") refl h l
    value_rises h (number n) = number_level kind t s h n
    value_rises h (string x) = string_level t s kind h x.opens (string_leaves t s h x)
    value_rises h (empty other b c q) = rw q (closes t s kind other (spaced (opens t s kind other h b)) c)
    value_rises h (filled {kind = other} is y x c q) =
        let a = headed (items_rise h is) y in
        rw q (closes t s kind other (spaced (chain t s a (value_rises a.clear x))) c)

    -- the items of a container, after its bracket
    items_rise : {m : Bool} {other : Kind} {i n h : ℕ} → IsClear t s i → ItemsFit m t other i n h → Rises kind t s (weight kind other) i h
    items_rise {other = other} h (first_item b q d e) = rw q (spaced (opens t s kind other h b))
    items_rise h (next_item is y x c q e) =
        let a = headed (items_rise h is) y in
        rw q (comma (spaced (chain t s a (value_rises a.clear x))) c)

-- a bracket of the kind itself counts
own_weight : (kind : Kind) → weight kind kind ≡ 1
own_weight Array = refl
own_weight Object = refl

-- up to its last byte a container is open
record IsOpenTo (kind : Kind) (t : List ℕ) (s i j : ℕ) : Type 0 where
  last : ℕ
  end : j ≡ last + 1
  rises : Rises kind t s 1 i last

open_inside : (kind : Kind) (t : List ℕ) (s : ℕ) {m : Bool} {i j : ℕ} → IsClear t s i → IsValue m t i j → byte t i ≡ opening kind → IsOpenTo kind t s i j
open_inside kind t s {m} {i} {j} h x o = from (container_outcome (Ok j) o x)
  where
    from : ContainerOutcome m t kind i (Ok j) → IsOpenTo kind t s i j
    from (no_item c e) = record { last = after_space t (i + 1); end = cc; rises = spaced kind t s (opens_own t s kind h o) }
    from (at_last is (at_value (Ok e) y v (inl (c, q)))) =
        let a = headed kind t s (items_rise kind t s h is) y in
        record { last = after_space t e; end = cc; rises = rw (own_weight kind) at (spaced kind t s (chain t s a (value_rises kind t s a.clear v))) }
    from (at_last is (at_value (Ok e) y v (inr (c, q)))) = absurd cc
    from (at_last is (at_value (Err f) y v q)) = absurd cc
    from (at_last is (at_key k f q)) = absurd cc

-- where the count begins it is clear
pub clear_start : (t : List ℕ) (i : ℕ) → IsClear t i i
clear_start t i = record { from = omega arith; no_escape = escaped_start t i; no_string = inside_start t i }

pub value_closes : (m : Bool) (kind : Kind) (t : List ℕ) (i j : ℕ) → IsValue m t i j → byte t i ≡ opening kind → Closes kind t i j
value_closes m kind t i j x o =
    let all = value_rises kind t i (clear_start t i) x in
    let inside = open_inside kind t i (clear_start t i) x o in
    let u = outside_start t i (opening kind) in
    let v = outside_start t i (closing kind) in
    record {
      later = value-longer x;
      unclosed = λ k l n. omega (arith, u, v, inside.end, inside.rises.above k l (omega (arith, inside.end)));
      level = omega (arith, u, v, all.level);
      clear = all.clear;
    }

pub value_level : (m : Bool) (kind : Kind) (t : List ℕ) (i j : ℕ) → IsValue m t i j → IsLevel kind t i j
value_level m kind t i j x =
    let all = value_rises kind t i (clear_start t i) x in
    let u = outside_start t i (opening kind) in
    let v = outside_start t i (closing kind) in
    record {
      later = value-longer x;
      never_below = λ k l n. elim (cases_lt i k) [
        | inl y ↦ omega (arith, u, v, all.above k y n)
        | inr y ↦ (let first : k ≡ i = omega arith in rw first (omega (arith, u, v)))
      ];
      level = omega (arith, u, v, all.level);
      clear = all.clear;
    }

pub value_backslashes : (m : Bool) (t : List ℕ) (i j : ℕ) → IsValue m t i j → KeepsBackslashes t i i j
value_backslashes m t i j x = (value_rises Array t i (clear_start t i) x).backslashes

pub closes_once : (kind : Kind) (t : List ℕ) (i j k : ℕ) → Closes kind t i j → Closes kind t i k → j ≡ k
closes_once kind t i j k a b = elim (cases_order j k) [
  | inl e ↦ e
  | inr (inl l) ↦ absurd (omega (arith, a.level, b.unclosed j a.later l))
  | inr (inr l) ↦ absurd (omega (arith, b.level, a.unclosed k b.later l))
]

pub string_inside : (m : Bool) (t : List ℕ) (i j : ℕ) (b : List ℕ) → IsString m t i j b → LeavesString t i i j
string_inside m t i j b = string_leaves t i (clear_start t i)
