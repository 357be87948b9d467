-- What is between the marks of a document, and what is left to be made of its wide text from there.
use Rattle.std.proofs.Common.{◌≡◌, ◌≢◌, ◌∙◌, ◌⊎◌, inl, inr, ℕ, ◌+◌, ◌-◌, ◌<◌, ◌≤◌, ◌&&◌, Bool, true, false, not, List, [], ◌∷◌, ◌++◌, length, drop, arith, refl, sym, ap, codes, append_assoc}
use Rattle.std.proofs.lemmas.Bool.{cases_lt}
use Rattle.std.proofs.lemmas.Bool.Decides.{nat_tests}
use Rattle.std.proofs.lemmas.List.{get_or-drop}
use Rattle.std.proofs.lemmas.List.Sums.{prefix_len_passes}
use Rattle.std.specs.Prelude.{Option, slice_range}
use Rattle.sonic_blocks.specs.Outside.{is_inside_at, IsClear}
use Rattle.sonic_text.specs.declared.kind.Kind.{Kind}
use Rattle.sonic_text.specs.declared.kind.Kind.TheVariants.{Array, Object}
use Rattle.sonic_text.specs.Literals.{IsLiteral}
use Rattle.sonic_text.specs.Places.{byte, is_space, after_space}
use Rattle.sonic_text.specs.Strings.{strict, IsString}
use Rattle.sonic_text.specs.Values.{opening, closing, IsValue}
use Rattle.sonic_text.specs.Values.IsValue.{null_literal, true_literal, false_literal, number, string, empty, filled}
use Rattle.sonic_text.proofs.BracketLemmas.{clear_start}
use Rattle.sonic_text.proofs.Places.{after_space_later}
use Rattle.sonic_text.proofs.QuotedLemmas.{string_leaves}
use Rattle.sonic_text.proofs.Values.{value-longer, items_open}
use Rattle.sonic_min.specs.Internal.Lines.{IsTail, at_end, comma, colon, close, IsRestLaid, token, empty_container, filled_container}
use Rattle.sonic_min.specs.Internal.Marks.{is_structural, is_mark, HasNoMark, IsNextMark, IsToken}
use Rattle.sonic_min.specs.Spellings.{Spelling, Parts, HeadSpelled, no_key, key_spelled, IsSpelled, scalar_spelled, empty_spelled, filled_spelled, PartsSpelled, last_part, more_parts}
use Rattle.sonic_min.specs.Texts.{Gaps, wide_gaps, key_text, last_line, spread, spread_parts, wide, IsDocumentSpelled}
use Rattle.sonic_min.proofs.KeptLemmas.{all_fail, each_fails, StandsAlone, comma_mark, colon_mark, opening_mark, closing_mark, mark, nothing, spaced, head_keeps, value_keeps}
use Rattle.sonic_min.proofs.NumberBytes.{number_bytes}

-- white space is no structural character
pub space_no_structural : (b : ℕ) → is_space b ≡ true → is_structural b ≡ false
space_no_structural b h = grind (arith, nat_tests)

-- what is no structural character is no mark, and nothing inside a string is one
unstructural_no_mark : (t : List ℕ) (k : ℕ) → is_structural (byte t k) ≡ false → is_mark t k ≡ false
unstructural_no_mark t k h = ap (λ a. a && not (is_inside_at t 0 (k + 1))) h

inside_no_mark : (t : List ℕ) (k : ℕ) → is_inside_at t 0 (k + 1) ≡ true → is_mark t k ≡ false
inside_no_mark t k h = ap (λ a. is_structural (byte t k) && not a) h ∙ none (is_structural (byte t k))
  where
    none : (a : Bool) → (a && false) ≡ false
    none true = refl
    none false = refl

-- two stretches
joined : (t : List ℕ) {i j k : ℕ} → HasNoMark t i j → HasNoMark t j k → HasNoMark t i k
joined t {j = j} a b p l h = elim (cases_lt p j) [ inl m ↦ a p l m | inr m ↦ b p m h ]

-- white space
pub space_at : (t : List ℕ) (p k : ℕ) → p ≤ k → k < after_space t p → is_space (byte t k) ≡ true
space_at t p k l h =
    let same : p + (k - p) ≡ k = omega arith in
    let here : is_space (byte t (p + (k - p))) ≡ true =
    ap is_space (sym (get_or-drop p t (k - p) 0)) ∙ prefix_len_passes is_space (drop p t) (k - p) 0 (omega arith) in
    rw same at here

spaces_no_mark : (t : List ℕ) (p : ℕ) → HasNoMark t p (after_space t p)
spaces_no_mark t p k l h = unstructural_no_mark t k (space_no_structural (byte t k) (space_at t p k l h))

-- a scalar or a key: no mark is in it, and it ends with no white space
record IsPlain (t : List ℕ) (i j : ℕ) : Type 0 where
  longer : i < j
  no_mark : HasNoMark t i j
  last : is_space (byte t (j - 1)) ≡ false

string_plain : {t : List ℕ} {i j : ℕ} {b : List ℕ} → IsClear t 0 i → IsString strict t i j b → IsPlain t i j
string_plain {t} {i} {j} clear x =
    let leaves = string_leaves t 0 clear x in
    let at_last : x.close ≡ j - 1 = omega (arith, x.end) in
    let quote : byte t (j - 1) ≡ 34 = rw at_last at x.closes in
    record {
      longer = leaves.later;
      no_mark = λ k l m. elim (cases_lt (k + 1) j) [
        | inl n ↦ inside_no_mark t k (leaves.inside (k + 1) (omega arith) n)
        | inr n ↦ (let same : k ≡ j - 1 = omega arith in unstructural_no_mark t k (rw same (ap is_structural quote)))
      ];
      last = ap is_space quote;
    }

word_plain : (t : List ℕ) {i j : ℕ} (word : List ℕ) → 0 < length word → all_fail is_structural word ≡ true → all_fail is_space word ≡ true → IsLiteral word t i j → IsPlain t i j
word_plain t {i} {j} word some structurals spaces h =
    let e = h.1 in
    let letter : (k : ℕ) → i ≤ k → k < j → byte t k ≡ byte word (k - i) = λ k l m.
    (let same : i + (k - i) ≡ k = omega arith in
    let here : byte t (i + (k - i)) ≡ byte word (k - i) = h.0.1 (k - i) (omega arith) in
    rw same at here) in
    record {
      longer = omega arith;
      no_mark = λ k l m. unstructural_no_mark t k (ap is_structural (letter k l m) ∙ each_fails is_structural word structurals (k - i) (omega arith));
      last = ap is_space (letter (j - 1) (omega arith) (omega arith)) ∙ each_fails is_space word spaces (j - 1 - i) (omega arith);
    }

above_no_space : (b : ℕ) → 32 < b → is_space b ≡ false
above_no_space b h = grind (arith, nat_tests)

scalar_plain : {t : List ℕ} {i j : ℕ} → IsClear t 0 i → IsValue strict t i j → ((kind : Kind) → byte t i ≢ opening kind) → IsPlain t i j
scalar_plain {t} h (null_literal x) plain = word_plain t (codes "null") (omega arith) refl refl x
scalar_plain {t} h (true_literal x) plain = word_plain t (codes "true") (omega arith) refl refl x
scalar_plain {t} h (false_literal x) plain = word_plain t (codes "false") (omega arith) refl refl x
scalar_plain {t} {i} {j} h (number x) plain =
    let value : IsValue strict t i j = number x in
    let longer = value-longer value in
    record {
      longer = longer;
      no_mark = λ k l m. unstructural_no_mark t k (number_bytes t i j x k l m).1;
      last = above_no_space (byte t (j - 1)) (number_bytes t i j x (j - 1) (omega (arith, longer)) (omega (arith, longer))).0;
    }
scalar_plain h (string x) plain = string_plain h x
scalar_plain h (empty kind b c q) plain = absurd (plain kind b)
scalar_plain h (filled {kind = kind} is y x c q) plain = absurd (plain kind (items_open is))

-- what stands for itself outside strings is a mark
mark_at : {t : List ℕ} {p : ℕ} (b : ℕ) → StandsAlone b → is_structural b ≡ true → IsClear t 0 p → byte t p ≡ b → is_mark t p ≡ true
mark_at {t} {p} b alone point clear e =
    let outside : is_inside_at t 0 (p + 1) ≡ false = (mark b alone clear e).clear.no_string in
    ap (λ x. is_structural x && not (is_inside_at t 0 (p + 1))) e ∙ ap (λ a. a && not (is_inside_at t 0 (p + 1))) point ∙ ap not outside

opening_structural : (kind : Kind) → is_structural (opening kind) ≡ true
opening_structural Array = refl
opening_structural Object = refl

closing_structural : (kind : Kind) → is_structural (closing kind) ≡ true
closing_structural Array = refl
closing_structural Object = refl

-- a scalar or a key is the token up to the next mark
plain_token : {t : List ℕ} {p i j : ℕ} → after_space t p ≡ i → IsPlain t i j → IsToken t p (after_space t j) i j
plain_token {t} {p} {i} {j} start x = record {
  start = sym start;
  order = omega (arith, x.longer);
  within = after_space_later t j;
  spaces = space_at t j;
  last = λ l. x.last;
}

no_mark_up_to : {t : List ℕ} {p i j : ℕ} → after_space t p ≡ i → IsPlain t i j → HasNoMark t p (after_space t j)
no_mark_up_to {t} {p} {i} {j} start x =
    let before : HasNoMark t p i = rw start at (spaces_no_mark t p) in
    joined t before (joined t x.no_mark (spaces_no_mark t j))

-- a mark is at q, or the end
abbrev AtMark : List ℕ → ℕ → Type 0
AtMark t q = (is_mark t q ≡ true) ⊎ (q ≡ length t)

no_slice : (t : List ℕ) (q : ℕ) → slice_range t q q ≡ []
no_slice t q = let none : q - q ≡ 0 = omega arith in rw none refl

-- after a value that ended nothing is before the next mark
after_value : {t : List ℕ} {width e d : ℕ} {r : List ℕ} → AtMark t (after_space t e) → IsTail t width (after_space t e) d r → IsRestLaid t width e d r
after_value {t} {e = e} {r = r} at tail =
    let q = after_space t e in
    let none : IsToken t e q q q = record {
      start = refl;
      order = omega arith;
      within = omega arith;
      spaces = λ k l m. absurd (omega arith);
      last = λ l. absurd (omega arith);
    } in
    token (spaces_no_mark t e) at none tail (sym (ap (λ s. s ++ r) (no_slice t q)))

-- the first mark after white space
mark_next : {t : List ℕ} {p i : ℕ} → after_space t p ≡ i → is_mark t i ≡ true → IsNextMark t p i
mark_next {t} {p} {i} start here = record {
  later = omega (arith, after_space_later t p);
  here = here;
  before = rw start at (spaces_no_mark t p);
}

-- the key of a member is made before its value
head_left : {t : List ℕ} {width d p h v : ℕ} {kind : Kind} {k : Option (List ℕ)} {s : List ℕ} → IsClear t 0 h → after_space t p ≡ h → HeadSpelled t kind h v k
    → ((u : ℕ) → after_space t u ≡ v → IsRestLaid t width u d s) → IsRestLaid t width p d (key_text (wide_gaps width) k ++ s)
head_left {p = p} clear start (no_key e) value = value p (start ∙ sym e)
head_left {t} {width} {p = p} {h} {s = s} clear start (key_spelled {c = c} y e) value =
    let x = string_plain clear y.string in
    let after = string_leaves t 0 clear y.string in
    let at = mark_at 58 colon_mark refl (spaced (nothing after.clear)).clear y.colon in
    let text : (c ++ 58 ∷ 32 ∷ []) ++ s ≡ slice_range t h y.end ++ (58 ∷ 32 ∷ s) = append_assoc c (58 ∷ 32 ∷ []) s ∙ ap (λ b. b ++ (58 ∷ 32 ∷ s)) e in
    token (no_mark_up_to start x) (inl at) (plain_token start x) (colon y.colon (value (after_space t y.end + 1) (sym y.value_start)) refl) text

three : (a b c r : List ℕ) → (a ++ b ++ c) ++ r ≡ a ++ (b ++ (c ++ r))
three a b c r = simp append_assoc

six : (a b c e f r : List ℕ) → (a ++ b ++ c ++ e ++ f) ++ r ≡ a ++ (b ++ (c ++ (e ++ (f ++ r))))
six a b c e f r = simp append_assoc

-- the last line of a container with parts
last_is : {t : List ℕ} {kind : Kind} {h e : ℕ} {xs : Parts} → PartsSpelled t kind h e xs → (g : Gaps) (d : ℕ) → last_line g d xs ≡ g.line d
last_is (last_part y x c q) g d = refl
last_is (more_parts y x c q is) g d = refl

-- the last line of a container at this depth, and what follows it
abbrev last_text : ℕ → ℕ → Kind → List ℕ → List ℕ
last_text width d kind after = (wide_gaps width).line d ++ (closing kind ∷ after)

-- what is left of a container's parts, of which the first is expected after p, and its line is made
record PartsLeft (t : List ℕ) (width d p : ℕ) (kind : Kind) (xs : Parts) (after : List ℕ) : Type 0 where
  left : List ℕ
  is_left : IsRestLaid t width p (d + 1) left
  text : (before : List ℕ) → spread_parts (wide_gaps width) (d + 1) before xs ++ last_text width d kind after ≡ before ++ ((wide_gaps width).line (d + 1) ++ left)

mutual
  -- a value, and what comes after it
  value_left : {t : List ℕ} {width d p i j : ℕ} {x : Spelling} {r : List ℕ} → IsClear t 0 i → after_space t p ≡ i → IsSpelled t i j x → AtMark t (after_space t j)
      → IsTail t width (after_space t j) d r → IsRestLaid t width p d (spread (wide_gaps width) d x ++ r)
  value_left {r = r} clear start (scalar_spelled v plain e) at tail =
      let x = scalar_plain clear v plain in
      token (no_mark_up_to start x) at (plain_token start x) tail (ap (λ s. s ++ r) e)
  value_left {t} {width} {d} clear start (empty_spelled {kind} b c q) at tail =
      let next = mark_next start (mark_at (opening kind) (opening_mark kind) (opening_structural kind) clear b) in
      let after : IsRestLaid t width (after_space t (_ + 1) + 1) d _ = rw q at (after_value at tail) in
      empty_container kind next b c after refl
  value_left {t} {width} {d} {r = r} clear start (filled_spelled {kind} {i} {h} {xs = xs} b q o is) at tail =
      let next = mark_next start (mark_at (opening kind) (opening_mark kind) (opening_structural kind) clear b) in
      let inside = (spaced (mark (opening kind) (opening_mark kind) clear b)).clear in
      let first : IsClear t 0 h = rw q inside in
      let parts = parts_left first (sym q) is (after_value at tail) in
      let g = wide_gaps width in
      let filled : byte t (after_space t (i + 1)) ≢ closing kind = rw q at o in
      filled_container kind next b filled parts.is_left
      (ap (λ s. opening kind ∷ s) (three (spread_parts g (d + 1) [] xs) (last_line g d xs) (closing kind ∷ []) r
      ∙ ap (λ l. spread_parts g (d + 1) [] xs ++ (l ++ (closing kind ∷ r))) (last_is is g d) ∙ parts.text []))

  -- parts, and what comes after the container
  parts_left : {t : List ℕ} {width d p h j : ℕ} {kind : Kind} {xs : Parts} {r : List ℕ} → IsClear t 0 h → after_space t p ≡ h → PartsSpelled t kind h j xs
      → IsRestLaid t width j d r → PartsLeft t width d p kind xs r
  parts_left {t} {width} {d} {kind = kind} {r = r} clear start (last_part {e = e} {k = k} {x = x} y a c q) after =
      let head = head_keeps clear y in
      let ended = spaced (value_keeps 0 head.clear a) in
      let here = mark_at (closing kind) (closing_mark kind) (closing_structural kind) ended.clear c in
      let g = wide_gaps width in
      let left : IsRestLaid t width (after_space t e + 1) d r = rw q at after in
      let tail : IsTail t width (after_space t e) (d + 1) (last_text width d kind r) = close kind c left refl refl in
      record {
        left = key_text g k ++ (spread g (d + 1) x ++ last_text width d kind r);
        is_left = head_left clear start y (λ u s. value_left head.clear s a (inl here) tail);
        text = λ before. six before (g.line (d + 1)) (key_text g k) (spread g (d + 1) x) [] (last_text width d kind r);
      }
  parts_left {t} {width} {d} {kind = kind} {r = r} clear start (more_parts {e = e} {g = n} {k = k} {x = x} {xs = xs} y a c q is) after =
      let head = head_keeps clear y in
      let ended = spaced (value_keeps 0 head.clear a) in
      let here = mark_at 44 comma_mark refl ended.clear c in
      let inside : IsClear t 0 n = rw q (spaced (mark 44 comma_mark ended.clear c)).clear in
      let others = parts_left inside (sym q) is after in
      let g = wide_gaps width in
      let rest = 44 ∷ (g.line (d + 1) ++ others.left) in
      let tail : IsTail t width (after_space t e) (d + 1) rest = comma c others.is_left refl in
      record {
        left = key_text g k ++ (spread g (d + 1) x ++ rest);
        is_left = head_left clear start y (λ u s. value_left head.clear s a (inl here) tail);
        text = λ before.
            six before (g.line (d + 1)) (key_text g k) (spread g (d + 1) x) (spread_parts g (d + 1) (44 ∷ []) xs) (last_text width d kind r)
            ∙ ap (λ s. before ++ (g.line (d + 1) ++ (key_text g k ++ (spread g (d + 1) x ++ s)))) (others.text (44 ∷ []));
      }

-- from its start on the whole wide text of a document is left
pub document_left : {t : List ℕ} {x : Spelling} (width : ℕ) → IsDocumentSpelled t x → IsRestLaid t width 0 0 (wide width x ++ [])
document_left {t} width a =
    let start : IsClear t 0 a.start = rw a.alone.start at (spaced (nothing (clear_start t 0))).clear in
    value_left start a.alone.start a.spelled (inr a.alone.end) (at_end a.alone.end refl)
