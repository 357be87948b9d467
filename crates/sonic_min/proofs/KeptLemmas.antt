-- What is kept of a document is the small text of its spelling.
use Rattle.std.proofs.Common.{◌≡◌, ◌≢◌, ◌∙◌, ◌⊎◌, inl, inr, ℕ, zero, suc, ◌+◌, ◌-◌, ◌<◌, ◌≤◌, ◌||◌, ◌&&◌, Bool, true, false, not, cond, List, [], ◌∷◌, ◌++◌, length, take, drop, arith, refl, sym, ap, ap₂, codes, add-zero, add-one, append_assoc}
use Rattle.std.proofs.lemmas.Bool.{cases_lt}
use Rattle.std.proofs.lemmas.Bool.Decides.{nat_tests}
use Rattle.std.proofs.lemmas.List.{append-nil, get_or-drop, length-append, take_more, length-drop}
use Rattle.std.proofs.lemmas.List.Sums.{prefix_len_passes}
use Rattle.std.specs.Prelude.{Option, slice_range}
use Rattle.std.specs.Str.{IsUtf8}
use Rattle.sonic_find.specs.Documents.{IsValidDocument}
use Rattle.sonic_blocks.specs.Outside.{is_escaped_at, is_inside_at, IsClear}
use Rattle.sonic_blocks.proofs.BoolLemmas.{xor}
use Rattle.sonic_blocks.proofs.OutsideLemmas.{inside_next}
use Rattle.sonic_text.specs.declared.kind.Kind.{Kind}
use Rattle.sonic_text.specs.declared.kind.Kind.TheVariants.{Array, Object}
use Rattle.sonic_text.specs.Literals.{IsLiteral}
use Rattle.sonic_text.specs.Places.{byte, is_space, after_space}
use Rattle.sonic_text.specs.Strings.{strict, IsString}
use Rattle.sonic_text.specs.Values.{opening, closing, IsValue}
use Rattle.sonic_text.specs.Values.IsValue.{null_literal, true_literal, false_literal, number, string, empty, filled}
use Rattle.sonic_text.proofs.BracketLemmas.{clear_start, value_rises}
use Rattle.sonic_text.proofs.LevelLemmas.{clear_next, no_test}
use Rattle.sonic_text.proofs.QuotedLemmas.{string_leaves}
use Rattle.sonic_text.proofs.Values.{value-longer, items_open}
use Rattle.sonic_text.proofs.Within.{value_within}
use Rattle.sonic_min.specs.Internal.Kept.{is_kept, kept}
use Rattle.sonic_min.specs.Spellings.{Spelling, Parts, no_part, part, HeadSpelled, no_key, key_spelled, IsSpelled, scalar_spelled, empty_spelled, filled_spelled, PartsSpelled, last_part, more_parts}
use Rattle.sonic_min.specs.Texts.{tight, key_text, last_line, spread, spread_parts, small, IsDocumentSpelled, IsSmallText}
use Rattle.sonic_min.proofs.DocumentLemmas.{document_spelled, text_valid}
use Rattle.sonic_min.proofs.NumberBytes.{number_bytes}
use Rattle.sonic_min.proofs.PickedLemmas.{picked_next, picked_none}
use Rattle.sonic_min.proofs.SpreadLemmas.{text_document, tight_spaces}

kept_next : (t : List ℕ) (n : ℕ) → kept t (n + 1) ≡ kept t n ++ cond (is_kept t n) (byte t n ∷ []) []
kept_next t n = picked_next (is_kept t) t n

or_true : (a : Bool) → (a || true) ≡ true
or_true true = refl
or_true false = refl

-- a byte above the blank is kept, and so is one that is inside a string with the next place
above_no_space : (b : ℕ) → 32 < b → is_space b ≡ false
above_no_space b h = grind (arith, nat_tests)

no_space_kept : (t : List ℕ) (k : ℕ) → is_space (byte t k) ≡ false → is_kept t k ≡ true
no_space_kept t k h = ap (λ a. not a || is_inside_at t 0 (k + 1)) h

above_kept : (t : List ℕ) (k : ℕ) → 32 < byte t k → is_kept t k ≡ true
above_kept t k h = no_space_kept t k (above_no_space (byte t k) h)

inside_kept : (t : List ℕ) (k : ℕ) → is_inside_at t 0 (k + 1) ≡ true → is_kept t k ≡ true
inside_kept t k h = ap (λ a. not (is_space (byte t k)) || a) h ∙ or_true (not (is_space (byte t k)))

-- bytes that are kept, one after the other
all_kept : (t : List ℕ) (i n : ℕ) → i + n ≤ length t → ((k : ℕ) → k < n → is_kept t (i + k) ≡ true) → kept t (i + n) ≡ kept t i ++ take n (drop i t)
all_kept t i zero l h = ap (kept t) (add-zero i) ∙ sym (append-nil (kept t i))
all_kept t i (suc n) l h =
    let next : i + suc n ≡ i + n + 1 = omega arith in
    let short : n < length (drop i t) = omega (arith, length-drop i t) in
    let more : take (suc n) (drop i t) ≡ take n (drop i t) ++ byte t (i + n) ∷ [] =
    ap (λ m. take m (drop i t)) (sym (add-one n)) ∙ take_more (drop i t) n 0 short ∙ ap (λ b. take n (drop i t) ++ b ∷ []) (get_or-drop i t n 0) in
    ap (kept t) next ∙ kept_next t (i + n) ∙ ap (λ b. kept t (i + n) ++ cond b (byte t (i + n) ∷ []) []) (h n (omega arith))
    ∙ ap (λ x. x ++ byte t (i + n) ∷ []) (all_kept t i n (omega arith) (λ k m. h k (omega arith)))
    ∙ append_assoc (kept t i) (take n (drop i t)) (byte t (i + n) ∷ []) ∙ ap (λ x. kept t i ++ x) (sym more)

-- of what is from p to q these bytes are kept, and q is clear
pub record Keeps (t : List ℕ) (p q : ℕ) (b : List ℕ) : Type 0 where
  pub clear : IsClear t 0 q
  pub adds : kept t q ≡ kept t p ++ b

pub nothing : {t : List ℕ} {p : ℕ} → IsClear t 0 p → Keeps t p p []
nothing {t} {p} h = record { clear = h; adds = sym (append-nil (kept t p)) }

chain : {t : List ℕ} {p q r : ℕ} {a b : List ℕ} → Keeps t p q a → Keeps t q r b → Keeps t p r (a ++ b)
chain {t} {p} {a = a} {b} g h = record { clear = h.clear; adds = h.adds ∙ ap (λ x. x ++ b) g.adds ∙ append_assoc (kept t p) a b }

-- a byte of white space
blank : {t : List ℕ} {p : ℕ} → IsClear t 0 p → is_space (byte t p) ≡ true → Keeps t p (p + 1) []
blank {t} {p} h space =
    let quote : byte t p ≢ 34 = λ e. grind (arith, nat_tests) in
    let slash : byte t p ≢ 92 = λ e. grind (arith, nat_tests) in
    let n = clear_next t 0 h quote slash in
    record { clear = n; adds = kept_next t p ∙ ap₂ (λ a b. kept t p ++ cond (not a || b) (byte t p ∷ []) []) space n.no_string }

-- a byte that stands for itself
abbrev pub StandsAlone : ℕ → Type 0
StandsAlone b = (is_space b ≡ false) × (b ≢ 34) × (b ≢ 92)

pub mark : {t : List ℕ} {p : ℕ} (b : ℕ) → StandsAlone b → IsClear t 0 p → byte t p ≡ b → Keeps t p (p + 1) (b ∷ [])
mark {t} {p} b (space, quote, slash) h e = record {
  clear = clear_next t 0 h (λ f. quote (sym e ∙ f)) (λ f. slash (sym e ∙ f));
  adds =
      kept_next t p ∙ ap (λ a. kept t p ++ cond a (byte t p ∷ []) []) (no_space_kept t p (ap is_space e ∙ space))
      ∙ ap (λ a. kept t p ++ a ∷ []) e;
}

pub comma_mark : StandsAlone 44
comma_mark = (refl, λ e. omega arith, λ e. omega arith)

pub colon_mark : StandsAlone 58
colon_mark = (refl, λ e. omega arith, λ e. omega arith)

pub opening_mark : (kind : Kind) → StandsAlone (opening kind)
opening_mark Array = (refl, λ e. omega arith, λ e. omega arith)
opening_mark Object = (refl, λ e. omega arith, λ e. omega arith)

pub closing_mark : (kind : Kind) → StandsAlone (closing kind)
closing_mark Array = (refl, λ e. omega arith, λ e. omega arith)
closing_mark Object = (refl, λ e. omega arith, λ e. omega arith)

-- white space
blanks : {t : List ℕ} {p : ℕ} (n : ℕ) {q : ℕ} → IsClear t 0 p → q ≡ p + n → ((k : ℕ) → k < n → is_space (byte t (p + k)) ≡ true) → Keeps t p q []
blanks {p = p} zero {q} h e at = let same : q ≡ p = omega arith in rw same (nothing h)
blanks {t} {p} (suc n) {q} h e at =
    let before : Keeps t p (p + n) [] = blanks n h refl (λ k l. at k (omega arith)) in
    let same : q ≡ p + n + 1 = omega arith in
    rw same (chain before (blank before.clear (at n (omega arith))))

-- a stretch, and white space after it
pub spaced : {t : List ℕ} {p q : ℕ} {b : List ℕ} → Keeps t p q b → Keeps t p (after_space t q) b
spaced {t} {q = q} {b} h =
    let s : Keeps t q (after_space t q) [] =
    blanks _ h.clear refl (λ k l. ap is_space (sym (get_or-drop q t k 0)) ∙ prefix_len_passes is_space (drop q t) k 0 l) in
    rw append-nil at (chain h s)

-- from i to j all bytes are kept
abbrev AllKept : List ℕ → ℕ → ℕ → Type 0
AllKept t i j = (k : ℕ) → i ≤ k → k < j → is_kept t k ≡ true

whole_kept : {t : List ℕ} {i j : ℕ} → i ≤ j → j ≤ length t → AllKept t i j → IsClear t 0 j → Keeps t i j (slice_range t i j)
whole_kept {t} {i} {j} l within all clear =
    let same : i + (j - i) ≡ j = omega arith in
    let adds : kept t (i + (j - i)) ≡ kept t i ++ take (j - i) (drop i t) = all_kept t i (j - i) (omega arith) (λ k m. all (i + k) (omega arith) (omega arith)) in
    record { clear = clear; adds = rw same at adds }

-- so are all of a string
string_kept : {t : List ℕ} {i j : ℕ} {b : List ℕ} → IsClear t 0 i → IsString strict t i j b → AllKept t i j
string_kept {t} {i} {j} h x k l m = elim (cases_lt (k + 1) j) [
  | inl n ↦ inside_kept t k ((string_leaves t 0 h x).inside (k + 1) (omega arith) n)
  | inr n ↦ (let last : x.close ≡ k = omega (arith, x.end) in above_kept t k (omega (arith, rw last at x.closes)))
]

-- no byte of a word passes the test
abbrev pub all_fail : (ℕ → Bool) → List ℕ → Bool
all_fail test [] = true
all_fail test (b ∷ bs) = not (test b) && all_fail test bs

both : (a b : Bool) → (a && b) ≡ true → (a ≡ true) × (b ≡ true)
both true b h = (refl, h)
both false b h = absurd cc

fails : (a : Bool) → not a ≡ true → a ≡ false
fails true h = absurd cc
fails false h = refl

pub each_fails : (test : ℕ → Bool) (word : List ℕ) → all_fail test word ≡ true → (k : ℕ) → k < length word → test (byte word k) ≡ false
each_fails test [] h k l = absurd (omega arith)
each_fails test (b ∷ bs) h zero l = fails (test b) (both (not (test b)) (all_fail test bs) h).0
each_fails test (b ∷ bs) h (suc k) l = each_fails test bs (both (not (test b)) (all_fail test bs) h).1 k (omega arith)

-- and all of a word are kept
word_kept : (t : List ℕ) {i j : ℕ} (word : List ℕ) → all_fail is_space word ≡ true → IsLiteral word t i j → AllKept t i j
word_kept t {i} {j} word above h k l m =
    let e = h.1 in
    let same : i + (k - i) ≡ k = omega arith in
    let letter : byte t (i + (k - i)) ≡ byte word (k - i) = h.0.1 (k - i) (omega arith) in
    no_space_kept t k (ap is_space (rw same at letter) ∙ each_fails is_space word above (k - i) (omega arith))

scalar_kept : {t : List ℕ} {i j : ℕ} → IsClear t 0 i → IsValue strict t i j → ((kind : Kind) → byte t i ≢ opening kind) → AllKept t i j
scalar_kept {t} h (null_literal x) plain = word_kept t (codes "null") refl x
scalar_kept {t} h (true_literal x) plain = word_kept t (codes "true") refl x
scalar_kept {t} h (false_literal x) plain = word_kept t (codes "false") refl x
scalar_kept {t} {i} {j} h (number x) plain = λ k l m. above_kept t k (number_bytes t i j x k l m).0
scalar_kept h (string x) plain = string_kept h x
scalar_kept h (empty kind b c q) plain = absurd (plain kind b)
scalar_kept h (filled {kind = kind} is y x c q) plain = absurd (plain kind (items_open is))

-- of the head of an item the key and the colon are kept
pub head_keeps : {t : List ℕ} {kind : Kind} {h v : ℕ} {k : Option (List ℕ)} → IsClear t 0 h → HeadSpelled t kind h v k → Keeps t h v (key_text tight k)
head_keeps clear (no_key e) = rw e (nothing clear)
head_keeps {t} {h = h} clear (key_spelled {c = c} y e) =
    let x : IsValue strict t h y.end = string y.string in
    let key : Keeps t h y.end (slice_range t h y.end) =
    whole_kept (omega (arith, value-longer x)) (value_within x) (string_kept clear y.string) (string_leaves t 0 clear y.string).clear in
    let here : Keeps t h y.end c = rw e key in
    let before = spaced here in
    rw y.value_start (spaced (chain before (mark 58 colon_mark before.clear y.colon)))

-- there is nothing before a closing bracket
no_last_line : (d : ℕ) (xs : Parts) → last_line tight d xs ≡ []
no_last_line d no_part = refl
no_last_line d (part k x xs) = refl

-- a comma comes before the first of some parts
comma_first : {t : List ℕ} {kind : Kind} {h j : ℕ} {xs : Parts} (d : ℕ) → PartsSpelled t kind h j xs
    → spread_parts tight d (44 ∷ []) xs ≡ 44 ∷ spread_parts tight d [] xs
comma_first d (last_part y x c q) = refl
comma_first d (more_parts y x c q xs) = refl

mutual
  -- of a value its small text is kept
  pub value_keeps : {t : List ℕ} {i j : ℕ} {x : Spelling} (d : ℕ) → IsClear t 0 i → IsSpelled t i j x → Keeps t i j (spread tight d x)
  value_keeps {t} d h (scalar_spelled x plain e) =
      rw e (whole_kept (omega (arith, value-longer x)) (value_within x) (scalar_kept h x plain) (value_rises Array t 0 h x).clear)
  value_keeps d h (empty_spelled {kind} b c q) =
      let before = spaced (mark (opening kind) (opening_mark kind) h b) in
      rw q (chain before (mark (closing kind) (closing_mark kind) before.clear c))
  value_keeps {t} {i} {j} d h (filled_spelled {kind} {h = v} {xs = xs} b q o is) =
      let before : Keeps t i v (opening kind ∷ []) = rw q (spaced (mark (opening kind) (opening_mark kind) h b)) in
      let all = chain before (parts_keep (d + 1) before.clear is) in
      rw (no_last_line d xs, append-nil (spread_parts tight (d + 1) [] xs)) all

  -- of parts their texts and the closing bracket
  parts_keep : {t : List ℕ} {kind : Kind} {h j : ℕ} {xs : Parts} (d : ℕ) → IsClear t 0 h → PartsSpelled t kind h j xs
      → Keeps t h j (spread_parts tight d [] xs ++ closing kind ∷ [])
  parts_keep {kind = kind} d clear (last_part {k = k} {x = x} y a c q) =
      let head = head_keeps clear y in
      let value = spaced (chain head (value_keeps d head.clear a)) in
      let all = chain value (mark (closing kind) (closing_mark kind) value.clear c) in
      rw q (rw (append-nil (key_text tight k ++ spread tight d x)) all)
  parts_keep {t} {kind} {h} {j} d clear (more_parts {g = g} {k = k} {x = x} {xs = xs} y a c q is) =
      let head = head_keeps clear y in
      let value = spaced (chain head (value_keeps d head.clear a)) in
      let before : Keeps t h g ((key_text tight k ++ spread tight d x) ++ 44 ∷ []) = rw q (spaced (chain value (mark 44 comma_mark value.clear c))) in
      let all = chain before (parts_keep d before.clear is) in
      let joined = append_assoc (key_text tight k ++ spread tight d x) (44 ∷ []) (spread_parts tight d [] xs ++ closing kind ∷ []) in
      let rest = append_assoc (key_text tight k ++ spread tight d x) (44 ∷ spread_parts tight d [] xs) (closing kind ∷ []) in
      rw (comma_first d is, rest) (rw joined at all)

-- of a document its small text is kept
pub document_kept : {t : List ℕ} {x : Spelling} → IsDocumentSpelled t x → kept t (length t) ≡ small x
document_kept {t} {x} a =
    let start : Keeps t 0 a.start [] = rw a.alone.start at (spaced (nothing (clear_start t 0))) in
    let value = spaced (value_keeps 0 start.clear a.spelled) in
    let all : Keeps t 0 (length t) (small x) = rw a.alone.end at (chain start value) in
    all.adds ∙ ap (λ b. b ++ small x) (picked_none (is_kept t) t)

-- the length of what is kept, with one more byte
length_next : (t : List ℕ) (n : ℕ) → length (kept t (suc n)) ≡ length (kept t n) + length (cond (is_kept t n) (byte t n ∷ []) [])
length_next t n = ap length (ap (kept t) (sym (add-one n)) ∙ kept_next t n) ∙ length-append (kept t n) (cond (is_kept t n) (byte t n ∷ []) [])

-- it is one, or none
one_or_none : (b : Bool) (c : ℕ) → (b ≡ true) × (length (cond b (c ∷ []) []) ≡ 1) ⊎ (length (cond b (c ∷ []) []) ≡ 0)
one_or_none true c = inl (refl, refl)
one_or_none false c = inr refl

-- no more bytes are kept than there are
kept_few : (t : List ℕ) (n : ℕ) → length (kept t n) ≤ n
kept_few t zero = omega (arith, ap length (picked_none (is_kept t) t))
kept_few t (suc n) = elim (one_or_none (is_kept t n) (byte t n)) [
  | inl x ↦ omega (arith, x.1, length_next t n, kept_few t n)
  | inr x ↦ omega (arith, x, length_next t n, kept_few t n)
]

-- where as many are kept, each is
each_kept : (t : List ℕ) (n : ℕ) → length (kept t n) ≡ n → (k : ℕ) → k < n → is_kept t k ≡ true
each_kept t zero h k l = absurd (omega arith)
each_kept t (suc n) h k l = elim (one_or_none (is_kept t n) (byte t n)) [
  | inr x ↦ absurd (omega (arith, x, h, length_next t n, kept_few t n))
  | inl x ↦ elim (cases_lt k n) [
    | inl m ↦ each_kept t n (omega (arith, x.1, h, length_next t n)) k m
    | inr m ↦ (let last : k ≡ n = omega arith in rw last x.0)
  ]
]

-- what is kept of a valid document, in UTF-8
pub record IsSmall (t : List ℕ) (b : List ℕ) : Type 0 where
  pub text : IsSmallText t b
  pub utf8 : IsUtf8 b

pub small_of : {t b : List ℕ} → IsValidDocument t → b ≡ kept t (length t) → IsSmall t b
small_of {t} {b} v e =
    let x = document_spelled v in
    let is : b ≡ small x.0 = e ∙ document_kept x.1 in
    record { text = record { spelling = x.0; spelled = x.1; is = is }; utf8 = rw is (text_valid tight tight_spaces v x.1).utf8 }

-- in a small text white space is in strings
pub space_inside : {t : List ℕ} {x : Spelling} (k : ℕ) → IsDocumentSpelled t x → k < length (small x) → is_space (byte (small x) k) ≡ true
    → is_inside_at (small x) 0 k ≡ true
space_inside {x = x} k a l space =
    let u = small x in
    let again : kept u (length u) ≡ u = document_kept (text_document tight tight_spaces a) in
    let this = each_kept u (length u) (ap length again) k l in
    let after : is_inside_at u 0 (k + 1) ≡ true = sym (ap (λ b. not b || is_inside_at u 0 (k + 1)) space) ∙ this in
    let quote : byte u k ≢ 34 = λ e. grind (arith, nat_tests) in
    let next = inside_next u 0 k (omega arith) ∙ ap (λ b. xor (is_inside_at u 0 k) (b && not (is_escaped_at u 0 k))) (no_test (byte u k) 34 quote) in
    sym (as_was (is_inside_at u 0 k)) ∙ sym next ∙ after
  where
    as_was : (a : Bool) → xor a false ≡ a
    as_was true = refl
    as_was false = refl
