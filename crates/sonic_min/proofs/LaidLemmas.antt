-- What a mark makes of the wide text, and what is left then.
use Rattle.std.proofs.Common.{◌≡◌, ◌≢◌, ◌∙◌, ◌⊎◌, inl, inr, true, false, Bool, ℕ, ◌+◌, ◌-◌, ◌*◌, ◌<◌, ◌≤◌, ◌&&◌, not, List, [], ◌∷◌, ◌++◌, length, append-nil, append_assoc, replicate, take, drop, arith, refl, sym, ap}
use Rattle.std.proofs.lemmas.Bool.{cases_lt, cases_order}
use Rattle.std.proofs.lemmas.Bool.Decides.{nat_tests}
use Rattle.std.proofs.lemmas.List.{take-take}
use Rattle.std.specs.Prelude.{slice_range}
use Rattle.std.specs.Str.{IsUtf8}
use Rattle.sonic_blocks.specs.Outside.{is_inside_at}
use Rattle.sonic_text.specs.declared.kind.Kind.{Kind}
use Rattle.sonic_text.specs.declared.kind.Kind.TheVariants.{Array, Object}
use Rattle.sonic_text.specs.Places.{byte, is_space, after_space}
use Rattle.sonic_text.specs.Values.{opening, closing}
use Rattle.sonic_text.proofs.Items.{closing_no_comma, opening_one}
use Rattle.sonic_text.proofs.Places.{byte_after, byte_within}
use Rattle.sonic_find.specs.Documents.{IsValidDocument}
use Rattle.sonic_min.specs.declared.output.Output.{Output}
use Rattle.sonic_min.specs.declared.wide.Progress.{Progress}
use Rattle.sonic_min.specs.Internal.Lines.{IsTail, at_end, comma, colon, close, IsRestLaid, token, empty_container, filled_container, IsLaidTo, IsWideOutput}
use Rattle.sonic_min.specs.Internal.Marks.{is_structural, is_mark, HasNoMark, IsNextMark, IsToken, IsNoSpace}
use Rattle.sonic_min.specs.Internal.Outputs.{Adds, IsMade, IsSplit}
use Rattle.sonic_min.specs.Texts.{wide_gaps, wide, IsWideText}
use Rattle.sonic_min.proofs.DocumentLemmas.{document_spelled, text_valid}
use Rattle.sonic_min.proofs.MarkLemmas.{document_left, space_at}
use Rattle.sonic_min.proofs.OutputLemmas.{split_on}
use Rattle.sonic_min.proofs.SpreadLemmas.{lines_spaces}

false_is : (a : Bool) → a ≡ true → a ≡ false → ⊥
false_is true h k = absurd cc
false_is false h k = absurd cc

-- a mark is a structural character, so it is in the text, and no white space
mark_structural : (t : List ℕ) (q : ℕ) → is_mark t q ≡ true → is_structural (byte t q) ≡ true
mark_structural t q h = first (is_structural (byte t q)) (not (is_inside_at t 0 (q + 1))) h
  where
    first : (a b : Bool) → (a && b) ≡ true → a ≡ true
    first true b h = refl
    first false b h = absurd cc

structural_some : (b : ℕ) → is_structural b ≡ true → b ≢ 0
structural_some b h e = grind (arith, nat_tests)

pub mark_within : (t : List ℕ) (q : ℕ) → is_mark t q ≡ true → q < length t
mark_within t q h = byte_within t q (structural_some (byte t q) (mark_structural t q h))

structural_no_space : (b : ℕ) → is_structural b ≡ true → is_space b ≡ false
structural_no_space b h = grind (arith, nat_tests)

pub mark_stop : (t : List ℕ) (q : ℕ) → is_mark t q ≡ true → IsNoSpace t q
mark_stop t q h = inl (structural_no_space (byte t q) (mark_structural t q h))

-- the first mark is one
next_one : {t : List ℕ} {p q r : ℕ} → p ≤ r → HasNoMark t p r → (is_mark t r ≡ true) ⊎ (r ≡ length t) → IsNextMark t p q → r ≡ q
next_one {t} {p} {q} {r} from none at n = elim (cases_order r q) [
  | inl e ↦ e
  | inr (inl l) ↦ absurd (early at l)
  | inr (inr l) ↦ absurd (false_is (is_mark t q) n.here (none q n.later l))
]
  where
    early : (is_mark t r ≡ true) ⊎ (r ≡ length t) → r < q → ⊥
    early (inl here) l = false_is (is_mark t r) here (n.before r from l)
    early (inr end) l = let w = mark_within t q n.here in absurd (omega arith)

-- so is the token up to it
token_end_one : {t : List ℕ} {p q i a b : ℕ} → IsToken t p q i a → IsToken t p q i b → a < b → ⊥
token_end_one {t} {b = b} x y l = false_is (is_space (byte t (b - 1))) (x.spaces (b - 1) (omega arith) (omega (arith, y.within))) (y.last (omega (arith, x.order)))

pub token_one : {t : List ℕ} {p q i j a b : ℕ} → IsToken t p q i j → IsToken t p q a b → (i ≡ a) × (j ≡ b)
token_one {t} {p} {q} {i} {j} {a} {b} x y =
    let same : i ≡ a = x.start ∙ sym y.start in
    let z : IsToken t p q i b = rw same y in (
      same,
      elim (cases_order j b) [
        | inl e ↦ e
        | inr (inl l) ↦ absurd (token_end_one x z l)
        | inr (inr l) ↦ absurd (token_end_one z x l)
      ],
    )

-- what is left, with the token before the mark at q
record TokenLeft (t : List ℕ) (width p q d : ℕ) (s : List ℕ) : Type 0 where
  i : ℕ
  j : ℕ
  r : List ℕ
  here : IsToken t p q i j
  tail : IsTail t width q d r
  text : s ≡ slice_range t i j ++ r

token_from : {t : List ℕ} {p q i j : ℕ} → IsToken t p q i j → p ≤ q
token_from {t} {p} x = omega (arith, x.start, x.order, x.within)

token_left : {t : List ℕ} {width p q d : ℕ} {s : List ℕ} → IsRestLaid t width p d s → IsNextMark t p q → ((kind : Kind) → byte t q ≢ opening kind) → TokenLeft t width p q d s
token_left {t} {width} {p} {q} {d} (token {q = a} {i} {j} {r = r} none at x tail e) n plain =
    let same : a ≡ q = next_one (token_from x) none at n in
    record { i = i; j = j; r = r; here = rw same at x; tail = rw same at tail; text = e }
token_left {t} {q = q} (empty_container kind {q = a} m b c l e) n plain =
    let same : a ≡ q = next_one m.later m.before (inl m.here) n in
    let here : byte t q ≡ opening kind = rw same at b in
    absurd (plain kind here)
token_left {t} {q = q} (filled_container kind {q = a} m b c l e) n plain =
    let same : a ≡ q = next_one m.later m.before (inl m.here) n in
    let here : byte t q ≡ opening kind = rw same at b in
    absurd (plain kind here)

-- an opening bracket is no other mark
opening_no_comma : (kind : Kind) → opening kind ≡ 44 → ⊥
opening_no_comma Array e = absurd (omega arith)
opening_no_comma Object e = absurd (omega arith)

opening_no_colon : (kind : Kind) → opening kind ≡ 58 → ⊥
opening_no_colon Array e = absurd (omega arith)
opening_no_colon Object e = absurd (omega arith)

opening_no_closing : (kind other : Kind) → opening kind ≡ closing other → ⊥
opening_no_closing Array Array e = absurd (omega arith)
opening_no_closing Array Object e = absurd (omega arith)
opening_no_closing Object Array e = absurd (omega arith)
opening_no_closing Object Object e = absurd (omega arith)

-- what follows a comma, a colon, and a closing bracket
after_end : (t : List ℕ) {q b : ℕ} → byte t q ≡ b → 0 < b → q ≡ length t → ⊥
after_end t {q} e some end = let none = byte_after t q (omega (arith, end)) in absurd (omega arith)

comma_tail : {t : List ℕ} {width q d : ℕ} {r : List ℕ} → byte t q ≡ 44 → IsTail t width q d r → (s : List ℕ) × IsRestLaid t width (q + 1) d s × (r ≡ 44 ∷ ((wide_gaps width).line d ++ s))
comma_tail {t} b (at_end e f) = absurd (after_end t b (omega arith) e)
comma_tail b (comma c l e) = (_, l, e)
comma_tail b (colon c l e) = absurd (omega (arith, b, c))
comma_tail b (close kind c l f e) = absurd (closing_no_comma kind (sym c ∙ b))

colon_tail : {t : List ℕ} {width q d : ℕ} {r : List ℕ} → byte t q ≡ 58 → IsTail t width q d r → (s : List ℕ) × IsRestLaid t width (q + 1) d s × (r ≡ 58 ∷ 32 ∷ s)
colon_tail {t} b (at_end e f) = absurd (after_end t b (omega arith) e)
colon_tail b (comma c l e) = absurd (omega (arith, b, c))
colon_tail b (colon c l e) = (_, l, e)
colon_tail b (close kind c l f e) = absurd (no_colon kind (sym c ∙ b))
  where
    no_colon : (kind : Kind) → closing kind ≡ 58 → ⊥
    no_colon Array e = absurd (omega arith)
    no_colon Object e = absurd (omega arith)

record CloseTail (t : List ℕ) (width q d : ℕ) (r : List ℕ) : Type 0 where
  outer : ℕ
  deep : d ≡ outer + 1
  s : List ℕ
  left : IsRestLaid t width (q + 1) outer s
  text : r ≡ (wide_gaps width).line outer ++ (byte t q ∷ s)

close_tail : {t : List ℕ} {width q d : ℕ} {r : List ℕ} → is_structural (byte t q) ≡ true → byte t q ≢ 44 → byte t q ≢ 58 → IsTail t width q d r → CloseTail t width q d r
close_tail {t} {q = q} point b c (at_end e f) = let none = byte_after t q (omega (arith, e)) in absurd (structural_some (byte t q) point none)
close_tail point b c (comma a l e) = absurd (b a)
close_tail point b c (colon a l e) = absurd (c a)
close_tail {width = width} point b c (close kind {e = n} {r = s} a l f e) =
    record { outer = n; deep = f; s = s; left = l; text = e ∙ ap (λ x. (wide_gaps width).line n ++ (x ∷ s)) (sym a) }

-- white space ends where none is
pub space_stops : (t : List ℕ) (p q : ℕ) → p ≤ q → after_space t p ≤ length t → IsNoSpace t q → after_space t p ≤ q
space_stops t p q from within (inl none) = elim (cases_lt q (after_space t p)) [
  | inl l ↦ absurd (false_is (is_space (byte t q)) (space_at t p q from l) none)
  | inr l ↦ l
]
space_stops t p q from within (inr end) = omega (arith, end)

-- a token is what is from its start to its end
pub span_made : (t : List ℕ) {out one : Output} (first last : ℕ) → last ≤ length t → Adds out (take (last - first) (slice_range t first (length t))) one
    → Adds out (slice_range t first last) one
span_made t {out} {one} first last within adds =
    let same : take (last - first) (slice_range t first (length t)) ≡ slice_range t first last = take-take (last - first) (length t - first) (drop first t) (omega arith) in
    rw same at adds

-- the token before a mark was made
abbrev pub TokenMade : List ℕ → ℕ → ℕ → Output → Output → Type 0
TokenMade t p q out one = (i j : ℕ) → IsToken t p q i j → Adds out (slice_range t i j) one

-- a comma, and the line after it
pub comma_laid : {t : List ℕ} {width q : ℕ} {out one two : Output} {so_far : Progress} → IsLaidTo t width out so_far → IsNextMark t so_far.start q → byte t q ≡ 44
    → TokenMade t so_far.start q out one → Adds one (44 ∷ 10 ∷ replicate so_far.blanks 32) two → IsLaidTo t width two (record { start = q + 1; blanks = so_far.blanks })
comma_laid {t} {width} {q} {one = one} {two} d n b made line =
    let x = token_left d.is_left n (λ kind e. opening_no_comma kind (sym e ∙ b)) in
    let y = comma_tail b x.tail in
    let within = mark_within t q n.here in
    let before = split_on (slice_range t x.i x.j) x.r (rw x.text at d.split) (made x.i x.j x.here) in
    let piece : Adds one (44 ∷ (wide_gaps width).line d.depth) two = rw d.blanks at line in
    record {
      document = d.document;
      spelled = d.spelled;
      depth = d.depth;
      blanks = d.blanks;
      left = y.0;
      is_left = y.1;
      split = split_on (44 ∷ (wide_gaps width).line d.depth) y.0 (rw y.2 at before) piece;
      within = omega arith;
    }

-- a colon, and the blank after it
pub colon_laid : {t : List ℕ} {width q : ℕ} {out one two : Output} {so_far : Progress} → IsLaidTo t width out so_far → IsNextMark t so_far.start q → byte t q ≡ 58
    → TokenMade t so_far.start q out one → Adds one (58 ∷ 32 ∷ []) two → IsLaidTo t width two (record { start = q + 1; blanks = so_far.blanks })
colon_laid {t} {q = q} d n b made piece =
    let x = token_left d.is_left n (λ kind e. opening_no_colon kind (sym e ∙ b)) in
    let y = colon_tail b x.tail in
    let within = mark_within t q n.here in
    let before = split_on (slice_range t x.i x.j) x.r (rw x.text at d.split) (made x.i x.j x.here) in
    record {
      document = d.document;
      spelled = d.spelled;
      depth = d.depth;
      blanks = d.blanks;
      left = y.0;
      is_left = y.1;
      split = split_on (58 ∷ 32 ∷ []) y.0 (rw y.2 at before) piece;
      within = omega arith;
    }

no_opening : (b : ℕ) → b ≢ 91 → b ≢ 123 → (kind : Kind) → b ≢ opening kind
no_opening b c d Array = c
no_opening b c d Object = d

-- where a container ends, a line has its blanks
pub closing_deep : {t : List ℕ} {width q : ℕ} {out : Output} {so_far : Progress} → IsLaidTo t width out so_far → IsNextMark t so_far.start q
    → byte t q ≢ 91 → byte t q ≢ 123 → byte t q ≢ 44 → byte t q ≢ 58 → width ≤ so_far.blanks
closing_deep {t} {width} {q = q} d n a b c e =
    let x = token_left d.is_left n (no_opening _ a b) in
    let y = close_tail (mark_structural t q n.here) c e x.tail in
    omega (arith, d.blanks, ap (λ n. width * n) y.deep)

-- the last line of a container, and its bracket
pub close_laid : {t : List ℕ} {width q blanks : ℕ} {out one two : Output} {so_far : Progress} → IsLaidTo t width out so_far → IsNextMark t so_far.start q
    → byte t q ≢ 91 → byte t q ≢ 123 → byte t q ≢ 44 → byte t q ≢ 58 → TokenMade t so_far.start q out one → blanks + width ≡ so_far.blanks
    → Adds one (10 ∷ replicate blanks 32 ++ byte t q ∷ []) two → IsLaidTo t width two (record { start = q + 1; blanks = blanks })
close_laid {t} {width} {q} {blanks} {one = one} {two} d n a b c e made less line =
    let x = token_left d.is_left n (no_opening _ a b) in
    let y = close_tail (mark_structural t q n.here) c e x.tail in
    let within = mark_within t q n.here in
    let deep : blanks ≡ width * y.outer = omega (arith, less, d.blanks, ap (λ n. width * n) y.deep) in
    let before = split_on (slice_range t x.i x.j) x.r (rw x.text at d.split) (made x.i x.j x.here) in
    let piece : Adds one ((wide_gaps width).line y.outer ++ byte t q ∷ []) two = rw deep at line in
    let text : x.r ≡ ((wide_gaps width).line y.outer ++ byte t q ∷ []) ++ y.s = y.text ∙ sym (append_assoc ((wide_gaps width).line y.outer) (byte t q ∷ []) y.s) in
    record {
      document = d.document;
      spelled = d.spelled;
      depth = y.outer;
      blanks = deep;
      left = y.s;
      is_left = y.left;
      split = split_on ((wide_gaps width).line y.outer ++ byte t q ∷ []) y.s (rw text at before) piece;
      within = omega arith;
    }

no_tail : {t : List ℕ} {width q d : ℕ} {r : List ℕ} (kind : Kind) → byte t q ≡ opening kind → IsTail t width q d r → ⊥
no_tail {t} {q = q} kind b (at_end e f) = let none = byte_after t q (omega (arith, e)) in some kind (sym b ∙ none)
  where
    some : (kind : Kind) → opening kind ≡ 0 → ⊥
    some Array e = absurd (omega arith)
    some Object e = absurd (omega arith)
no_tail kind b (comma c l e) = absurd (opening_no_comma kind (sym b ∙ c))
no_tail kind b (colon c l e) = absurd (opening_no_colon kind (sym b ∙ c))
no_tail kind b (close k c l f e) = absurd (opening_no_closing kind k (sym b ∙ c))

-- what follows an empty container, and the bracket of another
empty_left : {t : List ℕ} {width p q d : ℕ} {s : List ℕ} (kind : Kind) → IsNextMark t p q → byte t q ≡ opening kind → byte t (after_space t (q + 1)) ≡ closing kind
    → IsRestLaid t width p d s → (r : List ℕ) × IsRestLaid t width (after_space t (q + 1) + 1) d r × (s ≡ opening kind ∷ closing kind ∷ r)
empty_left {t} {q = q} kind n b c (token {q = a} none at x tail e) =
    let same : a ≡ q = next_one (token_from x) none at n in absurd (no_tail kind b (rw same at tail))
empty_left {t} {width} {q = q} {d} kind n b c (empty_container k {q = a} {r = r} m o p l e) =
    let same : a ≡ q = next_one m.later m.before (inl m.here) n in
    let kinds : k ≡ kind = opening_one k kind (rw same at (sym o) ∙ b) in
    let left : IsRestLaid t width (after_space t (q + 1) + 1) d r = rw same at l in
    (r, left, rw kinds at e)
empty_left {t} {q = q} kind n b c (filled_container k {q = a} m o p l e) =
    let same : a ≡ q = next_one m.later m.before (inl m.here) n in
    let kinds : k ≡ kind = opening_one k kind (rw same at (sym o) ∙ b) in
    let other : byte t (after_space t (q + 1)) ≢ closing kind = rw (same, kinds) at p in
    absurd (other c)

filled_left : {t : List ℕ} {width p q d : ℕ} {s : List ℕ} (kind : Kind) → IsNextMark t p q → byte t q ≡ opening kind → byte t (after_space t (q + 1)) ≢ closing kind
    → IsRestLaid t width p d s → (r : List ℕ) × IsRestLaid t width (q + 1) (d + 1) r × (s ≡ opening kind ∷ ((wide_gaps width).line (d + 1) ++ r))
filled_left {t} {q = q} kind n b c (token {q = a} none at x tail e) =
    let same : a ≡ q = next_one (token_from x) none at n in absurd (no_tail kind b (rw same at tail))
filled_left {t} {q = q} kind n b c (empty_container k {q = a} m o p l e) =
    let same : a ≡ q = next_one m.later m.before (inl m.here) n in
    let kinds : k ≡ kind = opening_one k kind (rw same at (sym o) ∙ b) in
    let other : byte t (after_space t (q + 1)) ≡ closing kind = rw (same, kinds) at p in
    absurd (c other)
filled_left {t} {width} {q = q} {d} kind n b c (filled_container k {q = a} {r = r} m o p l e) =
    let same : a ≡ q = next_one m.later m.before (inl m.here) n in
    let kinds : k ≡ kind = opening_one k kind (rw same at (sym o) ∙ b) in
    let left : IsRestLaid t width (q + 1) (d + 1) r = rw same at l in
    (r, left, rw kinds at e)

-- an empty container
pub empty_laid : {t : List ℕ} {width q : ℕ} {out one : Output} {so_far : Progress} (kind : Kind) → IsLaidTo t width out so_far → IsNextMark t so_far.start q
    → byte t q ≡ opening kind → byte t (after_space t (q + 1)) ≡ closing kind → Adds out (opening kind ∷ closing kind ∷ []) one
    → IsLaidTo t width one (record { start = after_space t (q + 1) + 1; blanks = so_far.blanks })
empty_laid {t} {q = q} kind d n b c piece =
    let y = empty_left kind n b c d.is_left in
    record {
      document = d.document;
      spelled = d.spelled;
      depth = d.depth;
      blanks = d.blanks;
      left = y.0;
      is_left = y.1;
      split = split_on (opening kind ∷ closing kind ∷ []) y.0 (rw y.2 at d.split) piece;
      within = inside kind c;
    }
  where
    inside : (kind : Kind) → byte t (after_space t (q + 1)) ≡ closing kind → after_space t (q + 1) + 1 ≤ length t
    inside Array c = let w = byte_within t (after_space t (q + 1)) (λ e. omega (arith, c, e)) in omega arith
    inside Object c = let w = byte_within t (after_space t (q + 1)) (λ e. omega (arith, c, e)) in omega arith

-- the bracket of another, and the line after it
pub filled_laid : {t : List ℕ} {width q blanks : ℕ} {out one : Output} {so_far : Progress} (kind : Kind) → IsLaidTo t width out so_far → IsNextMark t so_far.start q
    → byte t q ≡ opening kind → byte t (after_space t (q + 1)) ≢ closing kind → blanks ≡ so_far.blanks + width → Adds out (opening kind ∷ 10 ∷ replicate blanks 32) one
    → IsLaidTo t width one (record { start = q + 1; blanks = blanks })
filled_laid {t} {width} {q} {blanks} {out} {one} kind d n b c more line =
    let y = filled_left kind n b c d.is_left in
    let within = mark_within t q n.here in
    let deep : blanks ≡ width * (d.depth + 1) = omega (arith, more, d.blanks) in
    let piece : Adds out (opening kind ∷ (wide_gaps width).line (d.depth + 1)) one = rw deep at line in
    record {
      document = d.document;
      spelled = d.spelled;
      depth = d.depth + 1;
      blanks = deep;
      left = y.0;
      is_left = y.1;
      split = split_on (opening kind ∷ (wide_gaps width).line (d.depth + 1)) y.0 (rw y.2 at d.split) piece;
      within = omega arith;
    }

-- at the beginning nothing is made
pub started : {t : List ℕ} {out : Output} (width : ℕ) → IsValidDocument t → IsMade out [] → IsLaidTo t width out (record { start = 0; blanks = 0 })
started {t} width valid made =
    let x = document_spelled valid in
    record {
      document = x.0;
      spelled = x.1;
      depth = 0;
      blanks = omega arith;
      left = wide width x.0 ++ [];
      is_left = document_left width x.1;
      split = record { written = []; made = made; whole = append-nil (wide width x.0) };
      within = omega arith;
    }

-- at the end nothing is left but the token before it
end_tail : {t : List ℕ} {width d : ℕ} {q : ℕ} {r : List ℕ} → q ≡ length t → IsTail t width q d r → r ≡ []
end_tail end (at_end e f) = f
end_tail {t} end (comma c l e) = absurd (after_end t c (omega arith) end)
end_tail {t} end (colon c l e) = absurd (after_end t c (omega arith) end)
end_tail {t} {q = q} end (close kind c l f e) = absurd (some kind (sym c ∙ byte_after t q (omega (arith, end))))
  where
    some : (kind : Kind) → closing kind ≡ 0 → ⊥
    some Array e = absurd (omega arith)
    some Object e = absurd (omega arith)

record EndLeft (t : List ℕ) (p : ℕ) (s : List ℕ) : Type 0 where
  i : ℕ
  j : ℕ
  here : IsToken t p (length t) i j
  text : s ≡ slice_range t i j

end_left : {t : List ℕ} {width p d : ℕ} {s : List ℕ} → HasNoMark t p (length t) → IsRestLaid t width p d s → EndLeft t p s
end_left {t} {p = p} none (token {q = q} {i} {j} {r = r} m at x tail e) =
    let end : q ≡ length t = elim at [ inl here ↦ absurd (false_is (is_mark t q) here (none q (token_from x) (mark_within t q here))) | inr end ↦ end ] in
    record { i = i; j = j; here = rw end at x; text = e ∙ ap (λ u. slice_range t i j ++ u) (end_tail end tail) ∙ append-nil (slice_range t i j) }
end_left {t} none (empty_container kind {q = q} m o p l e) = absurd (false_is (is_mark t q) m.here (none q m.later (mark_within t q m.here)))
end_left {t} none (filled_container kind {q = q} m o p l e) = absurd (false_is (is_mark t q) m.here (none q m.later (mark_within t q m.here)))

-- after it the whole text is made
pub finished : {t : List ℕ} {width : ℕ} {out one : Output} {so_far : Progress} → IsLaidTo t width out so_far → HasNoMark t so_far.start (length t)
    → TokenMade t so_far.start (length t) out one → IsWideOutput t width one
finished {t} {width} {out} {one} d none made =
    let x = end_left none d.is_left in
    let piece = slice_range t x.i x.j in
    let all : IsSplit out (piece ++ []) (wide width d.document) = rw (x.text ∙ sym (append-nil piece)) at d.split in
    let s = split_on piece [] all (made x.i x.j x.here) in
    let whole : s.written ≡ wide width d.document = sym (append-nil s.written) ∙ s.whole in
    record { document = d.document; spelled = d.spelled; made = rw whole at s.made }

-- the wide text of a valid document is UTF-8
pub wide_utf8 : {t b : List ℕ} {width : ℕ} → IsValidDocument t → IsWideText t width b → IsUtf8 b
wide_utf8 {width = width} valid w = rw w.is (text_valid (wide_gaps width) (lines_spaces width) valid w.spelled).utf8
