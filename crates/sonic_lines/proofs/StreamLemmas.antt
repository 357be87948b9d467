-- The lines of a stream, and of two.
use Rattle.std.proofs.Common.{◌≡◌, ◌≢◌, ◌∙◌, inl, inr, ℕ, zero, suc, ◌+◌, ◌<◌, get_or, take, drop, false, List, [], ◌∷◌, ◌++◌, length, refl, arith}
use Rattle.std.proofs.lemmas.Bool.{cases_Bool, ne_eqb, eqb-true, eq-eqb}
use Rattle.std.proofs.lemmas.List.Sums.{sum_by-cons}
use Rattle.std.proofs.lemmas.List.{length-drop, drop-drop}
use Rattle.std.proofs.Math.Seq.{take-length}
use Rattle.std.proofs.Math.ListN.{drop_of_length-le}
use Rattle.memchr.specs.Find.{is_byte, IsFirstByte}
use Rattle.std.specs.Prelude.{◌-◌, slice_range, Some, None, ◌==◌, cond, count_by}
use Rattle.sonic_lines.specs.Streams.{on_first, lines_of, EndsLines}

-- some line is there
data SomeLine : List (List ℕ) → Type 0 where
  some_line : {line : List ℕ} {lines : List (List ℕ)} → SomeLine (line ∷ lines)

on_first_some : (b : ℕ) (lines : List (List ℕ)) → SomeLine (on_first b lines)
on_first_some b [] = some_line
on_first_some b (line ∷ lines) = some_line

lines_some : (b : ℕ) (t : List ℕ) → SomeLine (lines_of (b ∷ t))
lines_some b t = elim (cases_Bool (b == 10)) [
  | inl e ↦ rw e some_line
  | inr e ↦ rw e (on_first_some b (lines_of t))
]

ended_some : (u : List ℕ) → SomeLine (lines_of (u ++ 10 ∷ []))
ended_some [] = lines_some 10 []
ended_some (b ∷ u) = lines_some b (u ++ 10 ∷ [])

on_first_append : (b : ℕ) {lines : List (List ℕ)} (more : List (List ℕ)) → SomeLine lines → on_first b (lines ++ more) ≡ on_first b lines ++ more
on_first_append b more some_line = refl

-- the lines of two streams, of which the first ends with a line feed
ended_append : (u b : List ℕ) → lines_of ((u ++ 10 ∷ []) ++ b) ≡ lines_of (u ++ 10 ∷ []) ++ lines_of b
ended_append [] b = refl
ended_append (x ∷ u) b =
    let ih = ended_append u b in
    elim (cases_Bool (x == 10)) [
      | inl e ↦ rw (e, ih) refl
      | inr e ↦ rw (e, ih) (on_first_append x (lines_of b) (ended_some u))
    ]

-- the lines of two streams, of which the first ends lines
pub lines_append : (a b : List ℕ) → EndsLines a → lines_of (a ++ b) ≡ lines_of a ++ lines_of b
lines_append a b (inl e) = rw e refl
lines_append a b (inr (u, e)) = rw e (ended_append u b)

-- as many line feeds as lines
on_first_length : (b : ℕ) {lines : List (List ℕ)} → SomeLine lines → length (on_first b lines) ≡ length lines
on_first_length b some_line = refl

count_cons : (x : ℕ) (t : List ℕ) → count_by (λ b. b == 10) (x ∷ t) ≡ cond (x == 10) 1 0 + count_by (λ b. b == 10) t
count_cons x t = sum_by-cons (λ b. cond (b == 10) 1 0) x t

ended_count : (u : List ℕ) → length (lines_of (u ++ 10 ∷ [])) ≡ count_by (λ b. b == 10) (u ++ 10 ∷ [])
ended_count [] = refl
ended_count (x ∷ u) =
    let ih = ended_count u in
    elim (cases_Bool (x == 10)) [
      | inl e ↦ (let one : count_by (λ b. b == 10) (x ∷ (u ++ 10 ∷ [])) ≡ 1 + count_by (λ b. b == 10) (u ++ 10 ∷ []) = rw e at (count_cons x (u ++ 10 ∷ [])) in
          rw e (omega arith))
      | inr e ↦ (let none : count_by (λ b. b == 10) (x ∷ (u ++ 10 ∷ [])) ≡ 0 + count_by (λ b. b == 10) (u ++ 10 ∷ []) = rw e at (count_cons x (u ++ 10 ∷ [])) in
          rw (e, on_first_length x (ended_some u)) (omega arith))
    ]

pub lines_count : (a : List ℕ) → EndsLines a → length (lines_of a) ≡ count_by (λ b. b == 10) a
lines_count a (inl e) = rw e refl
lines_count a (inr (u, e)) = rw e (ended_count u)

-- the first line of a stream
pub line_ended : (t : List ℕ) (n : ℕ) → n < length t → get_or t n 0 ≡ 10 → ((k : ℕ) → k < n → get_or t k 0 ≢ 10) → lines_of t ≡ take n t ∷ lines_of (drop (n + 1) t)
line_ended [] n l e before = absurd (omega arith)
line_ended (b ∷ t) zero l e before = rw (e) refl
line_ended (b ∷ t) (suc n) l e before =
    let ih = line_ended t n (omega arith) e (λ k h. before (suc k) (omega arith)) in
    let other : b ≢ 10 = before 0 (omega arith) in
    let no : (b == 10) ≡ false = ne_eqb b 10 other in
    let s : suc n + 1 ≡ suc (n + 1) = omega arith in
    rw (no, ih, s) refl

pub line_left : (t : List ℕ) → 0 < length t → ((k : ℕ) → k < length t → get_or t k 0 ≢ 10) → lines_of t ≡ t ∷ []
line_left [] l none = absurd (omega arith)
line_left (b ∷ []) l none =
    let no : (b == 10) ≡ false = ne_eqb b 10 (none 0 (omega arith)) in
    rw no refl
line_left (b ∷ c ∷ t) l none =
    let ih = line_left (c ∷ t) (omega arith) (λ k h. none (suc k) (omega arith)) in
    let no : (b == 10) ≡ false = ne_eqb b 10 (none 0 (omega arith)) in
    rw (no, ih) refl

-- where the line ends that begins at a place
pub line_found : (t : List ℕ) (p n : ℕ) → p < length t → IsFirstByte (is_byte 10) (slice_range t p (length t)) (Some n)
    → lines_of (drop p t) ≡ slice_range t p (p + n) ∷ lines_of (drop (p + n + 1) t)
line_found t p n l h =
    let whole : take (length t - p) (drop p t) ≡ drop p t = rw (← length-drop p t) (take-length (drop p t)) in
    let first : IsFirstByte (is_byte 10) (drop p t) (Some n) = rw whole at h in
    let e = line_ended (drop p t) n first.0.high (eqb-true (get_or (drop p t) n 0) 10 first.1)
    (λ k b z. first.0.before k (omega arith) b (eq-eqb (get_or (drop p t) k 0) 10 z)) in
    let back : p + n - p ≡ n = omega arith in
    let far : p + (n + 1) ≡ p + n + 1 = omega arith in
    let on : drop (n + 1) (drop p t) ≡ drop (p + n + 1) t = rw far at (drop-drop (n + 1) p t) in
    e ∙ rw (back, on) refl

pub line_last : (t : List ℕ) (p : ℕ) → p < length t → IsFirstByte (is_byte 10) (slice_range t p (length t)) None
    → lines_of (drop p t) ≡ slice_range t p (length t) ∷ lines_of (drop (length t + 1) t)
line_last t p l h =
    let whole : take (length t - p) (drop p t) ≡ drop p t = rw (← length-drop p t) (take-length (drop p t)) in
    let none : IsFirstByte (is_byte 10) (drop p t) None = rw whole at h in
    let long = length-drop p t in
    let e = line_left (drop p t) (omega arith) (λ k b z. none k (omega arith) b (eq-eqb (get_or (drop p t) k 0) 10 z)) in
    let over : drop (length t + 1) t ≡ [] = drop_of_length-le t (omega arith) in
    e ∙ rw (whole, over) refl
