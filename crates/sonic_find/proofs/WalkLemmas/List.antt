-- Lists in which places are set: the children that were visited, and the slots that are filled.
use Rattle.std.proofs.Common.{◌≡◌, ◌≢◌, ◌⊎◌, inl, inr, ap, ℕ, zero, suc, ◌+◌, ◌*◌, ◌<◌, ◌≤◌, Fits, w64, Fits-le, Fits-lit, take, le_of_lt, mul-le-mul_right, List, [], ◌∷◌, Bool, true, false, length, set, arith, refl, sym, ◌∙◌, ◌++◌}
use Rattle.std.proofs.Math.Seq.{take-append_seam}
use Rattle.std.proofs.lemmas.Bool.{cases_eq}
use Rattle.std.proofs.lemmas.List.{length-set, length-map}
use Rattle.std.proofs.lemmas.List.Elements.{Contains-append_left, Contains-push_cases, Contains-push}
use Rattle.std.proofs.lemmas.List.Sums.{sum_by-cons, sum_by-set}
use Rattle.std.proofs.lemmas.Option.{slice_get_within, get_or_from_slice_get, slice_get-map}
use Rattle.std.specs.List.{Contains}
use Rattle.std.specs.Prelude.{Some, slice_get, count_by, not, cond, map, option_map}
use Rattle.sonic_find.specs.Internal.Walk.{SomeOpen, AreSet}

-- what is set is there
pub set_here : {X : Type 0} (xs : List X) (i : ℕ) (a : X) → i < length xs → slice_get (set xs i a) i ≡ Some a
set_here [] i a l = absurd (omega arith)
set_here (x ∷ xs) zero a l = refl
set_here (x ∷ xs) (suc i) a l = set_here xs i a (omega arith)

-- and all else stays
pub set_elsewhere : {X : Type 0} (xs : List X) (i j : ℕ) (a : X) → j ≢ i → slice_get (set xs i a) j ≡ slice_get xs j
set_elsewhere [] i j a other = refl
set_elsewhere (x ∷ xs) zero zero a other = absurd (other refl)
set_elsewhere (x ∷ xs) zero (suc j) a other = refl
set_elsewhere (x ∷ xs) (suc i) zero a other = refl
set_elsewhere (x ∷ xs) (suc i) (suc j) a other = set_elsewhere xs i j a (λ e. other (ap suc e))

-- in place of what a place holds, or it holds nothing
pub set_cases : {X : Type 0} (xs : List X) (i j : ℕ) (a : X) → (j ≡ i) ⊎ (j ≢ i) × (slice_get (set xs i a) j ≡ slice_get xs j)
set_cases xs i j a = elim (cases_eq j i) [ inl e ↦ inl e | inr other ↦ inr (other, set_elsewhere xs i j a other) ]

-- what is open after the visit was open before, and is another
pub still_open : (visited : List Bool) (child c : ℕ) → child < length visited → slice_get (set visited child true) c ≡ Some false
    → (c ≢ child) × (slice_get visited c ≡ Some false)
still_open visited child c l h = elim (set_cases visited child c true) [
  | inr other ↦ (other.0, cc (other.1, h))
  | inl same ↦
      let here = set_here visited child true l in
      let there : slice_get (set visited child true) child ≡ Some false = rw same at h in
      let clash : Some true ≡ Some false = cc in
      absurd cc
]

-- a place of a list holds something
pub some_there : {X : Type 0} (xs : List X) (i : ℕ) → i < length xs → (x : X) × (slice_get xs i ≡ Some x)
some_there [] i l = absurd (omega arith)
some_there (x ∷ xs) zero l = (x, refl)
some_there (x ∷ xs) (suc i) l = some_there xs i (omega arith)

-- a list that isn't empty has a first element
pub first_of : {X : Type 0} (xs : List X) → xs ≢ [] → (x : X) × (slice_get xs 0 ≡ Some x)
first_of [] some = absurd (some refl)
first_of (x ∷ xs) some = (x, refl)

-- a child that was not visited counts
open_counts : (visited : List Bool) → count_by not (false ∷ visited) ≡ 1 + count_by not visited
open_counts visited = sum_by-cons (λ m. cond (not m) 1 0) false visited

-- and a visited one doesn't
visited_counts : (visited : List Bool) → count_by not (true ∷ visited) ≡ 0 + count_by not visited
visited_counts visited = sum_by-cons (λ m. cond (not m) 1 0) true visited

-- where none is counted, none is open
pub none_open : (visited : List Bool) (c : ℕ) → count_by not visited ≡ 0 → slice_get visited c ≢ Some false
none_open [] c e h = absurd cc
none_open (true ∷ visited) zero e h = absurd cc
none_open (true ∷ visited) (suc c) e h = none_open visited c (omega (arith, e, visited_counts visited)) h
none_open (false ∷ visited) c e h = absurd (omega (arith, e, open_counts visited))

-- where some are counted, one is open
pub some_open : (visited : List Bool) → count_by not visited ≢ 0 → SomeOpen visited
some_open [] other = absurd (other refl)
some_open (false ∷ visited) other = (zero, refl)
some_open (true ∷ visited) other = let x = some_open visited (λ e. other (omega (arith, e, visited_counts visited))) in (suc x.0, x.1)

-- one less is counted after the visit
pub one_less : (visited : List Bool) (child : ℕ) → slice_get visited child ≡ Some false → count_by not (set visited child true) + 1 ≡ count_by not visited
one_less visited child h =
    let was = get_or_from_slice_get visited child false true h in
    let sums = sum_by-set (λ m. cond (not m) 1 0) visited child true true (slice_get_within visited child false h) in
    let counts = rw was at sums in
    omega (arith, counts)

-- what lies within a list lies within its memory
pub offset_fits : {k n : ℕ} (s : ℕ) → k < n → n * s < 9223372036854775808 → Fits w64 (k * s)
offset_fits {k} {n} s within fits =
    let l : k * s ≤ n * s = mul-le-mul_right s (le_of_lt within) in
    let most : k * s ≤ 9223372036854775807 = omega (arith, l, fits) in
    Fits-le most (Fits-lit tt)

-- slots that are written back are set
pub set_back : {X : Type 0} {Is : ℕ → Type 0} {items lent now : List X} {x : X} (n : ℕ) (rest : List X) → lent ≡ items → length lent ≡ n → AreSet Is lent now x
    → AreSet Is items (take n (now ++ rest)) x
set_back {now = now} n rest same long set = rw (← same, ← long, ← set.long, take-append_seam now rest) set

-- for no number
pub set_none : {X : Type 0} (xs : List X) (x : X) → AreSet (Contains []) xs xs x
set_none xs x = record {
  long = refl;
  filled = λ k some. (let l : some.0 < 0 = some.1 in absurd (omega arith));
  each = λ k. inl refl;
}

-- for one more
pub set_more : {X : Type 0} (os : List ℕ) {before now : List X} {x : X} (o : ℕ) → AreSet (Contains os) before now x → o < length before
    → AreSet (Contains (os ++ o ∷ [])) before (set now o x) x
set_more os {before} {now} {x} o f l =
    let within : o < length now = omega (arith, f.long) in
    record {
      long = (let k : length (set now o x) ≡ length now = length-set now o x in omega (arith, k, f.long));
      filled = λ k some. elim (set_cases now o k x) [
        | inl same ↦ rw same (set_here now o x within)
        | inr other ↦ elim (Contains-push_cases os o k some) [
          | inl before ↦ (let h = f.filled k before in cc (other.1, h))
          | inr one ↦ absurd (other.0 (sym one))
        ]
      ];
      each = λ k. elim (set_cases now o k x) [
        | inl same ↦ inr (rw same (Contains-push os o), rw same (set_here now o x within))
        | inr other ↦ elim (f.each k) [
          | inl kept ↦ inl (cc (other.1, kept))
          | inr filled ↦ inr (Contains-append_left os (o ∷ []) k filled.0, cc (other.1, filled.1))
        ]
      ];
    }

-- for slots that are none
pub set_nothing : {X : Type 0} {P : ℕ → Type 0} (xs : List X) (x : X) → ((k : ℕ) → ¬ P k) → AreSet P xs xs x
set_nothing xs x none = record { long = refl; filled = λ k p. absurd (none k p); each = λ k. inl refl }

-- for the same slots
pub set_same : {X : Type 0} {P Q : ℕ → Type 0} {before now : List X} {x : X} → ((k : ℕ) → P k → Q k) → ((k : ℕ) → Q k → P k) → AreSet P before now x
    → AreSet Q before now x
set_same to from f = record {
  long = f.long;
  filled = λ k q. f.filled k (from k q);
  each = λ k. elim (f.each k) [ inl same ↦ inl same | inr here ↦ inr (to k here.0, here.1) ];
}

-- for some, and then for others
pub set_both : {X : Type 0} {P Q : ℕ → Type 0} {before mid now : List X} {x : X} → AreSet P before mid x → AreSet Q mid now x
    → AreSet (λ k. P k ⊎ Q k) before now x
set_both f g = record {
  long = g.long ∙ f.long;
  filled = λ k some. elim some [
    | inr q ↦ g.filled k q
    | inl p ↦ elim (g.each k) [ inl same ↦ same ∙ f.filled k p | inr here ↦ here.1 ]
  ];
  each = λ k. elim (g.each k) [
    | inr here ↦ inr (inr here.0, here.1)
    | inl same ↦ elim (f.each k) [ inl before ↦ inl (same ∙ before) | inr here ↦ inr (inl here.0, same ∙ here.1) ]
  ];
}

-- what is set of values is set of what is read off them
pub set_mapped : {X Y : Type 0} {P : ℕ → Type 0} (f : X → Y) {before now : List X} {x : X} → AreSet P before now x → AreSet P (map f before) (map f now) (f x)
set_mapped f {before} {now} {x} h = record {
  long = length-map now f ∙ (h.long ∙ sym (length-map before f));
  filled = λ k p. slice_get-map f now k ∙ ap (option_map f) (h.filled k p);
  each = λ k. elim (h.each k) [
    | inl same ↦ inl (slice_get-map f now k ∙ (ap (option_map f) same ∙ sym (slice_get-map f before k)))
    | inr there ↦ inr (there.0, slice_get-map f now k ∙ ap (option_map f) there.1)
  ];
}
