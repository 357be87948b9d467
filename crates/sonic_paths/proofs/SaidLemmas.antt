-- Lines say one thing where each line does.
use Rattle.std.proofs.Common.{◌≡◌, ◌⊎◌, inl, inr, ℕ, ◌+◌, List, [], ◌∷◌, ◌++◌, length, arith, refl}
use Rattle.sonic_paths.specs.Heads.{AreSaid, no_more_lines, next_line, IsBad, IsFirstBad}

module _ {S : Type 0} {Says : S → List ℕ → S → Type 0} where
  -- one line more is said after those before it
  pub said_more : {before after now : S} {lines : List (List ℕ)} {line : List ℕ} → AreSaid Says before lines after → Says after line now
      → AreSaid Says before (lines ++ line ∷ []) now
  said_more no_more_lines says = next_line says no_more_lines
  said_more (next_line first rest) says = next_line first (said_more rest says)

-- a line says at most one thing
abbrev pub SaysOne : {S : Type 0} → (S → List ℕ → S → Type 0) → Type 0
SaysOne {S} Says = (before : S) (line : List ℕ) (a b : S) → Says before line a → Says before line b → a ≡ b

-- a line says something, or nothing
abbrev pub SaysOrNot : {S : Type 0} → (S → List ℕ → S → Type 0) → Type 0
SaysOrNot {S} Says = (before : S) (line : List ℕ) → ((after : S) × Says before line after) ⊎ IsBad Says before line

module _ {S : Type 0} {Says : S → List ℕ → S → Type 0} (one : SaysOne Says) where
  -- so do many
  pub said_one : {before a b : S} {lines : List (List ℕ)} → AreSaid Says before lines a → AreSaid Says before lines b → a ≡ b
  said_one no_more_lines no_more_lines = refl
  said_one {before} {a} (next_line {between = p} {line = line} {lines} x xs) (next_line {between = q} y ys) =
      let moved : AreSaid Says q lines a = rw (one before line p q x y) at xs in
      said_one moved ys

  -- after as many good lines comes the first bad one
  as_many_good : {before a b : S} {good fine : List (List ℕ)} {line other : List ℕ} (rest more : List (List ℕ)) → AreSaid Says before good a → AreSaid Says before fine b
      → IsBad Says a line → IsBad Says b other → good ++ line ∷ rest ≡ fine ++ other ∷ more → length good ≡ length fine
  as_many_good rest more no_more_lines no_more_lines x y e = refl
  as_many_good {line = line} rest more no_more_lines (next_line {between = p} {line = first} s ss) x y e =
      let same : line ≡ first = cc in
      absurd (x p (rw same s))
  as_many_good {other = other} rest more (next_line {between = p} {line = first} s ss) no_more_lines x y e =
      let same : other ≡ first = cc in
      absurd (y p (rw same s))
  as_many_good {before} {a} {line = line} {other} rest more (next_line {between = p} {line = first} {lines} s ss) (next_line {between = q} {line = second} {lines = others} r rs) x y e =
      let same : second ≡ first = cc in
      let tails : lines ++ line ∷ rest ≡ others ++ other ∷ more = cc in
      let again : Says before first q = rw same at r in
      let moved : AreSaid Says q lines a = rw (one before first p q s again) at ss in
      rw (as_many_good rest more moved rs x y tails) refl

  -- so at most one is the first
  pub first_bad_one : {before : S} {lines : List (List ℕ)} {n m : ℕ} → IsFirstBad Says before lines n → IsFirstBad Says before lines m → n ≡ m
  first_bad_one x y =
      let same : x.good ++ x.line ∷ x.rest ≡ y.good ++ y.line ∷ y.rest = rw x.is at y.is in
      let many = as_many_good x.rest y.rest x.said y.said x.bad y.bad same in
      omega (arith, many, x.number, y.number)

  -- where all are said none is bad
  none_bad : {before a b : S} {all good : List (List ℕ)} {line : List ℕ} (rest : List (List ℕ)) → AreSaid Says before all a → AreSaid Says before good b
      → all ≡ good ++ line ∷ rest → ¬ IsBad Says b line
  none_bad rest no_more_lines no_more_lines e bad = absurd cc
  none_bad rest no_more_lines (next_line r rs) e bad = absurd cc
  none_bad {line = line} rest (next_line {between = p} {line = first} s ss) no_more_lines e bad =
      let same : line ≡ first = cc in
      bad p (rw same s)
  none_bad {before} {a} {line = line} rest (next_line {between = p} {line = first} {lines} s ss) (next_line {between = q} {line = second} {lines = others} r rs) e bad =
      let same : second ≡ first = cc in
      let tails : lines ≡ others ++ line ∷ rest = cc in
      let again : Says before first q = rw same at r in
      let moved : AreSaid Says q lines a = rw (one before first p q s again) at ss in
      none_bad rest moved rs tails bad

  pub never_bad : {before after : S} {lines : List (List ℕ)} {n : ℕ} → AreSaid Says before lines after → ¬ IsFirstBad Says before lines n
  never_bad said x = none_bad x.rest said x.said x.is x.bad

module _ {S : Type 0} {Says : S → List ℕ → S → Type 0} (or_not : SaysOrNot Says) where
  -- all lines are said, or one is the first that says nothing
  pub said_or_bad : (before : S) (lines : List (List ℕ)) → ((after : S) × AreSaid Says before lines after) ⊎ ((n : ℕ) × IsFirstBad Says before lines n)
  said_or_bad before [] = inl (before, no_more_lines)
  said_or_bad before (line ∷ lines) = elim (or_not before line) [
    | inr bad ↦ inr (1, record { good = []; after = before; line = line; rest = lines; is = refl; said = no_more_lines; bad = bad; number = refl })
    | inl s ↦ elim (said_or_bad s.0 lines) [
      | inl r ↦ inl (r.0, next_line s.1 r.1)
      | inr (n, b) ↦ inr (
        n + 1,
        record {
          good = line ∷ b.good;
          after = b.after;
          line = b.line;
          rest = b.rest;
          is = rw b.is refl;
          said = next_line s.1 b.said;
          bad = b.bad;
          number = omega (arith, b.number);
        },
      )
    ]
  ]
