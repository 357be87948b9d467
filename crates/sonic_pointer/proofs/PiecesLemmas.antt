-- Pieces of a list: where they start, and what they hold together.
use Rattle.std.proofs.Common.{◌≡◌, ℕ, ◌+◌, ◌-◌, ◌^◌, ◌<◌, ◌≤◌, List, [], ◌∷◌, ◌++◌, length, get_or, set, take, drop, map, All, Some, slice_get, insert, add-one, refl, sym, ap, ◌∙◌, subst, inl, inr, arith}
use Rattle.std.proofs.Math.Seq.{split_at}
use Rattle.std.proofs.lemmas.Bool.{cases_lt}
use Rattle.std.proofs.lemmas.List.{append_assoc, length-append, append-nil, length-drop, length-take-le, take_all, take_more, take_more_set, take-append-drop, drop-set-lt, set-append_right, set_split, get_or-append_right, get_or_append_left, get_or_default}
use Rattle.std.proofs.lemmas.List.Concat.{flat_map-append}
use Rattle.std.proofs.lemmas.List.Edits.{map_over_more, length-insert, insert-append_left, insert-append_right}
use Rattle.std.proofs.lemmas.List.Folds.{flat_map-map}
use Rattle.std.proofs.lemmas.Option.{slice_get-get_or, slice_get_within, get_or_from_slice_get}
use Rattle.sonic_pointer.specs.Internal.Pieces.{numbers_of, raised, AreStarts, IsHolder, IsWindow, IsInWindow}
use Rattle.sonic_pointer.specs.declared.pieces.Piece.{Piece}
use Rattle.sonic_pointer.specs.declared.pieces.Window.{Window}

pub numbers-append : (xs ys : List Piece) → numbers_of (xs ++ ys) ≡ numbers_of xs ++ numbers_of ys
numbers-append xs ys = flat_map-append (λ (p : Piece). p.numbers.items) xs ys

pub numbers-raised : (by : ℕ) (xs : List Piece) → numbers_of (map (raised by) xs) ≡ numbers_of xs
numbers-raised by xs = flat_map-map (λ (p : Piece). p.numbers.items) (raised by) xs

-- a list that was cut, before another
pub joined : (l t : List ℕ) (n : ℕ) → take n l ++ (drop n l ++ t) ≡ l ++ t
joined l t n = sym (append_assoc (take n l) (drop n l) t) ∙ ap (λ m. m ++ t) (take-append-drop n l)

-- pieces in two parts
pub starts_parts : (a : ℕ) (xs ys : List Piece) → AreStarts a (xs ++ ys) → AreStarts a xs × AreStarts (a + length (numbers_of xs)) ys
starts_parts a [] ys h = (tt, subst (λ n. AreStarts n ys) (omega arith) h)
starts_parts a (x ∷ xs) ys h =
    let rest = starts_parts (a + length x.numbers.items) xs ys h.1 in
    ((h.0, rest.0), subst (λ n. AreStarts n ys) (omega (arith, length-append x.numbers.items (numbers_of xs))) rest.1)

pub starts_join : (a : ℕ) (xs ys : List Piece) → AreStarts a xs → AreStarts (a + length (numbers_of xs)) ys → AreStarts a (xs ++ ys)
starts_join a [] ys h t = subst (λ n. AreStarts n ys) (omega arith) t
starts_join a (x ∷ xs) ys h t =
    (h.0, starts_join (a + length x.numbers.items) xs ys h.1 (subst (λ n. AreStarts n ys) (omega (arith, length-append x.numbers.items (numbers_of xs))) t))

-- so many numbers more before them
pub starts_raised : (a by : ℕ) (xs : List Piece) → AreStarts a xs → AreStarts (a + by) (map (raised by) xs)
starts_raised a by [] h = tt
starts_raised a by (x ∷ xs) h =
    (ap (λ n. n + by) h.0, subst (λ n. AreStarts n (map (raised by) xs)) (omega arith) (starts_raised (a + length x.numbers.items) by xs h.1))

-- one turn of a loop over those from `from` on
pub raised_more : (f : Piece → Piece) (xs ys : List Piece) (from k : ℕ) (x : Piece) → from ≤ k → k < length xs → ys ≡ take from xs ++ (map f (take (k - from) (drop from xs)) ++ drop (k - from) (drop from xs))
    → x ≡ get_or ys k x → set ys k (f x) ≡ take from xs ++ (map f (take (k + 1 - from) (drop from xs)) ++ drop (k + 1 - from) (drop from xs))
raised_more f xs ys from k x low high is read =
    let rest = drop from xs in
    let done = map f (take (k - from) rest) ++ drop (k - from) rest in
    let long = length-take-le from xs (omega arith) in
    ap (λ l. set l k (f x)) is
    ∙ (set-append_right (take from xs) done from k (f x) long low
    ∙ ap (λ l. take from xs ++ l) (map_over_more f rest done (k - from) x (omega (arith, length-drop from xs)) refl (read ∙ (ap (λ l. get_or l k x) is ∙ get_or-append_right (take from xs) done from k x long low))
    ∙ ap (λ n. map f (take n rest) ++ drop n rest) (omega arith)))

module _ (xs : List Piece) (k : ℕ) (x : Piece) (inside : k < length xs) (is : x ≡ get_or xs k x) where
  -- the pieces before one, that one, and those after it
  parts_at : xs ≡ take k xs ++ x ∷ drop (k + 1) xs
  parts_at = rw add-one (split_at xs k x inside) ∙ ap (λ p. take k xs ++ p ∷ drop (k + 1) xs) (sym is)

  pub numbers_at : numbers_of xs ≡ numbers_of (take k xs) ++ (x.numbers.items ++ numbers_of (drop (k + 1) xs))
  numbers_at = ap numbers_of parts_at ∙ numbers-append (take k xs) (x ∷ drop (k + 1) xs)

  pub length_at : length (numbers_of xs) ≡ length (numbers_of (take k xs)) + (length x.numbers.items + length (numbers_of (drop (k + 1) xs)))
  length_at = ap length numbers_at ∙ (length-append (numbers_of (take k xs)) _ ∙ ap (λ n. length (numbers_of (take k xs)) + n) (length-append x.numbers.items _))

  pub starts_at : (a : ℕ) → AreStarts a xs → AreStarts a (take k xs) × AreStarts (a + length (numbers_of (take k xs))) (x ∷ drop (k + 1) xs)
  starts_at a starts = starts_parts a (take k xs) (x ∷ drop (k + 1) xs) (subst (AreStarts a) parts_at starts)

  -- with one piece more
  length_more : length (numbers_of (take (k + 1) xs)) ≡ length (numbers_of (take k xs)) + length x.numbers.items
  length_more =
      ap (λ ps. length (numbers_of ps)) (take_more xs k x inside ∙ ap (λ p. take k xs ++ p ∷ []) (sym is))
      ∙ (ap length (numbers-append (take k xs) (x ∷ [])) ∙ (length-append (numbers_of (take k xs)) _ ∙ ap (λ l. length (numbers_of (take k xs)) + length l) (append-nil x.numbers.items)))

  -- a position, or the one after it, that is inside the numbers is inside the piece that is found for it
  pub held : (position by : ℕ) → IsHolder xs position k → by ≤ 1 → position + by ≤ length (numbers_of xs) → position + by ≤ length (numbers_of (take k xs)) + length x.numbers.items
  held position by here short within =
      let more = length_more in
      elim (cases_lt (k + 1) (length xs)) [
        | inl before ↦ let end = here.to before in omega arith
        | inr last ↦ let all = ap (λ ps. length (numbers_of ps)) (take_all (k + 1) xs last) in omega arith
      ]

  -- another piece with the same numbers in its place
  module _ (piece : Piece) (same : piece.numbers.items ≡ x.numbers.items) where
    replaced : set xs k piece ≡ take k xs ++ piece ∷ drop (k + 1) xs
    replaced = rw add-one (set_split xs k piece inside)

    pub starts_replaced : AreStarts 0 xs → piece.start ≡ x.start → AreStarts 0 (set xs k piece)
    starts_replaced starts start =
        let parts = starts_at 0 starts in
        let s = parts.1.0 in
        rw replaced (starts_join 0 (take k xs) (piece ∷ drop (k + 1) xs) parts.0 (omega arith, subst (λ l. AreStarts (0 + length (numbers_of (take k xs)) + length l) (drop (k + 1) xs)) (sym same) parts.1.1))

    pub numbers_replaced : numbers_of (set xs k piece) ≡ numbers_of xs
    numbers_replaced =
        ap numbers_of replaced
        ∙ (numbers-append (take k xs) (piece ∷ drop (k + 1) xs) ∙ (ap (λ l. numbers_of (take k xs) ++ (l ++ numbers_of (drop (k + 1) xs))) same ∙ sym numbers_at))

  -- the piece in two, cut after n of its numbers
  module _ (n : ℕ) (low high : Piece) where
    halved : insert (set xs k low) (k + 1) high ≡ take k xs ++ low ∷ high ∷ drop (k + 1) xs
    halved =
        ap (λ l. l ++ high ∷ drop (k + 1) (set xs k low)) (take_more_set xs k low inside)
        ∙ (append_assoc (take k xs) (low ∷ []) (high ∷ drop (k + 1) (set xs k low)) ∙ ap (λ l. take k xs ++ low ∷ high ∷ l) (drop-set-lt (k + 1) xs k low (omega arith)))

    pub starts_halved : AreStarts 0 xs → low.start ≡ x.start → high.start ≡ x.start + n → length low.numbers.items ≡ n → n + length high.numbers.items ≡ length x.numbers.items → AreStarts 0 (insert (set xs k low) (k + 1) high)
    starts_halved starts start next short rest =
        let parts = starts_at 0 starts in
        let s = parts.1.0 in
        rw halved (starts_join 0 (take k xs) (low ∷ high ∷ drop (k + 1) xs) parts.0 (omega arith, (omega arith, subst (λ m. AreStarts m (drop (k + 1) xs)) (omega arith) parts.1.1)))

    pub numbers_halved : low.numbers.items ≡ take n x.numbers.items → high.numbers.items ≡ drop n x.numbers.items → numbers_of (insert (set xs k low) (k + 1) high) ≡ numbers_of xs
    numbers_halved first second =
        let after = numbers_of (drop (k + 1) xs) in
        ap numbers_of halved
        ∙ (numbers-append (take k xs) (low ∷ high ∷ drop (k + 1) xs)
        ∙ (ap (λ l. numbers_of (take k xs) ++ l) (ap (λ m. m ++ (high.numbers.items ++ after)) first ∙ (ap (λ m. take n x.numbers.items ++ (m ++ after)) second ∙ joined x.numbers.items after n)) ∙ sym numbers_at))

  -- a position that is inside the piece
  pub from_start : (position : ℕ) → AreStarts 0 xs → IsHolder xs position k → x.start ≤ position
  from_start position starts here = let start = (starts_at 0 starts).1.0 in let from = here.from in omega arith

  pub to_end : (position : ℕ) → AreStarts 0 xs → IsHolder xs position k → position ≤ length (numbers_of xs) → position - x.start ≤ length x.numbers.items
  to_end position starts here within = let start = (starts_at 0 starts).1.0 in let to = held position 0 here (omega arith) (omega arith) in omega arith

  pub before_end : (position : ℕ) → AreStarts 0 xs → IsHolder xs position k → position < length (numbers_of xs) → position - x.start < length x.numbers.items
  before_end position starts here within =
      let start = (starts_at 0 starts).1.0 in
      let from = here.from in
      let to = held position 1 here (omega arith) (omega arith) in
      omega arith

  -- its numbers stand in the list, after others
  pub is_window : (first : List ℕ) (window : Window) → window.numbers.now ≡ x.numbers.items → window.start ≡ length first + x.start → AreStarts 0 xs → IsWindow (first ++ numbers_of xs) window
  is_window first window same start starts =
      let before = (starts_at 0 starts).1.0 in
      record {
        before = first ++ numbers_of (take k xs);
        after = numbers_of (drop (k + 1) xs);
        is = ap (λ l. first ++ l) numbers_at
            ∙ (sym (append_assoc first (numbers_of (take k xs)) _) ∙ ap (λ l. (first ++ numbers_of (take k xs)) ++ (l ++ numbers_of (drop (k + 1) xs))) (sym same));
        start = omega (arith, length-append first (numbers_of (take k xs)));
      }

  -- the last piece ends where the list does
  pub last_end : k + 1 ≡ length xs → AreStarts 0 xs → x.start + length x.numbers.items ≡ length (numbers_of xs)
  last_end last starts =
      let start = (starts_at 0 starts).1.0 in
      let more = length_more in
      let all = ap (λ ps. length (numbers_of ps)) (take_all (k + 1) xs (omega arith)) in
      omega arith

  -- the piece with one number more, and those after it raised
  module _ (position number : ℕ) (piece : Piece) (starts : AreStarts 0 xs) (here : IsHolder xs position k) (within : position ≤ length (numbers_of xs))
      (new : piece.numbers.items ≡ insert x.numbers.items (position - x.start) number) where
    raised_after : take (k + 1) (set xs k piece) ++ map (raised 1) (drop (k + 1) (set xs k piece)) ≡ take k xs ++ piece ∷ map (raised 1) (drop (k + 1) xs)
    raised_after =
        ap (λ l. l ++ map (raised 1) (drop (k + 1) (set xs k piece))) (take_more_set xs k piece inside)
        ∙ (append_assoc (take k xs) (piece ∷ []) _ ∙ ap (λ l. take k xs ++ piece ∷ map (raised 1) l) (drop-set-lt (k + 1) xs k piece (omega arith)))

    pub starts_put : piece.start ≡ x.start → AreStarts 0 (take (k + 1) (set xs k piece) ++ map (raised 1) (drop (k + 1) (set xs k piece)))
    starts_put start =
        let parts = starts_at 0 starts in
        let s = parts.1.0 in
        let long = ap length new ∙ length-insert x.numbers.items (position - x.start) number (to_end position starts here within) in
        rw raised_after (starts_join 0 (take k xs) (piece ∷ map (raised 1) (drop (k + 1) xs)) parts.0
        (omega arith, subst (λ m. AreStarts m (map (raised 1) (drop (k + 1) xs))) (omega arith) (starts_raised _ 1 (drop (k + 1) xs) parts.1.1)))

    pub numbers_put : numbers_of (take (k + 1) (set xs k piece) ++ map (raised 1) (drop (k + 1) (set xs k piece))) ≡ insert (numbers_of xs) position number
    numbers_put =
        let start = (starts_at 0 starts).1.0 in
        let before = numbers_of (take k xs) in
        let after = numbers_of (drop (k + 1) xs) in
        ap numbers_of raised_after
        ∙ (numbers-append (take k xs) (piece ∷ map (raised 1) (drop (k + 1) xs))
        ∙ (ap (λ l. before ++ (piece.numbers.items ++ l)) (numbers-raised 1 (drop (k + 1) xs))
        ∙ (ap (λ l. before ++ (l ++ after)) new
        ∙ (ap (λ l. before ++ l) (sym (insert-append_left x.numbers.items after (position - x.start) number (to_end position starts here within)))
        ∙ (sym (insert-append_right before (x.numbers.items ++ after) x.start position number (omega arith) (from_start position starts here))
        ∙ ap (λ l. insert l position number) (sym numbers_at))))))

-- what each says of its start
pub start_of : (a : ℕ) (xs : List Piece) (k : ℕ) (d : Piece) → k < length xs → AreStarts a xs → (get_or xs k d).start ≡ a + length (numbers_of (take k xs))
start_of a xs k d inside starts = (starts_at xs k (get_or xs k d) inside (get_or_default xs k d (get_or xs k d) inside) a starts).1.0

-- where the list ends
pub end_of : (xs : List Piece) (x : Piece) → Some x ≡ slice_get xs (length xs - 1) → AreStarts 0 xs → x.start + length x.numbers.items ≡ length (numbers_of xs)
end_of xs x last starts =
    let inside = slice_get_within xs (length xs - 1) x (sym last) in
    last_end xs (length xs - 1) x inside (sym (get_or_from_slice_get xs (length xs - 1) x x (sym last))) (omega arith) starts

-- starts are numbers, if their sum is
pub starts_fit : (a by : ℕ) (xs : List Piece) → AreStarts a xs → a + length (numbers_of xs) + by < 2 ^ 64 → All (λ (p : Piece). p.start + by < 2 ^ 64) xs
starts_fit a by xs starts fits k d inside =
    let start = start_of a xs k d inside starts in
    let all = length_at xs k (get_or xs k d) inside (get_or_default xs k d (get_or xs k d) inside) in
    omega arith

-- what is read in a window is the list's
pub window_get : (list : List ℕ) (window : Window) (i d : ℕ) → IsWindow list window → IsInWindow window i → slice_get list i ≡ Some (get_or window.numbers.now (i - window.start) d)
window_get list window i d w here =
    let from = here.from in
    let to = here.to in
    let all = ap length w.is ∙ length-append w.before (window.numbers.now ++ w.after) in
    let rest = length-append window.numbers.now w.after in
    slice_get-get_or list i d (omega (arith, w.start))
    ∙ ap Some
    (ap (λ l. get_or l i d) w.is
    ∙ (get_or-append_right w.before (window.numbers.now ++ w.after) window.start i d w.start from
    ∙ get_or_append_left window.numbers.now w.after d (i - window.start) (omega arith)))
