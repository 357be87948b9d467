-- Entries that are written into a caller's room.
use Rattle.std.proofs.Common.{◌≡◌, ◌∙◌, inl, inr, sym, ap, subst, refl, ℕ, ◌+◌, ◌<◌, List, [], ◌∷◌, ◌++◌, length, get_or, set, map, min, take, drop, append_assoc, take_all, arith}
use Rattle.std.proofs.Math.ListN.{drop_of_length-le}
use Rattle.std.proofs.Math.Nat.{min-eq_left, min-eq_right}
use Rattle.std.proofs.Math.Seq.{set-append_seam}
use Rattle.std.proofs.lemmas.Bool.{cases_lt}
use Rattle.std.proofs.lemmas.List.{length-map, length-take-le, drop_more, map_more, take-map}
use Rattle.std.proofs.lemmas.Option.{get_or_from_slice_get, slice_get_within}
use Rattle.std.specs.Prelude.{Some, slice_get}
use Rattle.sonic_c.specs.Codes.{placed}
use Rattle.sonic_c.specs.Indexes.{IsIndexCall, index_refused, index_unknown}
use Rattle.sonic_c.specs.Internal.Texts.{OrOutOfMemory, refuses, ran_out}
use Rattle.sonic_c.specs.Texts.{IsNoDocument}
use Rattle.sonic_c.specs.declared.fault.Fault.{Fault}
use Rattle.sonic_c.specs.declared.index.Entry.{Entry}

module _ {X Y : Type 0} (f : X → Y) (xs : List X) (room : List Y) where
  -- one more is written after those before it
  pub one_more : (i : ℕ) (x : X) → i < length room → slice_get xs i ≡ Some x
      → set (map f (take i xs) ++ drop i room) i (f x) ≡ map f (take (i + 1) xs) ++ drop (i + 1) room
  one_more i x low is =
      let within = slice_get_within xs i x is in
      let written = map f (take i xs) in
      let rest = drop (i + 1) room in
      let long : length written ≡ i = length-map (take i xs) f ∙ length-take-le i xs (omega (arith, within)) in
      let here = get_or_from_slice_get xs i x x is in
      let more : map f (take (i + 1) xs) ≡ written ++ f x ∷ [] = map_more f xs i x within ∙ ap (λ e. written ++ f e ∷ []) here in
      ap (λ l. set (written ++ l) i (f x)) (drop_more room i (f x) low)
      ∙ subst (λ n. set (written ++ get_or room i (f x) ∷ rest) n (f x) ≡ written ++ f x ∷ rest) long (set-append_seam written (get_or room i (f x)) rest (f x))
      ∙ sym (append_assoc written (f x ∷ []) rest)
      ∙ ap (λ l. l ++ rest) (sym more)

  -- as many as there is room for are all that are placed
  pub all_placed : (n : ℕ) → n ≡ min (length room) (length xs) → map f (take n xs) ++ drop n room ≡ placed (map f xs) room
  all_placed n least = elim (cases_lt (length xs) (length room)) [
    | inl fewer ↦ (
        let is : n ≡ length xs = least ∙ min-eq_right (omega (arith, fewer)) in
        let all : take n xs ≡ xs = take_all n xs (omega (arith, is)) in
        let whole : take (length room) (map f xs) ≡ map f xs = take_all (length room) (map f xs) (omega (arith, fewer, length-map xs f)) in
        rw (all, whole, length-map xs f, is) refl
        )
    | inr more ↦ (
        let is : n ≡ length room = least ∙ min-eq_left more in
        let none : drop n room ≡ [] = drop_of_length-le room {i = n} (omega (arith, is)) in
        let over : drop (length (map f xs)) room ≡ [] = drop_of_length-le room {i = length (map f xs)} (omega (arith, more, length-map xs f)) in
        rw (none, over, is, take-map f (length room) xs) refl
        )
  ]

-- where the text is no document, or memory ran out, no entry is written
pub entries_refused : {t : List ℕ} {entries : List Entry} {wanted : ℕ} {before after : Fault} {status : ℕ} → OrOutOfMemory (IsNoDocument t) before after status
    → IsIndexCall t (record { entries = entries; wanted = wanted; error = before }) (record { entries = entries; wanted = wanted; error = after }) status
entries_refused (refuses x) = index_refused x refl refl
entries_refused (ran_out is same) = index_unknown is (rw same refl)
