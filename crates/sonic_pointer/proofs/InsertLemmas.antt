-- One more element of a list, at a position inside it.
use Rattle.std.proofs.Common.{◌≡◌, ℕ, ◌+◌, ◌-◌, ◌<◌, ◌≤◌, List, [], ◌∷◌, ◌++◌, length, get_or, take, drop, map, All, AllPairs, Contains, insert, refl, sym, ap, ◌∙◌, subst, inl, inr, arith}
use Rattle.std.proofs.lemmas.Bool.{cases_order}
use Rattle.std.proofs.lemmas.List.{take-map, drop-map, map-append, take-append-drop}
use Rattle.std.proofs.lemmas.List.Edits.{length-insert, get_or-insert_below, get_or-insert_at, get_or-insert_above}
use Rattle.std.proofs.lemmas.List.Elements.{All-cons, All-append, All-take, All-drop, Contains-append_left, Contains-append_right, Contains-append_cases}

pub map-insert : {X Y : Type 0} (f : X → Y) (xs : List X) (i : ℕ) (x : X) → map f (insert xs i x) ≡ insert (map f xs) i (f x)
map-insert f xs i x = map-append f (take i xs) (x ∷ drop i xs) ∙ (ap (λ l. l ++ f x ∷ map f (drop i xs)) (sym (take-map f i xs)) ∙ ap (λ l. take i (map f xs) ++ f x ∷ l) (sym (drop-map f i xs)))

pub All-insert : {X : Type 0} (P : X → Type 0) (xs : List X) (i : ℕ) (x : X) → P x → All P xs → All P (insert xs i x)
All-insert P xs i x here all = All-append P (take i xs) (x ∷ drop i xs) (All-take P i xs all) (All-cons P x (drop i xs) here (All-drop P i xs all))

pub Contains-insert_same : {X : Type 0} (xs : List X) (i : ℕ) (x : X) → Contains (insert xs i x) x
Contains-insert_same xs i x = Contains-append_right (take i xs) (x ∷ drop i xs) x (0, omega arith, refl)

pub Contains-insert_other : {X : Type 0} (xs : List X) (i : ℕ) (x y : X) → Contains xs y → Contains (insert xs i x) y
Contains-insert_other xs i x y h =
    elim (Contains-append_cases (take i xs) (drop i xs) y (subst (λ l. Contains l y) (sym (take-append-drop i xs)) h)) [
      | inl prefix ↦ Contains-append_left (take i xs) (x ∷ drop i xs) y prefix
      | inr back ↦ Contains-append_right (take i xs) (x ∷ drop i xs) y (Contains-append_right (x ∷ []) (drop i xs) y back)
    ]

-- the element at k is an earlier one, the new one, or a later one
pub data IsAtPosition {X : Type 0} (xs : List X) (i : ℕ) (x : X) (k : ℕ) (d : X) : Type 0 where
  earlier : k < i → get_or (insert xs i x) k d ≡ get_or xs k d → IsAtPosition xs i x k d
  new : k ≡ i → get_or (insert xs i x) k d ≡ x → IsAtPosition xs i x k d
  later : i < k → get_or (insert xs i x) k d ≡ get_or xs (k - 1) d → IsAtPosition xs i x k d

pub at_position : {X : Type 0} (xs : List X) (i : ℕ) (x : X) (k : ℕ) (d : X) → i ≤ length xs → IsAtPosition xs i x k d
at_position xs i x k d l =
    elim (cases_order k i) [
      | inl e ↦ new e (ap (λ j. get_or (insert xs i x) j d) e ∙ get_or-insert_at xs i x d l)
      | inr (inl below) ↦ earlier below (get_or-insert_below xs i x d k below l)
      | inr (inr above) ↦
          let back : k ≡ k - 1 + 1 = omega arith in
          later above (ap (λ j. get_or (insert xs i x) j d) back ∙ get_or-insert_above xs i x d (k - 1) (omega arith) l)
    ]

-- an element goes between those that it follows and those that it precedes
pub AllPairs-insert : {X : Type 0} (R : X → X → Type 0) (xs : List X) (i : ℕ) (x : X) → i ≤ length xs → AllPairs R xs
    → ((k : ℕ) (d : X) → k < i → R (get_or xs k d) x) → ((k : ℕ) (d : X) → i ≤ k → k < length xs → R x (get_or xs k d)) → AllPairs R (insert xs i x)
AllPairs-insert {X} R xs i x l all before after a b d ab bl =
    let long = length-insert xs i x l in
    let end : b < length xs + 1 = omega arith in
    elim (at_position xs i x a d l) [
      | earlier ai ea ↦ elim (at_position xs i x b d l) [
        | earlier bi eb ↦ rw (ea, eb) (all a b d ab (omega arith))
        | new bi eb ↦ rw (ea, eb) (before a d ai)
        | later bi eb ↦ rw (ea, eb) (all a (b - 1) d (omega arith) (omega arith))
      ]
      | new ai ea ↦ elim (at_position xs i x b d l) [
        | earlier bi eb ↦ absurd (omega arith)
        | new bi eb ↦ absurd (omega arith)
        | later bi eb ↦ rw (ea, eb) (after (b - 1) d (omega arith) (omega arith))
      ]
      | later ai ea ↦ elim (at_position xs i x b d l) [
        | earlier bi eb ↦ absurd (omega arith)
        | new bi eb ↦ absurd (omega arith)
        | later bi eb ↦ rw (ea, eb) (all (a - 1) (b - 1) d (omega arith) (omega arith))
      ]
    ]
