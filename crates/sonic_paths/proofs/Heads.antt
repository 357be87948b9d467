-- What a reader of a head learns from what it reads.
use Rattle.std.proofs.Common.{◌≡◌, ◌⊎◌, inl, inr, ℕ, zero, suc, ◌+◌, ◌<◌, ◌≤◌, List, [], ◌∷◌, length, drop, arith, refl}
use Rattle.std.proofs.lemmas.Bool.{cases_order}
use Rattle.std.proofs.lemmas.List.{length-drop}
use Rattle.std.proofs.lemmas.List.Sums.{prefix_len-le-length}
use Rattle.sonic_text.specs.Places.{after_space}
use Rattle.sonic_paths.specs.Heads.{is_inside_line, line_end, line_at, IsBlank, IsHead, blank_line, blank_end, last_line, one_more_line}
use Rattle.sonic_paths.proofs.Deciding.{at_most}

-- a line ends within the input
line_end_within : (t : List ℕ) (i : ℕ) → i ≤ length t → line_end t i ≤ length t
line_end_within t i within = omega (arith, prefix_len-le-length is_inside_line (drop i t), length-drop i t)

-- a place is at the end or before it
before_end : (t : List ℕ) (p : ℕ) → p ≤ length t → (p < length t) ⊎ (p ≡ length t)
before_end t p within = elim (cases_order p (length t)) [ inl e ↦ inr e | inr (inl l) ↦ inl l | inr (inr g) ↦ absurd (omega arith) ]

-- the lines of a head, whatever they are
pub record SomeHead (t : List ℕ) (i : ℕ) : Type 0 where
  pub lines : List (List ℕ)
  pub document : ℕ
  pub head : IsHead t i lines document

some_head_before : (t : List ℕ) (n i : ℕ) → i ≤ length t → length t < i + n → SomeHead t i
some_head_before t zero i within l = absurd (omega arith)
some_head_before t (suc n) i within l = elim (before_end t (line_end t i) (line_end_within t i within)) [
  | inl below ↦ elim (at_most (line_end t i) (after_space t i)) [
    | inl blank ↦ record { lines = []; document = _; head = blank_line blank below refl }
    | inr text ↦
        let h = some_head_before t n (line_end t i + 1) (omega arith) (omega arith) in
        record { lines = line_at t i ∷ h.lines; document = h.document; head = one_more_line text below h.head }
  ]
  | inr end ↦ elim (at_most (line_end t i) (after_space t i)) [
    | inl blank ↦ record { lines = []; document = _; head = blank_end blank end refl }
    | inr text ↦ record { lines = line_at t i ∷ []; document = _; head = last_line text end refl }
  ]
]

-- each place of an input has lines before the first blank one
pub some_head : (t : List ℕ) (i : ℕ) → i ≤ length t → SomeHead t i
some_head t i within = some_head_before t (length t + 1) i within (omega arith)

-- a line that isn't blank is the first of a head
pub head_of_line : (t : List ℕ) (i : ℕ) → i ≤ length t → ¬ IsBlank t i → (lines : List (List ℕ)) × (d : ℕ) × IsHead t i (line_at t i ∷ lines) d
head_of_line t i within text = elim (before_end t (line_end t i) (line_end_within t i within)) [
  | inl below ↦ let h = some_head t (line_end t i + 1) (omega arith) in (h.lines, h.document, one_more_line text below h.head)
  | inr e ↦ ([], length t, last_line text e refl)
]

-- the document begins within the input
pub document_within : {t : List ℕ} {i d : ℕ} {lines : List (List ℕ)} → IsHead t i lines d → d ≤ length t
document_within (blank_line b l e) = omega arith
document_within (blank_end b l e) = omega arith
document_within (last_line b l e) = omega arith
document_within (one_more_line b l h) = document_within h
