-- The lines of a head say one thing.
use Rattle.std.proofs.Common.{◌≡◌, inl, inr, ℕ, List, [], ◌∷◌, ◌++◌, arith, refl}
use Rattle.sonic_edits.proofs.ElementLemmas.{own_one}
use Rattle.sonic_edits.proofs.LineTests.{edit_line_or_none}
use Rattle.sonic_edits.proofs.SayingLemmas.{line_elements, says_one}
use Rattle.sonic_edits.specs.Heads.{SaysNextEdit, AreEditLines, IsFirstBadEdit, SaysEditsOf, SaysBadEdit}
use Rattle.sonic_edits.specs.Laws.{SaysOneListOfEdits}
use Rattle.sonic_edits.specs.Lines.{IsEditLine, SaysEdit}
use Rattle.sonic_owned.specs.Forms.{Form}
use Rattle.sonic_owned.specs.TreeEdits.{Edit}
use Rattle.sonic_paths.proofs.Heads.{some_head, document_within}
use Rattle.sonic_paths.proofs.OneHead.{head_one}
use Rattle.sonic_paths.proofs.SaidLemmas.{SaysOne, SaysOrNot, said_one, first_bad_one, never_bad, said_or_bad}

-- a line says at most one edit
pub edit_line_one : {line : List ℕ} {a b : Edit Form} → IsEditLine line a → IsEditLine line b → a ≡ b
edit_line_one {a = a} x y =
    let says : SaysEdit y.elements a = rw (own_one (line_elements x) (line_elements y)) at x.says in
    says_one y.elements says y.says

-- or one more after others
next_edit_one : SaysOne SaysNextEdit
next_edit_one earlier line es fs x y = rw (x.is, y.is, edit_line_one x.says y.says) refl

next_edit_or_not : SaysOrNot SaysNextEdit
next_edit_or_not earlier line = elim (edit_line_or_none line) [
  | inr never ↦ inr (λ es x. never (x.edit, x.says))
  | inl x ↦ inl (earlier ++ x.0 ∷ [], record { edit = x.0; says = x.1; is = refl })
]

says_list_one : {t : List ℕ} {es fs : List (Edit Form)} {d e : ℕ} → SaysEditsOf t es d → SaysEditsOf t fs e → (es ≡ fs) × (d ≡ e)
says_list_one {fs = fs} x y =
    let h = head_one y.head x.head in
    let moved : AreEditLines x.lines fs = rw h.0 at y.are in
    (said_one next_edit_one x.are moved, (head_one x.head y.head).1)

says_number_one : {t : List ℕ} {n m : ℕ} → SaysBadEdit t n → SaysBadEdit t m → n ≡ m
says_number_one {m = m} x y =
    let moved : IsFirstBadEdit x.lines m = rw (head_one y.head x.head).0 at y.first in
    first_bad_one next_edit_one x.first moved

says_never_both : {t : List ℕ} {es : List (Edit Form)} {d n : ℕ} → SaysEditsOf t es d → ¬ SaysBadEdit t n
says_never_both {n = n} x y =
    let moved : IsFirstBadEdit x.lines n = rw (head_one y.head x.head).0 at y.first in
    never_bad next_edit_one x.are moved

-- the head of an input says one thing
pub head_one_thing : (t : List ℕ) → SaysOneListOfEdits t
head_one_thing t =
    let h = some_head t 0 (omega arith) in
    record {
      some = elim (said_or_bad next_edit_or_not [] h.lines) [
        | inl r ↦ inl (r.0, h.document, record { lines = h.lines; within = document_within h.head; head = h.head; are = r.1 })
        | inr b ↦ inr (b.0, record { lines = h.lines; document = h.document; head = h.head; first = b.1 })
      ];
      one_list = λ es fs d e. says_list_one;
      one_number = λ n m. says_number_one;
      never_both = λ es d n. says_never_both;
    }
