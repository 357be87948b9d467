-- What is left to be made of the wide text of a document, where it is made from mark to mark.
use Rattle.std.specs.Prelude.{◌≡◌, ◌≢◌, ◌⊎◌, ℕ, ◌+◌, ◌*◌, ◌≤◌, true, List, [], ◌∷◌, ◌++◌, length, slice_range}
use Rattle.sonic_text.specs.declared.kind.Kind.{Kind}
use Rattle.sonic_text.specs.Places.{byte, after_space}
use Rattle.sonic_text.specs.Values.{opening, closing}
use Rattle.sonic_min.specs.declared.output.Output.{Output}
use Rattle.sonic_min.specs.declared.wide.Progress.{Progress}
use Rattle.sonic_min.specs.Internal.Marks.{is_mark, HasNoMark, IsNextMark, IsToken}
use Rattle.sonic_min.specs.Internal.Outputs.{IsMade, IsSplit}
use Rattle.sonic_min.specs.Spellings.{Spelling}
use Rattle.sonic_min.specs.Texts.{wide_gaps, wide, IsDocumentSpelled}

mutual
  -- from the mark at q on, or the end, in so many open containers
  pub data IsTail (t : List ℕ) (width : ℕ) : ℕ → ℕ → List ℕ → Type 0 where
    at_end : {q d : ℕ} {s : List ℕ} → q ≡ length t → s ≡ [] → IsTail t width q d s
    comma : {q d : ℕ} {r s : List ℕ} → byte t q ≡ 44 → IsRestLaid t width (q + 1) d r → s ≡ 44 ∷ ((wide_gaps width).line d ++ r) → IsTail t width q d s
    colon : {q d : ℕ} {r s : List ℕ} → byte t q ≡ 58 → IsRestLaid t width (q + 1) d r → s ≡ 58 ∷ 32 ∷ r → IsTail t width q d s
    close : (kind : Kind) {q d e : ℕ} {r s : List ℕ} → byte t q ≡ closing kind → IsRestLaid t width (q + 1) e r → d ≡ e + 1
        → s ≡ (wide_gaps width).line e ++ (closing kind ∷ r) → IsTail t width q d s

  -- from p on, where the last mark was before it: a token and the next mark, or a container
  pub data IsRestLaid (t : List ℕ) (width : ℕ) : ℕ → ℕ → List ℕ → Type 0 where
    token : {p q i j d : ℕ} {r s : List ℕ} → HasNoMark t p q → (is_mark t q ≡ true) ⊎ (q ≡ length t) → IsToken t p q i j → IsTail t width q d r
        → s ≡ slice_range t i j ++ r → IsRestLaid t width p d s
    empty_container : (kind : Kind) {p q d : ℕ} {r s : List ℕ} → IsNextMark t p q → byte t q ≡ opening kind → byte t (after_space t (q + 1)) ≡ closing kind
        → IsRestLaid t width (after_space t (q + 1) + 1) d r → s ≡ opening kind ∷ closing kind ∷ r → IsRestLaid t width p d s
    filled_container : (kind : Kind) {p q d : ℕ} {r s : List ℕ} → IsNextMark t p q → byte t q ≡ opening kind → byte t (after_space t (q + 1)) ≢ closing kind
        → IsRestLaid t width (q + 1) (d + 1) r → s ≡ opening kind ∷ ((wide_gaps width).line (d + 1) ++ r) → IsRestLaid t width p d s

-- so far the wide text of the document is made
pub record IsLaidTo (t : List ℕ) (width : ℕ) (out : Output) (so_far : Progress) : Type 0 where
  pub document : Spelling
  pub spelled : IsDocumentSpelled t document
  pub depth : ℕ
  pub blanks : so_far.blanks ≡ width * depth
  pub left : List ℕ
  pub is_left : IsRestLaid t width so_far.start depth left
  pub split : IsSplit out left (wide width document)
  pub within : so_far.start ≤ length t

-- the whole wide text was made
pub record IsWideOutput (t : List ℕ) (width : ℕ) (out : Output) : Type 0 where
  pub document : Spelling
  pub spelled : IsDocumentSpelled t document
  pub made : IsMade out (wide width document)
