-- The lines of a head say one thing.
use Rattle.std.proofs.Common.{◌≡◌, ◌⊎◌, inl, inr, ℕ, List, [], ◌∷◌, ◌++◌, arith, refl}
use Rattle.sonic_text.specs.Paths.{Path}
use Rattle.sonic_paths.specs.declared.lines.Head.{Head}
use Rattle.sonic_paths.specs.declared.lines.Head.TheVariants.{Paths, Bad}
use Rattle.sonic_paths.specs.Heads.{AreSaid, IsFirstBad}
use Rattle.sonic_paths.specs.Lines.{SaysPath, AreLines, IsFirstBadLine, SaysPaths}
use Rattle.sonic_paths.specs.Laws.{SaysOneListOfPaths}
use Rattle.sonic_paths.proofs.Heads.{some_head, document_within}
use Rattle.sonic_paths.proofs.LineNodes.{node_line_one}
use Rattle.sonic_paths.proofs.LineTests.{node_line_or_none}
use Rattle.sonic_paths.proofs.MixedPaths.{mixed_or_not}
use Rattle.sonic_paths.proofs.OneHead.{head_one}
use Rattle.sonic_paths.proofs.SaidLemmas.{SaysOne, SaysOrNot, said_one, first_bad_one, never_bad, said_or_bad}

-- a line says at most one path more
says_path_one : SaysOne SaysPath
says_path_one earlier line a b x y = rw (x.is, y.is, node_line_one x.says y.says) refl

-- it says one, or none that mixes with no earlier one
says_path_or_not : SaysOrNot SaysPath
says_path_or_not earlier line = elim (node_line_or_none line) [
  | inr never ↦ inr (λ paths x. never (x.path, x.says))
  | inl p ↦ elim (mixed_or_not earlier p.0) [
    | inl m ↦ inr (λ paths x. x.unmixed (rw (node_line_one p.1 x.says) at m))
    | inr u ↦ inl (earlier ++ p.0 ∷ [], record { path = p.0; says = p.1; unmixed = u; is = refl })
  ]
]

-- lines say at most one list of paths
pub lines_one : {lines : List (List ℕ)} {paths others : List Path} → AreLines lines paths → AreLines lines others → paths ≡ others
lines_one = said_one says_path_one

-- at most one line is the first that is bad
pub first_bad_line_one : {lines : List (List ℕ)} {n m : ℕ} → IsFirstBadLine lines n → IsFirstBadLine lines m → n ≡ m
first_bad_line_one = first_bad_one says_path_one

-- where all lines are good none is the first that is bad
pub no_bad_line : {lines : List (List ℕ)} {paths : List Path} {n : ℕ} → AreLines lines paths → ¬ (IsFirstBadLine lines n)
no_bad_line = never_bad says_path_one

-- the head of an input says at most one thing
says_paths_one : (t : List ℕ) (a b : Head) → SaysPaths t a → SaysPaths t b → a ≡ b
says_paths_one t (Paths tree d) (Paths other e) x y =
    let h = head_one x.2 y.2 in
    let moved = rw h.0 at x.3 in
    rw (lines_one moved y.3, h.1) refl
says_paths_one t (Paths tree d) (Bad n) x y =
    let h = head_one x.2 y.2 in
    let moved = rw h.0 at x.3 in
    absurd (no_bad_line moved y.3)
says_paths_one t (Bad n) (Paths tree d) x y =
    let h = head_one y.2 x.2 in
    let moved = rw h.0 at y.3 in
    absurd (no_bad_line moved x.3)
says_paths_one t (Bad n) (Bad m) x y =
    let h = head_one x.2 y.2 in
    let moved = rw h.0 at x.3 in
    rw (first_bad_line_one moved y.3) refl

-- lines say their paths, or one of them is the first that is bad
pub lines_or_bad : (earlier : List Path) (lines : List (List ℕ)) → ((paths : List Path) × AreSaid SaysPath earlier lines paths) ⊎ ((n : ℕ) × IsFirstBad SaysPath earlier lines n)
lines_or_bad = said_or_bad says_path_or_not

-- the head of an input says one thing
pub head_one_thing : (t : List ℕ) → SaysOneListOfPaths t
head_one_thing t =
    let h = some_head t 0 (omega arith) in
    elim (lines_or_bad [] h.lines) [
      | inl r ↦
          let says : SaysPaths t (Paths r.0 h.document) = (h.lines, document_within h.head, h.head, r.1) in
          record { head = Paths r.0 h.document; says = says; only = λ other o. says_paths_one t other (Paths r.0 h.document) o says }
      | inr b ↦
          let says : SaysPaths t (Bad b.0) = (h.lines, h.document, h.head, b.1) in
          record { head = Bad b.0; says = says; only = λ other o. says_paths_one t other (Bad b.0) o says }
    ]
