-- What the elements of a line say.
use Rattle.std.proofs.Common.{◌≡◌, ◌∙◌, ap, ap₂, sym, refl, ℕ, ◌≤◌, List, [], ◌∷◌, codes, length, arith}
use Rattle.sonic_edits.specs.Lines.{Denotes, IsEditLine, SaysEdit, says_set, says_push, says_pair, says_take}
use Rattle.sonic_edits.specs.Internal.Reading.{HasElements, SaysChange, sets, pushes, pairs, takes}
use Rattle.sonic_owned.specs.Forms.{Form, raw}
use Rattle.sonic_owned.specs.TreeEdits.{Change, pair, Edit}
use Rattle.sonic_paths.proofs.LineNodes.{node_line_one}
use Rattle.sonic_paths.specs.Lines.{IsNodeLine}
use Rattle.sonic_text.specs.Paths.{Path}
use Rattle.sonic_text.proofs.Strings.{string_one}

-- a text denotes one text
pub denotes_one : {t b c : List ℕ} → Denotes t b → Denotes t c → b ≡ c
denotes_one x y = (string_one x y).1

-- what a word, a path and the texts after it say is what the word asks for
pub says_change : {word path b : List ℕ} {operands : List (List ℕ)} {e : Edit Form} → Denotes word b → IsNodeLine path e.path → SaysChange b operands e.change
    → SaysEdit (word ∷ path ∷ operands) e
says_change {word} x p (sets e is) = (let own : Denotes word (codes "set") = rw e at x in says_set own p is)
says_change {word} x p (pushes e is) = (let own : Denotes word (codes "push") = rw e at x in says_push own p is)
says_change {word} x p (pairs e k is) = (let own : Denotes word (codes "pair") = rw e at x in says_pair own p k is)
says_change {word} x p (takes e is) = (let own : Denotes word (codes "take") = rw e at x in says_take own p is)

-- an edit that is said, by its parts
pub record Parts (w p : List ℕ) (operands : List (List ℕ)) (e : Edit Form) : Type 0 where
  pub denoted : List ℕ
  pub word : Denotes w denoted
  pub path : IsNodeLine p e.path
  pub change : SaysChange denoted operands e.change

pub parts_of : {word path : List ℕ} {operands : List (List ℕ)} {e : Edit Form} → SaysEdit (word ∷ path ∷ operands) e → Parts word path operands e
parts_of (says_set w p is) = record { denoted = codes "set"; word = w; path = p; change = sets refl is }
parts_of (says_push w p is) = record { denoted = codes "push"; word = w; path = p; change = pushes refl is }
parts_of (says_pair w p k is) = record { denoted = codes "pair"; word = w; path = p; change = pairs refl k is }
parts_of (says_take w p is) = record { denoted = codes "take"; word = w; path = p; change = takes refl is }

-- an edit that is said has a word and a path
pub says_two : {texts : List (List ℕ)} {e : Edit Form} → SaysEdit texts e → 2 ≤ length texts
says_two (says_set w p is) = omega arith
says_two (says_push w p is) = omega arith
says_two (says_pair w p k is) = omega arith
says_two (says_take w p is) = omega arith

-- and no more than two operands
pub says_four : {texts : List (List ℕ)} {e : Edit Form} → SaysEdit texts e → length texts ≤ 4
says_four (says_set w p is) = omega arith
says_four (says_push w p is) = omega arith
says_four (says_pair w p k is) = omega arith
says_four (says_take w p is) = omega arith

-- a word asks for one change
change_one : {word : List ℕ} {operands : List (List ℕ)} {c d : Change Form} → SaysChange word operands c → SaysChange word operands d → c ≡ d
change_one (sets e is) (sets f are) = is ∙ sym are
change_one (sets e is) (pushes f are) = absurd cc
change_one (pushes e is) (sets f are) = absurd cc
change_one (pushes e is) (pushes f are) = is ∙ sym are
change_one (pairs {value = v} e k is) (pairs f l are) = is ∙ ap (λ k. pair k (raw v)) (denotes_one k l) ∙ sym are
change_one (takes e is) (takes f are) = is ∙ sym are

-- an edit by its parts
edit_one : {a b : Edit Form} → a.path ≡ b.path → a.change ≡ b.change → a ≡ b
edit_one p c = ap₂ (λ (p : Path) (c : Change Form). record { path = p; change = c }) p c

-- elements say one edit
says_parts_one : {word path : List ℕ} {operands : List (List ℕ)} {a b : Edit Form} → Parts word path operands a → Parts word path operands b → a ≡ b
says_parts_one {operands = operands} {a} {b} x y =
    let change : SaysChange y.denoted operands a.change = rw (denotes_one x.word y.word) at x.change in
    edit_one (node_line_one x.path y.path) (change_one change y.change)

pub says_one : (texts : List (List ℕ)) {a b : Edit Form} → SaysEdit texts a → SaysEdit texts b → a ≡ b
says_one [] x y = absurd (let n = says_two x in omega arith)
says_one (word ∷ []) x y = absurd (let n = says_two x in omega arith)
says_one (word ∷ path ∷ operands) x y = says_parts_one (parts_of x) (parts_of y)

-- the elements of an edit line
pub line_elements : {line : List ℕ} {e : Edit Form} (x : IsEditLine line e) → HasElements line x.elements
line_elements x = record { text = x.text; value = x.value; array = x.array }

-- a pair has a key
pub pair_key : {word key value : List ℕ} {c : Change Form} → SaysChange word (key ∷ value ∷ []) c → (k : List ℕ) × Denotes key k
pair_key (pairs {k = k} e x is) = (k, x)
