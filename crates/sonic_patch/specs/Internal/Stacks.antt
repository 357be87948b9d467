-- What a walk has passed and what is open in it, as trees and as marks.
use Rattle.std.specs.Prelude.{◌≡◌, ℕ, List, [], ◌∷◌, ◌++◌, length, map, Option, None}
use Rattle.std.specs.BTreeMap.{BTreeMap}
use Rattle.std.specs.BTreeSet.{BTreeSet}
use Rattle.sonic_text.specs.declared.kind.Kind.{Kind}
use Rattle.sonic_text.specs.declared.kind.Kind.TheVariants.{Array, Object}
use Rattle.sonic_text.specs.Trees.{Tree, Items}
use Rattle.sonic_text.specs.Trees.Items.{no_item, item}
use Rattle.sonic_text.specs.Trees.Tree.{container}
use Rattle.sonic_patch.specs.declared.marks.Slot.{Slot}
use Rattle.sonic_patch.specs.declared.marks.Slot.TheVariants.{Done, Begun}
use Rattle.sonic_patch.specs.declared.shape.Shape.{Shape}
use Rattle.sonic_patch.specs.declared.walk.Walk.{Walk}
use Rattle.sonic_patch.specs.Internal.Marks.{Pair, Signature, elements_signature, members_signature, signature_of, label_signature, second, IsSetOf, IsSignature, AreMarks, Names}
use Rattle.sonic_patch.specs.Internal.Tags.{Tag, leaf_tag, begin_tag, end_tag}
use Rattle.sonic_patch.specs.Internal.Walks.{Remains}

-- a value that was passed, or a container that is open
pub data Cell : Type 0 where
  done_cell : Option (List ℕ) → Tree → Cell
  begun_cell : Option (List ℕ) → Kind → Cell

-- the container that was opened last ends after these items and those that were passed in it
abbrev pub close_up : Kind → Items → List Cell → List Cell
close_up kind xs [] = []
close_up kind xs (done_cell l x ∷ cells) = close_up kind (item l x xs) cells
close_up kind xs (begun_cell l other ∷ cells) = done_cell l (container kind xs) ∷ cells

-- what a tag makes of the cells, the last one first
abbrev pub step : Tag → List Cell → List Cell
step (leaf_tag l x) cells = done_cell l x ∷ cells
step (begin_tag l kind) cells = begun_cell l kind ∷ cells
step (end_tag kind) cells = close_up kind no_item cells

abbrev pub run : List Tag → List Cell → List Cell
run [] cells = cells
run (tag ∷ rest) cells = run rest (step tag cells)

-- the slots, the last one last, have the marks of what is in the cells
pub data Represents (numbers : BTreeMap Shape ℕ) : List Cell → List Slot → Type 0 where
  nothing_represents : Represents numbers [] []
  done_represents : {l : Option (List ℕ)} {x : Tree} {f : Signature} {n m : ℕ} {cells : List Cell} {slots : List Slot} → Names numbers (label_signature l) n
      → IsSignature (Names numbers) x f → Names numbers f m → Represents numbers cells slots → Represents numbers (done_cell l x ∷ cells) (slots ++ Done n m ∷ [])
  begun_represents : {l : Option (List ℕ)} {kind : Kind} {n : ℕ} {cells : List Cell} {slots : List Slot} → Names numbers (label_signature l) n → Represents numbers cells slots
      → Represents numbers (begun_cell l kind ∷ cells) (slots ++ Begun n ∷ [])

-- the shape is that of a container of this kind with these marks of its items, the last item first
abbrev pub IsShapeOf : Kind → List Pair → Shape → Type 0
IsShapeOf Array pairs shape = signature_of shape ≡ elements_signature (map second pairs)
IsShapeOf Object pairs shape = (set : BTreeSet Pair) × IsSetOf pairs set × (signature_of shape ≡ members_signature (length pairs) set.keys)

-- the last items that were passed were taken from the cells
pub record AreTaken (numbers : BTreeMap Shape ℕ) (cells : List Cell) (slots : List Slot) (pairs : List Pair) : Type 0 where
  pub items : Items
  pub rest : List Cell
  pub marks : AreMarks (Names numbers) items pairs
  pub represented : Represents numbers rest slots
  pub same : (kind : Kind) → close_up kind no_item cells ≡ close_up kind items rest

-- and then the container itself, whose label has this mark
pub record IsTaken (numbers : BTreeMap Shape ℕ) (cells : List Cell) (slots : List Slot) (pairs : List Pair) (mark : ℕ) : Type 0 where
  pub label : Option (List ℕ)
  pub items : Items
  pub rest : List Cell
  pub marks : AreMarks (Names numbers) items pairs
  pub number : Names numbers (label_signature label) mark
  pub represented : Represents numbers rest slots
  pub same : (kind : Kind) → close_up kind no_item cells ≡ done_cell label (container kind items) ∷ rest

-- a walk through the value of a tree, with the slots for what was passed
pub record IsUnderWay (numbers : BTreeMap Shape ℕ) (walk : Walk) (slots : List Slot) (x : Tree) : Type 0 where
  pub rest : List Tag
  pub cells : List Cell
  pub remain : Remains walk rest
  pub runs : run rest cells ≡ done_cell None x ∷ []
  pub represented : Represents numbers cells slots
