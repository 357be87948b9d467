-- Marks of values: two have one mark exactly where they are the same.
use Rattle.std.specs.Prelude.{◌≡◌, ℕ, ◌<◌, Bool, List, [], ◌∷◌, ◌++◌, length, map, Option, Some, None}
use Rattle.std.specs.declared.cmp.Ordering.{Ordering}
use Rattle.std.specs.Ordering.{nat_cmp, ordering_then, eq_by_cmp}
use Rattle.std.specs.List.{list_any}
use Rattle.std.specs.BTreeMap as tree
use Rattle.std.specs.BTreeMap.{BTreeMap, btree_map_len}
use Rattle.std.specs.BTreeSet as sorted
use Rattle.std.specs.BTreeSet.{BTreeSet}
use Rattle.sonic_text.specs.declared.kind.Kind.TheVariants.{Array, Object}
use Rattle.sonic_text.specs.Trees.{Tree, Items}
use Rattle.sonic_text.specs.Trees.Items.{no_item, item}
use Rattle.sonic_text.specs.Trees.Tree.{null, truth, numeral, text, container}
use Rattle.sonic_patch.specs.declared.shape.Shape.{Shape}
use Rattle.sonic_patch.specs.declared.shape.Shape.TheVariants.{Null, Truth, Number, Text, Elements, Members}
use Rattle.sonic_patch.specs.contracts.shape.ShapeOrd.TheImpl as shape_ord

-- the marks of a key and of the member's value, or of no key and an element
abbrev pub Pair : Type 0
Pair = ℕ × ℕ

-- what a value is by the marks of its parts
pub data Signature : Type 0 where
  null_signature : Signature
  truth_signature : Bool → Signature
  number_signature : List ℕ → Signature
  text_signature : List ℕ → Signature
  elements_signature : List ℕ → Signature
  members_signature : ℕ → List Pair → Signature

-- the signature of a label: that of a string, or that of null where there is none
abbrev pub label_signature : Option (List ℕ) → Signature
label_signature None = null_signature
label_signature (Some key) = text_signature key

-- how pairs are ordered
abbrev pub pair_cmp : Pair → Pair → Ordering
pair_cmp x y = ordering_then (nat_cmp x.0 y.0) (nat_cmp x.1 y.1)

-- the set has each of the pairs, and no other
pub record IsSetOf (pairs : List Pair) (set : BTreeSet Pair) : Type 0 where
  pub ordered : sorted.IsOrdered pair_cmp set
  pub has : (q : Pair) → sorted.contains pair_cmp set q ≡ list_any (eq_by_cmp pair_cmp q) pairs

abbrev pub second : Pair → ℕ
second pair = pair.1

mutual
  -- the signature of a tree, where each signature of a part has the number by which a container's signature names it
  pub data IsSignature (Names : Signature → ℕ → Type 0) : Tree → Signature → Type 0 where
    null_is : IsSignature Names null null_signature
    truth_is : {b : Bool} → IsSignature Names (truth b) (truth_signature b)
    number_is : {b : List ℕ} → IsSignature Names (numeral b) (number_signature b)
    text_is : {b : List ℕ} → IsSignature Names (text b) (text_signature b)
    elements_are : {xs : Items} {pairs : List Pair} → AreMarks Names xs pairs → IsSignature Names (container Array xs) (elements_signature (map second pairs))
    members_are : {xs : Items} {pairs : List Pair} {set : BTreeSet Pair} → AreMarks Names xs pairs → IsSetOf pairs set
        → IsSignature Names (container Object xs) (members_signature (length pairs) set.keys)

  -- the marks of the labels and the values of items, the last item first
  pub data AreMarks (Names : Signature → ℕ → Type 0) : Items → List Pair → Type 0 where
    no_mark : AreMarks Names no_item []
    more_marks : {l : Option (List ℕ)} {x : Tree} {xs : Items} {f : Signature} {n m : ℕ} {pairs : List Pair} → Names (label_signature l) n → IsSignature Names x f → Names f m
        → AreMarks Names xs pairs → AreMarks Names (item l x xs) (pairs ++ (n, m) ∷ [])

-- the mark of a tree is the number of its signature
pub record IsTreeMark (Names : Signature → ℕ → Type 0) (x : Tree) (mark : ℕ) : Type 0 where
  pub signature : Signature
  pub is : IsSignature Names x signature
  pub number : Names signature mark

-- each signature has one number at most, and each number one signature
pub record IsNaming (Names : Signature → ℕ → Type 0) : Type 0 where
  pub number_one : (f : Signature) (n m : ℕ) → Names f n → Names f m → n ≡ m
  pub signature_one : (f g : Signature) (n : ℕ) → Names f n → Names g n → f ≡ g

-- the signature that a shape is
abbrev pub signature_of : Shape → Signature
signature_of Null = null_signature
signature_of (Truth b) = truth_signature b
signature_of (Number t) = number_signature t.items
signature_of (Text t) = text_signature t.items
signature_of (Elements marks) = elements_signature marks.items
signature_of (Members count set) = members_signature count set.keys

-- how shapes are ordered
abbrev pub shape_cmp : Shape → Shape → Ordering
shape_cmp = (shape_ord.ghosts).cmp

-- the signature has this number
pub record Names (numbers : BTreeMap Shape ℕ) (f : Signature) (n : ℕ) : Type 0 where
  pub shape : Shape
  pub is : signature_of shape ≡ f
  pub at : tree.get shape_cmp numbers shape ≡ Some n

-- numbers are given in turn
pub record AreNumbers (numbers : BTreeMap Shape ℕ) : Type 0 where
  pub fewer : (k : Shape) (n : ℕ) → tree.get shape_cmp numbers k ≡ Some n → n < btree_map_len numbers
  pub signature_one : (k q : Shape) (n : ℕ) → tree.get shape_cmp numbers k ≡ Some n → tree.get shape_cmp numbers q ≡ Some n → signature_of k ≡ signature_of q
