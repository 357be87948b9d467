-- What the shapes of labels and of values without parts represent.
use Rattle.std.proofs.Common.{◌≡◌, ◌∙◌, subst, ap, ℕ, Bool, List, [], refl, Bor}
use Rattle.std.specs.Prelude.{Option, Some, None}
use Rattle.sonic_text.specs.declared.kind.Kind.{Kind}
use Rattle.sonic_text.specs.Trees.{Tree}
use Rattle.sonic_text.specs.Trees.Items.{no_item}
use Rattle.sonic_text.specs.Trees.Tree.{null, truth, numeral, text, container}
use Rattle.sonic_patch.specs.declared.walk.Leaf.{Leaf}
use Rattle.sonic_patch.specs.declared.walk.Leaf.TheVariants.{Null, Truth, Number, Text, Empty}
use Rattle.sonic_patch.specs.Internal.Marks.{Pair, Signature, null_signature, truth_signature, number_signature, text_signature, signature_of, label_signature, IsSignature, null_is, truth_is, number_is, text_is, AreMarks, no_mark}
use Rattle.sonic_patch.specs.Internal.Stacks.{IsShapeOf}
use Rattle.sonic_patch.specs.declared.shape.Shape.{Shape}
use Rattle.sonic_patch.specs.Internal.Walks.{IsKeyLabel, IsLeaf, IsWord}
use Rattle.sonic_patch.proofs.StackLemmas.{container_signature}
use Rattle.sonic_patch.proofs.WordLemmas.{word_one}

-- a key has the signature of a string
pub key_signature : {key : Option (Bor (List ℕ))} {part : Bor (List ℕ)} {bytes : List ℕ} → key ≡ Some part → IsWord part.now bytes → (l : Option (List ℕ)) → IsKeyLabel key l
    → text_signature bytes ≡ label_signature l
key_signature {part = part} e w None is = absurd (rw e at is)
key_signature {part = part} e w (Some b) is = let there : IsWord part.now b = rw e at is in ap text_signature (word_one refl w there)

pub null_shape : {N : Signature → ℕ → Type 0} {leaf : Leaf} {x : Tree} → leaf ≡ Null → IsLeaf leaf x → IsSignature N x null_signature
null_shape {x = x} e l = let is : x ≡ null = rw e at l in rw is null_is

pub truth_shape : {N : Signature → ℕ → Type 0} {leaf : Leaf} {x : Tree} {b : Bool} → leaf ≡ Truth b → IsLeaf leaf x → IsSignature N x (truth_signature b)
truth_shape {x = x} {b} e l = let is : x ≡ truth b = rw e at l in rw is truth_is

pub number_shape : {N : Signature → ℕ → Type 0} {leaf : Leaf} {x : Tree} {number : Bor (List ℕ)} {bytes : List ℕ} → leaf ≡ Number number → bytes ≡ number.now → IsLeaf leaf x
    → IsSignature N x (number_signature bytes)
number_shape {x = x} {number} e same l = let is : x ≡ numeral number.now = rw e at l in rw (is, same) number_is

pub text_shape : {N : Signature → ℕ → Type 0} {leaf : Leaf} {x : Tree} {word : Bor (List ℕ)} {bytes : List ℕ} → leaf ≡ Text word → IsWord word.now bytes → IsLeaf leaf x
    → IsSignature N x (text_signature bytes)
text_shape {x = x} {word} {bytes} e w l =
    let is : (b : List ℕ) × IsWord word.now b × (x ≡ text b) = rw e at l in
    let same : x ≡ text bytes = is.2 ∙ ap text (word_one refl is.1 w) in
    rw same text_is

pub empty_shape : {N : Signature → ℕ → Type 0} {leaf : Leaf} {x : Tree} {kind : Kind} {pairs : List Pair} (shape : Shape) → leaf ≡ Empty kind → pairs ≡ [] → IsShapeOf kind pairs shape
    → IsLeaf leaf x → IsSignature N x (signature_of shape)
empty_shape {N} {x = x} {kind} shape e none h l =
    let is : x ≡ container kind no_item = rw e at l in
    let marks : AreMarks N no_item [] = no_mark in
    let there : IsShapeOf kind [] shape = subst (λ (ps : List Pair). IsShapeOf kind ps shape) none h in
    rw is (container_signature kind shape marks there)
