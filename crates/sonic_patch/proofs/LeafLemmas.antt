-- What a value without parts means, by its type.
use Rattle.std.proofs.Common.{◌≡◌, ◌∙◌, sym, subst, ap, ℕ, List, Bool, arith, refl, nat_eq}
use Rattle.std.specs.Prelude.{slice_range, codes}
use Rattle.sonic_error.specs.declared.json_type.JsonType.TheVariants.{Null, Boolean, Number, String, Object as AnObject, Array as AnArray}
use Rattle.sonic_text.specs.declared.kind.Kind.TheVariants.{Array, Object}
use Rattle.sonic_text.specs.Places.{byte}
use Rattle.sonic_text.specs.Trees.{Tree, Means, type_of_tree}
use Rattle.sonic_text.specs.Trees.Items.{no_item, item}
use Rattle.sonic_text.specs.Trees.Tree.{null, truth, numeral, text, container}
use Rattle.sonic_text.specs.Trees.Means.{means_true, means_false, means_number}
use Rattle.sonic_text.specs.Values.{type_at}
use Rattle.sonic_text.proofs.TreeLemmas.{type_means}
use Rattle.sonic_text.proofs.Values.{first_letter}
use Rattle.sonic_patch.specs.Internal.Walks.{IsBare, IsWord}
use Rattle.sonic_patch.proofs.WalkLemmas.{text_string, word_of}

typed_null : (x : Tree) → type_of_tree x ≡ Null → x ≡ null
typed_null null e = refl
typed_null (container Array xs) e = absurd cc
typed_null (container Object xs) e = absurd cc
typed_null x e = absurd cc

typed_truth : (x : Tree) → type_of_tree x ≡ Boolean → (b : Bool) × (x ≡ truth b)
typed_truth (truth b) e = (b, refl)
typed_truth (container Array xs) e = absurd cc
typed_truth (container Object xs) e = absurd cc
typed_truth x e = absurd cc

typed_number : (x : Tree) → type_of_tree x ≡ Number → (b : List ℕ) × (x ≡ numeral b)
typed_number (numeral b) e = (b, refl)
typed_number (container Array xs) e = absurd cc
typed_number (container Object xs) e = absurd cc
typed_number x e = absurd cc

typed_text : (x : Tree) → type_of_tree x ≡ String → (b : List ℕ) × (x ≡ text b)
typed_text (text b) e = (b, refl)
typed_text (container Array xs) e = absurd cc
typed_text (container Object xs) e = absurd cc
typed_text x e = absurd cc

typed_array : (x : Tree) → type_of_tree x ≡ AnArray → IsBare x → x ≡ container Array no_item
typed_array (container Array no_item) e b = refl
typed_array (container Array (item l x xs)) e b = absurd b
typed_array (container Object xs) e b = absurd cc
typed_array x e b = absurd cc

typed_object : (x : Tree) → type_of_tree x ≡ AnObject → IsBare x → x ≡ container Object no_item
typed_object (container Object no_item) e b = refl
typed_object (container Object (item l x xs)) e b = absurd b
typed_object (container Array xs) e b = absurd cc
typed_object x e b = absurd cc

-- by the type that the first byte says
pub null_leaf : {t : List ℕ} {i j : ℕ} {x : Tree} → Means t i j x → type_at t i ≡ Null → x ≡ null
null_leaf m e = typed_null _ (sym (type_means m) ∙ e)

truth_byte : {t : List ℕ} {i j : ℕ} {b : Bool} → Means t i j (truth b) → nat_eq (byte t i) 116 ≡ b
truth_byte {t} {i} (means_true h) = rw (first_letter (codes "true") t i (omega arith) h) refl
truth_byte {t} {i} (means_false h) = rw (first_letter (codes "false") t i (omega arith) h) refl

pub truth_leaf : {t : List ℕ} {i j : ℕ} {x : Tree} → Means t i j x → type_at t i ≡ Boolean → x ≡ truth (nat_eq (byte t i) 116)
truth_leaf {t} {i} {j} {x} m e =
    let is = typed_truth x (sym (type_means m) ∙ e) in
    let there : Means t i j (truth is.0) = subst (λ (y : Tree). Means t i j y) is.1 m in
    is.1 ∙ ap truth (sym (truth_byte there))

number_text : {t : List ℕ} {i j : ℕ} {b : List ℕ} → Means t i j (numeral b) → b ≡ slice_range t i j
number_text (means_number h e) = e

pub number_leaf : {t : List ℕ} {i j : ℕ} {x : Tree} → Means t i j x → type_at t i ≡ Number → x ≡ numeral (slice_range t i j)
number_leaf {t} {i} {j} {x} m e =
    let is = typed_number x (sym (type_means m) ∙ e) in
    let there : Means t i j (numeral is.0) = subst (λ (y : Tree). Means t i j y) is.1 m in
    is.1 ∙ ap numeral (number_text there)

pub text_leaf : {t : List ℕ} {i j : ℕ} {x : Tree} → Means t i j x → type_at t i ≡ String → (b : List ℕ) × IsWord (slice_range t i j) b × (x ≡ text b)
text_leaf {t} {i} {j} {x} m e =
    let is = typed_text x (sym (type_means m) ∙ e) in
    let there : Means t i j (text is.0) = subst (λ (y : Tree). Means t i j y) is.1 m in
    (is.0, word_of (text_string there), is.1)

pub array_leaf : {t : List ℕ} {i j : ℕ} {x : Tree} → Means t i j x → type_at t i ≡ AnArray → IsBare x → x ≡ container Array no_item
array_leaf {x = x} m e b = typed_array x (sym (type_means m) ∙ e) b

pub object_leaf : {t : List ℕ} {i j : ℕ} {x : Tree} → Means t i j x → type_at t i ≡ AnObject → IsBare x → x ≡ container Object no_item
object_leaf {x = x} m e b = typed_object x (sym (type_means m) ∙ e) b
