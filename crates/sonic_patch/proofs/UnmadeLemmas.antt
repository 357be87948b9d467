-- The operations of a patch are made, or one of them is the first that isn't, for one cause.
use Rattle.std.proofs.Common.{◌≡◌, ◌⊎◌, ◌∙◌, sym, refl, ap, ap₂, inl, inr, ℕ, List, ◌∷◌, length}
use Rattle.sonic_find.specs.Documents.{IsValidDocument}
use Rattle.sonic_owned.proofs.MeaningLemmas.{form_means_one}
use Rattle.sonic_owned.proofs.ValueLemmas.{sound_means}
use Rattle.sonic_owned.specs.Forms.{Form, text, IsSound, FormMeans}
use Rattle.sonic_patch.proofs.PatchLemmas.{patching_one, patching_refused, patching_some, patching_text}
use Rattle.sonic_patch.proofs.SoundLemmas.{operations_mean}
use Rattle.sonic_patch.specs.Operations.{Operation, add, replace, test}
use Rattle.sonic_patch.specs.Patches.{OperationsMake, OperationMeans, add_means, remove_means, replace_means, move_means, copy_means, test_means, OperationsMean, none_mean, one_more_means, AreSoundOperations, MeansPatch, IsFirstUnmade}
use Rattle.sonic_patch.specs.Patching.{Cause, patched, done, refused}
use Rattle.sonic_text.specs.Trees.{Tree, Means}

-- operations mean one list of operations of trees
operation_means_one : {op : Operation Form} {o p : Operation Tree} → OperationMeans op o → OperationMeans op p → o ≡ p
operation_means_one (add_means {ts} x) (add_means y) = ap (add ts) (form_means_one x y)
operation_means_one remove_means remove_means = refl
operation_means_one (replace_means {ts} x) (replace_means y) = ap (replace ts) (form_means_one x y)
operation_means_one move_means move_means = refl
operation_means_one copy_means copy_means = refl
operation_means_one (test_means {ts} x) (test_means y) = ap (test ts) (form_means_one x y)

operations_mean_one : {ops : List (Operation Form)} {os ps : List (Operation Tree)} → OperationsMean ops os → OperationsMean ops ps → os ≡ ps
operations_mean_one none_mean none_mean = refl
operations_mean_one (one_more_means x xs) (one_more_means y ys) = ap₂ (λ o os. o ∷ os) (operation_means_one x y) (operations_mean_one xs ys)

-- so there is one that is the first, for one cause
pub unmade_one : {ops : List (Operation Form)} {f : Form} {n m : ℕ} {a b : Cause} → IsFirstUnmade ops f n a → IsFirstUnmade ops f m b → (n ≡ m) × (a ≡ b)
unmade_one {n = n} {m} {a} {b} x y =
    let trees : x.trees ≡ y.trees = operations_mean_one x.mean y.mean in
    let tree : x.tree ≡ y.tree = form_means_one x.means y.means in
    let own : patched 0 y.trees y.tree ≡ refused n a = rw (trees, tree) at x.is in
    let same : refused n a ≡ refused m b = sym own ∙ y.is in
    (cc, cc)

-- of a form that means a tree the operations make one whose text is a document that means the tree that they make of that one
pub record MadeText (ops : List (Operation Form)) (f h : Form) : Type 0 where
  pub trees : List (Operation Tree)
  pub mean : OperationsMean ops trees
  pub tree : Tree
  pub means : FormMeans f tree
  pub result : Tree
  pub is : patched 0 trees tree ≡ done result
  pub valid : IsValidDocument (text h)
  pub says : Means (text h) 0 (length (text h)) result

-- where operations and a value are sound
module _ {ops : List (Operation Form)} {f : Form} (sound : AreSoundOperations ops) (value : IsSound f) where
  meant : (os : List (Operation Tree)) × (v : Tree) × MeansPatch ops f os v
  meant =
      let os = operations_mean ops sound in
      let v = sound_means value in
      (os.0, v.0, record { operations = sound; form = value; mean = os.1; means = v.1 })

  -- they make one form
  pub made_one : {g h : Form} → OperationsMake ops f g → OperationsMake ops f h → g ≡ h
  made_one x y = patching_one meant.2 x y

  -- or one isn't made
  pub made_or_unmade : ((h : Form) × OperationsMake ops f h) ⊎ ((n : ℕ) × (cause : Cause) × IsFirstUnmade ops f n cause)
  made_or_unmade =
      let (os, v, means) = meant in
      elim (patching_some means) [
        | inl are ↦ inl are
        | inr (n, cause, is) ↦ inr (n, cause, record { tree = v; means = means.means; trees = os; mean = means.mean; is = is })
      ]

  -- and never both
  pub made_never_unmade : {h : Form} {n : ℕ} {cause : Cause} → OperationsMake ops f h → IsFirstUnmade ops f n cause → ⊥
  made_never_unmade {h} are none =
      let means : MeansPatch ops f none.trees none.tree = record { operations = sound; form = value; mean = none.mean; means = none.means } in
      patching_refused means none.is h are

  -- what is made is told by its text
  pub made_text : {h : Form} → OperationsMake ops f h → MadeText ops f h
  made_text are =
      let (os, v, means) = meant in
      let (valid, (w, is, says)) = patching_text means are in
      record { trees = os; mean = means.mean; tree = v; means = means.means; result = w; is = is; valid = valid; says = says }
