-- What operations make of forms is what they make of the trees that the forms mean.
use Rattle.std.proofs.Common.{◌≡◌, ◌⊎◌, ◌∙◌, sym, refl, ap, inl, inr, ℕ, ◌+◌, true, List, ◌∷◌, length, Option, Some, None}
use Rattle.std.proofs.lemmas.Bool.{cases_Bool}
use Rattle.std.proofs.lemmas.Option.{same_Some}
use Rattle.std.proofs.lemmas.List.Elements.{All-head, All-tail}
use Rattle.sonic_find.specs.Documents.{IsValidDocument}
use Rattle.sonic_owned.proofs.LedPartLemmas.{leads_one, leads_sound}
use Rattle.sonic_owned.proofs.MeaningLemmas.{form_means_one}
use Rattle.sonic_owned.proofs.MeantPathLemmas.{leads_meant, meant_leads}
use Rattle.sonic_owned.proofs.ValueLemmas.{closed_sound, closed_means, sound_valid}
use Rattle.sonic_owned.specs.Forms.{Form, raw, text, IsSound, FormMeans, raw_means}
use Rattle.sonic_owned.specs.Leading.{LeadsTo}
use Rattle.sonic_patch.proofs.EditDecisionLemmas.{addition_alike, removal_alike, replacement_alike, decided_one, decided_makes, decided_some, added_sound, removed_sound, replaced_sound}
use Rattle.sonic_patch.specs.Operations.{Operation, move, copy, test}
use Rattle.sonic_patch.specs.Patches.{PointsTo, IsDecided, IsAddition, OperationMakes, adds, removes, replaces, moves, copies, tests, OperationsMake, none_made, one_more_made, OperationMeans, add_means, remove_means, replace_means, move_means, copy_means, test_means, OperationsMean, none_mean, one_more_means, IsSoundOperation, AreSoundOperations, MeansPatch}
use Rattle.sonic_patch.specs.Patching.{addition, removal, replacement, added, removed, replaced, is_before, Cause, missing, test_failed, into_child, step, made, unmade, patched, done, refused}
use Rattle.sonic_patch.specs.Pointers.{Token}
use Rattle.sonic_patch.specs.Resolution.{path_in, pointed}
use Rattle.sonic_patch.specs.Sameness.{same}
use Rattle.sonic_text.specs.TreePaths.{leads}
use Rattle.sonic_text.specs.Trees.{Tree, Means}

-- there is one, or none
pub some_or_none : {X : Type 0} (o : Option X) → (o ≡ None) ⊎ ((x : X) × (o ≡ Some x))
some_or_none None = inl refl
some_or_none (Some x) = inr (x, refl)

-- a pointer leads in a form to what means the tree to which it leads in the form's tree
pub points_meant : {ts : List Token} {f g : Form} {v : Tree} → FormMeans f v → PointsTo ts f g → (u : Tree) × (pointed ts v ≡ Some u) × FormMeans g u
points_meant {ts} {v = v} means points =
    let tree : points.tree ≡ v = form_means_one points.means means in
    let is : path_in ts v ≡ Some points.path = rw tree at points.is in
    let (u, there, lead) = leads_meant points.leads means in
    (u, rw (is, lead) refl, there)

-- and where it leads in the tree, it leads in the form
pub meant_points : {ts : List Token} {f : Form} {v u : Tree} → FormMeans f v → pointed ts v ≡ Some u → (g : Form) × PointsTo ts f g
meant_points {ts} {f} {v} {u} means is = elim (some_or_none (path_in ts v)) [
  | inl none ↦ (let clash : ◌≡◌ {A = Option Tree} None (Some u) = rw none at is in absurd cc)
  | inr (path, some) ↦
      let lead : leads v path ≡ Some u = rw some at is in
      let (g, on, there) = meant_leads means lead in
      let points : PointsTo ts f g = record { tree = v; means = means; path = path; is = some; leads = on } in
      (g, points)
]

-- it leads to one form, and from a sound one to a sound one
points_one : {ts : List Token} {f g h : Form} → IsSound f → PointsTo ts f g → PointsTo ts f h → g ≡ h
points_one {ts} {f} {h = h} s x y =
    let trees : x.tree ≡ y.tree = form_means_one x.means y.means in
    let paths : x.path ≡ y.path = same_Some _ _ (sym x.is ∙ ap (path_in ts) trees ∙ y.is) in
    let own : LeadsTo x.path f h = rw (sym paths) at y.leads in
    leads_one s x.leads own

points_sound : {ts : List Token} {f g : Form} → PointsTo ts f g → IsSound f → IsSound g
points_sound points = leads_sound points.leads

-- what is found is put elsewhere by its text, which means the same
pub closed_meant : {ts : List Token} {f g : Form} {v : Tree} → IsSound f → FormMeans f v → PointsTo ts f g
    → (u : Tree) × (pointed ts v ≡ Some u) × FormMeans (raw (text g)) u
closed_meant s means points = let (u, is, there) = points_meant means points in (u, is, closed_means (points_sound points s) u there)

-- the operation makes a tree of this one, which the form means
abbrev Makes : Operation Tree → Tree → Form → Type 0
Makes o v h = (w : Tree) × (step o v ≡ made w) × FormMeans h w

-- so does each operation that is made
pub add_made : (ts : List Token) {w f h : Form} {x v : Tree} → FormMeans w x → FormMeans f v → IsAddition ts w f h → (u : Tree) × (added ts x v ≡ Some u) × FormMeans h u
add_made ts {x = x} {v} w means is = decided_makes (addition ts x) (addition_alike ts w v) means is

pub remove_made : (ts : List Token) {f h : Form} {v : Tree} → FormMeans f v → IsDecided (removal ts) f h → (u : Tree) × (removed ts v ≡ Some u) × FormMeans h u
remove_made ts {v = v} means is = decided_makes (removal ts) (removal_alike ts v) means is

replace_made : (ts : List Token) {w f h : Form} {x v : Tree} → FormMeans w x → FormMeans f v → IsDecided (replacement ts w) f h
    → (u : Tree) × (replaced ts x v ≡ Some u) × FormMeans h u
replace_made ts {x = x} {v} w means is = decided_makes (replacement ts x) (replacement_alike ts w v) means is

pub step_made : {op : Operation Form} {o : Operation Tree} {f h : Form} {v : Tree} → IsSound f → FormMeans f v → OperationMeans op o → OperationMakes f h op → Makes o v h
step_made s means (add_means {ts} w) (adds x) = let (u, is, own) = add_made ts w means x in (u, rw is refl, own)
step_made s means (remove_means {ts}) (removes x) = let (u, is, own) = remove_made ts means x in (u, rw is refl, own)
step_made s means (replace_means {ts} w) (replaces x) = let (u, is, own) = replace_made ts w means x in (u, rw is refl, own)
step_made s means (move_means {from} {ts}) (moves before points out into) =
    let (u, found, there) = closed_meant s means points in
    let (m, left, rest) = remove_made from means out in
    let (w, is, own) = add_made ts there rest into in
    (w, rw (before, found, left, is) refl, own)
step_made s means (copy_means {from} {ts}) (copies points into) =
    let (u, found, there) = closed_meant s means points in
    let (w, is, own) = add_made ts there means into in
    (w, rw (found, is) refl, own)
step_made {v = v} s means (test_means {x = x} w) (tests points alike e) =
    let (u, found, there) = points_meant means points in
    let left : alike.left ≡ u = form_means_one alike.means_left there in
    let right : alike.right ≡ x = form_means_one alike.means_right w in
    let is : same u x ≡ true = rw (left, right) at alike.same in
    (v, rw (found, is) refl, rw e means)

-- and leaves a sound form sound
pub step_sound : {op : Operation Form} {f h : Form} → IsSound f → IsSoundOperation op → OperationMakes f h op → IsSound h
step_sound s sound (adds {ts} x) = added_sound ts sound.0 sound.1 x s
step_sound s sound (removes {ts} x) = removed_sound ts x s
step_sound s sound (replaces {ts} x) = replaced_sound ts sound x s
step_sound s sound (moves {from} {ts} before points out into) = added_sound ts sound (closed_sound (points_sound points s)) into (removed_sound from out s)
step_sound s sound (copies {ts = ts} points into) = added_sound ts sound (closed_sound (points_sound points s)) into s
step_sound s sound (tests points alike e) = rw e s

-- an operation makes one form
moved_one : (ts : List Token) {f g m n h k : Form} → f ≡ g → m ≡ n → IsAddition ts (raw (text f)) m h → IsAddition ts (raw (text g)) n k → h ≡ k
moved_one ts {f} {g} {m} {n} {k = k} e d x y =
    let own : IsAddition ts (raw (text f)) m k = rw (e, d) y in
    decided_one x own

pub step_one : {op : Operation Form} {f g h : Form} → IsSound f → OperationMakes f g op → OperationMakes f h op → g ≡ h
step_one s (adds x) (adds y) = decided_one x y
step_one s (removes x) (removes y) = decided_one x y
step_one s (replaces x) (replaces y) = decided_one x y
step_one s (moves {ts = ts} b p out into) (moves c q gone more) = moved_one ts (points_one s p q) (decided_one out gone) into more
step_one s (copies {ts = ts} p into) (copies q more) = moved_one ts (points_one s p q) refl into more
step_one s (tests p a e) (tests q b d) = e ∙ sym d

-- it is made, or not for a cause
abbrev MadeOrNot : Operation Form → Form → Operation Tree → Tree → Type 0
MadeOrNot op f o v = ((h : Form) × OperationMakes f h op) ⊎ ((cause : Cause) × (step o v ≡ unmade cause))

add_or_not : (ts : List Token) {w f : Form} {x v : Tree} → FormMeans w x → FormMeans f v → ((h : Form) × IsAddition ts w f h) ⊎ (added ts x v ≡ None)
add_or_not ts {x = x} {v} w means = elim (some_or_none (added ts x v)) [
  | inl none ↦ inr none
  | inr (u, is) ↦ inl (decided_some (addition ts x) (addition_alike ts w v) means is)
]

remove_or_not : (ts : List Token) {f : Form} {v : Tree} → FormMeans f v → ((h : Form) × IsDecided (removal ts) f h) ⊎ (removed ts v ≡ None)
remove_or_not ts {v = v} means = elim (some_or_none (removed ts v)) [
  | inl none ↦ inr none
  | inr (u, is) ↦ inl (decided_some (removal ts) (removal_alike ts v) means is)
]

replace_or_not : (ts : List Token) {w f : Form} {x v : Tree} → FormMeans w x → FormMeans f v → ((h : Form) × IsDecided (replacement ts w) f h) ⊎ (replaced ts x v ≡ None)
replace_or_not ts {x = x} {v} w means = elim (some_or_none (replaced ts x v)) [
  | inl none ↦ inr none
  | inr (u, is) ↦ inl (decided_some (replacement ts x) (replacement_alike ts w v) means is)
]

point_or_not : (ts : List Token) {f : Form} {v : Tree} → FormMeans f v → ((g : Form) × PointsTo ts f g) ⊎ (pointed ts v ≡ None)
point_or_not ts {v = v} means = elim (some_or_none (pointed ts v)) [
  | inl none ↦ inr none
  | inr (u, is) ↦ inl (meant_points means is)
]

move_or_not : (from ts : List Token) {f : Form} {v : Tree} → IsSound f → FormMeans f v → MadeOrNot (move from ts) f (move from ts) v
move_or_not from ts s means = elim (cases_Bool (is_before from ts)) [
  | inl before ↦ inr (into_child, rw before refl)
  | inr other ↦ elim (point_or_not from means) [
    | inr none ↦ inr (missing, rw (other, none) refl)
    | inl (g, points) ↦
        let (u, found, there) = closed_meant s means points in
        elim (remove_or_not from means) [
          | inr none ↦ inr (missing, rw (other, found, none) refl)
          | inl (m, out) ↦
              let (y, left, rest) = remove_made from means out in
              elim (add_or_not ts there rest) [
                | inr none ↦ inr (missing, rw (other, found, left, none) refl)
                | inl (h, into) ↦ inl (h, moves other points out into)
              ]
        ]
  ]
]

copy_or_not : (from ts : List Token) {f : Form} {v : Tree} → IsSound f → FormMeans f v → MadeOrNot (copy from ts) f (copy from ts) v
copy_or_not from ts s means = elim (point_or_not from means) [
  | inr none ↦ inr (missing, rw none refl)
  | inl (g, points) ↦
      let (u, found, there) = closed_meant s means points in
      elim (add_or_not ts there means) [
        | inr none ↦ inr (missing, rw (found, none) refl)
        | inl (h, into) ↦ inl (h, copies points into)
      ]
]

test_or_not : (ts : List Token) {w f : Form} {x v : Tree} → FormMeans w x → FormMeans f v → MadeOrNot (test ts w) f (test ts x) v
test_or_not ts {f = f} {x} {v} w means = elim (point_or_not ts means) [
  | inr none ↦ inr (missing, rw none refl)
  | inl (g, points) ↦
      let (u, found, there) = points_meant means points in
      elim (cases_Bool (same u x)) [
        | inl alike ↦ inl (f, tests points (record { left = u; right = x; means_left = there; means_right = w; same = alike }) refl)
        | inr other ↦ inr (test_failed, rw (found, other) refl)
      ]
]

pub step_or_not : {op : Operation Form} {o : Operation Tree} {f : Form} {v : Tree} → IsSound f → FormMeans f v → OperationMeans op o → MadeOrNot op f o v
step_or_not s means (add_means {ts} w) = elim (add_or_not ts w means) [
  | inl (h, x) ↦ inl (h, adds x)
  | inr none ↦ inr (missing, rw none refl)
]
step_or_not s means (remove_means {ts}) = elim (remove_or_not ts means) [
  | inl (h, x) ↦ inl (h, removes x)
  | inr none ↦ inr (missing, rw none refl)
]
step_or_not s means (replace_means {ts} w) = elim (replace_or_not ts w means) [
  | inl (h, x) ↦ inl (h, replaces x)
  | inr none ↦ inr (missing, rw none refl)
]
step_or_not s means (move_means {from} {ts}) = move_or_not from ts s means
step_or_not s means (copy_means {from} {ts}) = copy_or_not from ts s means
step_or_not s means (test_means {ts} w) = test_or_not ts w means

-- so it is with operations in order
first_sound : (op : Operation Form) (ops : List (Operation Form)) → AreSoundOperations (op ∷ ops) → IsSoundOperation op
first_sound op ops sound = All-head IsSoundOperation op ops sound

others_sound : (op : Operation Form) (ops : List (Operation Form)) → AreSoundOperations (op ∷ ops) → AreSoundOperations ops
others_sound op ops sound = All-tail IsSoundOperation op ops sound

patch_made : (n : ℕ) {ops : List (Operation Form)} {os : List (Operation Tree)} {f h : Form} {v : Tree} → AreSoundOperations ops → IsSound f → OperationsMean ops os → FormMeans f v
    → OperationsMake ops f h → (w : Tree) × (patched n os v ≡ done w) × FormMeans h w
patch_made n {v = v} sound s none_mean means (none_made e) = (v, refl, rw e means)
patch_made n {ops = op ∷ ops} sound s (one_more_means o rest) means (one_more_made x xs) =
    let (u, first, there) = step_made s means o x in
    let (w, is, own) = patch_made (n + 1) (others_sound op ops sound) (step_sound s (first_sound op ops sound) x) rest there xs in
    (w, rw (first, is) refl, own)

patch_sound : {ops : List (Operation Form)} {f h : Form} → AreSoundOperations ops → IsSound f → OperationsMake ops f h → IsSound h
patch_sound sound s (none_made e) = rw e s
patch_sound {ops = op ∷ ops} sound s (one_more_made x xs) = patch_sound (others_sound op ops sound) (step_sound s (first_sound op ops sound) x) xs

patch_one : {ops : List (Operation Form)} {f g h : Form} → AreSoundOperations ops → IsSound f → OperationsMake ops f g → OperationsMake ops f h → g ≡ h
patch_one sound s (none_made e) (none_made d) = e ∙ sym d
patch_one {ops = op ∷ ops} {h = h} sound s (one_more_made {g = m} x xs) (one_more_made y ys) =
    let own : OperationsMake ops m h = rw (step_one s y x) at ys in
    patch_one (others_sound op ops sound) (step_sound s (first_sound op ops sound) x) xs own

patch_some : (n : ℕ) {ops : List (Operation Form)} {os : List (Operation Tree)} {f : Form} {v : Tree} → AreSoundOperations ops → IsSound f → OperationsMean ops os → FormMeans f v
    → ((h : Form) × OperationsMake ops f h) ⊎ ((k : ℕ) × (cause : Cause) × (patched n os v ≡ refused k cause))
patch_some n sound s none_mean means = inl (_, none_made refl)
patch_some n {ops = op ∷ ops} sound s (one_more_means o rest) means = elim (step_or_not s means o) [
  | inr (cause, is) ↦ inr (n, cause, rw is refl)
  | inl (g, x) ↦
      let (u, first, there) = step_made s means o x in
      elim (patch_some (n + 1) (others_sound op ops sound) (step_sound s (first_sound op ops sound) x) rest there) [
        | inl (h, xs) ↦ inl (h, one_more_made x xs)
        | inr (k, cause, is) ↦ inr (k, cause, rw (first, is) refl)
      ]
]

-- the law
module _ {ops : List (Operation Form)} {f : Form} {os : List (Operation Tree)} {v : Tree} (patch : MeansPatch ops f os v) where
  pub patching_means : {h : Form} → OperationsMake ops f h → (w : Tree) × (patched 0 os v ≡ done w) × FormMeans h w
  patching_means = patch_made 0 patch.operations patch.form patch.mean patch.means

  pub patching_sound : {h : Form} → OperationsMake ops f h → IsSound h
  patching_sound = patch_sound patch.operations patch.form

  pub patching_some : ((h : Form) × OperationsMake ops f h) ⊎ ((n : ℕ) × (cause : Cause) × (patched 0 os v ≡ refused n cause))
  patching_some = patch_some 0 patch.operations patch.form patch.mean patch.means

  pub patching_one : {g h : Form} → OperationsMake ops f g → OperationsMake ops f h → g ≡ h
  patching_one = patch_one patch.operations patch.form

  pub patching_refused : {n : ℕ} {cause : Cause} → patched 0 os v ≡ refused n cause → (h : Form) → ¬ OperationsMake ops f h
  patching_refused is h x = let (w, other, own) = patching_means x in let clash : done w ≡ refused _ _ = sym other ∙ is in cc

  -- and the text is a document that means the patched tree
  pub patching_text : {h : Form} → OperationsMake ops f h → IsValidDocument (text h) × ((w : Tree) × (patched 0 os v ≡ done w) × Means (text h) 0 (length (text h)) w)
  patching_text x =
      let s = patching_sound x in
      let (w, is, own) = patching_means x in
      (sound_valid s, (w, is, raw_meant (closed_means s w own)))
    where
      raw_meant : {b : List ℕ} {w : Tree} → FormMeans (raw b) w → Means b 0 (length b) w
      raw_meant (raw_means m) = m
