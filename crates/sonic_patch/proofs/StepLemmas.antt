-- What the program makes of a value by one operation, and why it doesn't.
use Rattle.std.proofs.Common.{◌≡◌, ◌∙◌, sym, refl, inl, inr, ℕ, ◌+◌, ◌<◌, ◌≤◌, ◌&&◌, true, false, Bool, List, [], ◌∷◌, length, length-drop, drop, get_or, map, nat_eq, Option, Some, None, Result, Ok, Err, OnOk, IfErr, arith}
use Rattle.std.proofs.lemmas.Bool.{cases_Bool}
use Rattle.std.proofs.lemmas.List.{drop_all, drop_more}
use Rattle.std.proofs.lemmas.Option.{same_Some}
use Rattle.std.specs.Cmp.Lexicographic.{pointwise}
use Rattle.std.specs.Prelude.{IsTrue, ◌↔◌}
use Rattle.sonic_owned.proofs.LedPartLemmas.{leads_sound}
use Rattle.sonic_owned.proofs.ValueLemmas.{closed_sound, closed_means, sound_means, value_sound}
use Rattle.sonic_owned.specs.Edits.{IsEdit, IsRefused as IsRefusedEdit}
use Rattle.sonic_owned.specs.Forms.{Form, raw, text, IsSound, raw_sound, FormMeans, raw_means}
use Rattle.sonic_owned.specs.Leading.{LeadsTo}
use Rattle.sonic_owned.specs.TreeEdits.{Edit}
use Rattle.sonic_patch.proofs.EditDecisionLemmas.{addition_alike, removal_alike, replacement_alike, undecided}
use Rattle.sonic_patch.proofs.PatchLemmas.{points_meant, closed_meant, remove_made, step_made}
use Rattle.sonic_patch.specs.Internal.Plans.{edit_of, IsPlanned}
use Rattle.sonic_patch.specs.Internal.Refusals.{HasCause, IsMissing, error_of}
use Rattle.sonic_patch.specs.Internal.Resolved.{LeadNowhere}
use Rattle.sonic_patch.specs.Operations as operations
use Rattle.sonic_patch.specs.Operations.{Operation, add, replace, move, copy, test}
use Rattle.sonic_patch.specs.Patches.{PointsTo, IsDecided, is_decided, IsAddition, IsRemoval, IsReplacement, AreSame, OperationMakes, tests, OperationsMake, none_made, one_more_made, OperationMeans, add_means, remove_means, replace_means, move_means, copy_means, test_means, OperationsMean, none_mean, one_more_means, IsUnmade, IsFirstUnmade, IsPatchRefusal}
use Rattle.sonic_patch.specs.Patching.{addition, removal, replacement, is_before, Cause, missing, test_failed, into_child, patched, refused}
use Rattle.sonic_patch.specs.Pointers.{Token}
use Rattle.sonic_patch.specs.Resolution.{path_in, pointed}
use Rattle.sonic_patch.specs.Sameness.{same}
use Rattle.sonic_patch.specs.Views.{operation_of}
use Rattle.sonic_patch.specs.declared.error.Refusal.{Refusal}
use Rattle.sonic_patch.specs.declared.error.Refusal.TheVariants.{Missing, TestFailed, IntoChild, NoMemory}
use Rattle.sonic_patch.specs.declared.operation.Operation as declared
use Rattle.sonic_patch.specs.declared.operation.Operation.TheVariants as variants
use Rattle.sonic_patch.specs.declared.plan.Plan.{Plan}
use Rattle.sonic_text.specs.Paths.{Path}
use Rattle.sonic_text.specs.Strings.{strict}
use Rattle.sonic_text.specs.Trees.{Tree, Means}
use Rattle.sonic_text.specs.Values.{IsValue}

-- a plan that is made is what is decided, and one that isn't isn't
pub plan_made : (d : Tree → Option (Edit Form)) {f h : Form} (plan : Plan) → IsSound f → IsPlanned d f (Some plan) → IsEdit (edit_of plan) f h → IsDecided d f h
plan_made d plan s planned x = let (v, means) = sound_means s in is_decided means (planned v means) x

pub plan_refused : (d : Tree → Option (Edit Form)) {f : Form} (plan : Plan) → IsPlanned d f (Some plan) → IsRefusedEdit (edit_of plan) f → (h : Form) → ¬ IsDecided d f h
plan_refused d {f} plan planned none h (is_decided {v} {e} means is x) =
    let both : ◌≡◌ {A = Option (Edit Form)} (Some e) (Some (edit_of plan)) = sym is ∙ planned v means in
    let own : IsEdit (edit_of plan) f h = rw (same_Some _ _ both) at x in
    none h own

pub plan_none : (d : Tree → Option (Edit Form)) {f : Form} → IsPlanned d f None → (h : Form) → ¬ IsDecided d f h
plan_none d planned h (is_decided {v} {e} means is x) = let clash : ◌≡◌ {A = Option (Edit Form)} (Some e) None = sym is ∙ planned v means in cc

-- what follows after a call
pub on_ok_then : {T E : Type 0} (r : Result T E) {P Q : Type 0} → (P → Q) → OnOk r P → OnOk r Q
on_ok_then (Ok x) follows p = follows p
on_ok_then (Err e) follows p = tt

pub missing_then : {P : Type 0} (refusal : Refusal) (Q : Cause → Type 0) → (P → Q missing) → IsMissing P refusal → HasCause Q refusal
missing_then Missing Q follows p = follows p
missing_then TestFailed Q follows p = absurd p
missing_then IntoChild Q follows p = absurd p
missing_then NoMemory Q follows p = tt

pub on_missing : {T : Type 0} (r : Result T Refusal) {P : Type 0} (Q : Cause → Type 0) → (P → Q missing) → IfErr r (IsMissing P) → IfErr r (HasCause Q)
on_missing (Ok x) Q follows p = tt
on_missing (Err refusal) Q follows p = missing_then refusal Q follows p

-- why an operation isn't made
pub add_unmade : (ts : List Token) (w f : Form) → ((h : Form) → ¬ IsAddition ts w f h) → IsUnmade (add ts w) f missing
add_unmade ts w f none o v (add_means {x = x} m) means = rw (undecided (addition ts x) (addition_alike ts m v) means none) refl

pub remove_unmade : (ts : List Token) (f : Form) → ((h : Form) → ¬ IsRemoval ts f h) → IsUnmade (operations.remove ts) f missing
remove_unmade ts f none o v remove_means means = rw (undecided (removal ts) (removal_alike ts v) means none) refl

pub replace_unmade : (ts : List Token) (w f : Form) → ((h : Form) → ¬ IsReplacement ts w f h) → IsUnmade (replace ts w) f missing
replace_unmade ts w f none o v (replace_means {x = x} m) means = rw (undecided (replacement ts x) (replacement_alike ts m v) means none) refl

lost_pointed : (ts : List Token) {f : Form} {v : Tree} → LeadNowhere ts f → FormMeans f v → pointed ts v ≡ None
lost_pointed ts {v = v} lost means = rw (lost v means) refl

pub move_child : (from ts : List Token) (f : Form) → is_before from ts ≡ true → IsUnmade (move from ts) f into_child
move_child from ts f before o v move_means means = rw before refl

pub move_lost : (from ts : List Token) (f : Form) → is_before from ts ≡ false → LeadNowhere from f → IsUnmade (move from ts) f missing
move_lost from ts f other lost o v move_means means = rw (other, lost_pointed from lost means) refl

pub move_kept : (from ts : List Token) (f : Form) {g : Form} → is_before from ts ≡ false → PointsTo from f g → ((h : Form) → ¬ IsRemoval from f h) → IsUnmade (move from ts) f missing
move_kept from ts f other points none o v move_means means =
    let (u, found, there) = points_meant means points in
    rw (other, found, undecided (removal from) (removal_alike from v) means none) refl

pub move_unadded : (from ts : List Token) (f : Form) {g m : Form} → IsSound f → is_before from ts ≡ false → PointsTo from f g → IsRemoval from f m
    → ((h : Form) → ¬ IsAddition ts (raw (text g)) m h) → IsUnmade (move from ts) f missing
move_unadded from ts f s other points out none o v move_means means =
    let (u, found, there) = closed_meant s means points in
    let (y, left, rest) = remove_made from means out in
    rw (other, found, left, undecided (addition ts u) (addition_alike ts there y) rest none) refl

pub copy_lost : (from ts : List Token) (f : Form) → LeadNowhere from f → IsUnmade (copy from ts) f missing
copy_lost from ts f lost o v copy_means means = rw (lost_pointed from lost means) refl

pub copy_unadded : (from ts : List Token) (f : Form) {g : Form} → IsSound f → PointsTo from f g → ((h : Form) → ¬ IsAddition ts (raw (text g)) f h) → IsUnmade (copy from ts) f missing
copy_unadded from ts f s points none o v copy_means means =
    let (u, found, there) = closed_meant s means points in
    rw (found, undecided (addition ts u) (addition_alike ts there v) means none) refl

pub test_lost : (ts : List Token) (w f : Form) → LeadNowhere ts f → IsUnmade (test ts w) f missing
test_lost ts w f lost o v (test_means m) means = rw (lost_pointed ts lost means) refl

-- a pointer leads there by its nodes
pub points_by : {ts : List Token} {f g : Form} {path : Path} → IsSound f → ((v : Tree) → FormMeans f v → path_in ts v ≡ Some path) → LeadsTo path f g → PointsTo ts f g
points_by {path = path} s is lead = let (v, means) = sound_means s in record { tree = v; means = means; path = path; is = is v means; leads = lead }

-- the text of a sound form means what the form means
raw_meant : {b : List ℕ} {v : Tree} → FormMeans (raw b) v → Means b 0 (length b) v
raw_meant (raw_means m) = m

pub text_meant : {g : Form} {u : Tree} → IsSound g → FormMeans g u → Means (text g) 0 (length (text g)) u
text_meant {u = u} s means = raw_meant (closed_means s u means)

raw_value : {b : List ℕ} → IsSound (raw b) → IsValue strict b 0 (length b)
raw_value (raw_sound value utf8) = value

pub text_value : (g : Form) (b : List ℕ) → IsSound g → b ≡ text g → IsValue strict b 0 (length b)
text_value g b s e = rw e (raw_value (closed_sound s))

-- what the comparison of two texts says of the trees that they mean
abbrev IsCompared : List ℕ → List ℕ → Bool → Type 0
IsCompared b d answer = (x y : Tree) → Means b 0 (length b) x → Means d 0 (length d) y → IsTrue answer ↔ (same x y ≡ true)

pub compared_same : (b d : List ℕ) (g w : Form) (answer : Bool) → IsCompared b d answer → b ≡ text g → d ≡ text w → answer ≡ true
    → (x y : Tree) → Means (text g) 0 (length (text g)) x → Means (text w) 0 (length (text w)) y → same x y ≡ true
compared_same b d g w answer is e o holds x y m n =
    let left : Means b 0 (length b) x = rw e m in
    let right : Means d 0 (length d) y = rw o n in
    (is x y left right).0 holds

pub compared_other : (b d : List ℕ) (g w : Form) (answer : Bool) → IsCompared b d answer → b ≡ text g → d ≡ text w → answer ≡ false
    → (x y : Tree) → Means (text g) 0 (length (text g)) x → Means (text w) 0 (length (text w)) y → same x y ≡ false
compared_other b d g w answer is e o fails x y m n = elim (cases_Bool (same x y)) [
  | inr other ↦ other
  | inl alike ↦
      let left : Means b 0 (length b) x = rw e m in
      let right : Means d 0 (length d) y = rw o n in
      (let clash : ◌≡◌ {A = Bool} false true = sym fails ∙ (is x y left right).1 alike in absurd cc)
]

-- so texts that are the same make the test
pub test_made : (ts : List Token) {f g w : Form} → IsSound f → IsSound w → PointsTo ts f g
    → ((x y : Tree) → Means (text g) 0 (length (text g)) x → Means (text w) 0 (length (text w)) y → same x y ≡ true) → OperationMakes f f (test ts w)
test_made ts s t points is =
    let own = leads_sound points.leads s in
    let (u, there) = sound_means own in
    let (x, wanted) = sound_means t in
    let alike : AreSame _ _ = record { left = u; right = x; means_left = there; means_right = wanted; same = is u x (text_meant own there) (text_meant t wanted) } in
    tests points alike refl

pub test_other : (ts : List Token) (f w : Form) {g : Form} → IsSound f → IsSound w → PointsTo ts f g
    → ((x y : Tree) → Means (text g) 0 (length (text g)) x → Means (text w) 0 (length (text w)) y → same x y ≡ false) → IsUnmade (test ts w) f test_failed
test_other ts f w s t points other o v (test_means {x = x} m) means =
    let (u, found, there) = points_meant means points in
    rw (found, other u x (text_meant (leads_sound points.leads s) there) (text_meant t m)) refl

-- whether tokens are a proper beginning of others
and_false : (b : Bool) {c : Bool} → c ≡ false → (b && c) ≡ false
and_false true e = e
and_false false e = refl

pub before_long : (ts us : List Token) → length us ≤ length ts → is_before ts us ≡ false
before_long [] [] l = refl
before_long [] (u ∷ us) l = absurd (omega (arith, l))
before_long (t ∷ ts) [] l = refl
before_long (t ∷ ts) (u ∷ us) l = and_false (pointwise nat_eq t u) (before_long ts us (omega (arith, l)))

pub before_next : (ts us : List Token) (i : ℕ) (t u : Token) → i < length ts → i < length us → t ≡ get_or ts i t → u ≡ get_or us i u
    → pointwise nat_eq t u ≡ true → is_before (drop i ts) (drop i us) ≡ is_before ts us → is_before (drop (i + 1) ts) (drop (i + 1) us) ≡ is_before ts us
before_next ts us i t u l m e d same before = rw (drop_more ts i t l, drop_more us i u m, sym e, sym d, same) at before

pub before_other : (ts us : List Token) (i : ℕ) (t u : Token) → i < length ts → i < length us → t ≡ get_or ts i t → u ≡ get_or us i u
    → pointwise nat_eq t u ≡ false → is_before (drop i ts) (drop i us) ≡ is_before ts us → false ≡ is_before ts us
before_other ts us i t u l m e d other before = rw (drop_more ts i t l, drop_more us i u m, sym e, sym d, other) at before

pub before_end : (ts us : List Token) (i : ℕ) → length ts ≤ i → i < length us → is_before (drop i ts) (drop i us) ≡ is_before ts us → true ≡ is_before ts us
before_end ts us i past m before = more (drop i us) (omega (arith, length-drop i us)) (rw (drop_all i ts past) at before)
  where
    more : (vs : List Token) → 0 < length vs → is_before [] vs ≡ is_before ts us → true ≡ is_before ts us
    more [] some e = absurd (omega (arith, some))
    more (v ∷ vs) some e = e

-- operations of the program mean operations of a tree
operation_means : (op : declared.Operation) → (o : Operation Tree) × OperationMeans (operation_of op) o
operation_means (variants.Add path value) = let (x, m) = sound_means (value_sound value) in (_, add_means m)
operation_means (variants.Remove path) = (_, remove_means)
operation_means (variants.Replace path value) = let (x, m) = sound_means (value_sound value) in (_, replace_means m)
operation_means (variants.Move from path) = (_, move_means)
operation_means (variants.Copy from path) = (_, copy_means)
operation_means (variants.Test path value) = let (x, m) = sound_means (value_sound value) in (_, test_means m)

operations_mean : (xs : List declared.Operation) → (os : List (Operation Tree)) × OperationsMean (map operation_of xs) os
operations_mean [] = ([], none_mean)
operations_mean (x ∷ xs) = let (o, m) = operation_means x in let (os, ms) = operations_mean xs in (o ∷ os, one_more_means m ms)

-- what the rest of the operations come to
pub record Rest (rest : List (Operation Form)) (g : Form) (n : ℕ) (os : List (Operation Tree)) (v : Tree) : Type 0 where
  pub tree : Tree
  pub trees : List (Operation Tree)
  pub mean : OperationsMean rest trees
  pub means : FormMeans g tree
  pub is : patched 0 os v ≡ patched n trees tree

-- all operations at f come to the rest of them at g, the first of which has this number
pub record ComesTo (ops : List (Operation Form)) (f : Form) (n : ℕ) (left : List (Operation Form)) (g : Form) : Type 0 where
  pub made : (h : Form) → OperationsMake left g h → OperationsMake ops f h
  pub rest : (os : List (Operation Tree)) (v : Tree) → OperationsMean ops os → FormMeans f v → Rest left g n os v

pub comes_first : {ops : List (Operation Form)} {f : Form} → ComesTo ops f 0 ops f
comes_first = record { made = λ h are. are; rest = λ os v mean means. record { tree = v; trees = os; mean = mean; means = means; is = refl } }

rest_next : {op : Operation Form} {rest : List (Operation Form)} {g h : Form} {n : ℕ} {os : List (Operation Tree)} {v : Tree} → IsSound g → OperationMakes g h op
    → Rest (op ∷ rest) g n os v → Rest rest h (n + 1) os v
rest_next {op} {rest} {g} {h} {n} {os} {v} s x before = next before.trees before.mean before.is
  where
    next : (trees : List (Operation Tree)) → OperationsMean (op ∷ rest) trees → patched 0 os v ≡ patched n trees before.tree → Rest rest h (n + 1) os v
    next trees (one_more_means {os = others} m ms) e =
        let (w, is, own) = step_made s before.means m x in
        record { tree = w; trees = others; mean = ms; means = own; is = e ∙ rw is refl }

comes_next : {ops rest : List (Operation Form)} {op : Operation Form} {f g h : Form} {n : ℕ} → IsSound g → ComesTo ops f n (op ∷ rest) g → OperationMakes g h op
    → ComesTo ops f (n + 1) rest h
comes_next s comes x = record {
  made = λ k are. comes.made k (one_more_made x are);
  rest = λ os v mean means. rest_next s x (comes.rest os v mean means);
}

rest_unmade : {op : Operation Form} {rest : List (Operation Form)} {g : Form} {n : ℕ} {os : List (Operation Tree)} {v : Tree} {cause : Cause} → IsUnmade op g cause
    → Rest (op ∷ rest) g n os v → patched 0 os v ≡ refused n cause
rest_unmade {op} {rest} {g} {n} {os} {v} {cause} none before = next before.trees before.mean before.is
  where
    next : (trees : List (Operation Tree)) → OperationsMean (op ∷ rest) trees → patched 0 os v ≡ patched n trees before.tree → patched 0 os v ≡ refused n cause
    next trees (one_more_means {o = o} m ms) e = e ∙ rw (none o before.tree m before.means) refl

comes_unmade : {ops rest : List (Operation Form)} {op : Operation Form} {f g : Form} {n : ℕ} {cause : Cause} {os : List (Operation Tree)} → IsSound f → OperationsMean ops os
    → ComesTo ops f n (op ∷ rest) g → IsUnmade op g cause → IsFirstUnmade ops f n cause
comes_unmade {os = os} s mean comes none =
    let (v, means) = sound_means s in
    record { tree = v; means = means; trees = os; mean = mean; is = rest_unmade none (comes.rest os v mean means) }

refusal_is : {ops : List (Operation Form)} {f : Form} {n : ℕ} (P : Cause → Type 0) → ((cause : Cause) → P cause → IsFirstUnmade ops f n cause)
    → (refusal : Refusal) → HasCause P refusal → IsPatchRefusal ops f (error_of n refusal)
refusal_is P first Missing p = first missing p
refusal_is P first TestFailed p = first test_failed p
refusal_is P first IntoChild p = first into_child p
refusal_is P first NoMemory p = tt

-- so it is with the operations of the program, at a place among them
module _ (all : List declared.Operation) (i : ℕ) (op : declared.Operation) {f g : Form} (within : i < length all) (there : op ≡ get_or all i op)
    (comes : ComesTo (map operation_of all) f i (map operation_of (drop i all)) g) where
  at_operation : ComesTo (map operation_of all) f i (operation_of op ∷ map operation_of (drop (i + 1) all)) g
  at_operation = rw (drop_more all i op within, sym there) at comes

  pub operation_made : {h : Form} → IsSound g → OperationMakes g h (operation_of op) → ComesTo (map operation_of all) f (i + 1) (map operation_of (drop (i + 1) all)) h
  operation_made s x = comes_next s at_operation x

  pub operation_refused : IsSound f → (refusal : Refusal) → HasCause (IsUnmade (operation_of op) g) refusal → IsPatchRefusal (map operation_of all) f (error_of i refusal)
  operation_refused s = refusal_is (IsUnmade (operation_of op) g) (λ cause none. comes_unmade s (operations_mean all).1 at_operation none)

pub operations_made : (all : List declared.Operation) (i : ℕ) {f g : Form} → length all ≤ i → ComesTo (map operation_of all) f i (map operation_of (drop i all)) g
    → OperationsMake (map operation_of all) f g
operations_made all i {f} {g} past comes =
    let own : ComesTo (map operation_of all) f i [] g = rw (drop_all i all past) at comes in
    own.made g (none_made refl)
