-- The operations that a patch says are sound, and mean operations of trees.
use Rattle.std.proofs.Common.{ℕ, List, [], ◌∷◌, length, take}
use Rattle.std.proofs.Math.Seq.{take-length}
use Rattle.std.proofs.lemmas.List.Elements.{All-cons, All-head, All-map, All-nil, All-push, All-tail}
use Rattle.std.specs.List.{All}
use Rattle.std.specs.Str.{IsUtf8}
use Rattle.sonic_find.proofs.AnswerLemmas.Walk.{found_value}
use Rattle.sonic_find.proofs.DocumentLemmas.{alone_part}
use Rattle.sonic_find.proofs.Utf8Lemmas.{utf8_of_span}
use Rattle.sonic_find.specs.Answers.{span_text}
use Rattle.sonic_lazy.specs.Items.{Item, AreItems, no_items, one_more_item}
use Rattle.sonic_owned.proofs.ValueLemmas.{sound_means, value_sound}
use Rattle.sonic_owned.specs.Forms.{Form, raw, IsSound, raw_sound}
use Rattle.sonic_patch.proofs.KeyLemmas.{pointer_utf8}
use Rattle.sonic_patch.specs.Operations as operations
use Rattle.sonic_patch.specs.Operations.{Operation, add, replace, move, copy, test}
use Rattle.sonic_patch.specs.Patches.{AreKeys, HasFewTokens, IsSoundOperation, AreSoundOperations, OperationMeans, add_means, remove_means, replace_means, move_means, copy_means, test_means, OperationsMean, none_mean, one_more_means}
use Rattle.sonic_patch.specs.Pointers.{Token, SaysFewTokens}
use Rattle.sonic_patch.specs.Reading.{HasMember, SaysPointer, IsOperation, is_add, is_remove, is_replace, is_move, is_copy, is_test, AreOperations, no_operation, one_more_operation, AreItemTexts, SaysPatch}
use Rattle.sonic_patch.specs.Views.{operation_of, operations_of}
use Rattle.sonic_patch.specs.declared.operation.Operation.{Operation as Kept}
use Rattle.sonic_patch.specs.declared.operation.Operation.TheVariants.{Add, Remove, Replace, Move, Copy, Test}
use Rattle.sonic_patch.specs.declared.read.Patch.{Patch}
use Rattle.sonic_text.proofs.StringTexts.{string_utf8}
use Rattle.sonic_text.proofs.ValueParts.{value_of_part}
use Rattle.sonic_text.proofs.Within.{value_within}
use Rattle.sonic_text.specs.Paths.{key}
use Rattle.sonic_text.specs.Strings.{strict}
use Rattle.sonic_text.specs.Trees.{Tree}
use Rattle.sonic_text.specs.Values.{IsValue}
use Rattle.sonic_text.specs.declared.kind.Kind.TheVariants.{Array}

-- the text is one value in UTF-8
abbrev IsSoundText : List ℕ → Type 0
IsSoundText b = IsSound (raw b)

sound_utf8 : {b : List ℕ} → IsSoundText b → IsUtf8 b
sound_utf8 (raw_sound value utf8) = utf8

-- a value in a text is one
part_sound : {t : List ℕ} {i j : ℕ} → IsUtf8 t → IsValue strict t i j → IsSoundText (span_text t (i, j))
part_sound {t} utf8 value =
    let within = value_within value in
    let whole : IsUtf8 (take (length t) t) = rw (take-length t) utf8 in
    raw_sound (value_of_part value within) (utf8_of_span (length t) whole value within within)

-- so is the value of a member
member_sound : {o k b : List ℕ} → IsSoundText o → HasMember o k b → IsSoundText b
member_sound {k = k} sound m = rw m.is (part_sound (sound_utf8 sound) (found_value (key k ∷ []) m.leads))

-- and each element
items_sound : {t : List ℕ} {n : ℕ} {items : List Item} → IsUtf8 t → AreItems t Array n items → All (λ (x : Item). IsSoundText (span_text t x.span)) items
items_sound {t} utf8 (no_items z is) = rw is (All-nil _)
items_sound {t} utf8 (one_more_item {before = before} {item = item} are x e is) =
    rw is (All-push (λ (x : Item). IsSoundText (span_text t x.span)) before item (items_sound utf8 are) (part_sound utf8 x.value))

elements_sound : {t : List ℕ} {texts : List (List ℕ)} → IsUtf8 t → AreItemTexts t texts → All IsSoundText texts
elements_sound {t} utf8 all = rw all.are (All-map IsSoundText (λ (x : Item). span_text t x.span) all.items (items_sound utf8 all.listing.items))

-- the tokens that a member says are keys
pointer_keys : {o k : List ℕ} {ts : List Token} → IsSoundText o → SaysPointer SaysFewTokens o k ts → AreKeys ts
pointer_keys sound p = pointer_utf8 p.reads.0 (string_utf8 (sound_utf8 (member_sound sound p.says.member)) p.says.string)

-- so what an element says is a sound operation
operation_sound : {o : List ℕ} {op : Operation Form} → IsSoundText o → IsOperation SaysFewTokens o op → IsSoundOperation op
operation_sound sound (is_add w path value) = (pointer_keys sound path, member_sound sound value)
operation_sound sound (is_remove w path) = tt
operation_sound sound (is_replace w path value) = member_sound sound value
operation_sound sound (is_move w from path) = pointer_keys sound path
operation_sound sound (is_copy w from path) = pointer_keys sound path
operation_sound sound (is_test w path value) = member_sound sound value

operations_sound : {es : List (List ℕ)} {ops : List (Operation Form)} → All IsSoundText es → AreOperations es ops → AreSoundOperations ops
operations_sound all no_operation = All-nil IsSoundOperation
operations_sound all (one_more_operation {element = o} {elements = es} {op} {ops} x xs) =
    All-cons IsSoundOperation op ops (operation_sound (All-head IsSoundText o es all) x) (operations_sound (All-tail IsSoundText o es all) xs)

-- and what a patch says
pub patch_sound : {t : List ℕ} {ops : List (Operation Form)} → IsUtf8 t → SaysPatch t ops → AreSoundOperations ops
patch_sound utf8 says =
    let array : IsUtf8 says.array.array = rw says.array.value.is (alone_part utf8 says.array.value.alone).utf8 in
    operations_sound (elements_sound array says.array.elements) says.are

-- a sound operation means one of a tree
operation_means : (op : Operation Form) → IsSoundOperation op → (o : Operation Tree) × OperationMeans op o
operation_means (add ts w) sound = let x = sound_means sound.1 in (add ts x.0, add_means x.1)
operation_means (operations.remove ts) sound = (operations.remove ts, remove_means)
operation_means (replace ts w) sound = let x = sound_means sound in (replace ts x.0, replace_means x.1)
operation_means (move from ts) sound = (move from ts, move_means)
operation_means (copy from ts) sound = (copy from ts, copy_means)
operation_means (test ts w) sound = let x = sound_means sound in (test ts x.0, test_means x.1)

pub operations_mean : (ops : List (Operation Form)) → AreSoundOperations ops → (os : List (Operation Tree)) × OperationsMean ops os
operations_mean [] sound = ([], none_mean)
operations_mean (op ∷ ops) sound =
    let o = operation_means op (All-head IsSoundOperation op ops sound) in
    let os = operations_mean ops (All-tail IsSoundOperation op ops sound) in
    (o.0 ∷ os.0, one_more_means o.1 os.1)

-- what an operation of the program is is sound, and its pointers have few tokens
kept_sound : (op : Kept) → IsSoundOperation (operation_of op)
kept_sound (Add path value) = (path.keys, value_sound value)
kept_sound (Remove path) = tt
kept_sound (Replace path value) = value_sound value
kept_sound (Move from path) = path.keys
kept_sound (Copy from path) = path.keys
kept_sound (Test path value) = value_sound value

kept_few : (op : Kept) → HasFewTokens (operation_of op)
kept_few (Add path value) = path.few
kept_few (Remove path) = path.few
kept_few (Replace path value) = path.few
kept_few (Move from path) = (from.few, path.few)
kept_few (Copy from path) = (from.few, path.few)
kept_few (Test path value) = path.few

-- and so are those of a patch
pub patch_of_sound : (patch : Patch) → AreSoundOperations (operations_of patch)
patch_of_sound patch = All-map IsSoundOperation operation_of patch.operations.items (λ n op inside. kept_sound _)

pub patch_of_few : (patch : Patch) → All HasFewTokens (operations_of patch)
patch_of_few patch = All-map HasFewTokens operation_of patch.operations.items (λ n op inside. kept_few _)
