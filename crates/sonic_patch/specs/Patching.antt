-- What the operations of a patch make of a tree (RFC 6902, section 4).
use Rattle.std.specs.Prelude.{ℕ, ◌+◌, ◌&&◌, nat_eq, Bool, true, false, if◌then◌else◌, List, [], ◌∷◌, Option, Some, None, option_map, codes}
use Rattle.std.specs.Cmp.Lexicographic.{pointwise}
use Rattle.std.specs.Option.{option_and_then}
use Rattle.sonic_owned.specs.TreeEdits as edits
use Rattle.sonic_owned.specs.TreeEdits.{Edit, edit_at, edit_tree}
use Rattle.sonic_patch.specs.Operations.{Operation, add, remove, replace, move, copy, test}
use Rattle.sonic_patch.specs.Pointers.{Token}
use Rattle.sonic_patch.specs.Resolution.{index_of, node_in, path_in, pointed}
use Rattle.sonic_patch.specs.Sameness.{same}
use Rattle.sonic_text.specs.declared.kind.Kind.TheVariants.{Array, Object}
use Rattle.sonic_text.specs.Paths.{Node, key}
use Rattle.sonic_text.specs.TreePaths.{child, member_of}
use Rattle.sonic_text.specs.Trees.{Tree, container}

-- the edit in an item that a node names
abbrev pub below : {Value : Type 0} → Node → Edit Value → Edit Value
below node e = edit_at (node ∷ e.path) e.change

-- the edit that is decided at the container to which all tokens but the last lead, by it and the last token
abbrev pub at_last : {Value : Type 0} → (Tree → Token → Option (Edit Value)) → List Token → Tree → Option (Edit Value)
at_last decide [] v = None
at_last decide (t ∷ []) v = decide v t
at_last decide (t ∷ u ∷ us) v = option_and_then (λ node. option_and_then (λ x. option_map (below node) (at_last decide (u ∷ us) x)) (child node v)) (node_in v t)

-- how a value comes into an object whose first member with the key has this value, if there is one: in its place, or as one more member
abbrev pub into_object : {Value : Type 0} → Value → Option Tree → Token → Edit Value
into_object w (Some y) t = edit_at (key t ∷ []) (edits.set w)
into_object w None t = edit_at [] (edits.pair t w)

-- how it comes into an array: after all elements, or before the one with the index
abbrev pub into_array : {Value : Type 0} → Value → Token → Option (Edit Value)
into_array w t = if pointwise nat_eq t (codes "-") then Some (edit_at [] (edits.push w)) else option_map (λ n. edit_at [] (edits.insert n w)) (index_of t)

abbrev pub into : {Value : Type 0} → Value → Tree → Token → Option (Edit Value)
into w (container Object xs) t = Some (into_object w (member_of t xs) t)
into w (container Array xs) t = into_array w t
into w other t = None

-- how what a token leads to is taken out
abbrev pub out_of : {Value : Type 0} → Tree → Token → Option (Edit Value)
out_of v t = option_map (λ node. edit_at [] (edits.remove node)) (node_in v t)

-- the edit that adds a value where a pointer says; the empty one says the whole
abbrev pub addition : {Value : Type 0} → List Token → Value → Tree → Option (Edit Value)
addition [] w v = Some (edit_at [] (edits.set w))
addition (t ∷ ts) w v = at_last (into w) (t ∷ ts) v

-- the one that removes what it leads to; of the whole null is left
abbrev pub removal : {Value : Type 0} → List Token → Tree → Option (Edit Value)
removal [] v = Some (edit_at [] edits.take)
removal (t ∷ ts) v = at_last out_of (t ∷ ts) v

-- and the one that puts a value in its place
abbrev pub replacement : {Value : Type 0} → List Token → Value → Tree → Option (Edit Value)
replacement ts w v = option_map (λ path. edit_at path (edits.set w)) (path_in ts v)

-- the tree with the edit that is decided by it
abbrev pub edited : (Tree → Option (Edit Tree)) → Tree → Option Tree
edited decide v = option_and_then (λ e. edit_tree e v) (decide v)

abbrev pub added : List Token → Tree → Tree → Option Tree
added ts w = edited (addition ts w)

abbrev pub removed : List Token → Tree → Option Tree
removed ts = edited (removal ts)

abbrev pub replaced : List Token → Tree → Tree → Option Tree
replaced ts w = edited (replacement ts w)

-- the first tokens are those of the second up to some, and not all
abbrev pub is_before : List Token → List Token → Bool
is_before [] [] = false
is_before [] (u ∷ us) = true
is_before (t ∷ ts) [] = false
is_before (t ∷ ts) (u ∷ us) = pointwise nat_eq t u && is_before ts us

-- the tree with what one pointer leads to taken out and added where the other says, and with that added once more
abbrev pub moved : List Token → List Token → Tree → Option Tree
moved from ts v = option_and_then (λ u. option_and_then (added ts u) (removed from v)) (pointed from v)

abbrev pub copied : List Token → List Token → Tree → Option Tree
copied from ts v = option_and_then (λ u. added ts u v) (pointed from v)

-- why an operation isn't made
pub data Cause : Type 0 where
  missing : Cause
  test_failed : Cause
  into_child : Cause

-- what comes of one operation: a tree, or why it isn't made
pub data Step : Type 0 where
  made : Tree → Step
  unmade : Cause → Step

abbrev pub or_missing : Option Tree → Step
or_missing (Some w) = made w
or_missing None = unmade missing

-- a tree is tested by what is found in it
abbrev pub tested : Option Tree → Tree → Tree → Step
tested None w v = unmade missing
tested (Some u) w v = if same u w then made v else unmade test_failed

abbrev pub step : Operation Tree → Tree → Step
step (add ts w) v = or_missing (added ts w v)
step (remove ts) v = or_missing (removed ts v)
step (replace ts w) v = or_missing (replaced ts w v)
step (move from ts) v = if is_before from ts then unmade into_child else or_missing (moved from ts v)
step (copy from ts) v = or_missing (copied from ts v)
step (test ts w) v = tested (pointed ts v) w v

-- what comes of operations in order, of which the first has this number: the tree, or the first that isn't made and why
pub data PatchOutcome : Type 0 where
  done : Tree → PatchOutcome
  refused : ℕ → Cause → PatchOutcome

-- what comes of the rest, where the operation with this number came to this
abbrev pub then_rest : ℕ → (Tree → PatchOutcome) → Step → PatchOutcome
then_rest n rest (made v) = rest v
then_rest n rest (unmade cause) = refused n cause

abbrev pub patched : ℕ → List (Operation Tree) → Tree → PatchOutcome
patched n [] v = done v
patched n (op ∷ ops) v = then_rest n (patched (n + 1) ops) (step op v)
