-- The tree in which a node names a value.
use Rattle.std.specs.Prelude.{◌≡◌, Some, None, Result, Ok, Err, is_some, if◌then◌else◌}
use Rattle.sonic_error.specs.Errors.{IsPlainError}
use Rattle.sonic_error.specs.declared.code.ErrorCode.{ErrorCode}
use Rattle.sonic_error.specs.declared.code.ErrorCode.TheVariants.{GetIndexOutOfArray, NoMemory, UnexpectedVisitType}
use Rattle.sonic_error.specs.declared.error.Error.{Error}
use Rattle.sonic_owned.specs.TreeEdits.{append_item}
use Rattle.sonic_text.specs.Paths.{Node, key, index}
use Rattle.sonic_text.specs.TreePaths.{child, element_at, member_of}
use Rattle.sonic_text.specs.Trees.Items.{no_item, item}
use Rattle.sonic_text.specs.Trees.Tree.{null, container}
use Rattle.sonic_text.specs.Trees.{Tree}
use Rattle.sonic_text.specs.declared.kind.Kind.TheVariants.{Array, Object}

-- this tree, or with a member added for a key that an object lacks, null being an empty object first; or why there is none
abbrev pub with_node : Node → Tree → Result Tree ErrorCode
with_node (index n) (container Array xs) = if is_some (element_at n xs) then Ok (container Array xs) else Err GetIndexOutOfArray
with_node (key k) null = Ok (container Object (item (Some k) null no_item))
with_node (key k) (container Object xs) = if is_some (member_of k xs) then Ok (container Object xs) else Ok (container Object (append_item xs (Some k) null))
with_node node other = Err UnexpectedVisitType

-- why a node names no value: there is none, or there is no memory for the member that is added
pub data IsUnindexed (node : Node) (x : Tree) (e : Error) : Type 0 where
  refused : (code : ErrorCode) → with_node node x ≡ Err code → IsPlainError e code → IsUnindexed node x e
  out_of_memory : (base : Tree) → with_node node x ≡ Ok base → child node x ≡ None → IsPlainError e NoMemory → IsUnindexed node x e
