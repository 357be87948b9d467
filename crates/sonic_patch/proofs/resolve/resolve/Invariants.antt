-- All tokens but the rest are the nodes, which lead to the part.
use Rattle.std.proofs.Common.{drop}
use Rattle.sonic_owned.specs.Seen.{view_form}
use Rattle.sonic_owned.specs.Views.{form}
use Rattle.sonic_patch.specs.Internal.Resolved.{LeadsUpTo}
use Rattle.sonic_pointer.specs.Nodes.{path_of}
use Rattle.sonic_patch.proofs.resolve.resolve.Given as goal

abbrev pub invariant-tokens : goal.invariant-tokens
invariant-tokens l = LeadsUpTo l.fn.tokens (form l.fn.value) (path_of l.nodes.items) (drop l.token-index l.fn.tokens) (view_form l.part)
