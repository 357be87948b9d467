use Rattle.std.proofs.Common.{◌≡◌, drop}
use Rattle.sonic_pointer.specs.Nodes.{path_of}
use Rattle.sonic_find.specs.Internal.Follow.{IsRest}
use Rattle.sonic_find.specs.Cursors.{IsSkippable}
use Rattle.sonic_find.proofs.path.follow.Given as goal
use Rattle.sonic_pointer.specs.declared.rule.KeyRule.TheVariants.{First}

abbrev pub invariant-loop-node : goal.invariant-loop-node
invariant-loop-node l = record {
  moved : l.cursor ≡ record l.fn.cursor { place = l.cursor.place };
  skippable : IsSkippable l.cursor;
  rest : IsRest First l.fn.cursor.text l.fn.cursor.place (path_of l.path) l.cursor.place (path_of (drop l.node-index l.path));
}
