use Rattle.std.proofs.Common.{◌≡◌, map}
use Rattle.sonic_owned.specs.Changes.{change_of}
use Rattle.sonic_edits.specs.Edits.{edit_of}
use Rattle.sonic_edits.specs.Internal.Parted.{joined, nodes_of}
use Rattle.sonic_edits.proofs.EditingLemmas.{edits_short, joined_of_parts, second_on_err}
use Rattle.sonic_edits.proofs.all.edit_all.Goals as goal

-- the changes are made at the paths of the edits
whole : (c : goal.After-drop-paths-3) → joined (map nodes_of c.as_slice-2.result.now) (map change_of c.in_ok-paths.changes.items) ≡ map edit_of c.args.edits.items
whole c = rw (c.as_slice-2.ensures.value, c.in_ok-paths-2.ensures, c.as_slice.ensures.value, c.in_ok-paths.ensures.paths, c.in_ok-paths.ensures.changes) (joined_of_parts c.args.edits.items)

pub make_all-requires-clause-short : goal.make_all-requires-clause-short
make_all-requires-clause-short c = rw (c.as_slice-2.ensures.value, c.in_ok-paths-2.ensures, c.as_slice.ensures.value, c.in_ok-paths.ensures.paths) (edits_short c.args.edits.items)

pub returns-clause-made : goal.returns-clause-made
returns-clause-made c = rw (whole c) at c.make_all.ensures.made

pub returns-clause-refused : goal.returns-clause-refused
returns-clause-refused c = rw (whole c) at c.make_all.ensures.refused

pub returns-clause-left : goal.returns-clause-left
returns-clause-left c = rw (whole c) at c.make_all.ensures.left

pub returns-clause-failed : goal.returns-clause-failed
returns-clause-failed c = second_on_err _ _ c.make_all.result (rw (whole c) at c.make_all.ensures.failed)
