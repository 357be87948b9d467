use Rattle.std.proofs.Common.{◌≡◌, ◌∙◌, ◌+◌, sym}
use Rattle.std.specs.BTreeMap as tree
use Rattle.std.specs.BTreeMap.{btree_map_len}
use Rattle.std.specs.Prelude.{None}
use Rattle.sonic_patch.specs.Internal.Marks.{shape_cmp}
use Rattle.sonic_patch.proofs.ShapeLemmas.{named_still, numbers_still}
use Rattle.sonic_patch.proofs.shape.Numbers.number.Goals as goal

pub returns-clause-kept : goal.returns-clause-kept
returns-clause-kept c =
    let none : tree.get shape_cmp c.args.self.now.given c.args.shape ≡ None = sym c.in_default.ensures.value in
    let was : c.in_ok-insert.field-0 ≡ None = c.in_ok-insert.ensures.old ∙ none in
    let long : btree_map_len c.insert.new.self ≡ btree_map_len c.args.self.now.given + 1 = rw was at c.in_ok-insert.ensures.len in
    numbers_still c.args.shape c.requires c.len-number.ensures.len long c.in_ok-insert.ensures.updates.0

pub returns-clause-more : goal.returns-clause-more
returns-clause-more c =
    let none : tree.get shape_cmp c.args.self.now.given c.args.shape ≡ None = sym c.in_default.ensures.value in
    named_still c.args.shape none c.in_ok-insert.ensures.updates.2
