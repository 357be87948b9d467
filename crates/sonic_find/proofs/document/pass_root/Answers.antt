use Rattle.sonic_find.proofs.document.pass_root.Goals as goal
use Rattle.sonic_find.proofs.DocumentLemmas.{root_passed}

pub returns-clause-ok : goal.returns-clause-ok
returns-clause-ok c =
    let start = rw c.requires at c.new-parser.ensures.place in
    let skipped = c.in_ok-value.ensures in
    let passed = root_passed c.new-parser.ensures.text start c.new-parser.ensures.lossy c.skip_space_peek.ensures.moved skipped.ok skipped.moved c.skip_space_peek-2.ensures.moved in
    rw c.offset-after.ensures.place passed
