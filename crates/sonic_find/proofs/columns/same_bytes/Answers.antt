use Rattle.std.proofs.lemmas.Nat.{trailing_le}
use Rattle.sonic_find.proofs.ColumnLemmas.Bytes.{mask, mask_small, same_before}
use Rattle.sonic_find.proofs.columns.same_bytes.Goals as goal

pub overflow_cast-others : goal.overflow_cast-others
overflow_cast-others c = record { fits = mask_small c.args.text.now c.args.left c.args.right c.requires.left c.requires.right }

pub returns-clause-few : goal.returns-clause-few
returns-clause-few c = trailing_le 16 (mask c.args.text.now c.args.left c.args.right)

pub returns-clause-same : goal.returns-clause-same
returns-clause-same c = same_before c.args.text.now c.args.left c.args.right c.requires.left c.requires.right
