use Rattle.std.proofs.Common.{◌+◌}
use Rattle.std.proofs.lemmas.Bool.{leb-true}
use Rattle.sonic_find.proofs.ColumnLemmas.Bytes.{both_same}
use Rattle.sonic_find.proofs.columns.KnownKey.is_at.Goals as goal

pub returns-then-same-ge16 : goal.returns-then-same-ge16
returns-then-same-ge16 c = λ is k less.
    both_same c.args.text.now c.args.place c.args.self.now.start c.args.self.now.length c.same_bytes-same.result c.same_bytes.result c.if-same-ge16.true c.same_bytes-same.ensures.same
    c.same_bytes.ensures.same (leb-true c.args.self.now.length (16 + c.same_bytes.result) is) k less
