use Rattle.std.proofs.lemmas.Simd.{get_or-chunk}
use Rattle.sonic_min.proofs.marks.lanes_at.Goals as goal

pub returns-then-text-place-ge64 : goal.returns-then-text-place-ge64
returns-then-text-place-ge64 c k h = get_or-chunk c.args.place 64 c.args.text.now k 0 h
