use Rattle.sonic_min.proofs.RowLemmas.{row_ok, row_stored}
use Rattle.sonic_min.proofs.keep.keep_eight.Goals as goal

pub swizzle : goal.swizzle
swizzle c = row_ok _ c.args.row c.ranges.row.fits

pub returns-clause-bytes : goal.returns-clause-bytes
returns-clause-bytes c = row_stored _ c.args.bytes.now c.args.room.now c.args.at c.args.row c.ranges.row.fits c.requires.room
