use Rattle.sonic_lazy.proofs.WholeLemmas.{whole_had}
use Rattle.sonic_owned.proofs.raw.RawValue.as_lazy.Goals as goal

pub whole-requires : goal.whole-requires
whole-requires c =
    let raw = c.args.self.now in
    rw c.from.ensures.0 (whole_had raw.text raw.has_escaped raw.whole)
