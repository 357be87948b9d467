use Rattle.std.proofs.Common.{arith, refl, length}
use Rattle.std.proofs.lemmas.Grind.{common_steps}
use Rattle.sonic_parser.specs.OpenContainers.{IsTop}
use Rattle.sonic_parser.proofs.SkippingLemmas.{last_of, fault_after}
use Rattle.sonic_parser.proofs.skip.separator_stop.Goals as goal

pub returns : goal.returns
returns c m root reached =
    let last : IsTop c.args.opened.now (last_of c.args.opened.now (length c.args.opened.now)) = grind (arith, common_steps) in
    fault_after reached.0 last (reached.1 (last_of c.args.opened.now (length c.args.opened.now)) last, rw (c.stop_at.ensures, c.skip_space.ensures.place, c.code_after_item.ensures) refl)
