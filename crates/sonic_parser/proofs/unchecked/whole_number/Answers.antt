use Rattle.std.proofs.Common.{Ok, Err, refl}
use Rattle.sonic_text.proofs.Numbers.{number_one, number_outcome_one}
use Rattle.sonic_parser.proofs.unchecked.whole_number.Goals as goal

pub unreachable-requires : goal.unreachable-requires
unreachable-requires c =
    let fault = c.in-None.ensures.none refl in
    let same = number_outcome_one c.args.text.now c.args.start (Ok c.requires.0) (Err fault.0) c.requires.1 fault.1 in
    absurd cc

pub returns : goal.returns
returns c j n = number_one (c.in-Some.ensures.some).2 n
