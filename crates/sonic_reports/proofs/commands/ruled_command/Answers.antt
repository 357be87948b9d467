use Rattle.std.proofs.Common.{◌≡◌, codes, refl}
use Rattle.sonic_reports.specs.Commands.Asks.{keys_words}
use Rattle.sonic_reports.proofs.CommandLemmas.{texts_same}
use Rattle.sonic_reports.proofs.commands.ruled_command.Goals as goal

pub returns-in-Some-clause-asked : goal.returns-in-Some-clause-asked
returns-in-Some-clause-asked c =
    let is : c.args.word.now ≡ codes "get" = texts_same c.if-ne.ensures in
    let keys : c.args.option.now ≡ codes "--keys" = texts_same c.if-ne-2.ensures in
    keys_words (rw (is, keys, c.in-Some.ensures.some) refl)
