use Rattle.std.proofs.Common.{◌≡◌, codes, refl}
use Rattle.sonic_reports.specs.Commands.Asks.{gen_words, indent_words}
use Rattle.sonic_reports.proofs.commands.counted_command.Goals as goal

pub returns-in_ok-asked_count-in-gen-clause-asked : goal.returns-in_ok-asked_count-in-gen-clause-asked
returns-in_ok-asked_count-in-gen-clause-asked c =
    let (count, least, most) = c.in_ok-asked_count-in-gen.ensures.some in
    let is : c.args.word.now ≡ codes "gen" = c.in-gen.is in
    gen_words (rw (is, count) refl) least most

pub returns-in_ok-asked_width-in-indent-clause-asked : goal.returns-in_ok-asked_width-in-indent-clause-asked
returns-in_ok-asked_width-in-indent-clause-asked c =
    let (width, most) = c.in_ok-asked_width-in-indent.ensures.some in
    let is : c.args.word.now ≡ codes "indent" = c.in-indent.is in
    indent_words (rw (is, width) refl) most
