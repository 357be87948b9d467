use Rattle.std.proofs.Common.{◌≡◌, ◌∷◌, [], map, string_bytes}
use Rattle.sonic_reports.specs.Commands.Asks.{no_word}
use Rattle.sonic_reports.proofs.CommandLemmas.{no_words, one_word, more_unlisted}
use Rattle.sonic_reports.proofs.commands.asked_command.Goals as goal

pub returns-in-empty-clause-asked : goal.returns-in-empty-clause-asked
returns-in-empty-clause-asked c = no_word (no_words _ c.args.words.now c.in-empty.len_below)

-- the words are the one that was looked at
one : (c : goal.After-named_command) → map string_bytes c.args.words.now ≡ c.as_str.result.now ∷ []
one c = rw c.as_str.ensures.value (one_word _ c.args.words.now c.word-item.result c.in-len1.len_at_least c.in-len1.len_below c.word-item.is)

pub returns-in-len1-clause-asked : goal.returns-in-len1-clause-asked
returns-in-len1-clause-asked c = rw (one c) c.named_command.ensures.asked

pub returns-in-len1-clause-unlisted : goal.returns-in-len1-clause-unlisted
returns-in-len1-clause-unlisted c = rw (one c) c.named_command.ensures.unlisted

pub returns-in_default-clause-unlisted : goal.returns-in_default-clause-unlisted
returns-in_default-clause-unlisted c = more_unlisted _ c.args.words.now c.in_default.len_at_least
