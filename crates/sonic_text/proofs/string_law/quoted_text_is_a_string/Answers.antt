use Rattle.std.proofs.Common.{◌∷◌, [], arith}
use Rattle.std.proofs.lemmas.List.{length-append}
use Rattle.sonic_text.proofs.QuoteLemmas.{contents_short}
use Rattle.sonic_text.proofs.WrittenLemmas.{string_stands}
use Rattle.sonic_text.specs.Quoting.{quoted_bytes}
use Rattle.sonic_text.proofs.string_law.quoted_text_is_a_string.Goals as goal

pub returns-clause-string : goal.returns-clause-string
returns-clause-string c = string_stands

pub returns-clause-short : goal.returns-clause-short
returns-clause-short c = λ b. omega (arith, contents_short b, length-append (quoted_bytes b) (34 ∷ []))
