use Rattle.sonic_text.proofs.StringTexts.{string_utf8}
use Rattle.sonic_value.proofs.reader.Reader.string.Goals as goal

-- what a string of a text in UTF-8 denotes is UTF-8
pub owned_text-requires-clause-utf8 : goal.owned_text-requires-clause-utf8
owned_text-requires-clause-utf8 c = λ b string. string_utf8 (rw c.text-text.ensures (c.self.invariant.1 c.if-self.true)) string
