use Rattle.std.proofs.Common.{◌≡◌, ◌∙◌, sym, true}
use Rattle.sonic_text.proofs.StringTexts.{string_utf8}
use Rattle.sonic_value.proofs.ReaderLemmas.{same_source, source_text, source_utf8}
use Rattle.sonic_value.proofs.StringLemmas.{key_read, text_kept}
use Rattle.sonic_value.proofs.reader.Reader.borrowed_key.Goals as goal

pub text-requires-then-self-clause-utf8 : goal.text-requires-then-self-clause-utf8
text-requires-then-self-clause-utf8 c = λ b string. string_utf8 (rw c.text.ensures (c.self.invariant.1 c.if-self.true)) string

pub returns-then-self-clause-ok : goal.returns-then-self-clause-ok
returns-then-self-clause-ok c =
    let passed = c.in_ok-key.ensures.ok in
    let moved = c.in_ok-key.ensures.moved in
    let known : c.args.self.now.source.is_utf8 ≡ true = sym (source_utf8 moved) ∙ sym (source_utf8 c.self.view_is) ∙ c.if-self.true in
    let text : c.text.result.now ≡ c.args.self.now.source.text = c.text.ensures ∙ source_text c.self.view_is ∙ source_text moved in
    key_read passed.string passed.key (text_kept known (rw (text, passed.start) at c.in_ok-text.ensures.ok.string))

pub returns-clause-ok : goal.returns-clause-ok
returns-clause-ok c =
    let passed = c.in_ok-key.ensures.ok in
    let source : c.pass_key.new.self.source ≡ c.args.self.now.source = same_source c.in_ok-key.ensures.moved in
    key_read passed.string passed.key (rw (source, passed.start) at c.in_ok-string.ensures)
