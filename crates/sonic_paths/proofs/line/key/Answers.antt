use Rattle.std.proofs.Common.{◌≡◌, ap}
use Rattle.sonic_text.proofs.StringTexts.{string_utf8}
use Rattle.sonic_paths.proofs.LineNodes.{quoted, string_node, fault_no_node}
use Rattle.sonic_paths.proofs.line.key.Goals as goal

pub owned_text-requires-clause-string : goal.owned_text-requires-clause-string
owned_text-requires-clause-string c =
    let string = quoted c.requires.quote (rw c.requires.strictly at c.in-Ok.ensures.ok.value) in
    let text : c.text.result.now ≡ c.args.parser.now.text = rw (c.text.ensures) (ap (λ p. p.text) c.in-Ok.ensures.moved) in
    let passed = c.in-Ok.ensures.ok in
    rw (text, passed.start, passed.end) (record { bytes = string.0; is = string.1; escaped = passed.escaped })

pub owned_text-requires-clause-utf8 : goal.owned_text-requires-clause-utf8
owned_text-requires-clause-utf8 c =
    let text : c.text.result.now ≡ c.args.parser.now.text = rw (c.text.ensures) (ap (λ p. p.text) c.in-Ok.ensures.moved) in
    λ b string. string_utf8 (rw text c.requires.utf8) string

pub returns-clause-node : goal.returns-clause-node
returns-clause-node c =
    let text : c.text.result.now ≡ c.args.parser.now.text = rw (c.text.ensures) (ap (λ p. p.text) c.in-Ok.ensures.moved) in
    string_node (rw (text, c.in-Ok.ensures.ok.start, c.in-Ok.ensures.ok.end) at c.in_ok-key.ensures)

pub returns-in-Err-At-clause-node : goal.returns-in-Err-At-clause-node
returns-in-Err-At-clause-node c = λ j node. fault_no_node (rw (c.in-Err-At.field-0-is, c.requires.strictly) at c.in-Err-At.ensures.err)
