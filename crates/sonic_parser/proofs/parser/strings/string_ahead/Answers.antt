use Rattle.std.proofs.Common.{◌≡◌, ◌∙◌, ◌+◌, ◌-◌, ap, arith, refl}
use Rattle.std.proofs.lemmas.Str.{utf8_valid_len_le}
use Rattle.sonic_error.specs.Texts.{valid_up_to}
use Rattle.sonic_text.proofs.Parts.{part_length}
use Rattle.sonic_text.proofs.Stops.{fault_within, fault_not}
use Rattle.sonic_text.specs.Faults.IsFault.{string_fault}
use Rattle.sonic_text.proofs.StringTexts.{contents_utf8}
use Rattle.sonic_text.specs.Strings.{contents}
use Rattle.sonic_parser.proofs.TextLemmas.{string_long, utf8_ahead}
use Rattle.sonic_parser.specs.Texts.IsNoText.{no_string, broken_contents}
use Rattle.sonic_parser.proofs.parser.strings.string_ahead.Goals as goal

pub returns-in-Err-clause-err : goal.returns-in-Err-clause-err
returns-in-Err-clause-err c = no_string c.in-Err.ensures.err

pub returns-in-Err-clause-within : goal.returns-in-Err-clause-within
returns-in-Err-clause-within c = fault_within (string_fault c.requires.quote c.in-Err.ensures.err)

pub returns-in-Err-clause-code : goal.returns-in-Err-clause-code
returns-in-Err-clause-code c = fault_not (string_fault c.requires.quote c.in-Err.ensures.err)

pub returns-then-not-is_bytes-clause-ok : goal.returns-then-not-is_bytes-clause-ok
returns-then-not-is_bytes-clause-ok c =
    let ok = c.in-Ok.ensures.ok in
    utf8_ahead c.in-Ok.string.escaped ok.3 ok.1 c.in-Ok.ensures.escaped (contents_utf8 (c.requires.utf8 c.if-not-is_bytes.true) ok.3)

pub slice_bounds-from_utf8-count : goal.slice_bounds-from_utf8-count
slice_bounds-from_utf8-count c = omega (arith, string_long c.in-Ok.ensures.ok.3)

pub slice_bounds-from_utf8-start : goal.slice_bounds-from_utf8-start
slice_bounds-from_utf8-start c = omega (arith, c.in-Ok.ensures.ok.1, string_long c.in-Ok.ensures.ok.3)

pub returns-in-Ok-from_utf8-clause-ok : goal.returns-in-Ok-from_utf8-clause-ok
returns-in-Ok-from_utf8-clause-ok c =
    let ok = c.in-Ok.ensures.ok in
    utf8_ahead c.in-Ok.string.escaped ok.3 ok.1 c.in-Ok.ensures.escaped c.in-Ok-from_utf8.ensures.cases.1

-- where the contents break
broken_place : (c : goal.After-valid_up_to) → c.valid_up_to.result ≡ valid_up_to (contents c.args.text.now c.args.start c.in-Ok.string.end)
broken_place c = c.valid_up_to.ensures ∙ ap (λ e. e.valid_up_to) c.in-Err-2.error-is ∙ c.in-Err-2.ensures.valid_len

pub returns-in-Err-2-clause-err : goal.returns-in-Err-2-clause-err
returns-in-Err-2-clause-err c =
    let strict = c.if-lossy.false in
    broken_contents strict (rw strict at c.in-Ok.ensures.ok.3) c.in-Err-2.ensures.cases.0 (rw (broken_place c) refl)

pub returns-in-Err-2-clause-within : goal.returns-in-Err-2-clause-within
returns-in-Err-2-clause-within c =
    let ok = c.in-Ok.ensures.ok in
    let long = part_length c.args.text.now (c.args.start + 1) (c.in-Ok.string.end - 1) (omega (arith, string_long ok.3)) (omega (arith, ok.1)) in
    let few = utf8_valid_len_le (contents c.args.text.now c.args.start c.in-Ok.string.end) in
    omega (arith, broken_place c, string_long ok.3, ok.1)
