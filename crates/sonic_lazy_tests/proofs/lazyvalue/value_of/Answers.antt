use Rattle.std.proofs.Common.{◌≡◌, ◌↔◌, ℕ, List, Bool, length, arith, refl, sym, ◌∙◌}
use Rattle.std.proofs.lemmas.List.{length-drop, length-take}
use Rattle.std.specs.Prelude.{IsTrue, slice_range}
use Rattle.std.specs.Str.{IsUtf8}
use Rattle.sonic_input.specs.Slices.{slice_bytes}
use Rattle.sonic_lazy.specs.Wholes.{IsWholeValue}
use Rattle.sonic_parser.specs.Parsers.{ParserState, IsSkipped}
use Rattle.sonic_parser.specs.declared.status.ParseStatus.{ParseStatus}
use Rattle.sonic_parser.specs.declared.status.ParseStatus.TheVariants.{HasEscaped}
use Rattle.sonic_text.proofs.Values.{value-longer}
use Rattle.sonic_text.proofs.Within.{value_within}
use Rattle.sonic_text.specs.Places.{after_space}
use Rattle.sonic_text.specs.Strings.{strict, IsEscapedString}
use Rattle.sonic_text.specs.Values.{IsValue}
use Rattle.sonic_lazy.proofs.WholeLemmas.{false_not_true}
use Rattle.sonic_lazy_tests.proofs.lazyvalue.value_of.Goals as goal

-- a value that is as long as the text is from end to end
span_is_whole : (t : List ℕ) (i j : ℕ) (m : Bool) → IsValue strict t i j → length (slice_range t i j) ≡ length t → IsUtf8 t
    → IsTrue m ↔ IsEscapedString t i j → IsWholeValue t m
span_is_whole t i j m x n u escapes =
    let longer = value-longer x in
    let within = value_within x in
    let size = simp (length-take, length-drop) at n in
    let start : i ≡ 0 = omega arith in
    let end : j ≡ length t = omega arith in
    record { value = rw (start, end) at x; utf8 = u; escapes = rw (start, end) at escapes }

-- a value that was skipped and is as long as the text is a whole one
skipped_is_whole : {before now : ParserState} {bytes : List ℕ} {needs : ParseStatus} (raw : List ℕ) (m : Bool) → IsSkipped before now bytes needs
    → before.lossy ≡ strict → before.text ≡ raw → length bytes ≡ length raw → IsUtf8 raw → IsTrue m ↔ (needs ≡ HasEscaped) → IsWholeValue raw m
skipped_is_whole {before} {now} {bytes} {needs} raw m s mode text n u escapes =
    let x : IsValue strict raw (after_space raw before.place) now.place = rw (mode, text) at s.value in
    let span : bytes ≡ slice_range raw (after_space raw before.place) now.place = rw text at s.span in
    let status : (needs ≡ HasEscaped) ↔ IsEscapedString raw (after_space raw before.place) now.place = rw text at s.status in
    let size : length (slice_range raw (after_space raw before.place) now.place) ≡ length raw = rw span at n in
    span_is_whole raw (after_space raw before.place) now.place m x size u (λ e. status.0 (escapes.0 e), λ y. escapes.1 (status.1 y))

-- what was skipped is as long as the text, and a string with a backslash
pub whole-requires : goal.whole-requires
whole-requires g c =
    let raw = slice_bytes c.to_json_slice-raw.result in
    let text : c.new-parser.result.text ≡ raw = c.new-parser.ensures.text ∙ (c.from.ensures.text ∙ sym c.to_json_slice-raw.ensures.bytes) in
    let utf8 = rw (← c.to_json_slice-raw.ensures.bytes) at (c.to_u8_slice-text.ensures.utf8 c.requires) in
    let needs = c.in-Ok-default-HasEscaped.field-0-1-is in
    skipped_is_whole raw _ c.in-Ok-default-HasEscaped.ensures.ok c.new-parser.ensures.lossy text (cc) utf8 (λ e. needs, λ e. refl)

-- what was skipped is as long as the text, and no string with a backslash
pub whole-requires-in-Ok-default-None : goal.whole-requires-in-Ok-default-None
whole-requires-in-Ok-default-None g c =
    let raw = slice_bytes c.to_json_slice-raw.result in
    let text : c.new-parser.result.text ≡ raw = c.new-parser.ensures.text ∙ (c.from.ensures.text ∙ sym c.to_json_slice-raw.ensures.bytes) in
    let utf8 = rw (← c.to_json_slice-raw.ensures.bytes) at (c.to_u8_slice-text.ensures.utf8 c.requires) in
    let needs = c.in-Ok-default-None.field-0-1-is in
    skipped_is_whole raw _ c.in-Ok-default-None.ensures.ok c.new-parser.ensures.lossy text (cc) utf8
    (λ e. absurd (false_not_true e), λ e. absurd cc)
