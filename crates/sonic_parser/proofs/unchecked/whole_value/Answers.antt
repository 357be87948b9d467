use Rattle.std.proofs.Common.{◌≡◌, inl, inr, codes, sym, arith, refl}
use Rattle.sonic_text.specs.Values.IsValue.{null_literal, true_literal, false_literal}
use Rattle.sonic_text.specs.Faults.IsFault.{null_fault, true_fault, false_fault}
use Rattle.sonic_text.proofs.BracketLemmas.{clear_start, string_inside}
use Rattle.sonic_text.proofs.Values.{value-longer}
use Rattle.sonic_text.proofs.Within.{value_within}
use Rattle.sonic_parser.proofs.UncheckedLemmas.{kind_of_bracket, leaves_once, word_end, value_string, value_whole_string, value_number, known_value}
use Rattle.sonic_parser.proofs.unchecked.whole_value.Goals as goal

pub bounds-text-start : goal.bounds-text-start
bounds-text-start c = omega (arith, value-longer c.requires.1, value_within c.requires.1)

pub whole_string-end-requires : goal.whole_string-end-requires
whole_string-end-requires c = value_whole_string c.requires.1 c.in-34.is

pub whole_number-requires : goal.whole_number-requires
whole_number-requires c = (_, value_number c.requires.1 (λ e. omega arith) (λ e. grind arith) (λ e. grind arith) (λ e. grind arith) (λ e. grind arith) (λ e. omega arith))

pub returns-in-34 : goal.returns-in-34
returns-in-34 c =
    let t = c.args.text.now in
    let str = value_string c.requires.1 c.in-34.is in
    let same : c.whole_string-end.result.end ≡ c.requires.0 = leaves_once (c.whole_string-end.ensures.end _ (clear_start t c.args.start)) (string_inside c.args.lossy t c.args.start _ str.0 str.1) in
    let escaped = rw same at c.whole_string-end.ensures.escaped in
    rw same (record {
      start = refl;
      later = value-longer c.requires.1;
      within = value_within c.requires.1;
      value = c.requires.1;
      escaped = escaped;
    })

pub returns-in-123 : goal.returns-in-123
returns-in-123 c = (known_value c.requires.1 (λ e. grind (arith, c.in-123.is)) (c.whole_container.ensures _ _ c.requires.1))

pub returns-in-110 : goal.returns-in-110
returns-in-110 c = elim c.in-110.is [
  | inl e ↦ (known_value c.requires.1 (λ f. omega (arith, e)) (sym (word_end (codes "null") (λ k. null_literal) (λ s. null_fault e) c.requires.1)))
  | inr e ↦ (known_value c.requires.1 (λ f. omega (arith, e)) (sym (word_end (codes "true") (λ k. true_literal) (λ s. true_fault e) c.requires.1)))
]

pub returns-in-102 : goal.returns-in-102
returns-in-102 c = (known_value c.requires.1 (λ e. omega (arith, c.in-102.is)) (sym (word_end (codes "false") (λ k. false_literal) (λ s. false_fault c.in-102.is) c.requires.1)))

pub returns-in_default : goal.returns-in_default
returns-in_default c = (known_value c.requires.1 (λ e. omega arith) (c.whole_number.ensures _ (value_number c.requires.1 (λ e. omega arith) (λ e. grind arith) (λ e. grind arith) (λ e. grind arith) (λ e. grind arith) (λ e. omega arith))))

pub whole_container-requires : goal.whole_container-requires
whole_container-requires c =
    let bracket = kind_of_bracket _ c.in-123.is in
    (c.args.lossy, bracket.0, c.requires.0, c.requires.1, bracket.1)
