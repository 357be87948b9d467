use Rattle.std.proofs.Common.{◌≡◌, ◌∙◌, arith, true, false}
use Rattle.sonic_text.specs.Trees.Means.{means_number}
use Rattle.sonic_text.specs.Trees.Tree.{null, truth, numeral}
use Rattle.sonic_value.proofs.ReaderLemmas.{source_text}
use Rattle.sonic_value.proofs.Folds.{tree_null, tree_bool, tree_number, tree_string}
use Rattle.sonic_value.proofs.ScalarLemmas.{null_means, true_means, false_means, number_there}
use Rattle.sonic_value.proofs.StringLemmas.{scalar_string, string_kept}
use Rattle.sonic_value.proofs.reader.Reader.scalar_value.Goals as goal

pub returns-in-110 : goal.returns-in-110
returns-in-110 c =
    let x = c.requires in
    let text : c.text-text.result.now ≡ c.args.self.now.source.text = c.text-text.ensures ∙ source_text c.self.view_is in
    let first = rw (c.byte_at.ensures.value, text) at c.in-110.is in
    record { meant = null; means = null_means x.begins x.value first; is = tree_null }

pub returns-in-116 : goal.returns-in-116
returns-in-116 c =
    let x = c.requires in
    let text : c.text-text.result.now ≡ c.args.self.now.source.text = c.text-text.ensures ∙ source_text c.self.view_is in
    let first = rw (c.byte_at.ensures.value, text) at c.in-116.is in
    record { meant = truth true; means = true_means x.begins x.value first; is = tree_bool true }

pub returns-in-102 : goal.returns-in-102
returns-in-102 c =
    let x = c.requires in
    let text : c.text-text.result.now ≡ c.args.self.now.source.text = c.text-text.ensures ∙ source_text c.self.view_is in
    let first = rw (c.byte_at.ensures.value, text) at c.in-102.is in
    record { meant = truth false; means = false_means x.begins x.value first; is = tree_bool false }

pub string-requires : goal.string-requires
string-requires c =
    let text : c.text-text.result.now ≡ c.args.self.now.source.text = c.text-text.ensures ∙ source_text c.self.view_is in
    scalar_string c.requires (rw (c.byte_at.ensures.value, text) at c.in-34.is)

pub returns-in_ok-string-in-34 : goal.returns-in_ok-string-in-34
returns-in_ok-string-in-34 c = rw (tree_string _) (string_kept c.in_ok-string-in-34.ensures)

pub number_text-requires : goal.number_text-requires
number_text-requires c =
    let x = c.requires in
    let text : c.text-text.result.now ≡ c.args.self.now.source.text = c.text-text.ensures ∙ source_text c.self.view_is in
    let first = rw text at c.byte_at.ensures.value in
    rw text (number_there x.begins x.value (λ e. omega (arith, first, e)) (λ e. omega (arith, first, e)) (λ e. omega (arith, first, e)) (λ e. omega (arith, first, e)))

pub returns-in_ok-number_text-in_default : goal.returns-in_ok-number_text-in_default
returns-in_ok-number_text-in_default c =
    let x = c.requires in
    let text : c.text-text.result.now ≡ c.args.self.now.source.text = c.text-text.ensures ∙ source_text c.self.view_is in
    let first = rw text at c.byte_at.ensures.value in
    let number = number_there x.begins x.value (λ e. omega (arith, first, e)) (λ e. omega (arith, first, e)) (λ e. omega (arith, first, e)) (λ e. omega (arith, first, e)) in
    record { meant = numeral _; means = means_number number (rw text at c.in_ok-number_text-in_default.ensures); is = tree_number _ }
