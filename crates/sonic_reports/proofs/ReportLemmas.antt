-- The words and the input have one report.
use Rattle.std.proofs.Common.{◌≡◌, ◌⊎◌, ◌∙◌, inl, inr, ℕ, ◌<◌, ◌≤◌, List, [], length, get_or, arith, ap, refl, sym}
use Rattle.std.specs.Prelude.{◌==◌, if◌then◌else◌}
use Rattle.std.proofs.lemmas.Bool.{cases_lt}
use Rattle.std.specs.Str.Parse.{digits_value}
use Rattle.sonic_pointer.specs.declared.rule.KeyRule.{KeyRule}
use Rattle.sonic_pointer.specs.declared.rule.KeyRule.TheVariants.{First, Last, Refuse}
use Rattle.sonic_reports.specs.declared.commands.Command.{Command}
use Rattle.sonic_reports.specs.declared.commands.Command.TheVariants.{Get, List as Items, Edit, Fill, Fast, Indent, Index, Lines, Min, Patch, Gen}
use Rattle.sonic_io.specs.Outside.{input_limit}
use Rattle.sonic_reports.specs.declared.status.Status.{Status}
use Rattle.sonic_reports.specs.declared.status.Status.TheVariants.{Done, NoMemory}
use Rattle.sonic_reports.specs.Commands.{Asks, no_word, get_word, list_word, edit_word, fill_word, fast_word, indent_words, index_word, lines_word, min_word, patch_word, gen_words, keys_words, rule_word, Reads}
use Rattle.sonic_reports.specs.Commands.Get.{IsAnswerableInput}
use Rattle.sonic_reports.specs.Laws.{HasOneReport}
use Rattle.sonic_reports.specs.Reports.{Writes, IsReport}
use Rattle.sonic_reports.specs.Reports.IsReport.{usage, large, written}
use Rattle.sonic_reports.proofs.CommandLemmas.{listed_or_not, reads_or_gen, value_of_decimal}
use Rattle.sonic_reports.proofs.EditLemmas.{edit_report_one, edit_report_some}
use Rattle.sonic_reports.proofs.FastLemmas.{fast_report_one, fast_report_some}
use Rattle.sonic_reports.proofs.FillLemmas.{fill_report_one, fill_report_some}
use Rattle.sonic_reports.proofs.GeneratedLemmas.{gen_report_one, gen_report_some}
use Rattle.sonic_reports.proofs.GetLemmas.{Same, SomeText, get_report_one, get_report_some, answerable_report}
use Rattle.sonic_reports.proofs.EntryLemmas.{index_report_one, index_report_some}
use Rattle.sonic_reports.proofs.ListLemmas.{list_report_one, list_report_some}
use Rattle.sonic_reports.proofs.PatchLemmas.{patch_report_one, patch_report_some}
use Rattle.sonic_reports.proofs.RowLemmas.{lines_report_one, lines_report_some}
use Rattle.sonic_reports.proofs.TextLemmas.{min_report_one, min_report_some, indent_report_one, indent_report_some}

-- the rule that a word names, by its first letter
abbrev rule_by : List ℕ → KeyRule
rule_by word =
    let letter = get_or word 0 0 in
    if letter == 108 then Last else if letter == 114 then Refuse else First

rule_back : (rule : KeyRule) → rule_by (rule_word rule) ≡ rule
rule_back First = refl
rule_back Last = refl
rule_back Refuse = refl

-- the command that words ask for, if they ask for one, by the first letters of the first word and by the digits of the next
abbrev asked_by : List (List ℕ) → Command
asked_by words =
    let word = get_or words 0 [] in
    let letter = get_or word 0 0 in
    if letter == 108 then if get_or word 2 0 == 110 then Lines else Items else if letter == 101 then Edit else if letter == 109 then Min else if letter == 112 then Patch else if letter == 102 then if get_or word 1 0 == 97 then Fast else Fill
    else if letter == 105 then if get_or word 4 0 == 120 then Index else Indent (digits_value 10 (get_or words 1 []))
    else if get_or word 2 0 == 110 then Gen (digits_value 10 (get_or words 1 [])) else Get (rule_by (get_or words 2 []))

asks_this : {words : List (List ℕ)} {a : Command} → Asks words a → a ≡ asked_by words
asks_this (no_word e) = sym (ap asked_by e)
asks_this (get_word e) = sym (ap asked_by e)
asks_this (list_word e) = sym (ap asked_by e)
asks_this (edit_word e) = sym (ap asked_by e)
asks_this (fill_word e) = sym (ap asked_by e)
asks_this (fast_word e) = sym (ap asked_by e)
asks_this (indent_words {n} e most) = sym (ap asked_by e ∙ ap Indent (value_of_decimal n (omega arith)))
asks_this (index_word e) = sym (ap asked_by e)
asks_this (lines_word e) = sym (ap asked_by e)
asks_this (min_word e) = sym (ap asked_by e)
asks_this (patch_word e) = sym (ap asked_by e)
asks_this (keys_words {r} e) = sym (ap asked_by e ∙ ap Get (rule_back r))
asks_this (gen_words {n} e least most) = sym (ap asked_by e ∙ ap Gen (value_of_decimal n (omega arith)))

-- words ask for one command
pub asks_one : {words : List (List ℕ)} {a b : Command} → Asks words a → Asks words b → a ≡ b
asks_one x y = asks_this x ∙ sym (asks_this y)

-- each command writes one report
writes_one : (command : Command) (input text other : List ℕ) (status ending : Status) → Writes command input text status → Writes command input other ending
    → Same text status other ending
writes_one (Get rule) input text other status ending r s = get_report_one rule r s
writes_one Items input text other status ending r s = list_report_one r s
writes_one Edit input text other status ending r s = edit_report_one r s
writes_one Fill input text other status ending r s = fill_report_one r s
writes_one Fast input text other status ending r s = fast_report_one r s
writes_one (Indent width) input text other status ending r s = indent_report_one width r s
writes_one Index input text other status ending r s = index_report_one r s
writes_one Lines input text other status ending r s = lines_report_one r s
writes_one Min input text other status ending r s = min_report_one r s
writes_one Patch input text other status ending r s = patch_report_one r s
writes_one (Gen n) input text other status ending r s = gen_report_one r s

-- of each input
writes_some : (command : Command) (input : List ℕ) → SomeText (Writes command input)
writes_some (Get rule) input = get_report_some rule input
writes_some Items input = list_report_some input
writes_some Edit input = edit_report_some input
writes_some Fill input = fill_report_some input
writes_some Fast input = fast_report_some input
writes_some (Indent width) input = indent_report_some width input
writes_some Index input = index_report_some input
writes_some Lines input = lines_report_some input
writes_some Min input = min_report_some input
writes_some Patch input = patch_report_some input
writes_some (Gen n) input = gen_report_some n

-- an input that is read is within the limit or not
few_not_many : {words : List (List ℕ)} {asked other : Command} (input : List ℕ) → Asks words asked → Reads asked → input_limit < length input → Asks words other
    → (Reads other → length input ≤ input_limit) → ⊥
few_not_many {asked = asked} {other} input n reads many m few =
    let own : Reads other = rw (asks_one n m) at reads in
    let within = few own in
    omega (arith, many, within)

-- the words and the input have one report
report_one : {words : List (List ℕ)} {input text other : List ℕ} {status ending : Status} → IsReport words input text status → IsReport words input other ending
    → Same text status other ending
report_one (usage n) (usage m) = (refl, refl)
report_one (usage n) (large (asked, m, reads) l) = absurd (n (asked, m))
report_one (usage n) (written m l r) = absurd (n (_, m))
report_one (large (asked, n, reads) l) (usage m) = absurd (m (asked, n))
report_one (large n l) (large m k) = (refl, refl)
report_one (large (asked, n, reads) l) (written m k r) = absurd (few_not_many _ n reads l m k)
report_one (written n l r) (usage m) = absurd (m (_, n))
report_one (written n l r) (large (asked, m, reads) k) = absurd (few_not_many _ m reads k n l)
report_one {input = input} {text} {other} {status} {ending} (written {asked} n l r) (written m k s) =
    let own : Writes asked input other ending = rw (asks_one m n) at s in
    writes_one asked input text other status ending r own

-- the words and the input have a report
report_some : (words : List (List ℕ)) (input : List ℕ) → SomeText (IsReport words input)
report_some words input = elim (listed_or_not words) [
  | inr unlisted ↦ (_, _, usage unlisted)
  | inl (asked, asks) ↦ let r = writes_some asked input in elim (reads_or_gen asked) [
    | inr (n, e) ↦ (r.0, r.1, written asks (λ reads. absurd (reads n e)) r.2)
    | inl reads ↦ elim (cases_lt input_limit (length input)) [
      | inl many ↦ (_, _, large (asked, asks, reads) many)
      | inr few ↦ (r.0, r.1, written asks (λ _. few) r.2)
    ]
  ]
]

-- the words and the input determine one report
pub has_one_report : (words : List (List ℕ)) (input : List ℕ) → HasOneReport words input
has_one_report words input =
    let r = report_some words input in
    record { text = r.0; status = r.1; report = r.2; only = λ other ending s. report_one r.2 s }

-- an input that is answerable is answered with the status 0
pub answered_done : {words : List (List ℕ)} {rule : KeyRule} {input : List ℕ} → Asks words (Get rule) → IsAnswerableInput rule input → (text : List ℕ) × IsReport words input text Done
answered_done asks i = let r = answerable_report i in (r.0, written asks (λ _. i.within) r.1)

-- so a run ends that ends with the status of each report or out of memory
pub done_surely : {words : List (List ℕ)} {input : List ℕ} {ending : Status}
    → ((text : List ℕ) (status : Status) → IsReport words input text status → (ending ≡ status) ⊎ (ending ≡ NoMemory)) → (rule : KeyRule) → Asks words (Get rule)
    → IsAnswerableInput rule input → (ending ≡ Done) ⊎ (ending ≡ NoMemory)
done_surely ends rule asks i = let r = answered_done asks i in ends r.0 Done r.1
