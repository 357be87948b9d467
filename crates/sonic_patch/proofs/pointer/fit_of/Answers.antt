use Rattle.std.proofs.Common.{lit<, arith, ◌≡◌, ◌≢◌, length}
use Rattle.std.proofs.lemmas.Bool.Decides.{nat_tests}
use Rattle.std.proofs.lemmas.Str.Pattern.{strip_prefix_char}
use Rattle.sonic_patch.proofs.PieceLemmas.{empty_fits, other_start, few_fit, many_never_fit, none_behind}
use Rattle.sonic_patch.proofs.pointer.fit_of.Goals as goal

pub returns-then-is_empty : goal.returns-then-is_empty
returns-then-is_empty c =
    let none : length c.args.text.now ≡ 0 = grind (arith, nat_tests, c.is_empty.ensures, c.if-is_empty.true) in
    empty_fits c.args.text.now none

pub returns-else-is_empty : goal.returns-else-is_empty
returns-else-is_empty c =
    let none = rw c.in_default.is at (strip_prefix_char 47 c.args.text.now c.strip_prefix.result c.strip_prefix.ensures.cases (lit< tt)) in
    let some : length c.args.text.now ≢ 0 = grind (arith, nat_tests, c.is_empty.ensures, c.if-is_empty.false) in
    λ x. other_start some none x.1

pub returns-in-Some-token_count : goal.returns-in-Some-token_count
returns-in-Some-token_count c =
    let slash = rw c.in-Some.is at (strip_prefix_char 47 c.args.text.now c.strip_prefix.result c.strip_prefix.ensures.cases (lit< tt)) in
    many_never_fit slash (rw c.in-Some-token_count.is at c.token_count.ensures.some) (omega arith)

pub returns-in-Some-2 : goal.returns-in-Some-2
returns-in-Some-2 c =
    let slash = rw c.in-Some.is at (strip_prefix_char 47 c.args.text.now c.strip_prefix.result c.strip_prefix.ensures.cases (lit< tt)) in
    few_fit slash (rw c.in-Some-token_count.is at c.token_count.ensures.some) (omega arith)

pub returns-in-None : goal.returns-in-None
returns-in-None c =
    let slash = rw c.in-Some.is at (strip_prefix_char 47 c.args.text.now c.strip_prefix.result c.strip_prefix.ensures.cases (lit< tt)) in
    none_behind slash (c.token_count.ensures.none c.in-None.is)
