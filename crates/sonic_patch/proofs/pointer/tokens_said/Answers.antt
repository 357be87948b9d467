use Rattle.std.proofs.Common.{lit<}
use Rattle.std.proofs.lemmas.Result.{IfOk-weaker}
use Rattle.std.proofs.lemmas.Str.Pattern.{strip_prefix_char}
use Rattle.sonic_patch.proofs.PieceLemmas.{after_slash, behind_slash, none_said}
use Rattle.sonic_patch.proofs.pointer.tokens_said.Goals as goal

pub tokens_between-requires : goal.tokens_between-requires
tokens_between-requires c =
    let slash = rw c.in-Some.is at (strip_prefix_char 47 c.args.text.now c.strip_prefix.result c.strip_prefix.ensures.cases (lit< tt)) in
    (c.requires.0, behind_slash c.requires.1 slash)

pub returns-in-Some : goal.returns-in-Some
returns-in-Some c =
    let slash = rw c.in-Some.is at (strip_prefix_char 47 c.args.text.now c.strip_prefix.result c.strip_prefix.ensures.cases (lit< tt)) in
    IfOk-weaker c.tokens_between.result _ _ (λ made are. after_slash slash are) c.tokens_between.ensures

pub returns-in-None : goal.returns-in-None
returns-in-None c =
    let none = rw c.in-None.is at (strip_prefix_char 47 c.args.text.now c.strip_prefix.result c.strip_prefix.ensures.cases (lit< tt)) in
    rw c.new.ensures.items (none_said c.requires.1 none)
