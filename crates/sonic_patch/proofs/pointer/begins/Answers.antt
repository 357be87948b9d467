use Rattle.std.proofs.Common.{lit<}
use Rattle.std.proofs.lemmas.Str.Pattern.{split_parts, strip_prefix_char}
use Rattle.sonic_patch.proofs.EscapeLemmas.{plain_token, slash_at, tilde_at, bad_at}
use Rattle.sonic_patch.proofs.pointer.begins.Goals as goal

pub returns-in_default : goal.returns-in_default
returns-in_default c = plain_token c.args.rest.now (rw c.in_default.is at (split_parts 126 c.args.rest.now c.split_once.result c.split_once.ensures.cases (lit< tt)))

pub returns-in-Some-strip_prefix : goal.returns-in-Some-strip_prefix
returns-in-Some-strip_prefix c =
    let parts = rw c.in-Some.is at (split_parts 126 c.args.rest.now c.split_once.result c.split_once.ensures.cases (lit< tt)) in
    let one = rw c.in-Some-strip_prefix.is at (strip_prefix_char 49 c.in-Some.behind.now c.strip_prefix.result c.strip_prefix.ensures.cases (lit< tt)) in
    slash_at parts.0 parts.1 one

pub returns-in-Some-strip_prefix-2 : goal.returns-in-Some-strip_prefix-2
returns-in-Some-strip_prefix-2 c =
    let parts = rw c.in-Some.is at (split_parts 126 c.args.rest.now c.split_once.result c.split_once.ensures.cases (lit< tt)) in
    let zero = rw c.in-Some-strip_prefix-2.is at (strip_prefix_char 48 c.in-Some.behind.now c.strip_prefix-2.result c.strip_prefix-2.ensures.cases (lit< tt)) in
    tilde_at parts.0 parts.1 zero

pub returns-in-None : goal.returns-in-None
returns-in-None c =
    let parts = rw c.in-Some.is at (split_parts 126 c.args.rest.now c.split_once.result c.split_once.ensures.cases (lit< tt)) in
    let one = rw c.in_default-strip_prefix.is at (strip_prefix_char 49 c.in-Some.behind.now c.strip_prefix.result c.strip_prefix.ensures.cases (lit< tt)) in
    let zero = rw c.in-None.is at (strip_prefix_char 48 c.in-Some.behind.now c.strip_prefix-2.result c.strip_prefix-2.ensures.cases (lit< tt)) in
    bad_at c.in-Some.plain.now parts.0 parts.1 one zero
