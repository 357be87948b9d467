use Rattle.std.proofs.Common.{Some, sym, ap, ◌∙◌, arith}
use Rattle.std.proofs.lemmas.Option.{IfSome_then}
use Rattle.sonic_text.specs.Paths.{key}
use Rattle.sonic_text.proofs.Strings.{chars_later}
use Rattle.sonic_pointer.proofs.TargetLemmas.{IfNone_then, plain_key}
use Rattle.sonic_pointer.proofs.view.TreeView.of_plain_key.Goals as goal

pub slice_bounds-of_bytes-count : goal.slice_bounds-of_bytes-count
slice_bounds-of_bytes-count c = let s = c.requires.string.1 in omega (arith, chars_later s.chars, s.end)

pub slice_bounds-of_bytes-start : goal.slice_bounds-of_bytes-start
slice_bounds-of_bytes-start c = let s = c.requires.string.1 in omega (arith, chars_later s.chars, s.end)

pub returns-clause-some : goal.returns-clause-some
returns-clause-some c =
    IfSome_then c.of_bytes.result c.of_bytes.ensures.some (λ i h b s. h ∙ ap (λ bytes. Some (key bytes)) (sym (plain_key s c.requires.plain)))

pub returns-clause-none : goal.returns-clause-none
returns-clause-none c = IfNone_then c.of_bytes.result c.of_bytes.ensures.none (λ h b s. rw (plain_key s c.requires.plain) h)
