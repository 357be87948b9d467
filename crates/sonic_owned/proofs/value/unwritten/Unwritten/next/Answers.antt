use Rattle.std.proofs.Common.{rules, arith, ◌≡◌, ◌∙◌, ap, sym, [], ◌∷◌, ◌++◌}
use Rattle.std.proofs.Output.{has_written_append, has_written_of_eq}
use Rattle.sonic_owned.proofs.UnwrittenLemmas.{member_begun, up_to}
use Rattle.sonic_owned.specs.Internal.Unwritten.{comma, left_text}
use Rattle.sonic_owned.proofs.Folds.{members_of}
use Rattle.sonic_owned.specs.Forms.{members_text, named}
use Rattle.sonic_text.specs.Quoting.{quoted}
use Rattle.sonic_owned.proofs.value.unwritten.Unwritten.next.Goals as goal
use Rattle.sonic_owned.proofs.value.unwritten.Unwritten.next.Goals.{then-more, else-more}

pub returns-in_ok-write_str-in-Members-len1-up-default-default-2-clause-text : goal.returns-in_ok-write_str-in-Members-len1-up-default-default-2-clause-text
unfolding lib.Utf8.encode
returns-in_ok-write_str-in-Members-len1-up-default-default-2-clause-text g c = λ p.
    let ms = c.in-Members-len1-up-default-default.field-0.now in
    let x = c.write_str-in-Members-len1-up-default-default.ensures.writes p (search rules) in
    let y = has_written_of_eq _ _ _ _ _ (ap quoted c.as_str.ensures) (c.write_quoted.ensures x.plain (search rules)) in
    let z = c.write_str-in-Members-len1-up-default-default-2.ensures.writes y.plain (search rules) in
    let more : c.if-more.write_str.now ≡ comma c.in-Members-len1-up-default-default.more = elim c.if-more.branch [ then-more w ↦ search rules | else-more w ↦ search rules ] in
    let has = has_written_append _ _ _ _ _ _ x (has_written_append _ _ _ _ _ _ y z) in
    let one = member_begun c.if-more.write_str.now ms c.index-key-0.result c.index-value-0.result (omega (arith, c.in-Members-len1-up-default-default.len_at_least)) in
    up_to has (one ∙ ap (λ b. members_text b (named (members_of ms)) ++ 125 ∷ []) more ∙ ap left_text (sym c.in-Members-len1-up-default-default.is))
