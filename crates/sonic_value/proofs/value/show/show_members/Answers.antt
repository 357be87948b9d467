use Rattle.std.proofs.Common.{rules, arith, ◌≡◌, ap, sym, None}
use Rattle.std.proofs.Output.{has_written_append, has_written_of_eq}
use Rattle.std.specs.Fmt.{HasWritten}
use Rattle.sonic_owned.proofs.UnwrittenLemmas.{up_to, up_to_more, up_to_within}
use Rattle.sonic_text.specs.Quoting.{quoted}
use Rattle.sonic_value.proofs.OpenTextLemmas.{comma_written, object_ends, member_begun, member_size, no_comma}
use Rattle.sonic_value.proofs.value.show.show_members.Goals as goal
use Rattle.sonic_value.proofs.value.show.show_members.Goals.{then-position-gt0+in_ok-write_str, else-position-gt0}
use Rattle.sonic_value.specs.Internal.OpenTexts.{before_item}

pub returns-in-Some-clause-text : goal.returns-in-Some-clause-text
returns-in-Some-clause-text g c = λ p.
    let ms = c.args.members.now.items in
    let n = c.members.position in
    let i = c.members.invariant.text p in
    let x : HasWritten g.W.Write.write_str_gives c.members.f (before_item n) c.if-position-gt0.f = elim c.if-position-gt0.branch [
      | then-position-gt0+in_ok-write_str w ↦ rw w.f-is (comma_written n (omega (arith, w.if-position-gt0.true)) (w.write_str.ensures.writes i.has.plain (search rules)))
      | else-position-gt0 w ↦ rw w.f-is (no_comma n (omega (arith, w.if-position-gt0.false)) i.has.plain)
    ] in
    let y = has_written_of_eq _ _ _ _ _ (ap quoted c.as_str.ensures.value) (c.write_quoted.ensures x.plain (search rules)) in
    let z = c.write_str-in-members.ensures.writes y.plain (search rules) in
    let has = has_written_append _ _ _ _ _ _ x (has_written_append _ _ _ _ _ _ y z) in
    let m = member_begun ms n c.index.result.now (omega (arith, c.members-test.true, c.len.ensures, c.args.members.now.ok.0)) c.index.ensures i has in
    up_to_within _ m (rw c.in-Some.is at c.in_ok-inner.ensures.text m.has.plain)

pub members-preserved : goal.members-preserved
members-preserved g c =
    let ms = c.args.members.now.items in
    let n = c.members.position in
    record {
      text = λ p.
          let i = c.members.invariant.text p in
          let x : HasWritten g.W.Write.write_str_gives c.members.f (before_item n) c.if-position-gt0.f = elim c.if-position-gt0.branch [
            | then-position-gt0+in_ok-write_str w ↦ rw w.f-is (comma_written n (omega (arith, w.if-position-gt0.true)) (w.write_str.ensures.writes i.has.plain (search rules)))
            | else-position-gt0 w ↦ rw w.f-is (no_comma n (omega (arith, w.if-position-gt0.false)) i.has.plain)
          ] in
          let y = has_written_of_eq _ _ _ _ _ (ap quoted c.as_str.ensures.value) (c.write_quoted.ensures x.plain (search rules)) in
          let z = c.write_str-in-members.ensures.writes y.plain (search rules) in
          let has = has_written_append _ _ _ _ _ _ x (has_written_append _ _ _ _ _ _ y z) in
          let m = member_begun ms n c.index.result.now (omega (arith, c.members-test.true, c.len.ensures, c.args.members.now.ok.0)) c.index.ensures i has in
          let none : c.in_ok-inner.field-0 ≡ None = search rules in
          up_to_within _ m (rw none at c.in_ok-inner.ensures.text m.has.plain);
      less = omega (arith, c.members.invariant.less, member_size ms n c.index.result.now (omega (arith, c.members-test.true, c.len.ensures, c.args.members.now.ok.0)) c.index.ensures);
    }

pub returns-clause-text : goal.returns-clause-text
returns-clause-text g c = λ p.
    let i = c.members.invariant.text p in
    let end = object_ends c.args.members.now.items c.members.position (omega (arith, c.members-test.false, c.len.ensures, c.args.members.now.ok.0)) in
    up_to_more i (up_to (c.write_str-2.ensures.writes i.has.plain (search rules)) (sym end))
