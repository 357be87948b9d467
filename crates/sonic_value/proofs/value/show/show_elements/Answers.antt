use Rattle.std.proofs.Common.{rules, arith, ◌≡◌, sym, None}
use Rattle.std.specs.Fmt.{HasWritten}
use Rattle.sonic_owned.proofs.UnwrittenLemmas.{up_to, up_to_more, up_to_within}
use Rattle.sonic_value.proofs.OpenTextLemmas.{array_ends, comma_written, element_begun, element_size, no_comma}
use Rattle.sonic_value.proofs.value.show.show_elements.Goals as goal
use Rattle.sonic_value.proofs.value.show.show_elements.Goals.{then-position-gt0+in_ok-write_str, else-position-gt0}
use Rattle.sonic_value.specs.Internal.OpenTexts.{before_item}

pub returns-in-Some-clause-text : goal.returns-in-Some-clause-text
returns-in-Some-clause-text g c = λ p.
    let vs = c.args.elements.now.items in
    let n = c.elements.position in
    let i = c.elements.invariant.text p in
    let x : HasWritten g.W.Write.write_str_gives c.elements.f (before_item n) c.if-position-gt0.f = elim c.if-position-gt0.branch [
      | then-position-gt0+in_ok-write_str w ↦ rw w.f-is (comma_written n (omega (arith, w.if-position-gt0.true)) (w.write_str.ensures.writes i.has.plain (search rules)))
      | else-position-gt0 w ↦ rw w.f-is (no_comma n (omega (arith, w.if-position-gt0.false)) i.has.plain)
    ] in
    let y = element_begun vs n c.index-element.result.now (omega (arith, c.elements-test.true, c.len.ensures, c.args.elements.now.ok.0)) c.index-element.ensures i x in
    up_to_within _ y (rw c.in-Some.is at c.in_ok-inner.ensures.text y.has.plain)

pub elements-preserved : goal.elements-preserved
elements-preserved g c =
    let vs = c.args.elements.now.items in
    let n = c.elements.position in
    let v = c.index-element.result.now in
    record {
      text = λ p.
          let i = c.elements.invariant.text p in
          let x : HasWritten g.W.Write.write_str_gives c.elements.f (before_item n) c.if-position-gt0.f = elim c.if-position-gt0.branch [
            | then-position-gt0+in_ok-write_str w ↦ rw w.f-is (comma_written n (omega (arith, w.if-position-gt0.true)) (w.write_str.ensures.writes i.has.plain (search rules)))
            | else-position-gt0 w ↦ rw w.f-is (no_comma n (omega (arith, w.if-position-gt0.false)) i.has.plain)
          ] in
          let y = element_begun vs n v (omega (arith, c.elements-test.true, c.len.ensures, c.args.elements.now.ok.0)) c.index-element.ensures i x in
          let none : c.in_ok-inner.field-0 ≡ None = search rules in
          up_to_within _ y (rw none at c.in_ok-inner.ensures.text y.has.plain);
      less = omega (arith, c.elements.invariant.less, element_size vs n v (omega (arith, c.elements-test.true, c.len.ensures, c.args.elements.now.ok.0)) c.index-element.ensures);
    }

pub returns-clause-text : goal.returns-clause-text
returns-clause-text g c = λ p.
    let i = c.elements.invariant.text p in
    let end = array_ends c.args.elements.now.items c.elements.position (omega (arith, c.elements-test.false, c.len.ensures, c.args.elements.now.ok.0)) in
    up_to_more i (up_to (c.write_str-2.ensures.writes i.has.plain (search rules)) (sym end))
