use Rattle.std.proofs.Common.{inl, inr}
use Rattle.sonic_text.specs.Strings.{strict}
use Rattle.sonic_text.specs.Values.{IsValue}
use Rattle.sonic_text.proofs.Stops.{fault_not}
use Rattle.sonic_text.proofs.Values.{value_never_both}
use Rattle.sonic_stream.specs.Streams.{start_of}
use Rattle.sonic_stream.proofs.StreamLemmas.{skipped_from, fault_shown}
use Rattle.sonic_stream.proofs.stream.RecordStream.find_record.Goals as goal

pub returns-in-Ok-clause-start : goal.returns-in-Ok-clause-start
returns-in-Ok-clause-start c =
    let start = skipped_from c.in-Ok.ensures.ok in
    rw c.offset-end.ensures.place (rw (c.parser-parser.ensures.text, c.parser-parser.ensures.place) at start)

pub returns-in-Ok-clause-value : goal.returns-in-Ok-clause-value
returns-in-Ok-clause-value c =
    let is = c.parser-parser.ensures in
    let value : IsValue strict c.args.self.now.held (start_of c.args.self.now) c.skip_one.new.self.place = rw (is.text, is.place, is.strict) at c.in-Ok.ensures.ok.value in
    rw (returns-in-Ok-clause-start c, c.offset-end.ensures.place) value

pub returns-clause-none : goal.returns-clause-none
returns-clause-none c = λ m j v.
    let is = c.parser-parser.ensures in
    let code = c.code.ensures in
    elim c.in-Err.ensures.err [
      | inl x ↦ value_never_both v (rw (is.text, is.place, is.strict) at x.fault)
      | inr x ↦ (let none = x.error.code in absurd (m cc))
    ]

pub returns-clause-fault : goal.returns-clause-fault
returns-clause-fault c = λ n m.
    let is = c.parser-parser.ensures in
    let code = c.code.ensures in
    elim c.in-Err.ensures.err [
      | inl x ↦ rw (c.offset.ensures, code) (rw (is.text, is.place, is.strict) at (fault_shown x.fault x.error (rw code at n)))
      | inr x ↦ (let none = x.error.code in absurd (m cc))
    ]

pub returns-clause-memory : goal.returns-clause-memory
returns-clause-memory c = λ m.
    let is = c.parser-parser.ensures in
    let code = c.code.ensures in
    elim c.in-Err.ensures.err [
      | inl x ↦ absurd (fault_not x.fault (let shown = x.error.code in cc))
      | inr x ↦ rw (is.text, is.place) at x.container
    ]
