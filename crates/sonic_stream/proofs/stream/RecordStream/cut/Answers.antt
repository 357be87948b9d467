use Rattle.std.proofs.Common.{◌≡◌, true, inl, refl}
use Rattle.sonic_stream.specs.Streams.IsNextRecord.{needs_more, cut, end}
use Rattle.sonic_stream.proofs.stream.RecordStream.cut.Goals as goal

pub returns-then-not-self : goal.returns-then-not-self
returns-then-not-self c = needs_more (rw (← c.self.view_is) c.if-not-self.true) (λ j r. c.requires.none j r.value) (inl c.requires.goes_on) refl

pub returns-then-is_over : goal.returns-then-is_over
returns-then-is_over c = end (rw (← c.self.view_is) c.if-not-self.false) (c.if-is_over.ensures.yes refl) refl

pub returns : goal.returns
returns c =
    let ended : c.args.self.now.is_ended ≡ true = rw (← c.self.view_is) c.if-not-self.false in
    cut ended (λ j r. c.requires.none j r.value) c.requires.goes_on (c.if-is_over.ensures.no refl) (rw (c.held.ensures, ← c.self.view_is) refl)
