use Rattle.sonic_find.proofs.many_unchecked.Origin.child.Goals as goal
use Rattle.std.proofs.Common.{◌≡◌, ◌-◌, ap, sym}
use Rattle.sonic_find.specs.declared.many_unchecked.Origin.{Origin}
use Rattle.sonic_text.proofs.Values.{value_starts}

pub lead_on-requires : goal.lead_on-requires
lead_on-requires c = λ e. rw (c.unchecked-cursor.ensures, c.read.ensures.text, c.read.ensures.place, value_starts c.requires.1) c.requires

pub returns-in-Ok-true-clause-text : goal.returns-in-Ok-true-clause-text
returns-in-Ok-true-clause-text c = λ x e.
    let same : record { text = c.args.self.text; place = c.place-place.result } ≡ x = cc in
    ap (λ (y : Origin). y.text.now) (sym same)

pub returns-in-Ok-true-clause-leads : goal.returns-in-Ok-true-clause-leads
returns-in-Ok-true-clause-leads c = λ x e.
    let leads = rw (c.unchecked-cursor.ensures, c.read.ensures.text, c.read.ensures.place, value_starts c.requires.1) at (c.in-Ok-true.ensures.leads c.in-Ok-true.field-0-test) in
    let same : record { text = c.args.self.text; place = c.place-place.result } ≡ x = cc in
    let place : c.place-place.result ≡ x.place = ap (λ (y : Origin). y.place) same in
    rw (← place, c.place-place.ensures.place) leads

pub returns-in-Ok-false-clause-lacks : goal.returns-in-Ok-false-clause-lacks
returns-in-Ok-false-clause-lacks c = λ q e.
    let lacks = rw (c.unchecked-cursor.ensures, c.read.ensures.text, c.read.ensures.place, value_starts c.requires.1) at (c.in-Ok-false.ensures.lacks c.in-Ok-false.field-0-test) in
    let same : c.place.result - 1 ≡ q = cc in
    rw (← same, c.place.ensures.place) lacks.1

pub returns-in-Err-At-clause-fails : goal.returns-in-Err-At-clause-fails
returns-in-Err-At-clause-fails c = λ s e.
    let dead = rw c.in-Err-At.field-0-is at c.in-Err-At.ensures.err in
    let same : c.in-Err-At.stop ≡ s = cc in
    rw (← same) (rw (c.unchecked-cursor.ensures, c.read.ensures.text, c.read.ensures.place, value_starts c.requires.1) at dead)
