use Rattle.std.proofs.Common.{refl}
use Rattle.sonic_find.proofs.cursor.Cursor.enter.Goals as goal
use Rattle.sonic_text.specs.Values.{first_item}

pub returns-clause-item : goal.returns-clause-item
returns-clause-item c = λ e.
    let entered = c.enter.ensures.item e in
    let bracket = rw (← c.self.view_is) at c.requires in
    rw (← c.self.view_is) (first_item bracket entered.value_start entered.item refl)
