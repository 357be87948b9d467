use Rattle.std.proofs.Common.{sym, ◌∙◌}
use Rattle.sonic_reports.proofs.commands.list.items.Goals as goal

pub returns-in-Array : goal.returns-in-Array
returns-in-Array c = rw (sym c.listed_kind.ensures ∙ c.in-Array.is) c.elements.ensures

pub returns-in-Object : goal.returns-in-Object
returns-in-Object c = rw (sym c.listed_kind.ensures ∙ c.in-Object.is) c.members.ensures
