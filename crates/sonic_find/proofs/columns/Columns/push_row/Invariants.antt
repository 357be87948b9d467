use Rattle.std.proofs.Common.{◌≡◌, ◌++◌, ◌<◌, ℕ, length, map, take, drop}
use Rattle.std.specs.Prelude.{Some, slice_get}
use Rattle.sonic_find.specs.Internal.Columns.{told_before}
use Rattle.sonic_find.specs.declared.outcome.PathOutcome.{PathOutcome}
use Rattle.sonic_find.specs.declared.outcome.PathOutcome.TheVariants.{Missing}
use Rattle.sonic_find.specs.declared.span.Span.{Span}
use Rattle.sonic_find.proofs.columns.Columns.push_row.Given as goal

abbrev pub invariant-loop-column : goal.invariant-loop-column
invariant-loop-column l = record {
  items : l.table.items ≡ l.initial.table.items;
  outcomes : l.table.outcomes.items ≡ l.fn.table.outcomes.items ++ map (told_before l.brace) (take l.column l.fn.self.row.items);
  long : length l.row ≡ length l.fn.self.row.items;
  later : drop l.column l.row ≡ drop l.column l.fn.self.row.items;
  blank : (n : ℕ) (x : PathOutcome Span) → n < l.column → slice_get l.row n ≡ Some x → x ≡ Missing 0;
}
