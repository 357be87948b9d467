use Rattle.std.proofs.Common.{◌≡◌, ◌∙◌, ap, sym, ◌-◌, ◌<◌, ◌++◌, length, take, drop, arith}
use Rattle.std.proofs.lemmas.List.{length-set}
use Rattle.std.proofs.lemmas.Option.{slice_get_within}
use Rattle.sonic_find.proofs.ColumnLemmas.Rows.{rest_first, rest_behind, told_more, blank_more}
use Rattle.sonic_find.proofs.columns.Columns.push_row.Goals as goal
use Rattle.sonic_find.specs.Internal.Columns.{told_before}
use Rattle.sonic_find.specs.declared.outcome.PathOutcome.TheVariants.{Found}
use Rattle.sonic_find.specs.declared.outcome.PathOutcome.{PathOutcome}
use Rattle.sonic_find.specs.declared.span.Span.{Span}
use Rattle.std.proofs.Math.Seq.{take-append_seam}
use Rattle.std.specs.Prelude.{Some, slice_get}

-- what stands for an element that isn't there
abbrev first_place : PathOutcome Span
first_place = Found (record { start = 0; end = 0 })

pub loop-column-preserved : goal.loop-column-preserved
loop-column-preserved c =
    let inv = c.loop-column.invariant in
    let row = c.loop-column.row in
    let long = inv.long in
    let there : c.loop-column.column < length row = omega (arith, c.loop-column-test.true, long, c.as_mut_slice-row.ensures) in
    let within : c.loop-column.column < length c.args.self.now.row.items = omega (arith, there, long) in
    let here = rest_first row c.args.self.now.row.items c.loop-column.column first_place inv.later in
    let told = c.told_before-told.ensures ∙ ap (told_before (c.args.value.end - 1)) here in
    record {
      items = inv.items;
      outcomes = rw (c.in_ok-push-2.ensures.items, told, inv.outcomes) (told_more (told_before (c.args.value.end - 1)) c.args.table.now.outcomes.items c.args.self.now.row.items c.loop-column.column first_place within);
      long = length-set row c.loop-column.column _ ∙ inv.long;
      later = rest_behind row c.args.self.now.row.items c.loop-column.column _ inv.later;
      blank = rw c.none.ensures (blank_more row c.loop-column.column _ there inv.blank);
    }

pub returns-clause-blank : goal.returns-clause-blank
returns-clause-blank c = λ n x there.
    let row = c.loop-column.row in
    let rest = drop (length row) c.args.self.now.row.items in
    let long = c.loop-column.invariant.long in
    let same : c.args.self.now.row.len ≡ length row = omega (arith, long) in
    let whole : take c.args.self.now.row.len (row ++ rest) ≡ row = ap (λ m. take m (row ++ rest)) same ∙ take-append_seam row rest in
    let here : slice_get row n ≡ Some x = sym (ap (λ xs. slice_get xs n) whole) ∙ there in
    let within = slice_get_within row n x here in
    let last = c.loop-column-test.false in
    c.loop-column.invariant.blank n x (omega (arith, within, long, last, c.as_mut_slice-row.ensures.len)) here
