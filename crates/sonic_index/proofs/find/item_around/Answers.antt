use Rattle.std.proofs.Common.{◌≡◌, ◌∙◌, List, ℕ, get_or, sym, ap, arith}
use Rattle.std.proofs.lemmas.Option.{get_or_from_slice_get, slice_get-get_or, slice_get_within}
use Rattle.sonic_index.specs.declared.cell.Cell.{Cell}
use Rattle.sonic_index.specs.Internal.Items.{IsUnder}
use Rattle.sonic_index.proofs.ElementLemmas.{held_up}
use Rattle.sonic_index.proofs.PathLemmas.{no_cell}
use Rattle.sonic_index.proofs.find.item_around.Goals as goal

-- the cell that is read at a number
read_here : {cells : List Cell} {i c : ℕ} → (u : IsUnder cells i c) → get_or cells c no_cell ≡ u.inner
read_here {cells} {c = c} u = get_or_from_slice_get cells c u.inner no_cell u.found

pub parents-init : goal.parents-init
parents-init c =
    let u = c.requires.under in
    let start = ap (λ (o : Cell). o.start) (read_here u) in
    let end = ap (λ (o : Cell). o.end) (read_here u) in
    (record { under = u; before = omega (arith, start); after = omega (arith, end) }, omega arith)

pub returns-then-parent-i : goal.returns-then-parent-i
returns-then-parent-i c =
    let v = c.parents.invariant in
    let cells = c.args.cells.now in
    let within = slice_get_within cells c.args.d c.requires.under.inner c.requires.under.found in
    record {
      deep = get_or cells c.args.d no_cell;
      read = slice_get-get_or cells c.args.d no_cell within;
      held = v.0;
      parent = sym (ap (λ (o : Cell). o.parent) (read_here v.0.under)) ∙ c.if-parent-i.true;
      order = v.1;
    }

pub parents-preserved : goal.parents-preserved
parents-preserved c =
    let v = c.parents.invariant in
    let parent = ap (λ (o : Cell). o.parent) (read_here v.0.under) in
    let up = held_up c.requires.parents v.0 (λ e. c.if-parent-i.false (parent ∙ e)) in
    rw parent (up.0, omega (arith, up.1, v.1))
