use Rattle.sonic_find.proofs.table.rows.Goals as goal
use Rattle.std.proofs.Common.{◌∙◌, ◌++◌, ◌-◌, ℕ, zero, suc, List, [], take, arith}
use Rattle.std.specs.Prelude.{replicate, vec_len}
use Rattle.std.proofs.lemmas.Result.{err_from_is_err_and}
use Rattle.sonic_find.proofs.AnswerLemmas.Walk.{no_escapes, no_value}
use Rattle.sonic_find.proofs.ColumnLemmas.Table.{for_text}
use Rattle.sonic_find.proofs.MarkLemmas.Kept.{keeps_by}
use Rattle.sonic_find.proofs.TableLemmas.Rows.{bracket_here, bracket_within, counted_value}
use Rattle.sonic_find.specs.Found.{FlagEscapes}

-- slots of which nothing is known hold no value
fresh_slots : (t : List ℕ) (n m : ℕ) → FlagEscapes t (take n [] ++ replicate m no_value)
fresh_slots t zero m = no_escapes t m
fresh_slots t (suc n) m = no_escapes t m

pub set_index-requires : goal.set_index-requires
set_index-requires c = (let l = bracket_within c.args.read.text c.args.container.kind c.args.container.start c.requires in omega (arith, l))

pub new-requires : goal.new-requires
new-requires c = record {
  escaped = rw (c.in_ok-resize.ensures.items, c.new-slots.ensures.items, c.none.ensures)
      (fresh_slots c.set_index.new.self.text c.size.result (c.size.result - vec_len c.new-slots.result));
}

pub add_rows-requires-clause-bracket : goal.add_rows-requires-clause-bracket
add_rows-requires-clause-bracket c =
    let walk = c.in_ok-walk.ensures in
    rw (walk.place, walk.text, c.set_index.ensures, bracket_here c.args.read.text c.args.container.kind c.args.container.start c.requires) c.requires

pub add_rows-requires-clause-marks : goal.add_rows-requires-clause-marks
add_rows-requires-clause-marks c =
    keeps_by c.args.rule c.in_ok-walk.ensures.rule
    (λ other. record {
      unmixed = rw c.view-view.ensures.paths c.view-view.ensures.unmixed;
      one = c.prefixes.ensures.one;
      long = c.in_ok-walk.ensures.marked other ∙ c.prefixes.ensures.count;
      before = λ n m h. (let none = c.in_ok-walk.ensures.unmarked n m h in omega (arith, none));
    })

pub returns-in_err-add_rows-clause-err : goal.returns-in_err-add_rows-clause-err
returns-in_err-add_rows-clause-err c =
    let p = err_from_is_err_and c.from_residual-in_err-add_rows.result c.from_residual-in_err-add_rows.ensures.1 in
    let walk = c.in_ok-walk.ensures in
    rw (p.1, p.2) (rw (walk.place, walk.text, c.set_index.ensures, bracket_here c.args.read.text c.args.container.kind c.args.container.start c.requires) at c.in_err-add_rows.ensures.err)

pub returns-clause-table : goal.returns-clause-table
returns-clause-table c =
    let walk = c.in_ok-walk.ensures in
    let table = rw (walk.place, walk.text, walk.rule, c.view-view.ensures.paths, c.set_index.ensures, bracket_here c.args.read.text c.args.container.kind c.args.container.start c.requires) at c.in_ok-add_rows.ensures.ok in
    rw c.place.ensures.place table

pub returns-clause-value : goal.returns-clause-value
returns-clause-value c =
    let walk = c.in_ok-walk.ensures in
    let table = rw (walk.place, walk.text, walk.rule, c.view-view.ensures.paths, c.set_index.ensures, bracket_here c.args.read.text c.args.container.kind c.args.container.start c.requires) at c.in_ok-add_rows.ensures.ok in
    rw c.place.ensures.place (counted_value table.all)

pub add_rows-requires-clause-columns : goal.add_rows-requires-clause-columns
add_rows-requires-clause-columns c =
    rw (c.in_ok-walk.ensures.rule) (for_text c.args.rule c.view-view.result.paths c.in_ok-columns.columns c.in_ok-walk.walk.text c.in_ok-columns.ensures)
