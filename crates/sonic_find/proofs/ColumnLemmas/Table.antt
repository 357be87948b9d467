-- The rows of a table, one after the other.
use Rattle.std.proofs.Common.{◌≡◌, ◌∙◌, ap, sym, ℕ, suc, ◌-◌, List, [], ◌∷◌, ◌++◌, length, map, arith, refl}
use Rattle.std.proofs.lemmas.List.{length-append, length-map}
use Rattle.std.specs.Prelude.{Option, Some, None, slice_get, IfSome}
use Rattle.sonic_find.proofs.TableLemmas.Rows.{rows_told, fit_more, count_more}
use Rattle.sonic_find.specs.Answers.{no_more, one_more}
use Rattle.sonic_find.specs.Internal.Columns.{key_path, keys_of, told_before, AreFor, AreKnown, AreReady, HasRows, HasRowsUpTo, IsBlank, IsInObject, IsObjectRow}
use Rattle.sonic_find.specs.Internal.Table.{IsItemFrom}
use Rattle.sonic_find.specs.Outcomes.{all_told, one_told, told_found, told_missing, IsTold}
use Rattle.sonic_find.specs.Paths.{Outcome, found, lacks, EvaluatesBy}
use Rattle.sonic_find.specs.Tables.{no_key, AreToldFrom, IsTableOf}
use Rattle.sonic_find.specs.declared.columns.Columns.{Columns}
use Rattle.sonic_find.specs.declared.outcome.PathOutcome.{PathOutcome}
use Rattle.sonic_find.specs.declared.outcome.PathOutcome.TheVariants.{Found, Missing, Fails}
use Rattle.sonic_find.specs.declared.span.Span.{Span}
use Rattle.sonic_find.specs.declared.table.Table.{Table}
use Rattle.sonic_find.specs.declared.table.TableItem.{TableItem}
use Rattle.sonic_parser.specs.Containers.{IsEnd, IsSeparated}
use Rattle.sonic_pointer.specs.declared.rule.KeyRule.{KeyRule}
use Rattle.sonic_pointer.specs.declared.rule.KeyRule.TheVariants.{First}
use Rattle.sonic_text.specs.Paths.{Path}
use Rattle.sonic_text.specs.Values.{no_head}
use Rattle.sonic_text.specs.declared.kind.Kind.{Kind}
use Rattle.sonic_text.specs.declared.kind.Kind.TheVariants.{Array}

-- a column tells the outcome of its path
column_told : (t : List ℕ) (i j : ℕ) (k : List ℕ) (x : PathOutcome Span) → IsInObject t i j k x
    → (o : Outcome) × EvaluatesBy First t i (key_path k) o × IsTold o (told_before (j - 1) x)
column_told t i j k (Found y) is = (found y.start y.end, is, told_found)
column_told t i j k (Missing q) is = (lacks (j - 1), is, told_missing)
column_told t i j k (Fails s) is = absurd is

-- and so do all
columns_told : (t : List ℕ) (i j : ℕ) (keys : List (List ℕ)) (row : List (PathOutcome Span)) → length row ≡ length keys
    → ((c : ℕ) (k : List ℕ) (x : PathOutcome Span) → slice_get keys c ≡ Some k → slice_get row c ≡ Some x → IsInObject t i j k x)
    → AreToldFrom First t i (map key_path keys) (map (told_before (j - 1)) row)
columns_told t i j [] [] long each = record { outcomes = []; lead = no_more; told = all_told }
columns_told t i j (k ∷ keys) (x ∷ row) long each =
    let one = column_told t i j k x (each 0 k x refl refl) in
    let rest = columns_told t i j keys row (omega (arith, long)) (λ c. each (suc c)) in
    record { outcomes = one.0 ∷ rest.outcomes; lead = one_more one.1 rest.lead; told = one_told one.2 rest.told }
columns_told t i j [] (x ∷ row) long each = absurd (omega (arith, long))
columns_told t i j (k ∷ keys) [] long each = absurd (omega (arith, long))

-- one more row of an array
pub row_more : {t : List ℕ} {i place end : ℕ} {paths : List Path} {before now : Table} (keys : List (List ℕ)) (row : List (PathOutcome Span))
    → HasRows First t paths Array i before place → IsObjectRow t place keys row end → map key_path keys ≡ paths → length row ≡ length keys
    → now.items.items ≡ before.items.items ++ record { key = None; value = record { start = place; end = end } } ∷ []
    → now.outcomes.items ≡ before.outcomes.items ++ map (told_before (end - 1)) row → HasRowsUpTo First t paths Array i now end
row_more {t} {i} {place} {end} {paths} {before} {now} keys row rows is same long items outcomes =
    let item : TableItem = record { key = None; value = record { start = place; end = end } } in
    let from : IsItemFrom t Array place end item = record { label = None; head = no_head refl; key = no_key; value = is.value; ends = refl } in
    let told = columns_told t place end keys row long is.each in
    let wide : length (map (told_before (end - 1)) row) ≡ length paths = length-map row (told_before (end - 1)) ∙ long ∙ sym (length-map keys key_path) ∙ ap length same in
    record {
      n = length before.items.items;
      many = ap length items ∙ length-append before.items.items (item ∷ []);
      h = place;
      fit = rows.fit;
      item = item;
      is = from;
      rows = rows_told (map (told_before (end - 1)) row) rows.rows rows.fit from (rw (← same) told) wide items outcomes;
    }

-- the container goes on behind it
pub rows_next : {r : KeyRule} {t : List ℕ} {paths : List Path} {kind : Kind} {i e p : ℕ} {table : Table} → HasRowsUpTo r t paths kind i table e → IsSeparated t e p
    → HasRows r t paths kind i table p
rows_next rows next = record { fit = fit_more rows.fit rows.is next rows.many; rows = rows.rows }

-- or it has ended
pub rows_end : {r : KeyRule} {t : List ℕ} {paths : List Path} {kind : Kind} {i e j : ℕ} {table : Table} → HasRowsUpTo r t paths kind i table e → IsEnd t kind e j
    → IsTableOf r t paths (record { start = i; end = j }) table
rows_end {kind = kind} rows end = record { kind = kind; rows = rows.rows; all = count_more rows.fit rows.is end rows.many }

-- the columns are ready for the next item
pub ready_next : {t : List ℕ} {before now : Columns} → keys_of now ≡ keys_of before → length now.row.items ≡ length before.row.items → AreReady t before → IsBlank now.row.items
    → AreKnown t (keys_of before) now.known.items → AreReady t now
ready_next same long ready blank known = record { long = long ∙ ready.long ∙ ap length (sym same); blank = blank; known = rw same known }

-- columns for each text are so for one
pub for_text : (r : KeyRule) (paths : List Path) (columns : Option Columns) (t : List ℕ) → IfSome columns (λ x. (u : List ℕ) → AreFor r u paths x) → IfSome columns (AreFor r t paths)
for_text r paths None t all = tt
for_text r paths (Some x) t all = all t
