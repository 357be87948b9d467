-- What the rows of a table say.
use Rattle.std.proofs.Common.{◌≡◌, ◌∙◌, ◌⊎◌, inl, inr, ap, sym, ℕ, zero, suc, ◌+◌, ◌-◌, ◌*◌, ◌<◌, ◌≤◌, List, [], ◌∷◌, ◌++◌, Bool, true, length, take, drop, arith, refl}
use Rattle.std.proofs.lemmas.List.{length-append, length-drop, length-map, drop-append-le, take-append-le}
use Rattle.std.proofs.lemmas.Option.{slice_get_within, same_Some}
use Rattle.std.proofs.Math.Seq.{take-length, drop-append_seam}
use Rattle.std.specs.Prelude.{Some, slice_get, slice_range}
use Rattle.sonic_find.proofs.AnswerLemmas.Each.{told_by_slots}
use Rattle.sonic_find.proofs.AnswerLemmas.One.{none_in_empty}
use Rattle.sonic_find.proofs.AnswerLemmas.Walk.{all_kept_from}
use Rattle.sonic_find.specs.Answers.{AllLeadFrom, no_more, one_more}
use Rattle.sonic_find.specs.Internal.Each.{IsTelling, AreTellings}
use Rattle.sonic_find.specs.Internal.Table.{AreFilledFrom, IsAdded, IsItemFrom, FaultsItem}
use Rattle.sonic_find.specs.Internal.Walk.{Findings, AllSettled, root_point, slot_of}
use Rattle.sonic_find.specs.Paths.{Outcome, cut}
use Rattle.sonic_find.specs.Tables.{AreToldFrom, AreRows, HasItemCount, is_empty, has_last, IsTableOf}
use Rattle.sonic_find.specs.declared.outcome.PathOutcome.{PathOutcome}
use Rattle.sonic_find.specs.declared.span.Span.{Span}
use Rattle.sonic_find.specs.declared.table.Table.{Table}
use Rattle.sonic_find.specs.declared.table.TableItem.{TableItem}
use Rattle.sonic_parser.specs.Containers.{IsEnd, IsSeparated, IsSeparatorFault}
use Rattle.sonic_pointer.specs.declared.rule.KeyRule.{KeyRule}
use Rattle.sonic_text.proofs.Items.{head-later}
use Rattle.sonic_text.proofs.Values.{value-longer, value_end_one}
use Rattle.sonic_text.specs.Faults.{IsFault, IsKeyFault, in_key, after_item}
use Rattle.sonic_text.proofs.Places.{space_stays, byte_within}
use Rattle.sonic_text.specs.Paths.{Path}
use Rattle.sonic_text.specs.Places.{byte, after_space}
use Rattle.sonic_text.specs.Strings.{strict}
use Rattle.sonic_text.specs.Values.{opening, IsValue, ItemsFit, filled, empty, next_item}
use Rattle.sonic_text.specs.declared.kind.Kind.{Kind}
use Rattle.sonic_text.specs.declared.kind.Kind.TheVariants.{Array, Object}
use Rattle.sonic_text.specs.declared.stop.Stop.{Stop}

-- where the walk has settled all, the slots tell it
pub filled_from : {rule : KeyRule} {t : List ℕ} {root : ℕ} {paths : List Path} {each : Bool} {f : Findings} → length f.slots ≡ length paths
    → AllSettled (root_point (record { rule = rule; text = t; root = root; paths = paths; each = each; tells = true })) f
    → AreFilledFrom rule t root paths f.slots
filled_from {rule} {t} {root} {paths} {each} long settled =
    let g = all_kept_from rule t root paths each true long settled in
    record { outcomes = g.outcomes; lead = g.lead; none_cut = g.none_cut; told = g.told }

-- of no path there is nothing to tell
pub none_filled : {rule : KeyRule} {t : List ℕ} {root : ℕ} (paths : List Path) (slots : List (PathOutcome Span)) → length slots ≡ length paths → length slots ≡ 0
    → AreFilledFrom rule t root paths slots
none_filled [] [] long none = record { outcomes = []; lead = no_more; none_cut = λ s c. none_in_empty (cut s) c; told = refl }
none_filled [] (x ∷ slots) long none = absurd (omega (arith, none))
none_filled (p ∷ paths) slots long none = absurd (omega (arith, long, none))

-- no slot tells nothing
pub nothing_tells : {V : Type 0} → AreTellings {V = V} [] []
nothing_tells = record { long = refl; each = λ k x y h g. absurd (let w = slice_get_within [] k x h in omega arith) }

-- one slot before others
telling_first : {V : Type 0} {x y : PathOutcome V} {xs ys : List (PathOutcome V)} → IsTelling x y → AreTellings xs ys → AreTellings (x ∷ xs) (y ∷ ys)
telling_first {x = x} {y} {xs} {ys} one all = record { long = ap suc all.long; each = go }
  where
    go : (k : ℕ) (a b : PathOutcome _) → slice_get (x ∷ xs) k ≡ Some a → slice_get (y ∷ ys) k ≡ Some b → IsTelling a b
    go zero a b h g = rw (← same_Some x a h, ← same_Some y b g) one
    go (suc k) a b h g = all.each k a b h g

-- and one behind them
pub telling_more : {V : Type 0} {x y : PathOutcome V} (xs ys : List (PathOutcome V)) → AreTellings xs ys → IsTelling x y → AreTellings (xs ++ x ∷ []) (ys ++ y ∷ [])
telling_more [] [] all one = telling_first one nothing_tells
telling_more (a ∷ xs) (b ∷ ys) all one =
    telling_first (all.each 0 a b refl refl) (telling_more xs ys (record { long = omega (arith, all.long); each = λ k x y h g. all.each (suc k) x y h g }) one)
telling_more [] (b ∷ ys) all one = absurd (omega (arith, all.long))
telling_more (a ∷ xs) [] all one = absurd (omega (arith, all.long))

-- so many rows are no longer than more
times_le : (m n w : ℕ) → m ≤ n → m * w ≤ n * w
times_le zero n w l = omega arith
times_le (suc m) zero w l = absurd (omega (arith, l))
times_le (suc m) (suc n) w l = let rest = times_le m n w (omega (arith, l)) in omega (arith, rest)

-- one more row is so much longer
one_row_more : (n w : ℕ) → (n + 1) * w ≡ n * w + w
one_row_more zero w = omega arith
one_row_more (suc n) w = let rest = one_row_more n w in omega (arith, rest)

-- a row that was there stays
row_before : {X : Type 0} (xs row : List X) (n w : ℕ) → n * w + w ≤ length xs → slice_range (xs ++ row) (n * w) (n * w + w) ≡ slice_range xs (n * w) (n * w + w)
row_before xs row n w l =
    let some : n * w + w - n * w ≤ length (drop (n * w) xs) = (let long = length-drop (n * w) xs in omega (arith, long, l)) in
    ap (take (n * w + w - n * w)) (drop-append-le (n * w) xs row (omega (arith, l))) ∙ take-append-le (n * w + w - n * w) (drop (n * w) xs) row some

-- and the one that was added is the last
row_last : {X : Type 0} (xs row : List X) (n w : ℕ) → length xs ≡ n * w → length row ≡ w → slice_range (xs ++ row) (n * w) (n * w + w) ≡ row
row_last xs row n w long wide =
    let some : n * w + w - n * w ≡ length row = omega (arith, wide) in
    let rest : drop (n * w) (xs ++ row) ≡ row = rw (← long) (drop-append_seam xs row) in
    rw (some, rest) (take-length row)

-- an item of the longer list is one of the shorter one, or the last
pub item_or_last : {X : Type 0} (xs : List X) (x y : X) (k : ℕ) → slice_get (xs ++ x ∷ []) k ≡ Some y → (slice_get xs k ≡ Some y) ⊎ (k ≡ length xs) × (x ≡ y)
item_or_last [] x y zero h = inr (refl, same_Some x y h)
item_or_last [] x y (suc k) h = absurd (let w = slice_get_within [] k _ h in omega arith)
item_or_last (z ∷ xs) x y zero h = inl h
item_or_last (z ∷ xs) x y (suc k) h = elim (item_or_last xs x y k h) [ inl before ↦ inl before | inr last ↦ inr (ap suc last.0, last.1) ]

-- what the slots say of an item, its row does
row_told : {rule : KeyRule} {t : List ℕ} {i : ℕ} {paths : List Path} {slots row : List (PathOutcome Span)} → AreFilledFrom rule t i paths slots → AreTellings slots row
    → AreToldFrom rule t i paths row
row_told {slots = slots} {row} full tell = record { outcomes = full.outcomes; lead = full.lead; told = told_by_slots slots row full.outcomes tell full.told full.none_cut }

-- before the first row there is none
pub no_rows : {rule : KeyRule} {t : List ℕ} {paths : List Path} {kind : Kind} {i : ℕ} {table : Table} → table.items.items ≡ [] → table.outcomes.items ≡ []
    → AreRows rule t paths kind i table
no_rows {table = table} items outcomes = record {
  items = λ n item h. absurd (let w = slice_get_within [] n item (sym (ap (λ xs. slice_get xs n) items) ∙ h) in omega arith);
  rows = λ n item h. absurd (let w = slice_get_within [] n item (sym (ap (λ xs. slice_get xs n) items) ∙ h) in omega arith);
  long = rw (items, outcomes) (omega arith);
}

-- a row more
pub rows_told : {rule : KeyRule} {t : List ℕ} {paths : List Path} {kind : Kind} {i h e : ℕ} {before now : Table} {item : TableItem} (row : List (PathOutcome Span))
    → AreRows rule t paths kind i before → ItemsFit strict t kind i (length before.items.items) h → IsItemFrom t kind h e item
    → AreToldFrom rule t item.value.start paths row → length row ≡ length paths → now.items.items ≡ before.items.items ++ item ∷ []
    → now.outcomes.items ≡ before.outcomes.items ++ row → AreRows rule t paths kind i now
rows_told {rule} {t} {paths} {kind} {i} {h} {e} {before} {now} {item} row rows fit is told wide items outcomes = record {
  items = λ n x there. elim (item_or_last before.items.items item x n (sym (ap (λ xs. slice_get xs n) items) ∙ there)) [
    | inl old ↦ rows.items n x old
    | inr last ↦ rw (last.0, ← last.1) record { place = h; fit = fit; label = is.label; head = is.head; key = is.key; value = is.value }
  ];
  rows = λ n x there. elim (item_or_last before.items.items item x n (sym (ap (λ xs. slice_get xs n) items) ∙ there)) [
    | inl old ↦
        let some = times_le (n + 1) (length before.items.items) (length paths) (omega (arith, slice_get_within before.items.items n x old)) in
        let within : n * length paths + length paths ≤ length before.outcomes.items = omega (arith, some, one_row_more n (length paths), rows.long) in
        rw (outcomes, row_before before.outcomes.items row n (length paths) within) (rows.rows n x old)
    | inr last ↦ rw (last.0, ← last.1, outcomes, row_last before.outcomes.items row (length before.items.items) (length paths) rows.long wide) told
  ];
  long =
      let long = length-append before.outcomes.items row in
      let many = length-append before.items.items (item ∷ []) in
      let more = one_row_more (length before.items.items) (length paths) in
      rw (outcomes, items, long, many, more, rows.long, wide) refl;
}

-- by the slots of an item
pub rows_more : {rule : KeyRule} {t : List ℕ} {paths : List Path} {kind : Kind} {i h e : ℕ} {before now : Table} {item : TableItem} {slots : List (PathOutcome Span)}
    → AreRows rule t paths kind i before → ItemsFit strict t kind i (length before.items.items) h → IsItemFrom t kind h e item
    → AreFilledFrom rule t item.value.start paths slots → length slots ≡ length paths → IsAdded before now item slots → AreRows rule t paths kind i now
rows_more rows fit is full many added = rows_told added.row rows fit is (row_told full added.tell) (added.tell.long ∙ many) added.items added.outcomes

-- after the item the container goes on
pub fit_more : {t : List ℕ} {kind : Kind} {i n m h e p : ℕ} {item : TableItem} → ItemsFit strict t kind i n h → IsItemFrom t kind h e item → IsSeparated t e p → m ≡ n + 1
    → ItemsFit strict t kind i m p
fit_more fit is sep more = next_item fit is.head (rw (← is.ends) is.value) sep.0 sep.1 more

-- or it has ended
pub count_more : {t : List ℕ} {kind : Kind} {i n m h e p : ℕ} {item : TableItem} → ItemsFit strict t kind i n h → IsItemFrom t kind h e item → IsEnd t kind e p → m ≡ n + 1
    → HasItemCount t kind i p m
count_more {t} {kind} {i} {e = e} fit is end more = rw more (has_last {e = e} fit is.head (rw (← is.ends) is.value) end)

-- a container with so many items is a value
pub counted_value : {t : List ℕ} {kind : Kind} {i j n : ℕ} → HasItemCount t kind i j n → IsValue strict t i j
counted_value {kind = kind} (is_empty o end) = empty kind o end.0 end.1
counted_value (has_last fit head value end) = filled fit head value end.0 end.1

-- a bracket is in the text
pub bracket_within : (t : List ℕ) (kind : Kind) (i : ℕ) → byte t i ≡ opening kind → i < length t
bracket_within t Array i o = byte_within t i (λ e. (let clash = sym o ∙ e in absurd cc))
bracket_within t Object i o = byte_within t i (λ e. (let clash = sym o ∙ e in absurd cc))

-- and no white space
pub bracket_here : (t : List ℕ) (kind : Kind) (i : ℕ) → byte t i ≡ opening kind → after_space t i ≡ i
bracket_here t Array i o = space_stays t i (bracket_within t Array i o) (rw o refl)
bracket_here t Object i o = space_stays t i (bracket_within t Object i o) (rw o refl)

-- which ends where it does
pub whole_table : {rule : KeyRule} {t : List ℕ} {paths : List Path} {i j e : ℕ} {table : Table} → IsValue strict t i e → IsTableOf rule t paths (record { start = i; end = j }) table
    → IsTableOf rule t paths (record { start = i; end = e }) table
whole_table value table = record { kind = table.kind; rows = table.rows; all = rw (value_end_one value (counted_value table.all)) table.all }

-- a fault of a key is one of the object
pub key_faults : {t : List ℕ} {kind : Kind} {h : ℕ} {s : Stop} → (kind ≡ Object) × IsKeyFault strict t h s → FaultsItem t kind h s
key_faults f = λ i n fit. in_key (rw f.0 at fit) f.1

-- and one behind an item is one of the container
pub item_faults : {t : List ℕ} {kind : Kind} {i n h e : ℕ} {s : Stop} {item : TableItem} → ItemsFit strict t kind i n h → IsItemFrom t kind h e item
    → IsSeparatorFault t kind e s → IsFault strict t i s
item_faults fit is f = after_item fit is.head (rw (← is.ends) is.value) f.0 f.1

-- there is an outcome for each path
pub lead_long : {r : KeyRule} {t : List ℕ} {i : ℕ} {paths : List Path} {os : List Outcome} → AllLeadFrom r t i paths os → length os ≡ length paths
lead_long no_more = refl
lead_long (one_more leads more) = ap suc (lead_long more)

-- and a slot
pub filled_long : {r : KeyRule} {t : List ℕ} {i : ℕ} {paths : List Path} {slots : List (PathOutcome Span)} → AreFilledFrom r t i paths slots → length slots ≡ length paths
filled_long full = ap length full.told ∙ length-map full.outcomes (slot_of true) ∙ lead_long full.lead

-- the item comes before its end
pub item_longer : {t : List ℕ} {kind : Kind} {h e : ℕ} {item : TableItem} → IsItemFrom t kind h e item → h < e
item_longer is = (let head = head-later is.head in let value = value-longer is.value in let ends = is.ends in omega (arith, head, value, ends))
