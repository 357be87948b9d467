-- What is known while the items of a table are looked at quickly, by the keys that they have.
use Rattle.std.specs.Prelude.{◌≡◌, ◌≢◌, ℕ, ◌+◌, ◌-◌, ◌≤◌, List, [], ◌∷◌, length, map, slice_get}
use Rattle.std.specs.declared.option.Option.{Option}
use Rattle.std.specs.declared.option.Option.TheVariants.{Some}
use Rattle.sonic_text.specs.declared.kind.Kind.{Kind}
use Rattle.sonic_text.specs.declared.kind.Kind.TheVariants.{Object}
use Rattle.sonic_text.specs.Paths.{Path, key}
use Rattle.sonic_text.specs.Places.{byte}
use Rattle.sonic_text.specs.Strings.{strict, IsString}
use Rattle.sonic_text.specs.Values.{IsKey, IsValue, ItemsFit}
use Rattle.sonic_pointer.specs.declared.rule.KeyRule.{KeyRule}
use Rattle.sonic_pointer.specs.declared.rule.KeyRule.TheVariants.{First}
use Rattle.sonic_find.specs.Internal.Table.{IsItemFrom}
use Rattle.sonic_find.specs.Paths.{found, lacks, NoneNamed, LeadsOn, EvaluatesBy}
use Rattle.sonic_find.specs.Tables.{AreRows}
use Rattle.sonic_find.specs.declared.columns.Columns.{Columns}
use Rattle.sonic_find.specs.declared.columns.KnownKey.{KnownKey}
use Rattle.sonic_find.specs.declared.outcome.PathOutcome.{PathOutcome}
use Rattle.sonic_find.specs.declared.outcome.PathOutcome.TheVariants.{Found, Missing, Fails}
use Rattle.sonic_find.specs.declared.span.Span.{Span}
use Rattle.sonic_find.specs.declared.table.Table.{Table}
use Rattle.sonic_find.specs.declared.table.TableItem.{TableItem}

-- the path of one key
abbrev pub key_path : List ℕ → Path
key_path k = key k ∷ []

-- where a key is known of a path, the path is this key
abbrev pub AreKeysOf : {K : Type 0} → (K → List ℕ) → List Path → List (Option K) → Type 0
AreKeysOf {K} text paths keys = (n : ℕ) (k : K) → slice_get keys n ≡ Some (Some k) → slice_get paths n ≡ Some (key_path (text k))

-- at i is a key of so many bytes, with the colon directly behind it, for the column with this number and for no other
pub record IsColumnKey (t : List ℕ) (keys : List (List ℕ)) (i long column : ℕ) : Type 0 where
  pub label : List ℕ
  pub end : ℕ
  pub ends : i + long ≡ end + 1
  pub short : long ≤ 34
  pub string : IsString strict t i end label
  pub colon : byte t end ≡ 58
  pub same : (k : List ℕ) → slice_get keys column ≡ Some k → k ≡ label
  pub other : (n : ℕ) (k : List ℕ) → slice_get keys n ≡ Some k → n ≢ column → k ≢ label

-- a key that is known is one of the text
pub record IsKnown (t : List ℕ) (keys : List (List ℕ)) (x : KnownKey) : Type 0 where
  pub ahead : x.start + 128 ≤ length t
  pub is : IsColumnKey t keys x.start x.length x.column

-- and so are all that are
abbrev pub AreKnown : List ℕ → List (List ℕ) → List KnownKey → Type 0
AreKnown t keys known = (n : ℕ) (x : KnownKey) → slice_get known n ≡ Some x → IsKnown t keys x

-- of no column anything is known
abbrev pub IsBlank : List (PathOutcome Span) → Type 0
IsBlank row = (n : ℕ) (x : PathOutcome Span) → slice_get row n ≡ Some x → x ≡ Missing 0

-- the bytes of the keys of the columns
abbrev pub keys_of : Columns → List (List ℕ)
keys_of columns = map (λ k. k.now) columns.keys.items

-- before an item is looked at: there is a column for each key, and of none anything is known
pub record AreReady (t : List ℕ) (columns : Columns) : Type 0 where
  pub long : length columns.row.items ≡ length (keys_of columns)
  pub blank : IsBlank columns.row.items
  pub known : AreKnown t (keys_of columns) columns.known.items

-- they are the columns of these paths, of which the first of equal keys counts
pub record AreFor (r : KeyRule) (t : List ℕ) (paths : List Path) (columns : Columns) : Type 0 where
  pub first : r ≡ First
  pub keys : map key_path (keys_of columns) ≡ paths
  pub ready : AreReady t columns

-- what a column has among the first n members of the object at i, of which the next is expected at h
abbrev pub IsSoFar : List ℕ → ℕ → ℕ → ℕ → List ℕ → PathOutcome Span → Type 0
IsSoFar t i n h k (Found x) = LeadsOn t i (key k) x.start × IsValue strict t x.start x.end
IsSoFar t i n h k (Missing q) = NoneNamed t i Object n h (key k)
IsSoFar t i n h k (Fails s) = ⊥

-- what a column has, with a further value: the first that it had
abbrev pub kept_by : Span → PathOutcome Span → PathOutcome Span
kept_by value (Found x) = Found x
kept_by value (Missing q) = Found value
kept_by value (Fails s) = Fails s

-- a value was kept for the column with this number, if it had none
pub record IsKept (before : List (PathOutcome Span)) (column : ℕ) (value : Span) (now : List (PathOutcome Span)) : Type 0 where
  pub long : length now ≡ length before
  pub other : (c : ℕ) → c ≢ column → slice_get now c ≡ slice_get before c
  pub same : (x : PathOutcome Span) → slice_get before column ≡ Some x → slice_get now column ≡ Some (kept_by value x)

-- some members of the object at i fit up to h, and the row is what the columns have among them
pub record HasMembers (t : List ℕ) (i : ℕ) (keys : List (List ℕ)) (row : List (PathOutcome Span)) (h : ℕ) : Type 0 where
  pub n : ℕ
  pub fit : ItemsFit strict t Object i n h
  pub each : (c : ℕ) (k : List ℕ) (x : PathOutcome Span) → slice_get keys c ≡ Some k → slice_get row c ≡ Some x → IsSoFar t i n h k x

-- what a column has when the member with this label was passed, which was expected at h behind n others, whatever comes next
abbrev pub IsPast : List ℕ → ℕ → ℕ → ℕ → List ℕ → List ℕ → PathOutcome Span → Type 0
IsPast t i n h label k (Found x) = LeadsOn t i (key k) x.start × IsValue strict t x.start x.end
IsPast t i n h label k (Missing q) = NoneNamed t i Object n h (key k) × (k ≢ label)
IsPast t i n h label k (Fails s) = ⊥

-- some members of the object at i fit up to the value of the last one, which ends at e, and the row is what the columns have among them
pub record HasMembersUpTo (t : List ℕ) (i : ℕ) (keys : List (List ℕ)) (row : List (PathOutcome Span)) (e : ℕ) : Type 0 where
  pub n : ℕ
  pub h : ℕ
  pub v : ℕ
  pub label : List ℕ
  pub fit : ItemsFit strict t Object i n h
  pub at : IsKey strict t h v label
  pub value : IsValue strict t v e
  pub each : (c : ℕ) (k : List ℕ) (x : PathOutcome Span) → slice_get keys c ≡ Some k → slice_get row c ≡ Some x → IsPast t i n h label k x

-- what a column has in the object from i to j
abbrev pub IsInObject : List ℕ → ℕ → ℕ → List ℕ → PathOutcome Span → Type 0
IsInObject t i j k (Found x) = EvaluatesBy First t i (key_path k) (found x.start x.end)
IsInObject t i j k (Missing q) = EvaluatesBy First t i (key_path k) (lacks (j - 1))
IsInObject t i j k (Fails s) = ⊥

-- the row is what the columns have in the object from i to j
pub record IsObjectRow (t : List ℕ) (i : ℕ) (keys : List (List ℕ)) (row : List (PathOutcome Span)) (j : ℕ) : Type 0 where
  pub value : IsValue strict t i j
  pub within : j ≤ length t
  pub each : (c : ℕ) (k : List ℕ) (x : PathOutcome Span) → slice_get keys c ≡ Some k → slice_get row c ≡ Some x → IsInObject t i j k x

-- what is told of it, where the closing brace is at q
abbrev pub told_before : ℕ → PathOutcome Span → PathOutcome Span
told_before q (Found x) = Found x
told_before q (Missing p) = Missing q
told_before q (Fails s) = Missing q

-- the table has a row for each of the first items of the container of this kind at i, of which the next is expected at h
pub record HasRows (r : KeyRule) (t : List ℕ) (paths : List Path) (kind : Kind) (i : ℕ) (table : Table) (h : ℕ) : Type 0 where
  pub fit : ItemsFit strict t kind i (length table.items.items) h
  pub rows : AreRows r t paths kind i table

-- and for the item that ends at e
pub record HasRowsUpTo (r : KeyRule) (t : List ℕ) (paths : List Path) (kind : Kind) (i : ℕ) (table : Table) (e : ℕ) : Type 0 where
  pub n : ℕ
  pub many : length table.items.items ≡ n + 1
  pub h : ℕ
  pub fit : ItemsFit strict t kind i n h
  pub item : TableItem
  pub is : IsItemFrom t kind h e item
  pub rows : AreRows r t paths kind i table
