-- Tables: for each item of a container, what each path of a list is told of where it leads inside that item.
use Rattle.std.specs.Prelude.{◌≡◌, ◌≢◌, ℕ, ◌+◌, ◌*◌, ◌-◌, Bool, List, [], ◌∷◌, length, slice_get, slice_range}
use Rattle.std.specs.declared.option.Option.{Option}
use Rattle.std.specs.declared.option.Option.TheVariants.{Some, None}
use Rattle.sonic_error.specs.Errors.{IsErrorAt, IsPlainError}
use Rattle.sonic_error.specs.declared.code.ErrorCode.TheVariants.{Message, GetUnknownKeyInObject, NoMemory}
use Rattle.sonic_error.specs.declared.error.Error.{Error}
use Rattle.sonic_error.specs.declared.json_type.Note.TheVariants.{Mismatch}
use Rattle.sonic_error.specs.declared.json_type.Wanted.TheVariants.{Array as WantedArray}
use Rattle.sonic_text.specs.declared.kind.Kind.{Kind}
use Rattle.sonic_text.specs.declared.stop.Stop.{Stop}
use Rattle.sonic_text.specs.Paths.{Path}
use Rattle.sonic_text.specs.Places.{byte}
use Rattle.sonic_text.specs.Strings.{strict, IsString}
use Rattle.sonic_text.specs.Values.{opening, type_at, ItemHead, IsValue, ItemsFit}
use Rattle.sonic_parser.specs.Containers.{IsEnd}
use Rattle.sonic_pointer.specs.declared.rule.KeyRule.{KeyRule}
use Rattle.sonic_find.specs.Answers.{AllLeadFrom}
use Rattle.sonic_find.specs.Outcomes.{AreTold, EachAnswer, outcomes, IsEachAnswerBy}
use Rattle.sonic_find.specs.Paths.{Outcome}
use Rattle.sonic_find.specs.declared.outcome.PathOutcome.{PathOutcome}
use Rattle.sonic_find.specs.declared.outcome.PathOutcome.TheVariants.{Found, Missing, Fails}
use Rattle.sonic_find.specs.declared.span.Span.{Span}
use Rattle.sonic_find.specs.declared.table.Table.{Table}
use Rattle.sonic_find.specs.declared.table.TableItem.{TableItem}

-- what each path is told of where it leads from the value at i
pub record AreToldFrom (r : KeyRule) (t : List ℕ) (i : ℕ) (paths : List Path) (row : List (PathOutcome Span)) : Type 0 where
  pub outcomes : List Outcome
  pub lead : AllLeadFrom r t i paths outcomes
  pub told : AreTold outcomes row

-- the span of the key with this label, which begins at h, quotes included; an element has none
pub data IsKeySpan (t : List ℕ) (h : ℕ) : Option (List ℕ) → Option Span → Type 0 where
  no_key : IsKeySpan t h None None
  key_there : {label : List ℕ} {x : Span} → x.start ≡ h → IsString strict t h x.end label → IsKeySpan t h (Some label) (Some x)

-- the n-th item of the container of this kind at i: the spans of its key and of its value
pub record IsItemOf (t : List ℕ) (kind : Kind) (i n : ℕ) (item : TableItem) : Type 0 where
  pub place : ℕ
  pub fit : ItemsFit strict t kind i n place
  pub label : Option (List ℕ)
  pub head : ItemHead strict t kind place item.value.start label
  pub key : IsKeySpan t place label item.key
  pub value : IsValue strict t item.value.start item.value.end

-- the outcomes of the row with this number, of a table for so many paths
abbrev pub row_of : ℕ → List (PathOutcome Span) → ℕ → List (PathOutcome Span)
row_of paths xs n = slice_range xs (n * paths) (n * paths + paths)

-- the first items of the container of this kind at i, in order, and what each path is told inside each
pub record AreRows (r : KeyRule) (t : List ℕ) (paths : List Path) (kind : Kind) (i : ℕ) (table : Table) : Type 0 where
  pub items : (n : ℕ) (item : TableItem) → slice_get table.items.items n ≡ Some item → IsItemOf t kind i n item
  pub rows : (n : ℕ) (item : TableItem) → slice_get table.items.items n ≡ Some item
      → AreToldFrom r t item.value.start paths (row_of (length paths) table.outcomes.items n)
  pub long : length table.outcomes.items ≡ length table.items.items * length paths

-- the container of this kind from i to j has so many items
pub data HasItemCount (t : List ℕ) (kind : Kind) (i j : ℕ) : ℕ → Type 0 where
  is_empty : byte t i ≡ opening kind → IsEnd t kind (i + 1) j → HasItemCount t kind i j 0
  has_last : {n h v e : ℕ} {label : Option (List ℕ)} → ItemsFit strict t kind i n h → ItemHead strict t kind h v label → IsValue strict t v e → IsEnd t kind e j
      → HasItemCount t kind i j (n + 1)

-- the table of a container: a row for each of its items
pub record IsTableOf (r : KeyRule) (t : List ℕ) (paths : List Path) (container : Span) (table : Table) : Type 0 where
  pub kind : Kind
  pub rows : AreRows r t paths kind container.start table
  pub all : HasItemCount t kind container.start container.end (length table.items.items)

-- the table of the container to which a path leads
pub record IsTable (r : KeyRule) (t : List ℕ) (is_bytes : Bool) (path : Path) (paths : List Path) (table : Table) : Type 0 where
  pub container : Span
  pub leads : IsEachAnswerBy r t is_bytes (path ∷ []) (outcomes (Found container ∷ []))
  pub is : IsTableOf r t paths container table

-- the path leads to a container
pub record HasTable (r : KeyRule) (t : List ℕ) (is_bytes : Bool) (path : Path) : Type 0 where
  pub container : Span
  pub leads : IsEachAnswerBy r t is_bytes (path ∷ []) (outcomes (Found container ∷ []))
  pub kind : Kind
  pub opens : byte t container.start ≡ opening kind

-- why a path leads to no container: what it is told alone, or that it leads to a value of another type, at whose last byte that is reported
pub data IsNoTable (r : KeyRule) (t : List ℕ) (is_bytes : Bool) (path : Path) (s : Stop) : Type 0 where
  has_error : IsEachAnswerBy r t is_bytes (path ∷ []) (EachAnswer.error s) → IsNoTable r t is_bytes path s
  is_missing : {q : ℕ} → IsEachAnswerBy r t is_bytes (path ∷ []) (outcomes (Missing q ∷ [])) → s ≡ record { place = q; code = GetUnknownKeyInObject }
      → IsNoTable r t is_bytes path s
  has_failed : IsEachAnswerBy r t is_bytes (path ∷ []) (outcomes (Fails s ∷ [])) → IsNoTable r t is_bytes path s
  is_scalar : {x : Span} → IsEachAnswerBy r t is_bytes (path ∷ []) (outcomes (Found x ∷ [])) → ((kind : Kind) → byte t x.start ≢ opening kind)
      → s ≡ record { place = x.end - 1; code = Message (Mismatch (type_at t x.start) WantedArray) } → IsNoTable r t is_bytes path s

-- there is no memory, or the error says why the path leads to no container
pub data IsTableRefusal (r : KeyRule) (t : List ℕ) (is_bytes : Bool) (path : Path) (e : Error) : Type 0 where
  table_out_of_memory : IsPlainError e NoMemory → IsTableRefusal r t is_bytes path e
  table_refused : (s : Stop) → IsNoTable r t is_bytes path s → IsErrorAt e s.code t s.place → IsTableRefusal r t is_bytes path e
