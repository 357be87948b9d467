-- What is known while a table is filled, one row at a time.
use Rattle.std.specs.Prelude.{◌≡◌, ℕ, ◌≤◌, Bool, true, List, [], ◌∷◌, ◌++◌, length, map}
use Rattle.std.specs.declared.option.Option.{Option}
use Rattle.sonic_text.specs.declared.kind.Kind.{Kind}
use Rattle.sonic_text.specs.declared.stop.Stop.{Stop}
use Rattle.sonic_text.specs.Paths.{Path}
use Rattle.sonic_text.specs.Strings.{strict}
use Rattle.sonic_text.specs.Places.{byte, after_space}
use Rattle.sonic_text.specs.Values.{opening, ItemHead, IsValue, ItemsFit}
use Rattle.sonic_text.specs.Faults.{IsFault}
use Rattle.sonic_pointer.specs.declared.rule.KeyRule.{KeyRule}
use Rattle.sonic_pointer.specs.declared.rule.KeyRule.TheVariants.{First}
use Rattle.sonic_find.specs.Answers.{AllLeadFrom, NoneCut}
use Rattle.sonic_find.specs.Internal.Each.{AreTellings}
use Rattle.sonic_find.specs.Internal.Follow.{IsRest}
use Rattle.sonic_find.specs.Internal.Walk.{slot_of}
use Rattle.sonic_find.specs.Outcomes.{outcomes, IsEachAnswerBy}
use Rattle.sonic_find.specs.Paths.{Outcome}
use Rattle.sonic_find.specs.Tables.{IsKeySpan, IsNoTable}
use Rattle.sonic_find.specs.declared.outcome.PathOutcome.{PathOutcome}
use Rattle.sonic_find.specs.declared.outcome.PathOutcome.TheVariants.{Found}
use Rattle.sonic_find.specs.declared.span.Span.{Span}
use Rattle.sonic_find.specs.declared.table.Container.{Container}
use Rattle.sonic_find.specs.declared.table.Table.{Table}
use Rattle.sonic_find.specs.declared.table.TableItem.{TableItem}

-- each slot tells where its path leads from the place i, and none is cut
pub record AreFilledFrom (r : KeyRule) (t : List ℕ) (i : ℕ) (paths : List Path) (slots : List (PathOutcome Span)) : Type 0 where
  pub outcomes : List Outcome
  pub lead : AllLeadFrom r t i paths outcomes
  pub none_cut : NoneCut outcomes
  pub told : slots ≡ map (slot_of true) outcomes

-- the item of this kind that was expected at h was passed, up to its end e
pub record IsItemFrom (t : List ℕ) (kind : Kind) (h e : ℕ) (item : TableItem) : Type 0 where
  pub label : Option (List ℕ)
  pub head : ItemHead strict t kind h item.value.start label
  pub key : IsKeySpan t h label item.key
  pub value : IsValue strict t item.value.start item.value.end
  pub ends : item.value.end ≡ e

-- what comes before the value of the item that was expected at h was passed, up to the value's place v
pub record IsHeadFrom (t : List ℕ) (kind : Kind) (h v : ℕ) (key : Option Span) : Type 0 where
  pub label : Option (List ℕ)
  pub head : ItemHead strict t kind h v label
  pub span : IsKeySpan t h label key

-- each container of this kind of which an item is expected at h has this fault
abbrev pub FaultsItem : List ℕ → Kind → ℕ → Stop → Type 0
FaultsItem t kind h s = (i n : ℕ) → ItemsFit strict t kind i n h → IsFault strict t i s

-- a row was added, which tells what these slots do
pub record IsAdded (before now : Table) (item : TableItem) (slots : List (PathOutcome Span)) : Type 0 where
  pub items : now.items.items ≡ before.items.items ++ item ∷ []
  pub row : List (PathOutcome Span)
  pub outcomes : now.outcomes.items ≡ before.outcomes.items ++ row
  pub tell : AreTellings slots row

-- a path leads to this container
pub record IsContainerAt (r : KeyRule) (t : List ℕ) (is_bytes : Bool) (path : Path) (x : Container) : Type 0 where
  pub end : ℕ
  pub leads : IsEachAnswerBy r t is_bytes (path ∷ []) (outcomes (Found (record { start = x.start; end = end }) ∷ []))
  pub opens : byte t x.start ≡ opening x.kind

-- what this container comes to, the path does by the first of equal keys
pub record IsUnread (t : List ℕ) (path : Path) (x : Container) : Type 0 where
  pub leads : IsRest First t (after_space t 0) path x.start []
  pub opens : byte t x.start ≡ opening x.kind

-- a path leads to none, for this reason, whose place lies within the text
pub record IsTableStop (r : KeyRule) (t : List ℕ) (is_bytes : Bool) (path : Path) (s : Stop) : Type 0 where
  pub none : IsNoTable r t is_bytes path s
  pub within : s.place ≤ length t
