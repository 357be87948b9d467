-- What the loop knows that goes through a value from left to right: invariants, on which no public clause rests.
use Rattle.std.specs.Prelude.{◌≡◌, ◌↔◌, ℕ, ◌<◌, ◌≤◌, Bool, List, length, IsTrue}
use Rattle.sonic_text.specs.declared.kind.Kind.{Kind}
use Rattle.sonic_text.specs.declared.kind.Kind.TheVariants.{Object}
use Rattle.sonic_text.specs.declared.stop.Stop.{Stop}
use Rattle.sonic_text.specs.Strings.{IsEscapedString}
use Rattle.sonic_text.specs.Values.{closing, IsValue, ItemsFit}
use Rattle.sonic_text.specs.Faults.{IsKeyFault, NothingFits}
use Rattle.sonic_parser.specs.declared.begin.ValueStart.{ValueStart}
use Rattle.sonic_parser.specs.declared.begin.ValueStart.TheVariants.{Complete, Inside}
use Rattle.sonic_parser.specs.declared.quick.Peek.{Peek}
use Rattle.sonic_parser.specs.declared.container.AfterItem.TheVariants.{Item}
use Rattle.sonic_parser.specs.declared.quick.Peek.TheVariants.{Value, AfterItem, Inside as Within, Other}
use Rattle.sonic_parser.specs.declared.skip.Reached.{Reached}
use Rattle.sonic_parser.specs.declared.skip.Reached.TheVariants.{Expected, Ended, Closed}
use Rattle.sonic_parser.specs.declared.value_span.ValueSpan.{ValueSpan}
use Rattle.sonic_parser.specs.Parts.{IsAfterValue, IsValueEnd}
use Rattle.sonic_parser.specs.OpenContainers.{IsItemExpected, IsItemEnded, IsTop}

-- the value at i was read, and this is where it is
pub record IsComplete (m : Bool) (t : List ℕ) (i : ℕ) (x : ValueSpan) : Type 0 where
  pub start : x.start ≡ i
  pub later : i < x.end
  pub within : x.end ≤ length t
  pub value : IsValue m t i x.end
  pub escaped : IsTrue x.escaped ↔ IsEscapedString t i x.end

-- the value at i was read, or it is a container whose first item is expected
abbrev pub IsBegun : Bool → List ℕ → ℕ → ValueStart → Type 0
IsBegun m t i (Complete x) = IsComplete m t i x
IsBegun m t i (Inside kind h) = (i < h) × (h ≤ length t) × ItemsFit m t kind i 0 h

-- or it isn't there, for this reason
abbrev pub IsItemFault : Bool → List ℕ → Kind → ℕ → Stop → Type 0
IsItemFault m t kind h s = (kind ≡ Object) × IsKeyFault m t h s

-- the items of the containers inside the value at i fit so far, with these still open: up to an item that is expected, to the end of one that nothing
-- follows, or to the end of the value at i
abbrev pub IsReached : Bool → List ℕ → ℕ → List Kind → Reached → Type 0
IsReached m t i kinds (Expected h) = (h ≤ length t) × IsItemExpected m t i kinds h
IsReached m t i kinds (Ended e) = IsItemEnded m t i kinds e × ((kind : Kind) → IsTop kinds kind → NothingFits t e (closing kind))
IsReached m t i kinds (Closed j) = (j ≤ length t) × IsValue m t i j

-- items of a container of this kind fit from p up to q: where one of the innermost container is expected at p and all before fits, so it is at q
abbrev pub AreItemsPassed : Kind → List ℕ → ℕ → ℕ → Type 0
AreItemsPassed kind t p q =
    (m : Bool) (root : ℕ) (kinds : List Kind) → IsTop kinds kind → IsReached m t root kinds (Expected p) → IsReached m t root kinds (Expected q)

-- unless the outermost container ended, one is open
abbrev pub IsOngoing : ℕ → Reached → Type 0
IsOngoing depth (Expected h) = 0 < depth
IsOngoing depth (Ended e) = 0 < depth
IsOngoing depth (Closed j) = Unit {0}

-- the place up to which they fit
abbrev pub place_of : Reached → ℕ
place_of (Expected h) = h
place_of (Ended e) = e
place_of (Closed j) = j

-- what is at the place i of a value: a value, perhaps with the next item expected after it, or a container whose first item is expected, or nothing is known
abbrev pub IsAhead : Bool → List ℕ → ℕ → Peek → Type 0
IsAhead m t i (Value e) = IsValueEnd m t i e
IsAhead m t i (AfterItem h) = (e : ℕ) × IsValueEnd m t i e × ((kind : Kind) → IsAfterValue t kind e (Item h))
IsAhead m t i (Within kind h) = (i < h) × (h ≤ length t) × ItemsFit m t kind i 0 h
IsAhead m t i Other = Unit {0}
