-- A walk through a value, from part to part.
use Rattle.std.specs.Prelude.{◌≡◌, ℕ, ◌-◌, ◌<◌, Bool, true, false, List, [], ◌∷◌, ◌++◌, Option, Some, None, length, take}
use Rattle.sonic_text.specs.declared.kind.Kind.{Kind}
use Rattle.sonic_text.specs.declared.kind.Kind.TheVariants.{Array, Object}
use Rattle.sonic_text.specs.declared.stop.Stop.{Stop}
use Rattle.sonic_text.specs.Faults.{IsFault, IsKeyFault}
use Rattle.sonic_text.specs.Values.{IsValue, ItemsFit}
use Rattle.sonic_parser.specs.declared.descent.Step.{Step}
use Rattle.sonic_parser.specs.declared.value_span.ValueSpan.{ValueSpan}
use Rattle.sonic_parser.specs.declared.descent.Step.TheVariants.{Passed, Entered}
use Rattle.sonic_parser.specs.Containers.{IsEnd, IsSeparated, IsSeparatorFault}
use Rattle.sonic_parser.specs.ValueSpans.{IsKeyAt}
use Rattle.sonic_parser.specs.OpenContainers.{IsOpen, IsItemExpected, IsItemEnded, IsTop}

-- a text, the place in it that is read next, how strings are read, and the kinds of the containers that are open, the outermost first
pub record DescentState : Type 0 where
  pub text : List ℕ
  pub place : ℕ
  pub lossy : Bool
  pub opened : List Kind

-- only these of a walk were changed
abbrev pub IsMoved : DescentState → DescentState → Type 0
IsMoved before now = now ≡ record before { place = now.place; opened = now.opened }

-- the value at the place was passed, or it is a container that was entered, and its first item is expected at the place now
abbrev pub IsDescentStep : DescentState → DescentState → Step → Type 0
IsDescentStep before now Passed = (now.opened ≡ before.opened) × IsValue before.lossy before.text before.place now.place
IsDescentStep before now (Entered kind) = (now.opened ≡ before.opened ++ kind ∷ []) × ItemsFit before.lossy before.text kind before.place 0 now.place

-- of the item of this kind that is expected at the place what comes before the value was passed: nothing, or a key with its colon
abbrev pub IsHeadPassed : Kind → DescentState → DescentState → Option ValueSpan → Type 0
IsHeadPassed Array before now None = now.place ≡ before.place
IsHeadPassed Object before now (Some key) = IsKeyAt before.lossy before.text before.place key now.place
IsHeadPassed kind before now key = ⊥

-- another item of the innermost container, which is of this kind, is expected at the place now, or the container was closed
abbrev pub IsNextOrClosed : Kind → DescentState → DescentState → Bool → Type 0
IsNextOrClosed kind before now true = (now.opened ≡ before.opened) × IsSeparated before.text before.place now.place
IsNextOrClosed kind before now false = (now.opened ≡ take (length before.opened - 1) before.opened) × IsEnd before.text kind before.place now.place

-- in the value at i the walk has come to a value that is expected
abbrev pub IsAtValue : ℕ → DescentState → Type 0
IsAtValue i walk = IsOpen walk.lossy walk.text i walk.place walk.opened

-- or to an item
abbrev pub IsAtItem : ℕ → DescentState → Type 0
IsAtItem i walk = IsItemExpected walk.lossy walk.text i walk.opened walk.place

-- or to the end of an item's value, or, where no container is open, to its own end
pub record IsAtEnd (i : ℕ) (walk : DescentState) : Type 0 where
  pub item : 0 < length walk.opened → IsItemEnded walk.lossy walk.text i walk.opened walk.place
  pub whole : length walk.opened ≡ 0 → IsValue walk.lossy walk.text i walk.place

-- so it has after a step
abbrev pub IsAfterStep : ℕ → DescentState → Step → Type 0
IsAfterStep i walk Passed = IsAtEnd i walk
IsAfterStep i walk (Entered kind) = IsAtItem i walk

-- and after it went on
abbrev pub IsAfterNext : ℕ → DescentState → Bool → Type 0
IsAfterNext i walk true = IsAtItem i walk
IsAfterNext i walk false = IsAtEnd i walk

-- what each step of a walk says of the value at i, which is walked through
pub record KeepsTo (i : ℕ) (before now : DescentState) : Type 0 where
  pub value : (step : Step) → IsAtValue i before → IsDescentStep before now step → IsAfterStep i now step
  pub head : (kind : Kind) (key : Option ValueSpan) → IsTop before.opened kind → IsAtItem i before → now.opened ≡ before.opened → IsHeadPassed kind before now key → IsAtValue i now
  pub next : (kind : Kind) (more : Bool) → 0 < length before.opened → IsTop before.opened kind → IsAtEnd i before → IsNextOrClosed kind before now more → IsAfterNext i now more

-- and what each fault says of it
pub record FailsAs (i : ℕ) (walk : DescentState) (s : Stop) : Type 0 where
  pub value : IsAtValue i walk → IsFault walk.lossy walk.text walk.place s → IsFault walk.lossy walk.text i s
  pub head : IsAtItem i walk → IsTop walk.opened Object → IsKeyFault walk.lossy walk.text walk.place s → IsFault walk.lossy walk.text i s
  pub next : (kind : Kind) → 0 < length walk.opened → IsTop walk.opened kind → IsAtEnd i walk → IsSeparatorFault walk.text kind walk.place s → IsFault walk.lossy walk.text i s
