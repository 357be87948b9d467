-- What a step of a walk says of the value that is walked through.
use Rattle.std.proofs.Common.{◌≡◌, ◌≢◌, ◌∙◌, true, false, sym, ap, ℕ, ◌+◌, ◌-◌, ◌<◌, Bool, List, [], ◌∷◌, ◌++◌, length, take, arith, refl}
use Rattle.std.proofs.lemmas.List.Sums.{prefix_len-drop_no}
use Rattle.std.specs.Prelude.{Option, Some, None}
use Rattle.sonic_text.specs.declared.kind.Kind.{Kind}
use Rattle.sonic_text.specs.declared.kind.Kind.TheVariants.{Array, Object}
use Rattle.sonic_text.specs.declared.stop.Stop.{Stop}
use Rattle.sonic_parser.specs.declared.value_span.ValueSpan.{ValueSpan}
use Rattle.sonic_parser.specs.declared.descent.Step.{Step}
use Rattle.sonic_parser.specs.declared.descent.Step.TheVariants.{Passed, Entered}
use Rattle.sonic_text.specs.Places.{byte, after_space, is_space}
use Rattle.sonic_text.specs.Values.{opening, closing, ItemHead, no_head, key_head, IsValue, ItemsFit, first_item, next_item}
use Rattle.sonic_text.proofs.Items.{closing_not_end, opening_one}
use Rattle.sonic_text.proofs.Places.{after_space_later, byte_within}
use Rattle.sonic_text.proofs.Within.{value_within}
use Rattle.sonic_parser.specs.declared.container.AfterItem.TheVariants.{End}
use Rattle.sonic_parser.specs.Containers.{IsEnd, IsSeparated}
use Rattle.sonic_parser.specs.Descents.{DescentState, IsAtValue, IsAtItem, IsAtEnd, IsDescentStep, IsAfterStep, IsHeadPassed, IsNextOrClosed, IsAfterNext, IsMoved, KeepsTo, FailsAs}
use Rattle.sonic_parser.specs.Parsers.{IsFilledContainer}
use Rattle.sonic_parser.specs.OpenContainers.{IsOpen, inside, IsItemExpected, IsItemEnded, IsTop}
use Rattle.sonic_parser.proofs.SkippingLemmas.{IsClosed, closed_all, closed_more, fault_after, fault_item, fault_up, last_ended, top}
use Rattle.sonic_parser.specs.Parts.{IsAfterValue}

-- the innermost part is whole: the value of an item ended, or the whole value
closed_at : {m : Bool} {t : List ℕ} {i j : ℕ} {kinds : List Kind} → IsClosed m t i kinds j → IsAtEnd i (record { text = t; place = j; lossy = m; opened = kinds })
closed_at c = record { item = λ some. closed_more c (λ e. omega arith); whole = λ none. (closed_all c none).1 }

-- after a value that was passed
pub passed_at : {m : Bool} {t : List ℕ} {i p e : ℕ} {kinds : List Kind} → IsOpen m t i p kinds → IsValue m t p e
    → IsAtEnd i (record { text = t; place = e; lossy = m; opened = kinds })
passed_at {p = p} o x = closed_at (record { p = p; around = o; value = x; within = value_within x })

-- in a container that was entered
pub entered_at : {m : Bool} {t : List ℕ} {i p h : ℕ} {kinds : List Kind} {kind : Kind} → IsOpen m t i p kinds → ItemsFit m t kind p 0 h
    → IsItemExpected m t i (kinds ++ kind ∷ []) h
entered_at {p = p} {kinds = kinds} {kind} o is = record { kind = kind; p = p; n = 0; outer = kinds; around = o; fit = is; kinds_are = refl }

-- at the value of an item
pub head_at : {m : Bool} {t : List ℕ} {i h v : ℕ} {kinds : List Kind} {kind : Kind} {l : Option (List ℕ)} → IsTop kinds kind → IsItemExpected m t i kinds h
    → ItemHead m t kind h v l → IsOpen m t i v kinds
head_at {m} {t} {h = h} {v} {kinds} {kind} {l} last d y =
    let z : ItemHead m t d.kind h v l = rw (top kinds d.outer d.kind kind d.kinds_are last) y in
    inside d.around d.fit z d.kinds_are

-- at the next item
pub separated_at : {m : Bool} {t : List ℕ} {i e h : ℕ} {kinds : List Kind} → IsItemEnded m t i kinds e → IsSeparated t e h → IsItemExpected m t i kinds h
separated_at x b =
    let d = x.item in
    record { kind = d.kind; p = d.p; n = d.n + 1; outer = d.outer; around = d.around; fit = next_item d.fit x.head x.value b.0 b.1 refl; kinds_are = d.kinds_are }

-- after a container
pub ended_at : {m : Bool} {t : List ℕ} {i e j : ℕ} {kinds : List Kind} {kind : Kind} → IsTop kinds kind → IsItemEnded m t i kinds e → IsEnd t kind e j
    → IsAtEnd i (record { text = t; place = j; lossy = m; opened = take (length kinds - 1) kinds })
ended_at {t = t} {e = e} {j} {kind = kind} last x b =
    let later = after_space_later t e in
    let within : after_space t e < length t = byte_within t (after_space t e) (λ z. closing_not_end kind (omega (arith, b.0, z))) in
    let n : IsAfterValue t kind e (End j) = (omega (arith, b.1), omega (arith, b.1), b) in
    closed_at (last_ended x last n refl)

-- what begins after a container's bracket
pub items_begin : {m : Bool} {t : List ℕ} {kind : Kind} {i h : ℕ} → byte t i ≡ opening kind → h ≡ after_space t (i + 1) → byte t h ≢ closing kind → ItemsFit m t kind i 0 h
items_begin b e d = first_item b e d refl

-- after an array's bracket another one opens
pub nested_begins : (t : List ℕ) (i : ℕ) → byte t i ≡ 91 → byte t (i + 1) ≡ 91 → (i + 1 < length t) × ((m : Bool) → ItemsFit m t Array i 0 (i + 1))
nested_begins t i b d =
    let within : i + 1 < length t = byte_within t (i + 1) (λ z. absurd (omega (arith, z, d))) in
    let none : is_space (byte t (i + 1)) ≡ false = ap is_space d in
    let here = prefix_len-drop_no is_space t (i + 1) 0 within none in
    (within, λ m. items_begin b (omega (arith, here)) (λ e. absurd (omega (arith, e, d))))

-- what begins with another byte is no container
pub scalar_unfilled : (t : List ℕ) (i : ℕ) → byte t i ≢ 91 → byte t i ≢ 123 → ¬ IsFilledContainer t i
scalar_unfilled t i b d (Array, o, some) = b o
scalar_unfilled t i b d (Object, o, some) = d o

-- what is empty is no container with an item
pub empty_unfilled : (t : List ℕ) (kind : Kind) (i : ℕ) → byte t i ≡ opening kind → byte t (after_space t (i + 1)) ≡ closing kind → IsFilledContainer t i → ⊥
empty_unfilled t kind i b e (other, o, some) = some (e ∙ ap closing (opening_one kind other (sym b ∙ o)))

-- a walk after a step, by its fields
value_walk : {i : ℕ} {before now : DescentState} (step : Step) → IsMoved before now → IsAtValue i before → IsDescentStep before now step → IsAfterStep i now step
value_walk {i} {before} {now} Passed e a s =
    let f : record { text = before.text; place = now.place; lossy = before.lossy; opened = before.opened } ≡ now = ap (λ o. record before { place = now.place; opened = o }) (sym s.0) ∙ sym e in
    rw f at (passed_at a s.1)
value_walk {i} {before} {now} (Entered kind) e a s = rw (ap (λ w. w.lossy) e, ap (λ w. w.text) e, s.0) (entered_at a s.1)

head_walk : {i : ℕ} {before now : DescentState} (kind : Kind) (key : Option ValueSpan) → IsMoved before now → IsTop before.opened kind → IsAtItem i before
    → now.opened ≡ before.opened → IsHeadPassed kind before now key → IsAtValue i now
head_walk Array None e last a o s = rw (ap (λ w. w.lossy) e, ap (λ w. w.text) e, o) (head_at last a (no_head s))
head_walk Array (Some key) e last a o s = absurd s
head_walk Object None e last a o s = absurd s
head_walk Object (Some key) e last a o s = rw (ap (λ w. w.lossy) e, ap (λ w. w.text) e, o) (head_at last a (key_head s.key))

next_walk : {i : ℕ} {before now : DescentState} (kind : Kind) (more : Bool) → IsMoved before now → 0 < length before.opened → IsTop before.opened kind → IsAtEnd i before
    → IsNextOrClosed kind before now more → IsAfterNext i now more
next_walk kind true e some last a s = rw (ap (λ w. w.lossy) e, ap (λ w. w.text) e, s.0) (separated_at (a.item some) s.1)
next_walk {i} {before} {now} kind false e some last a s =
    let f : record { text = before.text; place = now.place; lossy = before.lossy; opened = take (length before.opened - 1) before.opened } ≡ now = ap (λ o. record before { place = now.place; opened = o }) (sym s.0) ∙ sym e in
    rw f at (ended_at last (a.item some) s.1)

pub keeps_to : (i : ℕ) (before now : DescentState) → IsMoved before now → KeepsTo i before now
keeps_to i before now e = record {
  value = λ step. value_walk step e;
  head = λ kind key. head_walk kind key e;
  next = λ kind more. next_walk kind more e;
}

pub fails_as : (i : ℕ) (w : DescentState) (s : Stop) → FailsAs i w s
fails_as i w s = record {
  value = λ a f. fault_up a f;
  head = λ a last f. fault_item a last (refl, f);
  next = λ kind some last a f. fault_after (a.item some) last f;
}
