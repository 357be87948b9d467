-- What a call of `next` gives of an iterator.
use Rattle.std.proofs.Common.{◌≡◌, ◌≢◌, ◌↔◌, ◌∙◌, inl, inr, ℕ, ◌+◌, List, Bool, true, arith, refl, sym}
use Rattle.std.proofs.Common.{Result, Ok, Err}
use Rattle.std.specs.Cow.{cow_str_bytes}
use Rattle.std.specs.Prelude.{Option, Some, None, IfOk, IfErr, IfSome, OnOk, OnErr, slice_range}
use Rattle.std.specs.Str.{IsUtf8}
use Rattle.std.specs.declared.borrow.CowStr.{CowStr}
use Rattle.sonic_error.specs.Errors.{IsPlainError}
use Rattle.sonic_error.specs.declared.code.ErrorCode.TheVariants.{NoMemory}
use Rattle.sonic_error.specs.declared.error.Error.{Error}
use Rattle.sonic_lazy.proofs.ItemLemmas.{found_item}
use Rattle.sonic_lazy.specs.Internal.Items.{IsFoundHead, no_key, a_key, IsFoundPart, IsKeyText}
use Rattle.sonic_lazy.specs.Items.{Item, ItemsReach, IsItemAt, AreClosed, closed_empty, closed_after, BeginsNoItem, no_quote, text_ends, Ending, stopped, AreStopped, no_container, no_item, no_separator, no_key as key_stops, no_value, EndsItems, at_broken_text, at_bracket, at_stop}
use Rattle.sonic_lazy.specs.Iterators.{IteratorState, IsEscapedKey, ShowsElement, ShowsMember, HasNext, IsNextError, out_of_memory, no_next_item, IsGiven, IsStuck, IsOver, IsNext}
use Rattle.sonic_lazy.specs.LazyValues.{raw_bytes}
use Rattle.sonic_lazy.specs.declared.items.Found.{Found}
use Rattle.sonic_parser.specs.declared.value_span.ValueSpan.{ValueSpan}
use Rattle.sonic_lazy.specs.declared.lazyvalue.LazyValue.{LazyValue}
use Rattle.sonic_parser.specs.Faults.{IsStopFor, IsErrorOf}
use Rattle.sonic_parser.specs.declared.fault.Fault.{Fault}
use Rattle.sonic_parser.specs.declared.fault.Fault.TheVariants.{OutOfMemory, At}
use Rattle.sonic_text.proofs.Insides.{not_past_byte}
use Rattle.sonic_text.proofs.Items.{closing_no_comma, head_one, head_never_both}
use Rattle.sonic_text.proofs.Strings.{string_one}
use Rattle.sonic_text.proofs.Values.{items_open, items_not_empty, items_one, value-longer, value_never_both}
use Rattle.sonic_text.proofs.Within.{value_within}
use Rattle.sonic_text.specs.Faults.{IsFault}
use Rattle.sonic_text.specs.Places.{byte, after_space}
use Rattle.sonic_text.specs.Strings.{strict, IsString, IsEscapedString}
use Rattle.sonic_text.specs.Values.{ItemHead, no_head, key_head, IsValue}
use Rattle.sonic_text.specs.declared.kind.Kind.{Kind}
use Rattle.sonic_text.specs.declared.kind.Kind.TheVariants.{Array, Object}
use Rattle.sonic_text.specs.declared.stop.Stop.{Stop}

-- after an item that nothing follows with a comma there is no further one
pub nothing_after : {t : List ℕ} {kind : Kind} {n p : ℕ} {last item : Item} → IsItemAt t kind p last → n ≡ p + 1 → byte t (after_space t last.span.1) ≢ 44
    → IsItemAt t kind n item → ⊥
nothing_after x e c y = not_past_byte x.before (omega arith) x.head x.value c y.before

-- where an item is, the container isn't closed
not_closed : {t : List ℕ} {kind : Kind} {n : ℕ} {item : Item} → IsItemAt t kind n item → AreClosed t kind n → ⊥
not_closed y (closed_empty e b c) = items_not_empty y.before c
not_closed {kind = kind} y (closed_after x e c) = nothing_after x e (λ comma. closing_no_comma kind (sym c ∙ comma)) y

-- an item begins where one is
pub begins_one : {t : List ℕ} {kind : Kind} {n h v j : ℕ} {label : Option (List ℕ)} → ItemHead strict t kind h v label → IsValue strict t v j → ¬ BeginsNoItem t kind n h
begins_one (key_head y) x (no_quote b) = b y.string.opens
begins_one (no_head e) x (text_ends n f) = absurd (omega (arith, value-longer x, value_within x))

-- nor do the items stop
not_stopped : {t : List ℕ} {kind : Kind} {n : ℕ} {item : Item} {s : Stop} → IsItemAt t kind n item → AreStopped t kind n s → ⊥
not_stopped y (no_container e b is) = b (items_open y.before)
not_stopped {t} {kind} {n} y (no_item {h} r b is) =
    let none : BeginsNoItem t kind n y.place = rw (items_one r y.before) at b in
    begins_one y.head y.value none
not_stopped y (no_separator x e f is) = nothing_after x e f.0 y
not_stopped {t} {kind} {item = item} y (key_stops {h} k r b f) =
    let head : ItemHead strict t kind h item.span.0 item.label = rw (items_one y.before r) at y.head in
    head_never_both k head f
not_stopped {t} {kind} {item = item} y (no_value {h} {v} r b z f) =
    let head : ItemHead strict t kind h item.span.0 item.label = rw (items_one y.before r) at y.head in
    let fault : IsFault strict t item.span.0 _ = rw (head_one z head).0 at f in
    value_never_both y.value fault

-- so an item is never where the list ends
pub never_ends : {t : List ℕ} {is_bytes : Bool} {kind : Kind} {n : ℕ} {item : Item} {ending : Ending} → (is_bytes ≡ true → IsUtf8 t) → IsItemAt t kind n item
    → EndsItems t is_bytes kind n ending → ⊥
never_ends utf8 y (at_broken_text b broken e is) = broken (utf8 b)
never_ends utf8 y (at_bracket b c is) = not_closed y c
never_ends utf8 y (at_stop b s is) = not_stopped y s

-- an item was given
pub next_given : {V : Type 0} {Shows : List ℕ → ℕ → V → Type 0} {before now : IteratorState} {item : V} → IsGiven Shows before now item
    → IsNext Shows before now (Some (Ok item))
next_given g = record { item = g; error = tt; none = tt; complete = λ _. (refl, tt) }

-- where there is an item, memory alone stops an iterator
memory_alone : {it : IteratorState} {e : Error} → HasNext it → IsNextError it e → IsPlainError e NoMemory
memory_alone has (out_of_memory p m) = p
memory_alone has (no_next_item ends e) = absurd (never_ends has.utf8 has.is ends)

-- an error was given
pub next_stuck : {V : Type 0} {Shows : List ℕ → ℕ → V → Type 0} {before now : IteratorState} {e : Error} → IsStuck before now e
    → IsNext Shows before now (Some (Err e))
next_stuck x = record { item = tt; error = x; none = tt; complete = λ has. (refl, memory_alone has x.error) }

-- an iterator that is over has no next item
over_has_none : {before now : IteratorState} → IsOver before now → HasNext before → ⊥
over_has_none over has = elim over.reason [
  | inl ended ↦ (let going = has.going in absurd cc)
  | inr ends ↦ never_ends has.utf8 has.is ends
]

-- nothing was given
pub next_over : {V : Type 0} {Shows : List ℕ → ℕ → V → Type 0} {before now : IteratorState} → IsOver before now → IsNext Shows before now None
next_over over = record { item = tt; error = tt; none = over; complete = λ has. absurd (over_has_none over has) }

-- the error of a fault
pub fault_error : {it : IteratorState} {e : Error} (f : Fault) → IsStopFor (λ s. EndsItems it.text it.is_bytes it.kind it.given (stopped s)) f
    → (f ≡ OutOfMemory → it.checks ≡ true) → IsErrorOf it.text f e → IsNextError it e
fault_error OutOfMemory ends memory e = out_of_memory e (inl (memory refl))
fault_error (At s) ends memory e = no_next_item ends e

-- an item of an array is one of this kind
of_array : {t : List ℕ} {kind : Kind} {n : ℕ} {item : Item} → kind ≡ Array → IsItemAt t kind n item → IsItemAt t Array n item
of_array k x = rw k at x

-- an element was given
pub element_given : {before now : IteratorState} {x : Found} {value : LazyValue} → before.kind ≡ Array
    → IsGiven (λ t n y. IsFoundPart t before.kind n y) before now x → raw_bytes value ≡ slice_range now.text x.value.start x.value.end
    → IsGiven ShowsElement before now value
element_given {before} {now} k g shown =
    let item = found_item g.shown.found in
    let text : now.text ≡ before.text = rw g.moved refl in
    record {
      going = g.going;
      utf8 = g.utf8;
      shown = record { item = _; is = of_array k item.1; shown = rw text at shown };
      within = g.within;
      moved = g.moved;
    }

-- the key before the value of the member after n others
record IsOwnKey (t : List ℕ) (n v : ℕ) (key : ValueSpan) : Type 0 where
  bytes : List ℕ
  before : ItemsReach t Object n key.start
  string : IsString strict t key.start key.end bytes
  head : ItemHead strict t Object key.start v (Some bytes)

-- the key that was found is that
own_key : {t : List ℕ} {kind : Kind} {n h v : ℕ} {key : ValueSpan} → ItemsReach t kind n h → IsFoundHead t kind h v (Some key) → (kind ≡ Object) × IsOwnKey t n v key
own_key {t} {n = n} {key = key} r (a_key x) =
    let before : ItemsReach t Object n key.start = rw x.start r in
    let string : IsString strict t key.start key.end x.bytes = rw x.start x.string in
    let colon = rw (sym x.start) at x.key in
    (refl, record { bytes = x.bytes; before = before; string = string; head = key_head colon })

-- it has a backslash exactly where the member's key has
own_escapes : {t : List ℕ} {n v : ℕ} {key : ValueSpan} → IsOwnKey t n v key → IsEscapedString t key.start key.end ↔ IsEscapedKey t n
own_escapes {t} {n} {key = key} own = (
  (λ s. record { start = key.start; end = key.end; bytes = own.bytes; before = own.before; string = own.string; escaped = s }),
  (λ x.
      let start : x.start ≡ key.start = items_one x.before own.before in
      let string : IsString strict t key.start x.end x.bytes = rw start at x.string in
      let escaped : IsEscapedString t key.start x.end = rw start at x.escaped in
      rw (string_one string own.string).0 at escaped),
)

-- a member was given, whose key was found
shown_member : {Z : Type 0} {before now : IteratorState} {x : Found} {text : CowStr Z} {value : LazyValue}
    → IsGiven (λ t n y. IsFoundPart t before.kind n y) before now x → (key : Option ValueSpan) → x.key ≡ key → IsKeyText now.text key text
    → raw_bytes value ≡ slice_range now.text x.value.start x.value.end → IsGiven (ShowsMember {Z = Z}) before now (text, value)
shown_member g None k t shown = absurd t
shown_member {Z} {before} {now} {x} {text} {value} g (Some key) k t shown =
    let same : now.text ≡ before.text = rw g.moved refl in
    let f = g.shown.found in
    let own = own_key f.before (rw k at f.head) in
    let escapes = own_escapes own.1 in
    let string : IsString strict before.text key.start key.end (cow_str_bytes text) = rw same at t.string in
    let bytes : own.1.bytes ≡ cow_str_bytes text = (string_one own.1.string string).1 in
    let item : Item = record { label = Some own.1.bytes; span = (x.value.start, x.value.end) } in
    let is : IsItemAt before.text Object before.given item =
    record { place = key.start; before = own.1.before; head = own.1.head; value = f.value } in
    record {
      going = g.going;
      utf8 = g.utf8;
      shown = record {
        item = item;
        is = is;
        key = rw bytes refl;
        borrowed = (λ b s. t.borrowed.0 b (rw same (escapes.1 s)), λ plain. t.borrowed.1 (λ s. plain (escapes.0 (rw same at s))));
        shown = rw same at shown;
      };
      within = g.within;
      moved = g.moved;
    }

-- a member was given
pub member_given : {Z : Type 0} {before now : IteratorState} {x : Found} {text : CowStr Z} {value : LazyValue}
    → IsGiven (λ t n y. IsFoundPart t before.kind n y) before now x → IsKeyText now.text x.key text
    → raw_bytes value ≡ slice_range now.text x.value.start x.value.end → IsGiven (ShowsMember {Z = Z}) before now (text, value)
member_given {Z} {before} {now} {x} {text} {value} g = shown_member g x.key refl

-- nothing is before the value of an element alone
no_key_in_array : {t : List ℕ} {kind : Kind} {h v : ℕ} → IsFoundHead t kind h v None → kind ≢ Object
no_key_in_array (no_key e) k = cc

-- memory ran out for its key
pub member_stuck : {before now : IteratorState} {x : Found} {e : Error} → IsGiven (λ t n y. IsFoundPart t before.kind n y) before now x
    → (key : Option ValueSpan) → x.key ≡ key → before.kind ≡ Object → IfSome key (λ k. IsEscapedString now.text k.start k.end) → IsPlainError e NoMemory
    → IsNextError before e
member_stuck {before} g None k object s e = absurd (no_key_in_array (rw k at g.shown.found.head) object)
member_stuck {before} {now} {x} g (Some key) k object s e =
    let text : now.text ≡ before.text = rw g.moved refl in
    let f = g.shown.found in
    let own = own_key f.before (rw k at f.head) in
    let escaped : IsEscapedString before.text key.start key.end = rw text at s in
    out_of_memory e (inr (own.0, (own_escapes own.1).0 escaped))

-- a member, or running out of memory for its key
pub member_next : {Z : Type 0} {before found now : IteratorState} {x : Found} (r : Result (CowStr Z × LazyValue) Error)
    → IsGiven (λ t n y. IsFoundPart t before.kind n y) before found x → before.kind ≡ Object → OnOk r (now ≡ found)
    → IfOk r (λ m. IsKeyText found.text x.key m.0) → IfOk r (λ m. raw_bytes m.1 ≡ slice_range found.text x.value.start x.value.end)
    → IfErr r (λ e. IsPlainError e NoMemory) → OnErr r (now ≡ record found { ended = true })
    → OnErr r (IfSome x.key (λ k. IsEscapedString found.text k.start k.end)) → IsNext (ShowsMember {Z = Z}) before now (Some r)
member_next (Ok (text, value)) g k kept t shown e ended s = rw kept (next_given (member_given g t shown))
member_next {x = x} (Err error) g k kept t shown e ended s =
    next_stuck (record { going = g.going; error = member_stuck g x.key refl k s e; ended = rw (ended, g.moved) refl })
