-- How the items of the container that begins a text are passed one after the other.
use Rattle.std.proofs.Common.{◌≡◌, ◌≢◌, inl, inr, refl, sym, ap, ◌∙◌, ℕ, ◌+◌, ◌<◌, ◌≤◌, ◌==◌, ◌||◌, nat_le, Bool, true, false, List, length, drop, if◌then◌else◌, arith, Ok, Err, Result, OnOk, IfErr}
use Rattle.std.specs.Prelude.{IfOk}
use Rattle.std.proofs.lemmas.Bool.{cases_lt}
use Rattle.std.proofs.lemmas.List.{get_or-drop, length-drop}
use Rattle.std.proofs.lemmas.List.Sums.{prefix_len_stops, prefix_len-drop_no, prefix_len-drop_all}
use Rattle.std.specs.List.{prefix_len}
use Rattle.std.specs.Prelude.{Option, Some, None}
use Rattle.sonic_error.specs.declared.json_type.JsonType.{JsonType}
use Rattle.sonic_find.specs.Documents.{IsInvalid, no_root, text_after}
use Rattle.sonic_parser.specs.Faults.{IsStopFor}
use Rattle.sonic_parser.specs.declared.fault.Fault.{Fault as Cause}
use Rattle.sonic_parser.specs.declared.fault.Fault.TheVariants.{OutOfMemory, At}
use Rattle.std.specs.Str.{IsUtf8}
use Rattle.sonic_parser.specs.Containers.{IsEnd, IsSeparated, IsSeparatorFault}
use Rattle.sonic_error.specs.declared.code.ErrorCode.{ErrorCode}
use Rattle.std.proofs.lemmas.Bool.Decides.{nat_tests}
use Rattle.sonic_text.proofs.Insides.{not_past_byte}
use Rattle.sonic_text.proofs.Items.{closing_no_comma, head_never_both, opening_one}
use Rattle.sonic_text.proofs.Places.{after_space_later}
use Rattle.sonic_text.proofs.Stops.{key_stop}
use Rattle.sonic_text.proofs.Values.{head_one, items_kind, items_not_empty, items_one, items_open, value_never_both}
use Rattle.sonic_text.proofs.Within.{after_space_within, value_within}
use Rattle.sonic_text.specs.Documents.{IsWhole}
use Rattle.sonic_text.specs.Faults.{IsFault, IsKeyFault, in_key, in_value, after_item, code_after_item}
use Rattle.sonic_text.specs.Places.{byte, is_space, after_space, stop_at}
use Rattle.sonic_text.specs.Strings.{strict}
use Rattle.sonic_text.specs.Values.{opening, ItemHead, no_head, key_head, IsValue, ItemsFit, next_item, empty, filled}
use Rattle.sonic_text.specs.declared.kind.Kind.{Kind}
use Rattle.sonic_text.specs.declared.kind.Kind.TheVariants.{Array, Object}
use Rattle.sonic_text.specs.declared.stop.Stop.{Stop}
use Rattle.sonic_c.specs.Begun.{BeginsWith, IsExpected, invalid}
use Rattle.sonic_c.specs.Containers.{IsHeadAt, no_key, a_key, IsNthItem, HasItemCount, no_items, last_item, HasPassed, none_passed, some_passed, state_number, HasTold, LacksItem, OfEach, IsNextCall, all_told, item_fails, IsContainerAlone, IsCountCall, count_told as counted, count_refused, count_unknown}
use Rattle.sonic_c.specs.Internal.Begun.{HasBegun, IsTrailing}
use Rattle.sonic_c.specs.Internal.Items.{IsItemStop, TellsClosing, closes, goes_past, TellsCount}
use Rattle.sonic_c.specs.Values.{ValueCells}
use Rattle.sonic_c.specs.declared.fault.Fault.{Fault}
use Rattle.sonic_c.specs.declared.begun.Expected.TheVariants.{Container}
use Rattle.sonic_c.specs.declared.items.Items.{Items}
use Rattle.sonic_c.specs.declared.span.Span.{Span}
use Rattle.sonic_c.specs.declared.walk.Item.{Item}

-- white space leads on from a place to which it led no further
pub after_space_again : (t : List ℕ) (i : ℕ) → after_space t (after_space t i) ≡ after_space t i
after_space_again t i = elim (cases_lt (after_space t i) (length t)) [
  | inl l ↦ (
      let low : prefix_len is_space (drop i t) < length (drop i t) = omega (arith, length-drop i t, l) in
      let stops = ap is_space (sym (get_or-drop i t (prefix_len is_space (drop i t)) 0)) ∙ prefix_len_stops is_space (drop i t) 0 low in
      omega (arith, prefix_len-drop_no is_space t (after_space t i) 0 l stops)
      )
  | inr l ↦ omega (arith, prefix_len-drop_all is_space t (after_space t i) l)
]

-- of the key that was passed the member's value is expected
pub head_of : {t : List ℕ} {kind : Kind} {h v : ℕ} {key : Span} → IsHeadAt t kind h v key → (label : Option (List ℕ)) × ItemHead strict t kind h v label
head_of (no_key e twice) = (None, no_head e)
head_of (a_key {b = b} start string colon) = (Some b, key_head colon)

-- the key of an item that is there is at the place where it is expected
head_here : {t : List ℕ} {kind : Kind} {n h : ℕ} {item : Item} → ItemsFit strict t kind (after_space t 0) n h → IsNthItem t kind n item
    → (label : Option (List ℕ)) × ItemHead strict t kind h item.value.start label
head_here {t} {kind} {h = h} {item} fit x = let here : IsHeadAt t kind h item.value.start item.key = rw (items_one x.before fit) at x.found.head in head_of here

-- a fault in a key is the root's, and the key's item isn't there
pub key_fails : {t : List ℕ} {kind : Kind} {n h : ℕ} {s : Stop} → ItemsFit strict t kind (after_space t 0) n h → (kind ≡ Object) × IsKeyFault strict t h s
    → IsItemStop t kind n s
key_fails {t} {kind} {n} {h} fit f =
    let is : ItemsFit strict t Object (after_space t 0) n h = rw f.0 at fit in
    (in_key is f.1, λ item x. head_never_both f.0 (head_here fit x).1 f.1)

-- and so is one in a value
pub value_fails : {t : List ℕ} {kind : Kind} {n h v : ℕ} {key : Span} {s : Stop} → ItemsFit strict t kind (after_space t 0) n h → IsHeadAt t kind h v key
    → IsFault strict t v s → IsItemStop t kind n s
value_fails {t} {v = v} fit head f =
    let own = (head_of head).1 in (
      in_value fit own f,
      λ item x.
          let value : IsValue strict t v item.value.end = rw (head_one (head_here fit x).1 own).0 at x.found.value in
          value_never_both value f,
    )

-- after an item that no comma follows there is no other one
no_item_after : {t : List ℕ} {kind : Kind} {m n : ℕ} {item : Item} → IsNthItem t kind m item → m < n → byte t (after_space t item.value.end) ≢ 44
    → LacksItem t kind n
no_item_after x later other item y = not_past_byte x.before later (head_of x.found.head).1 x.found.value other y.before

-- nor is there one after all of them
none_left : {t : List ℕ} {kind : Kind} {n e : ℕ} → HasItemCount t n e → LacksItem t kind n
none_left {t} {kind} (no_items k none b end) item x =
    let same : k ≡ kind = opening_one k kind (let bracket = items_open x.before in omega (arith, b, bracket)) in
    items_not_empty x.before (rw same at end.0)
none_left {t} {n = n} (last_item k m last z e end) item x =
    let y : IsNthItem t k n item = rw (← items_kind z.before x.before) at x in
    no_item_after z (omega (arith, e)) (λ c. closing_no_comma k (sym end.0 ∙ c)) item y

-- a place that is bad is within the text
bad_within : (t : List ℕ) (p : ℕ) (code : ErrorCode) (s : Stop) → s ≡ stop_at t p code → s.place ≤ length t
bad_within t p code s e = rw e (grind (arith, nat_tests))

-- that of a key, and that after an item
pub key_within : {t : List ℕ} {h : ℕ} {s : Stop} → IsKeyFault strict t h s → s.place ≤ length t
key_within {t} {s = s} f = let x = key_stop f in bad_within t x.place x.code s x.is

pub separator_within : (t : List ℕ) (kind : Kind) (p : ℕ) (s : Stop) → IsSeparatorFault t kind p s → s.place ≤ length t
separator_within t kind p s f = bad_within t (after_space t p) (code_after_item kind) s f.1

-- before the first item none is passed
pub reach_first : {t : List ℕ} {kind : Kind} {n p h : ℕ} {first : Bool} → first ≡ true → HasPassed t kind n first p → ItemsFit strict t kind p 0 h
    → ItemsFit strict t kind (after_space t 0) n h
reach_first {t} {kind} {h = h} one (none_passed e f is b) y = rw e (rw is at y)
reach_first one (some_passed m item x e f q) y = absurd cc

-- an empty container has none
pub closed_first : {t : List ℕ} {kind : Kind} {n p e : ℕ} {first : Bool} → first ≡ true → HasPassed t kind n first p → IsEnd t kind (p + 1) e → HasItemCount t n e
closed_first {t} {kind} one (none_passed none f is b) y = no_items kind none (rw is at b) (rw is at y)
closed_first one (some_passed m item x e f q) y = absurd cc

-- after a comma the next item is expected
pub reach_next : {t : List ℕ} {kind : Kind} {n p h : ℕ} {first : Bool} → first ≡ false → HasPassed t kind n first p → IsSeparated t p h
    → ItemsFit strict t kind (after_space t 0) n h
reach_next other (none_passed e f is b) y = absurd cc
reach_next {t} {h = h} other (some_passed m item x e f q) y =
    let z : IsSeparated t item.value.end h = rw q at y in
    next_item x.before (head_of x.found.head).1 x.found.value z.0 z.1 e

-- after the closing bracket none is
pub closed_next : {t : List ℕ} {kind : Kind} {n p j : ℕ} {first : Bool} → first ≡ false → HasPassed t kind n first p → IsEnd t kind p j → HasItemCount t n j
closed_next other (none_passed e f is b) y = absurd cc
closed_next {t} {kind} {j = j} other (some_passed m item x e f q) y = let z : IsEnd t kind item.value.end j = rw q at y in last_item kind m item x e z

-- where neither comes, that is the root's fault, and there is no other item
pub stopped_next : {t : List ℕ} {kind : Kind} {n p : ℕ} {s : Stop} {first : Bool} → first ≡ false → HasPassed t kind n first p → IsSeparatorFault t kind p s
    → IsItemStop t kind n s
stopped_next other (none_passed e f is b) y = absurd cc
stopped_next {t} {kind} {s = s} other (some_passed m item x e f q) y =
    let z : IsSeparatorFault t kind item.value.end s = rw q at y in
    (after_item x.before (head_of x.found.head).1 x.found.value z.0 z.1, no_item_after x (omega (arith, e)) z.0.0)

-- the item that was passed is the last one
pub passed_item : {t : List ℕ} {kind : Kind} {n p : ℕ} {item : Item} → IsNthItem t kind n item → p ≡ item.value.end → HasPassed t kind (n + 1) false p
passed_item {t} {n = n} {item = item} x e = some_passed n item x refl refl (ap (after_space t) e)

-- what was passed up to a place was passed up to after white space
passed_again : {t : List ℕ} {kind : Kind} {n p : ℕ} {first : Bool} → HasPassed t kind n first p → HasPassed t kind n first (after_space t p)
passed_again {t} {kind} {p = p} (none_passed e f is b) =
    let same : after_space t p ≡ p = rw is (after_space_again t 0) in
    none_passed e f (same ∙ is) (rw same b)
passed_again {t} {p = p} (some_passed m item x e f q) = some_passed m item x e f (after_space_again t p ∙ q)

-- up to a place of the text
passed_within : {t : List ℕ} {kind : Kind} {n p : ℕ} {first : Bool} → HasPassed t kind n first p → p ≤ length t
passed_within {t} (none_passed e f is b) = omega (arith, after_space_within t 0 (omega arith), is)
passed_within {t} {p = p} (some_passed m item x e f q) =
    omega (arith, after_space_later t p, q, after_space_within t item.value.end (value_within x.found.value))

-- a container with all its items is a value
pub items_whole : {t : List ℕ} {n e : ℕ} → HasItemCount t n e → IsWhole t e
items_whole (no_items kind none b x) = empty kind b x.0 x.1
items_whole (last_item kind m item is e x) = filled is.before (head_of is.found.head).1 is.found.value x.0 x.1

-- what follows it is why the text is none
pub past_items : {t : List ℕ} {n e : ℕ} {s : Stop} → HasItemCount t n e → IsTrailing t e s → (is_bytes : Bool) → IsInvalid t is_bytes s
past_items {t} {e = e} x f is_bytes = text_after (record { end = e; root = items_whole x; place = refl }) f.0 f.1

-- of what kind a state is, and whether it is that before the first item
abbrev kind_in : ℕ → Kind
kind_in state = if nat_le state 2 then Array else Object

abbrev first_in : ℕ → Bool
first_in state = state == 1 || state == 3

kind_of_state : (k : Kind) (f : Bool) → kind_in (state_number k f) ≡ k
kind_of_state Array true = refl
kind_of_state Array false = refl
kind_of_state Object true = refl
kind_of_state Object false = refl

first_of_state : (k : Kind) (f : Bool) → first_in (state_number k f) ≡ f
first_of_state Array true = refl
first_of_state Array false = refl
first_of_state Object true = refl
first_of_state Object false = refl

-- a state is that of one kind, before the first item or after one
one_state : (k g : Kind) (f e : Bool) → state_number k f ≡ state_number g e → (k ≡ g) × (f ≡ e)
one_state k g f e same =
    (sym (kind_of_state k f) ∙ (ap kind_in same ∙ kind_of_state g e), sym (first_of_state k f) ∙ (ap first_in same ∙ first_of_state g e))

-- it is one of four numbers
pub no_state : (s : ℕ) → s ≢ 1 → s ≢ 2 → s ≢ 3 → s ≢ 4 → (kind : Kind) (first : Bool) → s ≢ state_number kind first
no_state s a b c d Array true = a
no_state s a b c d Array false = b
no_state s a b c d Object true = c
no_state s a b c d Object false = d

-- a cursor goes on where its state says, after white space
pub resumed : {t : List ℕ} {kind k : Kind} {n : ℕ} {first : Bool} {items : Items} → items.state ≡ state_number kind first → HasTold t k n items
    → (k ≡ kind) × HasPassed t kind n first (after_space t items.place)
resumed {t} {kind} {k} {n} {first} {items} state x =
    let same = one_state k kind x.is_first first (sym x.state ∙ state) in
    let passed : HasPassed t kind n first items.place = rw (same.0, same.1) at x.passed in
    (same.0, passed_again passed)

-- and within the text
pub told_within : {t : List ℕ} {k : Kind} {n : ℕ} {items : Items} → HasTold t k n items → items.place ≤ length t
told_within x = passed_within x.passed

-- before the first item it is at a bracket
pub first_bracket : {t : List ℕ} {kind : Kind} {n p : ℕ} {first : Bool} → first ≡ true → HasPassed t kind n first p → byte t p ≡ opening kind
first_bracket one (none_passed e f is b) = b
first_bracket one (some_passed m item x e f q) = absurd cc

-- the item that was told is the one after which the cursor is
pub told_item : {t : List ℕ} {kind k : Kind} {n : ℕ} {first : Bool} {items : Items} {item : Item} {state : ℕ} → items.state ≡ state_number kind first
    → HasTold t k n items → (HasPassed t kind n first (after_space t items.place) → IsNthItem t kind n item) → state ≡ state_number kind false
    → IsNthItem t k n item × HasTold t k (n + 1) (record { place = item.value.end; state = state })
told_item {t} {kind} {k} {n} {item = item} {state} is x passes next =
    let r = resumed is x in
    let here = passes r.1 in
    rw r.0 (here, record { is_first = false; state = next; passed = passed_item here refl })

-- the fault of the next item is why the text is none
pub fault_told : {t : List ℕ} {kind k : Kind} {n : ℕ} {first : Bool} {items : Items} {s : Stop} → items.state ≡ state_number kind first → HasTold t k n items
    → (HasPassed t kind n first (after_space t items.place) → IsItemStop t kind n s) → ((is_bytes : Bool) → IsInvalid t is_bytes s) × LacksItem t k n
fault_told is x stops = let r = resumed is x in let stop = stops r.1 in rw r.0 (λ is_bytes. no_root stop.0, stop.1)

-- a bracket is that of a container
pub bracket_begun : (kind : JsonType) (b : ℕ) → BeginsWith kind b → IsExpected Container kind → b ≢ 123 → b ≡ 91
bracket_begun kind b begins (inl e) other = rw e at begins
bracket_begun kind b begins (inr e) other = let is : b ≡ 123 = rw e at begins in absurd (other is)

-- how a cursor ends is told
pub closed_told : {t : List ℕ} {e : ℕ} {items : Items} {item : Item} {before after : Fault} {status : ℕ} → OfEach t items (λ kind n. HasItemCount t n e)
    → TellsClosing t e before after status
    → IsNextCall t (record { items = items; item = item; error = before }) (record { items = record items { state = 0 }; item = item; error = after }) status
closed_told {e = e} has (closes rest is same) = all_told (λ kind n x. record { end = e; items = has kind n x; after = rest }) is (rw same refl)
closed_told has (goes_past s f is numbers) = item_fails s (λ kind n x. (past_items (has kind n x) f, none_left (has kind n x))) is numbers refl refl

-- and so is how many items there are
pub count_told : {t : List ℕ} {before after : ValueCells ℕ} {status : ℕ} → HasBegun Container t → (found : Result ℕ Cause) → IfOk found (IsContainerAlone t) → OnOk found (IsUtf8 t)
    → IfErr found (IsStopFor (IsInvalid t true)) → TellsCount t found before after status → IsCountCall t before after status
count_told begun (Ok n) alone utf8 err told = counted n alone utf8 told.0 told.1
count_told begun (Err OutOfMemory) alone utf8 err told = count_unknown told.0 told.1
count_told begun (Err (At s)) alone utf8 err told = count_refused (invalid begun.0 s begun.1 begun.2 err told.0 told.1) told.2
