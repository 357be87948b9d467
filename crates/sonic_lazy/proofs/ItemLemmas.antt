-- How the items of a container are passed one after the other.
use Rattle.std.proofs.Common.{◌≡◌, ◌≢◌, ◌↔◌, inl, inr, ℕ, ◌+◌, ◌-◌, ◌<◌, ◌≤◌, List, Bool, true, false, length, arith, refl, nat_eq, not}
use Rattle.std.specs.Prelude.{Option, Some, None, IsTrue, IfSome, IfErr, take, slice_range}
use Rattle.std.proofs.Common.{Result, Ok, Err}
use Rattle.std.specs.Str.{IsUtf8}
use Rattle.std.proofs.Math.Seq.{take-length}
use Rattle.std.proofs.lemmas.Bool.{cases_eq}
use Rattle.std.proofs.lemmas.Bool.Decides.{nat_tests}
use Rattle.sonic_error.specs.declared.code.ErrorCode.{ErrorCode}
use Rattle.sonic_parser.specs.ValueSpans.{IsKeyAt}
use Rattle.sonic_lazy.specs.Internal.Items.{IsAfterItems, before_all, after_last, IsFoundHead, no_key, a_key, IsFound, IsFoundPart, IsKeyOf, IsTextSpan}
use Rattle.sonic_find.specs.Cursors.{HasWhole}
use Rattle.sonic_lazy.specs.Items.{ItemsReach, IsItemAt, AreClosed, closed_after, BeginsNoItem, no_quote, text_ends, stop_with, AreStopped, no_container, no_item, no_separator, no_key as key_stops, no_value}
use Rattle.sonic_lazy.specs.declared.items.Found.{Found}
use Rattle.sonic_parser.specs.declared.value_span.ValueSpan.{ValueSpan}
use Rattle.sonic_find.specs.Parts.{IsPart}
use Rattle.sonic_find.proofs.PathLemmas.Lead.{count_below}
use Rattle.sonic_find.proofs.Utf8Lemmas.{utf8_of_span}
use Rattle.sonic_parser.specs.Containers.{GoesOn, IsEnd, IsSeparated, IsSeparatorFault}
use Rattle.sonic_find.proofs.SeparatorLemmas.{item_goes_on, member_has_key}
use Rattle.sonic_text.proofs.Insides.{item_whole, item_before_end}
use Rattle.sonic_text.proofs.Stops.{fault_within}
use Rattle.sonic_text.proofs.Parts.{part_is, part_length}
use Rattle.sonic_text.proofs.StringTexts.{string_utf8}
use Rattle.sonic_text.proofs.Strings.{string_one}
use Rattle.sonic_text.proofs.SameValues.{key_same}
use Rattle.sonic_text.proofs.ValueParts.{item_agrees}
use Rattle.sonic_text.proofs.Values.{value-longer, head-later}
use Rattle.sonic_text.proofs.Within.{after_space_within, value_within, items_within}
use Rattle.sonic_text.specs.Documents.{StartsWithUtf8Value}
use Rattle.sonic_text.specs.Faults.{IsFault, IsKeyFault, in_key, code_after_item}
use Rattle.sonic_text.specs.Places.{byte, after_space, stop_at}
use Rattle.sonic_text.specs.Strings.{strict, IsString, IsEscapedString}
use Rattle.sonic_text.specs.Values.{IsKey, ItemHead, no_head, key_head, IsValue, ItemsFit, next_item}
use Rattle.sonic_text.specs.declared.kind.Kind.{Kind}
use Rattle.sonic_text.specs.declared.kind.Kind.TheVariants.{Array, Object}
use Rattle.sonic_text.specs.declared.stop.Stop.{Stop}

-- after a comma the next item is expected
pub reach_next : {t : List ℕ} {kind : Kind} {n p h : ℕ} → IsAfterItems t kind n p → 0 < n → IsSeparated t p h → ItemsReach t kind n h
reach_next (before_all e q) l s = absurd (omega arith)
reach_next {t} {h = h} (after_last {last = last} x e q) l s =
    let y : IsSeparated t last.span.1 h = rw q at s in
    next_item x.before x.head x.value y.0 y.1 e

-- after the closing bracket none is
pub closed_next : {t : List ℕ} {kind : Kind} {n p j : ℕ} → IsAfterItems t kind n p → 0 < n → IsEnd t kind p j → AreClosed t kind n
closed_next (before_all e q) l c = absurd (omega arith)
closed_next {t} {kind} {j = j} (after_last {last = last} x e q) l c =
    let y : IsEnd t kind last.span.1 j = rw q at c in
    closed_after x e y.0

-- a place within the text is that of its stop
stop_at_place : (t : List ℕ) (p : ℕ) (code : ErrorCode) (s : Stop) → s ≡ stop_at t p code → p ≤ length t → s.place ≡ p
stop_at_place t p code s e l = rw e (grind (arith, nat_tests))

-- after neither the items stop
pub stopped_next : {t : List ℕ} {kind : Kind} {n p : ℕ} {s : Stop} → IsAfterItems t kind n p → 0 < n → IsSeparatorFault t kind p s
    → AreStopped t kind n (stop_with s.place (code_after_item kind))
stopped_next (before_all e q) l f = absurd (omega arith)
stopped_next {t} {kind} {s = s} (after_last {last = last} x e q) l f =
    let y : IsSeparatorFault t kind last.span.1 s = rw q at f in
    let place = stop_at_place t (after_space t last.span.1) (code_after_item kind) s y.1 (after_space_within t last.span.1 (value_within x.value)) in
    no_separator x e y.0 (rw place refl)

-- before the first item of an array none begins at the end of the text alone
pub array_begins : {t : List ℕ} {kind : Kind} {n h : ℕ} → kind ≡ Array → n ≡ 0 → IsTrue (nat_eq h (length t)) ↔ BeginsNoItem t kind n h
array_begins {t} {kind} {n} {h} k e =
    let ends : BeginsNoItem t Array n h → h ≡ length t = λ x. elim x [ text_ends z f ↦ f ] in
    rw k (λ y. (let f : h ≡ length t = grind (arith, nat_tests) in text_ends e f), λ x. let f = ends x in grind (arith, nat_tests))

-- a later one begins everywhere
pub array_goes_on : {t : List ℕ} {kind : Kind} {n h : ℕ} → kind ≡ Array → n ≢ 0 → ¬ BeginsNoItem t kind n h
array_goes_on {t} {kind} {n} {h} k more =
    let first : BeginsNoItem t Array n h → n ≡ 0 = λ x. elim x [ text_ends z f ↦ z ] in
    rw k (λ x. more (first x))

-- a member begins at a quote alone
pub member_begins : {t : List ℕ} {kind : Kind} {n h : ℕ} → kind ≡ Object → IsTrue (not (nat_eq (byte t h) 34)) ↔ BeginsNoItem t kind n h
member_begins {t} {kind} {n} {h} k =
    let quote : BeginsNoItem t Object n h → byte t h ≢ 34 = λ x. elim x [ no_quote f ↦ f ] in
    rw k (λ y. (let differs : byte t h ≢ 34 = λ e. grind (arith, nat_tests) in no_quote differs), λ x. let f = quote x in grind (arith, nat_tests))

-- so a quote is where one begins
pub quote_there : {t : List ℕ} {n h : ℕ} → ¬ BeginsNoItem t Object n h → byte t h ≡ 34
quote_there {t} {h = h} begins = elim (cases_eq (byte t h) 34) [ inl e ↦ e | inr other ↦ absurd (begins (no_quote other)) ]

-- of the key and the colon that were passed the member's value is expected
pub head_of : {t : List ℕ} {kind : Kind} {h v : ℕ} {key : Option ValueSpan} → IsFoundHead t kind h v key → (label : Option (List ℕ)) × ItemHead strict t kind h v label
head_of (no_key e) = (None, no_head e)
head_of (a_key x) = (Some x.bytes, key_head x.key)

-- its value is whole where the container is
pub head_whole : {t : List ℕ} {kind : Kind} {n h v : ℕ} {key : Option ValueSpan} → ItemsReach t kind n h → IsFoundHead t kind h v key → HasWhole t (after_space t 0)
    → HasWhole t v
head_whole is x y = item_whole y.1 is (head_of x).1

-- a key that isn't there stops the items
pub key_stopped : {t : List ℕ} {kind : Kind} {n h : ℕ} {s : Stop} → ItemsReach t kind n h → ¬ BeginsNoItem t kind n h → kind ≡ Object → IsKeyFault strict t h s
    → AreStopped t kind n s
key_stopped {t} {kind} {n} {h} is begins k f =
    let member : ¬ BeginsNoItem t Object n h = rw k at begins in
    key_stops k is (quote_there member) f

-- and so does the fault of a value
pub value_stopped : {t : List ℕ} {kind : Kind} {n h v : ℕ} {key : Option ValueSpan} {s : Stop} → ItemsReach t kind n h → ¬ BeginsNoItem t kind n h
    → IsFoundHead t kind h v key → IsFault strict t v s → AreStopped t kind n s
value_stopped is begins x f = no_value is begins (head_of x).1 f

-- where the items stop is within the text
pub stopped_within : {t : List ℕ} {kind : Kind} {n : ℕ} {s : Stop} → AreStopped t kind n s → s.place ≤ length t
stopped_within {t} (no_container e b is) = rw is (after_space_within t 0 (omega arith))
stopped_within (no_item r b is) = rw is (items_within r)
stopped_within {t} (no_separator {last = last} x e f is) = rw is (after_space_within t last.span.1 (value_within x.value))
stopped_within {t} {kind} {n} {s} (key_stops {h = h} k r b f) =
    let is : ItemsFit strict t Object (after_space t 0) n h = rw k at r in
    fault_within (in_key is f)
stopped_within (no_value r b y f) = fault_within f

-- what was found is an item
pub found_item : {t : List ℕ} {kind : Kind} {n : ℕ} {x : Found} → IsFound t kind n x → (label : Option (List ℕ)) × IsItemAt t kind n (record { label = label; span = (x.value.start, x.value.end) })
found_item f = let y = head_of f.head in (y.0, record { place = f.place; before = f.before; head = y.1; value = f.value })

-- the cursor has come to its end
pub after_found : {t : List ℕ} {kind : Kind} {n p : ℕ} {x : Found} → IsFound t kind n x → p ≡ x.value.end → IsAfterItems t kind (n + 1) p
after_found f e = after_last (found_item f).1 refl e

-- before each item there are as many bytes as items
pub found_count : {t : List ℕ} {kind : Kind} {n : ℕ} {x : Found} → IsFound t kind n x → (n < x.value.end) × (x.value.end ≤ length t)
found_count f =
    let before = count_below f.before in
    let head = head-later (head_of f.head).1 in
    (omega (arith, value-longer f.value), value_within f.value)

-- the text is UTF-8 up to a place after e
pub record IsUtf8To (t : List ℕ) (e : ℕ) : Type 0 where
  pub end : ℕ
  pub utf8 : IsUtf8 (take end t)
  pub later : e ≤ end
  pub within : end ≤ length t

-- so it is up to the end of an item, if it is UTF-8, or starts with a value in UTF-8
utf8_to_found : {t : List ℕ} {kind : Kind} {n : ℕ} {x : Found} (checks : Bool) → (checks ≡ true → IsUtf8 t) → (checks ≡ false → StartsWithUtf8Value t)
    → IsFound t kind n x → IsUtf8To t x.value.end
utf8_to_found {t} true utf8 sure f = record { end = length t; utf8 = rw (take-length t) (utf8 refl); later = value_within f.value; within = omega arith }
utf8_to_found false utf8 sure f =
    let start = sure refl in
    let y = head_of f.head in
    record { end = start.end; utf8 = start.utf8; later = omega (arith, item_before_end f.before y.1 f.value start.root); within = value_within start.root }

-- a value before there is a part of its own
part_of : {t : List ℕ} {i j e : ℕ} → IsUtf8To t e → IsValue strict t i j → j ≤ e → IsPart t i j
part_of u x l =
    let within = value_within x in
    let before = u.later in
    record { value = x; inside = within; utf8 = utf8_of_span u.end u.utf8 x (omega arith) within }

-- and a key denotes bytes in UTF-8
key_utf8 : {t : List ℕ} {h v e : ℕ} {b : List ℕ} → IsUtf8To t e → IsKey strict t h v b → v ≤ e → IsUtf8 b
key_utf8 {t} {h} {v} {b = b} u x l =
    let later = u.later in
    let size = part_length t 0 u.end (omega arith) u.within in
    let own : IsKey strict (slice_range t 0 u.end) h v b = key_same (item_agrees (part_is t 0 u.end (omega arith) u.within) (omega arith) (omega arith)) (omega arith) x in
    let long : u.end - 0 ≡ u.end = omega arith in
    let same : slice_range t 0 u.end ≡ take u.end t = rw long refl in
    let text : IsUtf8 (slice_range t 0 u.end) = rw same u.utf8 in
    string_utf8 text own.string

-- so it is a string that can be read
key_is_part : {t : List ℕ} {h v e : ℕ} {key : ValueSpan} → IsUtf8To t e → IsKeyAt strict t h key v → v ≤ e → IsTextSpan t key
key_is_part {t} {h} {v} {key = key} u x l =
    let own : IsString strict t key.start key.end x.bytes = rw x.start x.string in
    let escaped : IsTrue key.escaped ↔ IsEscapedString t key.start key.end = rw x.start x.escaped in
    record {
      span = record { bytes = x.bytes; is = own; escaped = escaped };
      utf8 = λ b s. rw (string_one s own).1 (key_utf8 u x.key l);
    }

-- where there is one
head_is_part : {t : List ℕ} {kind : Kind} {h v e : ℕ} {key : Option ValueSpan} → IsUtf8To t e → IsFoundHead t kind h v key → v ≤ e → IfSome key (IsTextSpan t)
head_is_part u (no_key e) l = tt
head_is_part u (a_key x) l = key_is_part u x l

-- what was found is a part of such a text
pub found_part : {t : List ℕ} {kind : Kind} {n : ℕ} {x : Found} (checks : Bool) → (checks ≡ true → IsUtf8 t) → (checks ≡ false → StartsWithUtf8Value t)
    → IsFound t kind n x → IsFoundPart t kind n x
found_part checks utf8 sure f =
    let u = utf8_to_found checks utf8 sure f in
    record { found = f; part = part_of u f.value (omega arith); key = head_is_part u f.head (omega (arith, value-longer f.value)) }

-- a text that was looked at, or needn't be, is UTF-8
pub looked_at : {t : List ℕ} {checks : Bool} {n : ℕ} (is_bytes : Bool) → (is_bytes ≡ true → IsUtf8 t)
    → (checks ≡ true → (is_bytes ≡ true → 0 < n) → IsUtf8 t) → checks ≡ true → IsUtf8 t
looked_at true looked known e = looked refl
looked_at false looked known e = known e (λ b. absurd cc)

-- an error that says one thing says what follows from that
pub err_weaker : {T E : Type 0} {P Q : E → Type 0} (r : Result T E) → ((e : E) → P e → Q e) → IfErr r P → IfErr r Q
err_weaker (Ok x) f h = tt
err_weaker (Err e) f h = f e h

-- a member has a key
pub member_key : {t : List ℕ} {kind : Kind} {h v : ℕ} (key : Option ValueSpan) → kind ≡ Object → IsFoundHead t kind h v key → IfSome key (IsTextSpan t)
    → IsKeyOf t key
member_key None k (no_key e) s = absurd cc
member_key (Some key) k h s = s

-- where a member of a whole object is expected, a key with its colon is
pub reach_key : {t : List ℕ} {kind : Kind} {n h : ℕ} → ItemsReach t kind n h → kind ≡ Object → HasWhole t (after_space t 0)
    → (v : ℕ) × (b : List ℕ) × IsKey strict t h v b
reach_key {t} {n = n} {h} is k x =
    let members : ItemsFit strict t Object (after_space t 0) n h = rw k at is in
    member_has_key x.1 members

-- after the last item that was passed of a whole container a comma or the closing bracket comes
pub after_goes_on : {t : List ℕ} {kind : Kind} {n p : ℕ} → IsAfterItems t kind n p → 0 < n → HasWhole t (after_space t 0) → GoesOn t kind p
after_goes_on (before_all none e) some x = absurd (omega arith)
after_goes_on (after_last item d e) some x = rw e (item_goes_on x.1 item.before item.head item.value)
