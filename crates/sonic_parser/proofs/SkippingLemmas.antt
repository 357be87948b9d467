-- The steps of the loop that skips a container: what is known before a step and what the step found give what is known after it.
use Rattle.std.proofs.Common.{◌≡◌, ◌≢◌, ◌∙◌, sym, ℕ, ◌+◌, ◌-◌, ◌<◌, ◌≤◌, Bool, false, List, [], ◌∷◌, ◌++◌, zero, suc, length, take, get_or, replicate, arith, refl}
use Rattle.std.proofs.Math.Seq.{get_or-append_seam, take-append_seam}
use Rattle.std.proofs.lemmas.List.{append-nil, append_assoc, length-append, length-take, get_or-take, get_or_default, take-take, take_all}
use Rattle.std.proofs.lemmas.List.Sums.{prefix_len-drop_no}
use Rattle.std.specs.Prelude.{Option, None}
use Rattle.sonic_text.specs.declared.kind.Kind.{Kind}
use Rattle.sonic_text.specs.declared.kind.Kind.TheVariants.{Array, Object}
use Rattle.sonic_text.specs.declared.stop.Stop.{Stop}
use Rattle.sonic_text.specs.Places.{byte, is_space, after_space}
use Rattle.sonic_text.specs.Values.{ItemHead, no_head, IsValue, ItemsFit, first_item, next_item, filled}
use Rattle.sonic_text.specs.Faults.{IsFault, in_key, in_value, after_item}
use Rattle.sonic_text.proofs.Places.{byte_within}
use Rattle.sonic_parser.specs.declared.begin.ValueStart.TheVariants.{Inside}
use Rattle.sonic_parser.specs.declared.value_span.ValueSpan.{ValueSpan}
use Rattle.sonic_parser.specs.declared.container.AfterItem.TheVariants.{Item, End}
use Rattle.sonic_parser.specs.declared.skip.Reached.TheVariants.{Expected, Closed}
use Rattle.sonic_parser.specs.Containers.{IsSeparatorFault}
use Rattle.sonic_parser.specs.Internal.Skipping.{IsComplete, IsBegun, IsItemFault, IsReached}
use Rattle.sonic_parser.specs.OpenContainers.{IsOpen, here, inside, IsItemExpected, IsItemEnded, IsTop}
use Rattle.sonic_parser.specs.Parts.{IsAfterValue, IsItem, IsValueEnd}

-- a container whose first item is expected is open alone
pub first_item_expected : {m : Bool} {t : List ℕ} {kind : Kind} {i h : ℕ} → h ≤ length t → ItemsFit m t kind i 0 h → IsReached m t i (kind ∷ []) (Expected h)
first_item_expected {kind = kind} {i} l is = (l, record { kind = kind; p = i; n = 0; outer = []; around = here refl refl; fit = is; kinds_are = refl })

-- the last of the kinds is the one that was added
pub top : (kinds outer : List Kind) (k kind : Kind) → kinds ≡ outer ++ k ∷ [] → IsTop kinds kind → k ≡ kind
top kinds outer k kind e h =
    let n : length (outer ++ k ∷ []) - 1 ≡ length outer = omega (arith, length-append outer (k ∷ [])) in
    let last : get_or kinds (length kinds - 1) kind ≡ k = rw (e, n) (get_or-append_seam outer k [] kind) in
    sym last ∙ h

-- one kind alone is the last
pub top_is : (kinds : List Kind) (k kind : Kind) → 0 < length kinds → IsTop kinds k → IsTop kinds kind → k ≡ kind
top_is kinds k kind some g h = sym g ∙ get_or_default kinds (length kinds - 1) k kind (omega arith) ∙ h

-- the last of the first n kinds
abbrev pub last_of : List Kind → ℕ → Kind
last_of kinds n = get_or kinds (n - 1) Array

pub top_of_first : (kinds : List Kind) (n : ℕ) → 0 < n → n ≤ length kinds → IsTop (take n kinds) (last_of kinds n)
top_of_first kinds n some room =
    let long : length (take n kinds) ≡ n = omega (arith, length-take n kinds, room) in
    rw long (get_or-take n kinds (n - 1) (last_of kinds n) (omega arith) ∙ get_or_default kinds (n - 1) (last_of kinds n) Array (omega arith))

-- and all before it
pub first_of_first : (kinds : List Kind) (n : ℕ) → 0 < n → n ≤ length kinds → take (n - 1) kinds ≡ take (length (take n kinds) - 1) (take n kinds)
first_of_first kinds n some room =
    let long : length (take n kinds) ≡ n = omega (arith, length-take n kinds, room) in
    rw long (sym (take-take (n - 1) n kinds (omega arith)))

-- with more room after them the kinds are the same
pub kinds_first : (kinds more : List Kind) (n : ℕ) → length kinds ≤ n → take (length kinds) (take n kinds ++ more) ≡ kinds
kinds_first kinds more n room = rw (take_all n kinds room) (take-append_seam kinds more)

-- without it the others are left
below : (kinds outer : List Kind) (k : Kind) → kinds ≡ outer ++ k ∷ [] → take (length kinds - 1) kinds ≡ outer
below kinds outer k e =
    let n : length (outer ++ k ∷ []) - 1 ≡ length outer = omega (arith, length-append outer (k ∷ [])) in
    rw (e, n) (take-append_seam outer (k ∷ []))

-- so there is one
one_more : (kinds outer : List Kind) (k : Kind) → kinds ≡ outer ++ k ∷ [] → 0 < length kinds
one_more kinds outer k e = rw e (omega (arith, length-append outer (k ∷ [])))

-- some container is open where an item of one is expected
pub some_open : {m : Bool} {t : List ℕ} {i h : ℕ} {kinds : List Kind} → IsItemExpected m t i kinds h → 0 < length kinds
some_open {kinds = kinds} d = one_more kinds d.outer d.kind d.kinds_are

-- the items of the innermost container, whose kind is the last
fit_top : {m : Bool} {t : List ℕ} {i h : ℕ} {kinds : List Kind} {kind : Kind} (d : IsItemExpected m t i kinds h) → IsTop kinds kind → ItemsFit m t kind d.p d.n h
fit_top {kinds = kinds} {kind} d last = rw (top kinds d.outer d.kind kind d.kinds_are last) at d.fit

-- and the head of its item
head_top : {m : Bool} {t : List ℕ} {i h v : ℕ} {kinds : List Kind} {kind : Kind} (d : IsItemExpected m t i kinds h) → IsTop kinds kind → IsItem m t kind h v
    → (label : Option (List ℕ)) × ItemHead m t d.kind h v label
head_top {kinds = kinds} {kind} d last y = (y.label, rw (top kinds d.outer d.kind kind d.kinds_are last) y.head)

-- what is at the place of the item's value is its value
pub item_ended : {m : Bool} {t : List ℕ} {i h v e : ℕ} {kinds : List Kind} {kind : Kind} → IsItemExpected m t i kinds h → IsTop kinds kind → IsItem m t kind h v
    → IsValueEnd m t v e → IsItemEnded m t i kinds e
item_ended {h = h} {v} d last y x =
    let head = head_top d last y in
    record { h = h; v = v; label = head.0; item = d; head = head.1; value = x.2 }

-- the value of an item is read
pub item_complete : {m : Bool} {t : List ℕ} {i h v : ℕ} {kinds : List Kind} {kind : Kind} {x : ValueSpan} → IsItemExpected m t i kinds h → IsTop kinds kind
    → IsItem m t kind h v → IsComplete m t v x → IsItemEnded m t i kinds x.end
item_complete {h = h} {v} d last y x =
    let head = head_top d last y in
    record { h = h; v = v; label = head.0; item = d; head = head.1; value = x.value }

-- or it is one more open container
pub item_inside : {m : Bool} {t : List ℕ} {i h v g : ℕ} {kinds : List Kind} {kind inner : Kind} → IsItemExpected m t i kinds h → IsTop kinds kind
    → IsItem m t kind h v → IsBegun m t v (Inside inner g) → IsReached m t i (kinds ++ inner ∷ []) (Expected g)
item_inside {v = v} {kinds = kinds} {inner = inner} d last y b = (
  b.1,
  record { kind = inner; p = v; n = 0; outer = kinds; around = inside d.around d.fit (head_top d last y).1 d.kinds_are; fit = b.2; kinds_are = refl },
)

-- where a byte is that is no white space, none is passed
pub byte_stays : (t : List ℕ) (q b : ℕ) → byte t q ≡ b → 0 < b → is_space b ≡ false → after_space t q ≡ q
byte_stays t q b e some other =
    let inside : q < length t = byte_within t q (λ z. omega (arith, e, z, some)) in
    omega (arith, prefix_len-drop_no is_space t q 0 inside (rw e other))

-- the kind that was added is the last
pub added_top : (kinds : List Kind) (kind : Kind) → IsTop (kinds ++ kind ∷ []) kind
added_top kinds kind =
    let n : length (kinds ++ kind ∷ []) - 1 ≡ length kinds = omega (arith, length-append kinds (kind ∷ [])) in
    rw n (get_or-append_seam kinds kind [] kind)

-- arrays one directly inside the other where an item of an array is expected
pub arrays_inside : {m : Bool} {t : List ℕ} {i : ℕ} (n p : ℕ) (kinds : List Kind) → ((k : ℕ) → k ≤ n → byte t (p + k) ≡ 91) → IsTop kinds Array
    → IsReached m t i kinds (Expected p) → IsReached m t i (kinds ++ replicate n Array) (Expected (p + n)) × IsTop (kinds ++ replicate n Array) Array
arrays_inside zero p kinds brackets last r =
    let same : p + 0 ≡ p = omega arith in
    (rw (append-nil kinds, same) r, rw (append-nil kinds) last)
arrays_inside {m} {t} {i} (suc n) p kinds brackets last r =
    let first : p + 0 ≡ p = omega arith in
    let opens : byte t p ≡ 91 = rw first at (brackets 0 (omega arith)) in
    let next : byte t (p + 1) ≡ 91 = brackets 1 (omega arith) in
    let fit : ItemsFit m t Array p 0 (p + 1) = first_item opens (sym (byte_stays t (p + 1) 91 next (omega arith) refl)) (λ e. omega (arith, e, next)) refl in
    let within : p < length t = byte_within t p (λ z. omega (arith, opens, z)) in
    let item : IsItem m t Array p p = record { later = omega arith; within = r.0; label = None; head = no_head refl } in
    let one : IsReached m t i (kinds ++ Array ∷ []) (Expected (p + 1)) = item_inside r.1 last item (omega arith, omega arith, fit) in
    let more = arrays_inside n (p + 1) (kinds ++ Array ∷ []) (λ k l. let place : p + 1 + k ≡ p + (k + 1) = omega arith in rw place (brackets (k + 1) (omega (arith, l)))) (added_top kinds Array) one in
    let sum : p + 1 + n ≡ p + suc n = omega arith in
    rw (append_assoc kinds (Array ∷ []) (replicate n Array), sum) at more

-- after a comma the next item is expected
pub next_expected : {m : Bool} {t : List ℕ} {i e h : ℕ} {kinds : List Kind} (kind : Kind) → IsItemEnded m t i kinds e → IsAfterValue t kind e (Item h)
    → IsReached m t i kinds (Expected h)
next_expected kind x b =
    let d = x.item in
    (b.1, record { kind = d.kind; p = d.p; n = d.n + 1; outer = d.outer; around = d.around; fit = next_item d.fit x.head x.value b.2.0 b.2.1 refl; kinds_are = d.kinds_are })

-- the innermost container is whole, and these are still open around it
pub record IsClosed (m : Bool) (t : List ℕ) (i : ℕ) (kinds : List Kind) (j : ℕ) : Type 0 where
  pub p : ℕ
  pub around : IsOpen m t i p kinds
  pub value : IsValue m t p j
  pub within : j ≤ length t

-- so it is at the closing bracket
pub last_ended : {m : Bool} {t : List ℕ} {i e j : ℕ} {kinds outer : List Kind} {kind : Kind} → IsItemEnded m t i kinds e → IsTop kinds kind
    → IsAfterValue t kind e (End j) → outer ≡ take (length kinds - 1) kinds → IsClosed m t i outer j
last_ended {kinds = kinds} {kind = kind} x last b left =
    let d = x.item in
    let head = rw (top kinds d.outer d.kind kind d.kinds_are last) at x.head in
    record { p = d.p; around = rw (left, below kinds d.outer d.kind d.kinds_are) d.around; value = filled (fit_top d last) head x.value b.2.0 b.2.1; within = b.1 }

-- with nothing open the whole value ended
pub closed_all : {m : Bool} {t : List ℕ} {i j : ℕ} {kinds : List Kind} → IsClosed m t i kinds j → length kinds ≡ 0 → IsReached m t i kinds (Closed j)
closed_all {kinds = kinds} c z = elim c.around [
  | here e none ↦ (c.within, rw (← e) c.value)
  | inside {kind} {outer = outer} o is y k ↦ absurd (omega (arith, one_more kinds outer kind k))
]

-- else the value of an item ended
pub closed_more : {m : Bool} {t : List ℕ} {i j : ℕ} {kinds : List Kind} → IsClosed m t i kinds j → length kinds ≢ 0 → IsItemEnded m t i kinds j
closed_more {kinds = kinds} c some = elim c.around [
  | here e none ↦ absurd (some (rw none refl))
  | inside {kind} {p} {n} {h} {v} {label} {outer} o is y k ↦
      record {
        h = h;
        v = c.p;
        label = label;
        item = record { kind = kind; p = p; n = n; outer = outer; around = o; fit = is; kinds_are = k };
        head = y;
        value = c.value;
      }
]

-- a fault inside open containers is the fault of the outermost
pub fault_up : {m : Bool} {t : List ℕ} {i p : ℕ} {kinds : List Kind} {s : Stop} → IsOpen m t i p kinds → IsFault m t p s → IsFault m t i s
fault_up (here e _) f = rw (sym e) f
fault_up (inside o is y _) f = fault_up o (in_value is y f)

-- so is what is no key
pub fault_item : {m : Bool} {t : List ℕ} {i h : ℕ} {kinds : List Kind} {kind : Kind} {s : Stop} → IsItemExpected m t i kinds h → IsTop kinds kind
    → IsItemFault m t kind h s → IsFault m t i s
fault_item {m} {t} {h = h} {kinds} {kind} d last f =
    let fit : ItemsFit m t Object d.p d.n h = rw f.0 at (fit_top d last) in
    fault_up d.around (in_key fit f.1)

-- and what is no value
pub fault_value : {m : Bool} {t : List ℕ} {i h v : ℕ} {kinds : List Kind} {kind : Kind} {s : Stop} → IsItemExpected m t i kinds h → IsTop kinds kind
    → IsItem m t kind h v → IsFault m t v s → IsFault m t i s
fault_value d last y f = fault_up d.around (in_value d.fit (head_top d last y).1 f)

-- and what doesn't go on after one
pub fault_after : {m : Bool} {t : List ℕ} {i e : ℕ} {kinds : List Kind} {kind : Kind} {s : Stop} → IsItemEnded m t i kinds e → IsTop kinds kind
    → IsSeparatorFault t kind e s → IsFault m t i s
fault_after {m} {t} {kinds = kinds} {kind} x last f =
    let d = x.item in
    let head = rw (top kinds d.outer d.kind kind d.kinds_are last) at x.head in
    fault_up d.around (after_item (fit_top d last) head x.value f.0 f.1)

pub ruleset steps = (some_open, item_inside)
