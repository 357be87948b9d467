-- Keys and heads of items, and how the item that is expected last in a container decides its outcome.
use Rattle.std.proofs.Common.{◌≡◌, ◌≢◌, ◌⊎◌, ℕ, ◌+◌, ◌<◌, ◌≤◌, inl, inr, arith, refl, ap}
use Rattle.std.proofs.Common.{Result, Ok, Err, MatchResult}
use Rattle.std.proofs.lemmas.Bool.{cases_eq}
use Rattle.std.proofs.lemmas.Bool.Decides.{nat_tests}
use Rattle.std.specs.Prelude.{Bool, false, List, Option, Some, None}
use Rattle.sonic_error.specs.declared.code.ErrorCode.TheVariants.{ExpectedColon}
use Rattle.sonic_text.specs.declared.kind.Kind.{Kind}
use Rattle.sonic_text.specs.declared.kind.Kind.TheVariants.{Array, Object}
use Rattle.sonic_text.specs.declared.stop.Stop.{Stop}
use Rattle.sonic_text.specs.Places.{byte, is_space, after_space, stop_at}
use Rattle.sonic_text.specs.Values.{IsKey, opening, closing, ItemHead, IsValue}
use Rattle.sonic_text.specs.Values.ItemHead.{no_head, key_head}
use Rattle.sonic_text.specs.Faults.{BeginsNone, NothingFits, code_after_item, IsKeyFault, IsFault}
use Rattle.sonic_text.specs.Faults.IsKeyFault.{no_quote, key_fault, no_colon}
use Rattle.sonic_text.proofs.Places.{after_space_later}
use Rattle.sonic_text.proofs.Strings.{string_longer, string_one, string_never_both, string_fault_one, string_some}

-- a member's value is expected after the place where its key begins
pub key-longer : {m : Bool} {t : List ℕ} {k v : ℕ} {b : List ℕ} → IsKey m t k v b → k < v
key-longer {t = t} {k = k} h =
    let l : k < h.end = string_longer h.string in
    omega (arith, after_space_later t h.end, after_space_later t (after_space t h.end + 1))

-- a key leads to one place and denotes one list of bytes
pub key_one : {m : Bool} {t : List ℕ} {k v w : ℕ} {b c : List ℕ} → IsKey m t k v b → IsKey m t k w c → (v ≡ w) × (b ≡ c)
key_one h g = let (e, f) = string_one h.string g.string in (rw (h.value_start, g.value_start, e) refl, f)

-- a key that is somewhere has no fault there
pub key_never_both : {m : Bool} {t : List ℕ} {k v : ℕ} {b : List ℕ} {s : Stop} → IsKey m t k v b → IsKeyFault m t k s → ⊥
key_never_both h (no_quote d e) = d h.string.opens
key_never_both h (key_fault o f) = string_never_both h.string f
key_never_both {t = t} h (no_colon {e} x d q) =
    let (p, o) = string_one h.string x in
    let c : byte t (after_space t e) ≡ 58 = rw p at h.colon in
    d c

-- a key that isn't there has one fault
pub key_fault_one : {m : Bool} {t : List ℕ} {k : ℕ} {s r : Stop} → IsKeyFault m t k s → IsKeyFault m t k r → s ≡ r
key_fault_one (no_quote d e) (no_quote f g) = cc
key_fault_one (no_quote d e) (key_fault o f) = absurd (d o)
key_fault_one (no_quote d e) (no_colon x c q) = absurd (d x.opens)
key_fault_one (key_fault o f) (no_quote d e) = absurd (d o)
key_fault_one (key_fault o f) (key_fault p g) = string_fault_one f g
key_fault_one (key_fault o f) (no_colon x c q) = absurd (string_never_both x f)
key_fault_one (no_colon x c q) (no_quote d e) = absurd (d x.opens)
key_fault_one (no_colon x c q) (key_fault o f) = absurd (string_never_both x f)
key_fault_one {t = t} (no_colon {e} x c q) (no_colon {e = i} y d p) =
    let (n, o) = string_one x y in
    let f : stop_at t (after_space t e) ExpectedColon ≡ stop_at t (after_space t i) ExpectedColon = rw n refl in
    cc

-- a key is at k, or isn't, for some reason
abbrev pub KeyOutcome : Bool → List ℕ → ℕ → Type 0
KeyOutcome m t k = ((v : ℕ) × ((b : List ℕ) × IsKey m t k v b)) ⊎ ((s : Stop) × IsKeyFault m t k s)

-- a key that is expected has an outcome
pub key_some : (m : Bool) (t : List ℕ) (k : ℕ) → KeyOutcome m t k
key_some m t k = elim (cases_eq (byte t k) 34) [
  | inr d ↦ inr (_, no_quote d refl)
  | inl o ↦ elim (string_some m t k o) [
    | inr (s, f) ↦ inr (s, key_fault o f)
    | inl (e, (b, x)) ↦ elim (cases_eq (byte t (after_space t e)) 58) [
      | inl c ↦ inl (_, (b, record { end = e; string = x; colon = c; value_start = refl }))
      | inr c ↦ inr (_, no_colon x c refl)
    ]
  ]
]

-- an item's value is expected at or after the place where the item is
pub head-later : {m : Bool} {t : List ℕ} {kind : Kind} {h v : ℕ} {l : Option (List ℕ)} → ItemHead m t kind h v l → h ≤ v
head-later (no_head e) = omega arith
head-later (key_head y) = let l = key-longer y in omega arith

-- it is expected at one place, after one key
pub head_one : {m : Bool} {t : List ℕ} {kind : Kind} {h v w : ℕ} {l k : Option (List ℕ)} → ItemHead m t kind h v l → ItemHead m t kind h w k
    → (v ≡ w) × (l ≡ k)
head_one (no_head e) (no_head f) = (cc, refl)
head_one (key_head x) (key_head y) = let (e, f) = key_one x y in (e, ap Some f)

-- a member has no fault in its key
pub head_never_both : {m : Bool} {t : List ℕ} {kind : Kind} {h v : ℕ} {l : Option (List ℕ)} {s : Stop} → kind ≡ Object → ItemHead m t kind h v l → IsKeyFault m t h s → ⊥
head_never_both k (no_head e) f = cc
head_never_both k (key_head y) f = key_never_both y f

-- the item's value is expected somewhere, or a key is missing
pub head_some : (m : Bool) (t : List ℕ) (kind : Kind) (h : ℕ) → ((v : ℕ) × (l : Option (List ℕ)) × ItemHead m t kind h v l) ⊎ ((s : Stop) × (kind ≡ Object) × IsKeyFault m t h s)
head_some m t Array h = inl (h, None, no_head refl)
head_some m t Object h = elim (key_some m t h) [ inl (v, (b, y)) ↦ inl (v, Some b, key_head y) | inr (s, f) ↦ inr (s, refl, f) ]

-- brackets tell kinds apart
pub opening_one : (a b : Kind) → opening a ≡ opening b → a ≡ b
opening_one Array Array e = refl
opening_one Object Object e = refl
opening_one Array Object e = absurd (omega arith)
opening_one Object Array e = absurd (omega arith)

-- no bracket is 0, as after the end of a text
pub opening_not_end : (kind : Kind) → opening kind ≢ 0
opening_not_end Array e = omega arith
opening_not_end Object e = omega arith

-- or a quote
pub opening_no_quote : (kind : Kind) → opening kind ≢ 34
opening_no_quote Array e = omega arith
opening_no_quote Object e = omega arith

-- nor is a closing one
pub closing_not_end : (kind : Kind) → closing kind ≢ 0
closing_not_end Array e = omega arith
closing_not_end Object e = omega arith

-- or a comma
pub closing_no_comma : (kind : Kind) → closing kind ≢ 44
closing_no_comma Array e = omega arith
closing_no_comma Object e = omega arith

-- it is no white space, and no value begins with it
pub closing_no_space : (kind : Kind) → is_space (closing kind) ≡ false
closing_no_space Array = refl
closing_no_space Object = refl

pub closing_begins_none : (kind : Kind) → BeginsNone (closing kind)
closing_begins_none Array = grind (arith, nat_tests)
closing_begins_none Object = grind (arith, nat_tests)

-- a value that is expected ends here, or it isn't there for this reason
abbrev pub Outcome : Bool → List ℕ → ℕ → Result ℕ Stop → Type 0
Outcome m t i r = MatchResult r (IsValue m t i) (IsFault m t i)

-- a value that is expected at i has at most one outcome
abbrev pub OneAt : Bool → List ℕ → ℕ → Type 0
OneAt m t i = (r q : Result ℕ Stop) → Outcome m t i r → Outcome m t i q → r ≡ q

-- each value that is expected after i has at most one outcome
abbrev pub OneAfter : Bool → List ℕ → ℕ → Type 0
OneAfter m t i = (v : ℕ) → i < v → OneAt m t v

-- the outcome of a container of this kind, if the last value in it has the first one
abbrev pub After : List ℕ → Kind → Result ℕ Stop → Result ℕ Stop → Type 0
After t kind (Err s) r = r ≡ Err s
After t kind (Ok e) r =
    (byte t (after_space t e) ≡ closing kind) × (r ≡ Ok (after_space t e + 1))
    ⊎ NothingFits t e (closing kind) × (r ≡ Err (stop_at t (after_space t e) (code_after_item kind)))

-- the last item of a container of this kind is expected at h, and the container has this outcome
pub data LastItem (m : Bool) (t : List ℕ) (kind : Kind) (h : ℕ) (r : Result ℕ Stop) : Type 0 where
  at_key : {s : Stop} → kind ≡ Object → IsKeyFault m t h s → r ≡ Err s → LastItem m t kind h r
  at_value : {v : ℕ} {l : Option (List ℕ)} (last : Result ℕ Stop) → ItemHead m t kind h v l → Outcome m t v last → After t kind last r → LastItem m t kind h r

-- the outcome of the last value decides
after_one : (t : List ℕ) (kind : Kind) (x r q : Result ℕ Stop) → After t kind x r → After t kind x q → r ≡ q
after_one t kind (Err s) r q a b = cc
after_one t kind (Ok e) r q (inl a) (inl b) = cc
after_one t kind (Ok e) r q (inl a) (inr b) = absurd (b.0.1 a.0)
after_one t kind (Ok e) r q (inr a) (inl b) = absurd (a.0.1 b.0)
after_one t kind (Ok e) r q (inr a) (inr b) = cc

-- a container has one outcome, where its last item is expected at one place
pub last_one : {m : Bool} {t : List ℕ} {kind : Kind} {i h : ℕ} {r q : Result ℕ Stop} → OneAfter m t i → i < h → LastItem m t kind h r
    → LastItem m t kind h q → r ≡ q
last_one one l (at_key k f d) (at_key o g e) = let p = key_fault_one f g in cc
last_one one l (at_key k f d) (at_value o y x a) = absurd (head_never_both k y f)
last_one one l (at_value o y x a) (at_key k f d) = absurd (head_never_both k y f)
last_one {m} {t} {kind} {i} {r = r} {q} one l (at_value {v} c y x a) (at_value {v = w} d z u b) =
    let e : w ≡ v = (head_one z y).0 in
    let o : Outcome m t v d = rw e at u in
    let p : d ≡ c = one v (omega (arith, head-later y)) d c o x in
    let g : After t kind c q = rw p at b in
    after_one t kind c r q a g

-- no item with a comma after it is the last
pub last_no_comma : {m : Bool} {t : List ℕ} {kind : Kind} {i h v e : ℕ} {l : Option (List ℕ)} {r : Result ℕ Stop} → OneAfter m t i → i < h → LastItem m t kind h r
    → ItemHead m t kind h v l → IsValue m t v e → byte t (after_space t e) ≢ 44
last_no_comma one l (at_key k f d) y x c = head_never_both k y f
last_no_comma {m} {t} {kind} {i} {v = v} {e} {r} one l (at_value {v = w} o z u a) y x c =
    let p : w ≡ v = (head_one z y).0 in
    let g : Outcome m t v o = rw p at u in
    let d : o ≡ Ok e = one v (omega (arith, head-later y)) o (Ok e) g x in
    let b : After t kind (Ok e) r = rw d at a in
    elim b [ inl f ↦ closing_no_comma kind (omega arith) | inr f ↦ f.0.0 c ]
