-- A path has one outcome, which ends inside the value where the path begins, and two that mix nowhere fail at one place for one reason.
use Rattle.std.proofs.Common.{◌≡◌, inl, inr, ℕ, List, [], ◌∷◌, ◌++◌, refl, ◌≢◌, ◌+◌, ◌<◌, arith, ◌-◌, ◌≤◌, ◌==◌, ◌&&◌, Bool, true, false, if◌then◌else◌, ◌⊎◌, ap, sym}
use Rattle.std.proofs.lemmas.Bool.{cases_order}
use Rattle.std.proofs.lemmas.Bool.Decides.{nat_tests}
use Rattle.std.specs.Prelude.{Option}
use Rattle.sonic_error.specs.declared.code.ErrorCode.{ErrorCode}
use Rattle.sonic_error.specs.declared.code.ErrorCode.TheVariants.{Message}
use Rattle.sonic_error.specs.declared.json_type.Note.TheVariants.{Mismatch}
use Rattle.sonic_find.proofs.PathLemmas.Lead.{named_one}
use Rattle.sonic_find.proofs.PathLemmas.Rule.{NamesItem, first_named, by_named, by_first, leads_by_one, only_no_repeats, repeats_one, ByRule, leads_there, repeats_there, nowhere_there, by_rule, by_rule_or_not, EndsBefore, item_ends}
use Rattle.sonic_find.specs.Laws.{ExactlyOne}
use Rattle.sonic_find.specs.Paths.{Outcome, Evaluates, EvaluatesBy, LeadsBy, Repeats, fails, kind_of, IsNamed, NoneNamed, LeadsOn, found, lacks, cut, fails_at, past_end, nowhere, empty_code, wanted_of}
use Rattle.sonic_find.specs.Paths.EvaluatesBy.{found_here, goes_on, repeats, leads_nowhere, cut_here, cut_before}
use Rattle.sonic_pointer.specs.declared.rule.KeyRule.{KeyRule}
use Rattle.sonic_pointer.specs.declared.rule.KeyRule.TheVariants.{First, Refuse}
use Rattle.sonic_text.proofs.Insides.{item_whole, item_before_end, item_before_fault, comma_after, items_after}
use Rattle.sonic_text.proofs.Outcomes.{value_some_outcome}
use Rattle.sonic_text.proofs.Values.{key-longer, items-later, value_end_one, value_fault_one, value_never_both, head-later, value-longer, items_one, items_kind}
use Rattle.sonic_text.specs.Faults.{IsFault}
use Rattle.sonic_text.specs.Faults.IsFault.{in_value}
use Rattle.sonic_text.specs.Paths.{Node, key, Path}
use Rattle.sonic_text.specs.Places.{byte, after_space}
use Rattle.sonic_text.specs.Strings.{strict}
use Rattle.sonic_text.specs.Values.{type_at, IsValue, ItemsFit, opening, closing, ItemHead, key_head}
use Rattle.sonic_text.specs.declared.kind.Kind.{Kind}
use Rattle.sonic_text.specs.declared.kind.Kind.TheVariants.{Object, Array}
use Rattle.sonic_text.specs.declared.stop.Stop.{Stop}

-- a path leads to one outcome
pub by_one : {rule : KeyRule} {t : List ℕ} (path : List Node) {i : ℕ} {o p : Outcome} → EvaluatesBy rule t i path o → EvaluatesBy rule t i path p → o ≡ p
by_one [] (found_here x) (found_here y) = rw (value_end_one x y)
by_one [] (found_here x) (cut_here f) = absurd (value_never_both x f)
by_one [] (cut_here f) (found_here x) = absurd (value_never_both x f)
by_one [] (cut_here f) (cut_here g) = rw (value_fault_one f g)
by_one {rule} {t} (node ∷ rest) {i} {p = p} (goes_on {v} l a) (goes_on {v = w} m b) =
    let same : w ≡ v = leads_by_one rule t i node m l in
    let c : EvaluatesBy rule t v rest p = rw same at b in
    by_one rest a c
by_one {rule} (node ∷ rest) (goes_on {v} l a) (leads_nowhere x none e) = absurd (by_first rule node v l none)
by_one (node ∷ rest) (goes_on {v} l a) (cut_before f none) = absurd (none v l)
by_one (key k ∷ rest) (goes_on l a) (repeats y) = absurd (only_no_repeats l y)
by_one (key k ∷ rest) (repeats y) (goes_on l a) = absurd (only_no_repeats l y)
by_one (key k ∷ rest) (repeats y) (repeats z) = rw (repeats_one y z)
by_one (key k ∷ rest) (repeats y) (leads_nowhere x none e) = absurd (none y.v y.first)
by_one (key k ∷ rest) (repeats y) (cut_before f none) = absurd (value_never_both y.whole f)
by_one (key k ∷ rest) (leads_nowhere x none e) (repeats y) = absurd (none y.v y.first)
by_one (key k ∷ rest) (cut_before f none) (repeats y) = absurd (value_never_both y.whole f)
by_one {rule} (node ∷ rest) (leads_nowhere x none e) (goes_on {v} l a) = absurd (by_first rule node v l none)
by_one (node ∷ rest) (leads_nowhere x none e) (leads_nowhere y other d) = let same = value_end_one x y in rw (e, d, same) refl
by_one (node ∷ rest) (leads_nowhere x none e) (cut_before f other) = absurd (value_never_both x f)
by_one (node ∷ rest) (cut_before f none) (goes_on {v} l a) = absurd (none v l)
by_one (node ∷ rest) (cut_before f none) (leads_nowhere x other e) = absurd (value_never_both x f)
by_one (node ∷ rest) (cut_before f none) (cut_before g other) = rw (value_fault_one f g)

-- a path whose node does so by the rule leads to some outcome
whole_some : {rule : KeyRule} {t : List ℕ} {i j : ℕ} {node : Node} (rest : List Node) → IsValue strict t i j
    → ((v : ℕ) → (o : Outcome) × EvaluatesBy rule t v rest o) → ByRule rule t i node → (o : Outcome) × EvaluatesBy rule t i (node ∷ rest) o
whole_some rest x go (leads_there v l) = let r = go v in (r.0, goes_on l r.1)
whole_some rest x go (repeats_there y) = (_, repeats y)
whole_some rest x go (nowhere_there none) = (_, leads_nowhere x none refl)

-- a path leads to some outcome
pub by_some : (rule : KeyRule) (t : List ℕ) (path : List Node) (i : ℕ) → (o : Outcome) × EvaluatesBy rule t i path o
by_some rule t [] i = elim (value_some_outcome strict t i) [ inl x ↦ (_, found_here x.1) | inr f ↦ (_, cut_here f.1) ]
by_some rule t (node ∷ rest) i = elim (value_some_outcome strict t i) [
  | inl x ↦ whole_some rest x.1 (λ v. by_some rule t rest v) (by_rule rule node x.1)
  | inr f ↦ elim (by_rule_or_not rule node f.1) [
    | inl l ↦ let r = by_some rule t rest l.0 in (r.0, goes_on l.1 r.1)
    | inr none ↦ (_, cut_before f.1 none)
  ]
]

-- so under each rule
pub by_exactly_one : (rule : KeyRule) (t : List ℕ) (i : ℕ) (path : List Node) → ExactlyOne (EvaluatesBy rule t i path)
by_exactly_one rule t i path = record { some = by_some rule t path i; one = λ o p a b. by_one path a b }

-- and by first equal keys
pub evaluates_one : {t : List ℕ} (path : List Node) {i : ℕ} {o p : Outcome} → Evaluates t i path o → Evaluates t i path p → o ≡ p
evaluates_one path a b = by_one path a b

pub evaluates_some : (t : List ℕ) (path : List Node) (i : ℕ) → (o : Outcome) × Evaluates t i path o
evaluates_some t path i = by_some First t path i

pub path_one : (t : List ℕ) (i : ℕ) (path : List Node) → ExactlyOne (Evaluates t i path)
path_one t i path = by_exactly_one First t i path

-- what leads on by a node leads on from the place that it leads to
pub down_by : {rule : KeyRule} {t : List ℕ} {i v : ℕ} {node : Node} {rest : Path} {o : Outcome} → LeadsBy rule t i node v
    → EvaluatesBy rule t i (node ∷ rest) o → EvaluatesBy rule t v rest o
down_by {rule} {t} {i} {node = node} l (goes_on m a) = rw (leads_by_one rule t i node m l) at a
down_by {rule} {v = v} {node} l (leads_nowhere x none e) = absurd (by_first rule node v l none)
down_by {v = v} l (cut_before f none) = absurd (none v l)
down_by l (repeats y) = absurd (only_no_repeats l y)

pub leads_down : {t : List ℕ} {i v : ℕ} {node : Node} {rest : Path} {o : Outcome} → LeadsOn t i node v → Evaluates t i (node ∷ rest) o → Evaluates t v rest o
leads_down l a = down_by l a

-- a path that fails or lacks its key does so at q
abbrev pub EndsAt : Outcome → ℕ → Type 0
EndsAt (found i j) q = ⊥
EndsAt (lacks p) q = p ≡ q
EndsAt (fails s) q = s.place ≡ q
EndsAt (cut s) q = ⊥

-- and nowhere else
ends_one : (o : Outcome) {p q : ℕ} → EndsAt o p → EndsAt o q → p ≡ q
ends_one (found i j) x y = absurd x
ends_one (lacks q) x y = cc
ends_one (fails s) x y = cc
ends_one (cut s) x y = absurd x

-- what holds of two outcomes holds of each choice between them
pub either : (P : Outcome → Type 0) (b : Bool) (x y : Outcome) → P x → P y → P (if b then x else y)
either P true x y h g = h
either P false x y h g = g

-- past the end of a container it fails or lacks its key
past_is : (P : Outcome → Type 0) (q : ℕ) (kind : Kind) → ((code : ErrorCode) → P (fails_at q code)) → P (lacks q) → P (past_end kind q)
past_is P q Array fail lack = fail _
past_is P q Object fail lack = lack

-- what holds of each fail at the last byte, and of a lacking there, holds of what leads nowhere
nowhere_is : (P : Outcome → Type 0) (t : List ℕ) (i q : ℕ) (kind : Kind) → ((code : ErrorCode) → P (fails_at q code)) → P (lacks q) → P (nowhere t i q kind)
nowhere_is P t i q kind fail lack =
    either P (byte t i == opening kind && byte t (after_space t (i + 1)) == closing kind) _ _ (fail _)
    (either P (byte t i == opening kind) _ _ (past_is P q kind fail lack) (fail _))

-- a node that leads nowhere in a whole value ends at the value's last byte
pub nowhere_ends : (t : List ℕ) (i q : ℕ) (kind : Kind) → EndsAt (nowhere t i q kind) q
nowhere_ends t i q kind = nowhere_is (λ o. EndsAt o q) t i q kind (λ code. refl) refl

-- so a path that does ends there
nowhere_one : (t : List ℕ) (i n : ℕ) (kind : Kind) (o : Outcome) {q : ℕ} → o ≡ nowhere t i n kind → EndsAt o q → q ≡ n
nowhere_one t i n kind o e h = ends_one o h (rw e (nowhere_ends t i n kind))

-- in a whole value a node leads to a whole value, which ends before it
pub part_named : {t : List ℕ} {i v j : ℕ} {node : Node} → NamesItem t i node v → IsValue strict t i j → (e : ℕ) × IsValue strict t v e × (e < j)
part_named l x = let y = item_whole x l.fit l.item.head in (y.0, y.1, item_before_end l.fit l.item.head y.1 x)

pub part_of_whole : {t : List ℕ} {i v j : ℕ} {node : Node} → LeadsOn t i node v → IsValue strict t i j → (e : ℕ) × IsValue strict t v e × (e < j)
part_of_whole l x = part_named (first_named l) x

-- a second item is expected before the end of the whole value
second_inside : {t : List ℕ} {i j q : ℕ} {node : Node} (y : Repeats t i node q) → IsValue strict t i j → (i < q) × (q + 1 < j)
second_inside {t} {i} {q = q} {node} y x =
    let named : NamesItem t i node y.w = record { n = y.n; h = q; fit = y.fit; item = y.item } in
    let part = part_named named x in
    (omega (arith, items-later y.fit), omega (arith, head-later y.item.head, value-longer part.1, part.2))

-- in a whole value a path ends before the value does
pub ends_before_end : {rule : KeyRule} {t : List ℕ} (path : List Node) {i j q : ℕ} {o : Outcome} → EvaluatesBy rule t i path o → IsValue strict t i j → EndsAt o q → q < j
ends_before_end [] (found_here x) y h = absurd h
ends_before_end [] (cut_here f) y h = absurd h
ends_before_end (key k ∷ rest) (repeats z) y h = omega (arith, (second_inside z y).1, h)
ends_before_end {rule} (node ∷ rest) (goes_on l a) y h = let p = part_named (by_named rule node l) y in omega (arith, ends_before_end rest a p.1 h, p.2)
ends_before_end {t = t} (node ∷ rest) {i} {o = o} (leads_nowhere {j} x none e) y h =
    omega (arith, value_end_one x y, value-longer x, nowhere_one t i (j - 1) (kind_of node) o e h)
ends_before_end (node ∷ rest) (cut_before f none) y h = absurd h

-- a path ends at or after the place where it begins
pub ends_from_start : {rule : KeyRule} {t : List ℕ} (path : List Node) {i q : ℕ} {o : Outcome} → EvaluatesBy rule t i path o → EndsAt o q → i ≤ q
ends_from_start [] (found_here x) h = absurd h
ends_from_start [] (cut_here f) h = absurd h
ends_from_start (key k ∷ rest) (repeats z) h = omega (arith, items-later z.fit, h)
ends_from_start {rule} (node ∷ rest) (goes_on l a) h =
    let x = by_named rule node l in
    omega (arith, items-later x.fit, head-later x.item.head, ends_from_start rest a h)
ends_from_start {t = t} (node ∷ rest) {i} {o = o} (leads_nowhere {j} x none e) h =
    omega (arith, value-longer x, nowhere_one t i (j - 1) (kind_of node) o e h)
ends_from_start (node ∷ rest) (cut_before f none) h = absurd h

-- a path ends before the fault of the value at which it begins
pub ends_before_fault : {rule : KeyRule} {t : List ℕ} (path : List Node) {i q : ℕ} {o : Outcome} {r : Stop} → EvaluatesBy rule t i path o → IsFault strict t i r → EndsAt o q
    → q < r.place
ends_before_fault [] (found_here x) f h = absurd h
ends_before_fault [] (cut_here g) f h = absurd h
ends_before_fault (key k ∷ rest) (repeats z) f h = absurd (value_never_both z.whole f)
ends_before_fault {rule} {t} (node ∷ rest) {r = r} (goes_on {v} l a) f h = (let y = by_named rule node l in elim (value_some_outcome strict t v) [
  | inl x ↦ omega (arith, ends_before_end rest a x.1 h, item_before_fault y.fit y.item.head x.1 f)
  | inr g ↦ (let same : g.0 ≡ r = value_fault_one (in_value y.fit y.item.head g.1) f in ends_before_fault rest a (rw same at g.1) h)
])
ends_before_fault (node ∷ rest) (leads_nowhere x none e) f h = absurd (value_never_both x f)
ends_before_fault (node ∷ rest) (cut_before g none) f h = absurd h

-- a cut is the fault of the value at which the path begins
pub cut_is_fault : {rule : KeyRule} {t : List ℕ} (path : List Node) {i : ℕ} {s : Stop} → EvaluatesBy rule t i path (cut s) → IsFault strict t i s
cut_is_fault [] (cut_here f) = f
cut_is_fault {rule} (node ∷ rest) (goes_on l a) = (let y = by_named rule node l in in_value y.fit y.item.head (cut_is_fault rest a))
cut_is_fault {t = t} (node ∷ rest) {i} (leads_nowhere {j = j} x none e) = absurd (rw (← e) at (nowhere_ends t i (j - 1) (kind_of node)))
cut_is_fault (node ∷ rest) (cut_before f none) = f

-- two numbers that differ
differ : (a b : ℕ) → a ≢ b → (a == b) ≡ false
differ a b other = grind (arith, nat_tests)

-- and two that don't
agree : (a b : ℕ) → a ≡ b → (a == b) ≡ true
agree a b same = grind (arith, nat_tests)

-- what comes of a node in an empty container of its kind
pub nowhere_empty : (t : List ℕ) (i q : ℕ) (kind : Kind) → byte t i ≡ opening kind → byte t (after_space t (i + 1)) ≡ closing kind
    → nowhere t i q kind ≡ fails_at q (empty_code kind)
nowhere_empty t i q kind o c = rw (agree (byte t i) (opening kind) o, agree (byte t (after_space t (i + 1))) (closing kind) c) refl

-- in one with items
pub nowhere_past : (t : List ℕ) (i q : ℕ) (kind : Kind) → byte t i ≡ opening kind → byte t (after_space t (i + 1)) ≢ closing kind
    → nowhere t i q kind ≡ past_end kind q
nowhere_past t i q kind o c = rw (agree (byte t i) (opening kind) o, differ (byte t (after_space t (i + 1))) (closing kind) c) refl

-- and in another value
pub nowhere_other : (t : List ℕ) (i q : ℕ) (kind : Kind) → byte t i ≢ opening kind
    → nowhere t i q kind ≡ fails_at q (Message (Mismatch (type_at t i) (wanted_of kind)))
nowhere_other t i q kind o = rw (differ (byte t i) (opening kind) o) refl

-- two nodes of one kind are the same, or one leads to a value that ends before the other's
apart : {t : List ℕ} {i v w : ℕ} {a b : Node} → kind_of a ≡ kind_of b → NamesItem t i a v → NamesItem t i b w
    → (a ≡ b) ⊎ (EndsBefore t v w ⊎ EndsBefore t w v)
apart {t} {i} {v} {w} {a} {b} same f g =
    let fit : ItemsFit strict t (kind_of b) i f.n f.h = rw same at f.fit in
    let item : IsNamed t (kind_of b) f.n f.h v a = rw same at f.item in
    elim (cases_order f.n g.n) [
      | inl e ↦
          let there : ItemsFit strict t (kind_of b) i g.n f.h = rw e at fit in
          let named : IsNamed t (kind_of b) g.n g.h v a = rw (e, items_one there g.fit) at item in
          inl (named_one named g.item).1
      | inr (inl l) ↦ inr (inl (item_ends fit item.head g.fit g.item.head l))
      | inr (inr l) ↦ inr (inr (item_ends g.fit g.item.head fit item.head l))
    ]

-- a path fails in a whole value before that ends, and so before a path that begins after it
pub fails_before : {rule : KeyRule} {t : List ℕ} (p q : List Node) {v w : ℕ} {s r : Stop} → EndsBefore t v w → EvaluatesBy rule t v p (fails s) → EvaluatesBy rule t w q (fails r)
    → s.place < r.place
fails_before p q x a b =
    omega (arith, ends_before_end p a x.1 refl, ends_from_start q b refl, x.2)

-- a path that goes on fails before the last byte of a whole value
pub fails_inside : {rule : KeyRule} {t : List ℕ} (b : Node) (p : List Node) {i j v : ℕ} {a : Node} {s r : Stop} → NamesItem t i a v → EvaluatesBy rule t v p (fails s) → IsValue strict t i j
    → fails r ≡ nowhere t i (j - 1) (kind_of b) → s.place < r.place
fails_inside {t = t} b p {i} {j} {r = r} l a x e =
    let part = part_named l x in
    let last : r.place ≡ j - 1 = rw (← e) at (nowhere_ends t i (j - 1) (kind_of b)) in
    omega (arith, ends_before_end p a part.1 refl, last, part.2)

-- after each prefix that the two paths share, their next nodes ask for one kind of container: both are keys, or both indexes
abbrev pub MixNowhere : List Node → List Node → Type 0
MixNowhere p q = (prefix r s : List Node) (a b : Node) → p ≡ prefix ++ a ∷ r → q ≡ prefix ++ b ∷ s → kind_of a ≡ kind_of b

-- the paths after a node that both begin with mix nowhere either
mix_after : (a b : Node) (p q : List Node) → MixNowhere (a ∷ p) (b ∷ q) → a ≡ b → MixNowhere p q
mix_after a b p q mix same = λ prefix r s c d e f. mix (a ∷ prefix) r s c d (ap (λ (x : List Node). a ∷ x) e) (rw (same, f) refl)

-- a member's value is expected after its key
member_later : {t : List ℕ} {h v : ℕ} {label : Option (List ℕ)} → ItemHead strict t Object h v label → h < v
member_later (key_head y) = key-longer y

-- what fails in a member's value fails at no member's key
fail_apart : {rule : KeyRule} {t : List ℕ} {i v w n q : ℕ} {a : Node} {k : List ℕ} {s : Stop} (p : List Node) → kind_of a ≡ Object → NamesItem t i a v
    → ItemsFit strict t Object i n q → IsNamed t Object n q w (key k) → EvaluatesBy rule t v p (fails s) → s.place ≢ q
fail_apart {t = t} {i} {v} {n = n} {q} {a} p same f is y o =
    let fit : ItemsFit strict t Object i f.n f.h = rw same at f.fit in
    let item : IsNamed t Object f.n f.h v a = rw same at f.item in
    let after = ends_from_start p o refl in
    elim (cases_order f.n n) [
      | inl e ↦
          let there : ItemsFit strict t Object i n f.h = rw e at fit in
          let place = items_one there is in
          let before = member_later item.head in
          (λ z. omega (arith, after, place, before, z))
      | inr (inl l) ↦
          let x = comma_after fit l item.head is in
          let end = items_after fit item.head x.1 is l in
          (λ z. omega (arith, ends_before_end p o x.1 refl, end, z))
      | inr (inr l) ↦
          let x = comma_after is l y.head fit in
          let end = items_after is y.head x.1 fit l in
          (λ z. omega (arith, after, end, head-later item.head, head-later y.head, value-longer x.1, z))
    ]

-- where two paths that mix nowhere fail at one place, they fail at one stop
pub fails_agree : {rule : KeyRule} {t : List ℕ} (p q : List Node) {i : ℕ} {s r : Stop} → MixNowhere p q → EvaluatesBy rule t i p (fails s)
    → EvaluatesBy rule t i q (fails r) → s.place ≡ r.place → s ≡ r
fails_agree [] q mix o u at_one = elim o [ ]
fails_agree (a ∷ p) [] mix o u at_one = elim u [ ]
fails_agree {t = t} (a ∷ p) (b ∷ q) {i} {r = r} mix (leads_nowhere {j} x none e) (leads_nowhere {j = k} y other d) at_one =
    let same : k ≡ j = value_end_one y x in
    let kind : kind_of b ≡ kind_of a = sym (mix [] p q a b refl refl) in
    let other_is : fails r ≡ nowhere t i (j - 1) (kind_of a) = rw (same, kind) at d in
    cc
fails_agree {rule} (a ∷ p) (b ∷ q) mix (leads_nowhere x none e) (goes_on l o) at_one =
    let h = fails_inside a q (by_named rule b l) o x e in absurd (omega arith)
fails_agree {rule} (a ∷ p) (b ∷ q) mix (goes_on l o) (leads_nowhere x none e) at_one =
    let h = fails_inside b p (by_named rule a l) o x e in absurd (omega arith)
fails_agree {rule} {t} (a ∷ p) (b ∷ q) {i} {r = r} mix (goes_on {v} l o) (goes_on {v = w} m u) at_one =
    elim (apart (mix [] p q a b refl refl) (by_named rule a l) (by_named rule b m)) [
      | inl same ↦
          let n : LeadsBy rule t i b v = rw same at l in
          let value_start : w ≡ v = leads_by_one rule t i b m n in
          let z : EvaluatesBy rule t v q (fails r) = rw value_start at u in
          fails_agree p q (mix_after a b p q mix same) o z at_one
      | inr (inl x) ↦ let h = fails_before p q x o u in absurd (omega arith)
      | inr (inr x) ↦ let h = fails_before q p x u o in absurd (omega arith)
    ]
fails_agree (key a ∷ p) (key b ∷ q) mix (repeats y) (repeats z) at_one = cc
fails_agree (key a ∷ p) (b ∷ q) mix (repeats y) (goes_on l o) at_one =
    absurd (fail_apart q (sym (mix [] p q (key a) b refl refl)) (by_named Refuse b l) y.fit y.item o (sym at_one))
fails_agree (a ∷ p) (key b ∷ q) mix (goes_on l o) (repeats y) at_one =
    absurd (fail_apart p (mix [] p q a (key b) refl refl) (by_named Refuse a l) y.fit y.item o at_one)
fails_agree {t = t} (key a ∷ p) (b ∷ q) {i} {r = r} mix (repeats y) (leads_nowhere {j} x none e) at_one =
    let last : r.place ≡ j - 1 = rw (← e) at (nowhere_ends t i (j - 1) (kind_of b)) in
    absurd (omega (arith, (second_inside y x).1, last, at_one))
fails_agree {t = t} (a ∷ p) (key b ∷ q) {i} {s} mix (leads_nowhere {j} x none e) (repeats y) at_one =
    let last : s.place ≡ j - 1 = rw (← e) at (nowhere_ends t i (j - 1) (kind_of a)) in
    absurd (omega (arith, (second_inside y x).1, last, at_one))

-- a node that names none of the items so far names a later item, if it names one, where it isn't the name of the next
pub names_later : {t : List ℕ} {i n h v w : ℕ} {kind : Kind} {a b : Node} → NoneNamed t i kind n h b → IsNamed t kind n h v a → a ≢ b
    → (x : NamesItem t i b w) → (kind_of b ≡ kind) × (n < x.n)
names_later {t} {i} {n} {h} {v} {w} {kind} {a} {b} none x other l =
    let same : kind_of b ≡ kind = items_kind l.fit none.fit in
    let fit : ItemsFit strict t kind i l.n l.h = rw same at l.fit in
    let item : IsNamed t kind l.n l.h w b = rw same at l.item in
    elim (cases_order n l.n) [
      | inl e ↦
          let at_l : ItemsFit strict t kind i l.n h = rw e at none.fit in
          let named : IsNamed t kind l.n l.h v a = rw (e, items_one at_l fit) at x in
          absurd (other (named_one named item).1)
      | inr (inl less) ↦ (same, less)
      | inr (inr more) ↦ absurd (none.none l.n l.h w more fit item)
    ]

-- so that item is expected after the value of the next
later_value : {t : List ℕ} {i n h v w : ℕ} {kind : Kind} {a b : Node} → NoneNamed t i kind n h b → IsNamed t kind n h v a → a ≢ b
    → (x : NamesItem t i b w) → EndsBefore t v x.h
later_value {t} {i} {kind = kind} none x other l =
    let later = names_later none x other l in
    let fit : ItemsFit strict t kind i l.n l.h = rw later.0 at l.fit in
    let y = comma_after none.fit later.1 x.head fit in
    (y.0, y.1, items_after none.fit x.head y.1 fit later.1)

-- and so a path fails after a fail in the next item's value
pub fails_later_by : {rule : KeyRule} {t : List ℕ} {i n h v : ℕ} {kind : Kind} {a b : Node} (p q : Path) {s r : Stop} → NoneNamed t i kind n h b
    → IsNamed t kind n h v a → a ≢ b → NamesItem t i a v → EvaluatesBy rule t v p (fails s) → EvaluatesBy rule t i (b ∷ q) (fails r) → s.place < r.place
fails_later_by {rule} {b = b} p q none head other leads x (goes_on l y) =
    let named = by_named rule b l in
    let part = later_value none head other named in
    omega (arith, ends_before_end p x part.1 refl, part.2, head-later named.item.head, ends_from_start q y refl)
fails_later_by {b = b} p q none head other leads x (leads_nowhere whole nowhere e) = fails_inside b p leads x whole e
fails_later_by {t = t} {i} {b = key k} p q none head other leads x (repeats y) =
    let named : NamesItem t i (key k) y.w = record { n = y.n; h = _; fit = y.fit; item = y.item } in
    let part = later_value none head other named in
    omega (arith, ends_before_end p x part.1 refl, part.2)

-- so it does by first equal keys
pub fails_later : {t : List ℕ} {i n h v : ℕ} {kind : Kind} {a b : Node} (p q : Path) {s r : Stop} → NoneNamed t i kind n h b → IsNamed t kind n h v a
    → a ≢ b → LeadsOn t i a v → Evaluates t v p (fails s) → Evaluates t i (b ∷ q) (fails r) → s.place < r.place
fails_later p q none head other leads x y = fails_later_by p q none head other (first_named leads) x y
