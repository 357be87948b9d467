-- What outcomes have among them, and that paths have one answer.
use Rattle.std.proofs.Common.{◌≡◌, ◌≢◌, ◌⊎◌, inl, inr, ℕ, ◌<◌, ◌≤◌, List, [], ◌∷◌, arith, refl, Bool, true, false, take}
use Rattle.std.proofs.lemmas.Bool.{cases_lt}
use Rattle.std.proofs.lemmas.List.Elements.{Contains-append_right, Contains-append_cases, Contains-push_cases}
use Rattle.std.proofs.lemmas.Str.{IsUtf8-from_is_utf8, is_utf8-from_IsUtf8}
use Rattle.std.specs.Prelude.{Contains}
use Rattle.std.specs.Str.{IsUtf8, is_utf8}
use Rattle.sonic_find.proofs.PathLemmas.Outcome.{cut_is_fault, by_one, by_some}
use Rattle.sonic_find.specs.Answers.{IsNearest, nearest_here, nearest_later, NoneFails, NoneCut, SomeLacks, AllLeadBy, no_more, one_more, IsReach, to_the_root, to_the_furthest, Answer, ComeTo, no_path, failing, cutting, lacking, breaking, finding, IsAnswer, IsAnswerBy}
use Rattle.sonic_find.specs.Laws.{ExactlyOne}
use Rattle.sonic_find.specs.Paths.{Outcome, found, lacks, fails, cut, LeadsUnder}
use Rattle.sonic_pointer.specs.declared.rule.KeyRule.{KeyRule}
use Rattle.sonic_pointer.specs.declared.rule.KeyRule.TheVariants.{First}
use Rattle.sonic_text.proofs.Outcomes.{value_some_outcome}
use Rattle.sonic_text.proofs.Values.{value_end_one, value_fault_one, value_never_both}
use Rattle.sonic_text.specs.Documents.{IsRootFault}
use Rattle.sonic_text.specs.Paths.{Node}
use Rattle.sonic_text.specs.Places.{after_space}
use Rattle.sonic_text.specs.Strings.{strict}
use Rattle.sonic_text.specs.declared.stop.Stop.{Stop}

-- nothing is in an empty list
pub none_in_empty : (o : Outcome) → ¬ Contains [] o
none_in_empty o c = let l : c.0 < 0 = c.1 in absurd (omega arith)

-- the first is in a list
pub first_in : (o : Outcome) (os : List Outcome) → Contains (o ∷ os) o
first_in o os = (0, omega arith, refl)

-- and so is each later one
pub later_in : (x o : Outcome) (os : List Outcome) → Contains os o → Contains (x ∷ os) o
later_in x o os c = Contains-append_right (x ∷ []) os o c

-- what is in a list is the first, or a later one
pub first_or_later : (x o : Outcome) (os : List Outcome) → Contains (x ∷ os) o → (x ≡ o) ⊎ Contains os o
first_or_later x o os c = elim (Contains-append_cases (x ∷ []) os o c) [
  | inr d ↦ inr d
  | inl d ↦ elim (Contains-push_cases [] x o d) [ inl e ↦ absurd (none_in_empty o e) | inr e ↦ inl e ]
]

-- the nearest stop is that of a fail
pub nearest_in : {os : List Outcome} {s : Stop} → IsNearest os s → Contains os (fails s)
nearest_in (nearest_here {s} {os} h) = first_in (fails s) os
nearest_in (nearest_later {o} {s} {os} h n) = later_in o (fails s) os (nearest_in n)

-- and no fail is nearer
pub nearest_least : {os : List Outcome} {s : Stop} (r : Stop) → IsNearest os s → Contains os (fails r) → s.place ≤ r.place
nearest_least r (nearest_here {s} {os} h) c = elim (first_or_later (fails s) (fails r) os c) [
  | inl e ↦ (let same : s ≡ r = cc in rw same (omega arith))
  | inr d ↦ h r d
]
nearest_least r (nearest_later {o} {s} {os} h n) c = elim (first_or_later o (fails r) os c) [
  | inl e ↦ (let l = h r e in omega arith)
  | inr d ↦ nearest_least r n d
]

-- there is one nearest stop
pub nearest_one : (os : List Outcome) {s r : Stop} → IsNearest os s → IsNearest os r → s ≡ r
nearest_one [] n m = elim n [ ]
nearest_one (o ∷ os) (nearest_here h) (nearest_here g) = refl
nearest_one (o ∷ os) (nearest_here {s} h) (nearest_later {s = r} g m) =
    let a = h r (nearest_in m) in
    let b = g s refl in
    absurd (omega arith)
nearest_one (o ∷ os) (nearest_later {s} h n) (nearest_here {s = r} g) =
    let a = g s (nearest_in n) in
    let b = h r refl in
    absurd (omega arith)
nearest_one (o ∷ os) (nearest_later h n) (nearest_later g m) = nearest_one os n m

-- some path fails, at the nearest stop
abbrev SomeNearest : List Outcome → Type 0
SomeNearest os = (s : Stop) × IsNearest os s

-- an outcome is of the sort that f makes, or isn't
abbrev IsOrIsnt : {X : Type 0} → (X → Outcome) → Outcome → Type 0
IsOrIsnt {X} f o = ((x : X) × (o ≡ f x)) ⊎ ((x : X) → o ≢ f x)

-- a fail
is_fail : (o : Outcome) → IsOrIsnt fails o
is_fail (found i j) = inr (λ s e. cc)
is_fail (lacks q) = inr (λ s e. cc)
is_fail (fails s) = inl (s, refl)
is_fail (cut s) = inr (λ r e. cc)

-- a cut
is_cut : (o : Outcome) → IsOrIsnt cut o
is_cut (found i j) = inr (λ s e. cc)
is_cut (lacks q) = inr (λ s e. cc)
is_cut (fails s) = inr (λ r e. cc)
is_cut (cut s) = inl (s, refl)

-- a lacking
is_lack : (o : Outcome) → IsOrIsnt lacks o
is_lack (found i j) = inr (λ q e. cc)
is_lack (lacks q) = inl (q, refl)
is_lack (fails s) = inr (λ q e. cc)
is_lack (cut s) = inr (λ q e. cc)

-- what isn't of the sort adds none
none_more : {X : Type 0} (f : X → Outcome) (o : Outcome) (os : List Outcome) → ((x : X) → o ≢ f x) → ((x : X) → ¬ Contains os (f x))
    → (x : X) → ¬ Contains (o ∷ os) (f x)
none_more f o os other none x c = elim (first_or_later o (f x) os c) [ inl e ↦ other x e | inr d ↦ none x d ]

-- some outcome is of the sort, or none is
some_or_none : {X : Type 0} (f : X → Outcome) → ((o : Outcome) → IsOrIsnt f o) → (os : List Outcome)
    → ((x : X) × Contains os (f x)) ⊎ ((x : X) → ¬ Contains os (f x))
some_or_none f test [] = inr (λ x c. none_in_empty (f x) c)
some_or_none f test (o ∷ os) = elim (test o) [
  | inl y ↦ inl (y.0, rw y.1 (first_in (f y.0) os))
  | inr other ↦ elim (some_or_none f test os) [
    | inl x ↦ inl (x.0, later_in o (f x.0) os x.1)
    | inr none ↦ inr (none_more f o os other none)
  ]
]

-- some path is cut, or none is
pub cut_or_none : (os : List Outcome) → ((s : Stop) × Contains os (cut s)) ⊎ NoneCut os
cut_or_none os = some_or_none cut is_cut os

-- some path lacks its key, or none does
pub lacks_or_none : (os : List Outcome) → SomeLacks os ⊎ ¬ SomeLacks os
lacks_or_none os = elim (some_or_none lacks is_lack os) [ inl x ↦ inl x | inr none ↦ inr (λ x. none x.0 x.1) ]

-- what comes before one stop comes before each fail there
nearer_than : (n s : Stop) → n.place < s.place → (r : Stop) → fails s ≡ fails r → n.place < r.place
nearer_than n s l r e = let same : s ≡ r = cc in rw same at l

-- a further fail keeps the nearest stop, or is it
one_nearer : (s : Stop) (os : List Outcome) → SomeNearest os ⊎ NoneFails os → SomeNearest (fails s ∷ os)
one_nearer s os (inr none) = (s, nearest_here (λ r c. absurd (none r c)))
one_nearer s os (inl n) = elim (cases_lt n.0.place s.place) [
  | inl l ↦ (n.0, nearest_later (nearer_than n.0 s l) n.1)
  | inr l ↦ (s, nearest_here (λ r c. omega (arith, l, nearest_least r n.1 c)))
]

-- some path fails, or none does
pub nearest_or_none : (os : List Outcome) → SomeNearest os ⊎ NoneFails os
nearest_or_none [] = inr (λ s c. none_in_empty (fails s) c)
nearest_or_none (o ∷ os) = elim (is_fail o) [
  | inl s ↦ inl (rw s.1 (one_nearer s.0 os (nearest_or_none os)))
  | inr other ↦ elim (nearest_or_none os) [
    | inl n ↦ inl (n.0, nearest_later (λ r e. absurd (other r e)) n.1)
    | inr none ↦ inr (none_more fails o os other none)
  ]
]

-- a span that was found ends at r, and none ends after it
pub record Furthest (os : List Outcome) : Type 0 where
  pub i : ℕ
  pub r : ℕ
  pub here : Contains os (found i r)
  pub all : (a b : ℕ) → Contains os (found a b) → b ≤ r

-- the end of a span is that of an equal one
at_end : (i j a b : ℕ) {r : ℕ} → found i j ≡ found a b → j ≤ r → b ≤ r
at_end i j a b e l = let same : j ≡ b = cc in omega (arith, same, l)

-- where no path fails, is cut, or lacks its key, each finds a value
pub all_found : (os : List Outcome) (o : Outcome) → NoneFails os → NoneCut os → ¬ SomeLacks os → Contains os o → (i : ℕ) × (j : ℕ) × (o ≡ found i j)
all_found os (found i j) fail cuts lack c = (i, j, refl)
all_found os (lacks q) fail cuts lack c = absurd (lack (q, c))
all_found os (fails s) fail cuts lack c = absurd (fail s c)
all_found os (cut s) fail cuts lack c = absurd (cuts s c)

-- one more span ends further, or doesn't
one_further : (i j : ℕ) (os : List Outcome) → Furthest os → Furthest (found i j ∷ os)
one_further i j os f = elim (cases_lt f.r j) [
  | inl l ↦ record {
    i = i;
    r = j;
    here = first_in (found i j) os;
    all = λ a b c. elim (first_or_later (found i j) (found a b) os c) [ inl e ↦ at_end i j a b e (omega arith) | inr d ↦ omega (arith, l, f.all a b d) ];
  }
  | inr l ↦ record {
    i = f.i;
    r = f.r;
    here = later_in (found i j) (found f.i f.r) os f.here;
    all = λ a b c. elim (first_or_later (found i j) (found a b) os c) [ inl e ↦ at_end i j a b e l | inr d ↦ f.all a b d ];
  }
]

-- so there is a furthest
pub furthest_of : (o : Outcome) (os : List Outcome) → ((p : Outcome) → Contains (o ∷ os) p → (i : ℕ) × (j : ℕ) × (p ≡ found i j)) → Furthest (o ∷ os)
furthest_of o [] all =
    let x = all o (first_in o []) in
    rw x.2 record {
      i = x.0;
      r = x.1;
      here = first_in (found x.0 x.1) [];
      all = λ a b c. elim (first_or_later (found x.0 x.1) (found a b) [] c) [
        | inl e ↦ at_end x.0 x.1 a b e (omega arith)
        | inr d ↦ absurd (none_in_empty (found a b) d)
      ];
    }
furthest_of o (p ∷ os) all =
    let x = all o (first_in o (p ∷ os)) in
    rw x.2 (one_further x.0 x.1 (p ∷ os) (furthest_of p os (λ q c. all q (later_in o q (p ∷ os) c))))

-- each path leads somewhere
pub all_some : (r : KeyRule) (t : List ℕ) (paths : List (List Node)) → (os : List Outcome) × AllLeadBy r t paths os
all_some r t [] = ([], no_more)
all_some r t (path ∷ paths) =
    let o = by_some r t path (after_space t 0) in
    let os = all_some r t paths in
    (o.0 ∷ os.0, one_more o.1 os.1)

-- and to one outcome
pub all_one : {r : KeyRule} {t : List ℕ} (paths : List (List Node)) {os ps : List Outcome} → AllLeadBy r t paths os → AllLeadBy r t paths ps → os ≡ ps
all_one [] no_more no_more = refl
all_one (path ∷ paths) (one_more l a) (one_more m b) = rw (by_one path l m, all_one paths a b) refl

-- where one is cut, it is by the root's fault
pub cut_by_root : {r : KeyRule} {t : List ℕ} {paths : List (List Node)} {os : List Outcome} (s : Stop) → AllLeadBy r t paths os → Contains os (cut s)
    → IsRootFault t s
cut_by_root s no_more c = absurd (none_in_empty (cut s) c)
cut_by_root {r} {t} s (one_more {path} {o = o} {os} l a) c = elim (first_or_later o (cut s) os c) [
  | inl e ↦ (let leads : LeadsUnder r t path (cut s) = rw e at l in cut_is_fault path leads)
  | inr d ↦ cut_by_root s a d
]

-- as the test says
utf8_by_test : (bytes : List ℕ) (b : Bool) → is_utf8 bytes ≡ b → IsUtf8 bytes ⊎ ¬ IsUtf8 bytes
utf8_by_test bytes true e = inl (IsUtf8-from_is_utf8 bytes e)
utf8_by_test bytes false e = inr (λ u. let t = is_utf8-from_IsUtf8 bytes u in absurd cc)

-- bytes are UTF-8 or they aren't
pub utf8_or_not : (bytes : List ℕ) → IsUtf8 bytes ⊎ ¬ IsUtf8 bytes
utf8_or_not bytes = utf8_by_test bytes (is_utf8 bytes) refl

-- what outcomes come to, over a text that came as bytes or not
abbrev SomeAnswer : List ℕ → Bool → List Outcome → Type 0
SomeAnswer t is_bytes os = (a : Answer) × ComeTo t is_bytes os a

-- where the reach is known, there is an answer
within_reach : {t : List ℕ} {os : List Outcome} {r : ℕ} (is_bytes : Bool) → NoneFails os → NoneCut os → IsReach t os r → SomeAnswer t is_bytes os
within_reach false fail cuts reach = (_, finding fail cuts reach (λ e. absurd cc) refl)
within_reach {t} {r = r} true fail cuts reach = elim (utf8_or_not (take r t)) [
  | inl text ↦ (_, finding fail cuts reach (λ e. text) refl)
  | inr broken ↦ (_, breaking fail cuts reach refl broken refl)
]

-- where no path fails and none is cut, there is an answer
uncut_some : (t : List ℕ) (is_bytes : Bool) (o : Outcome) (os : List Outcome) → NoneFails (o ∷ os) → NoneCut (o ∷ os) → SomeAnswer t is_bytes (o ∷ os)
uncut_some t is_bytes o os fail cuts = elim (lacks_or_none (o ∷ os)) [
  | inl lack ↦ elim (value_some_outcome strict t (after_space t 0)) [
    | inl x ↦ within_reach is_bytes fail cuts (to_the_root lack x.1)
    | inr f ↦ (_, lacking fail cuts lack f.1)
  ]
  | inr lack ↦ (let f = furthest_of o os (λ p c. all_found (o ∷ os) p fail cuts lack c) in within_reach is_bytes fail cuts (to_the_furthest lack f.here f.all))
]

-- outcomes come to some answer
pub come_to_some : (t : List ℕ) (is_bytes : Bool) (os : List Outcome) → ((s : Stop) → Contains os (cut s) → IsRootFault t s) → SomeAnswer t is_bytes os
come_to_some t is_bytes [] root = (_, no_path)
come_to_some t is_bytes (o ∷ os) root = elim (nearest_or_none (o ∷ os)) [
  | inl n ↦ (_, failing n.1)
  | inr fail ↦ elim (cut_or_none (o ∷ os)) [
    | inl c ↦ (_, cutting fail c.1 (root c.0 c.1))
    | inr cuts ↦ uncut_some t is_bytes o os fail cuts
  ]
]

-- the reach is one place
reach_one : {t : List ℕ} {os : List Outcome} {r q : ℕ} → IsReach t os r → IsReach t os q → r ≡ q
reach_one (to_the_root l x) (to_the_root m y) = value_end_one x y
reach_one (to_the_root l x) (to_the_furthest none c all) = absurd (none l)
reach_one (to_the_furthest none c all) (to_the_root l x) = absurd (none l)
reach_one {r = r} {q} (to_the_furthest {i} none c all) (to_the_furthest {i = j} other d more) =
    let a = all j q d in
    let b = more i r c in
    omega arith

-- nothing is needed for no path
reach_not_empty : {t : List ℕ} {r : ℕ} → IsReach t [] r → ⊥
reach_not_empty (to_the_root l x) = none_in_empty (lacks l.0) l.1
reach_not_empty {r = r} (to_the_furthest {i} none c all) = none_in_empty (found i r) c

-- the root has no fault where a path that lacks its key needs it whole
reach_no_fault : {t : List ℕ} {os : List Outcome} {r : ℕ} {s : Stop} → IsReach t os r → SomeLacks os → IsRootFault t s → ⊥
reach_no_fault (to_the_root l x) m f = value_never_both x f
reach_no_fault (to_the_furthest none c all) m f = none m

-- no outcomes come to one answer
empty_one : {t : List ℕ} {is_bytes : Bool} {a : Answer} → ComeTo t is_bytes [] a → a ≡ Answer.spans []
empty_one no_path = refl
empty_one (failing n) = elim n [ ]
empty_one (cutting {s = s} fail c f) = absurd (none_in_empty (cut s) c)
empty_one (lacking fail cuts l f) = absurd (none_in_empty (lacks l.0) l.1)
empty_one (breaking fail cuts reach b n e) = absurd (reach_not_empty reach)
empty_one (finding fail cuts reach u e) = absurd (reach_not_empty reach)

-- outcomes come to one answer
come_to_one : {t : List ℕ} {is_bytes : Bool} (os : List Outcome) {a b : Answer} → ComeTo t is_bytes os a → ComeTo t is_bytes os b → a ≡ b
come_to_one [] x y = let e = empty_one x in let f = empty_one y in cc
come_to_one (o ∷ os) (failing n) (failing m) = rw (nearest_one (o ∷ os) n m) refl
come_to_one (o ∷ os) (failing {s = s} n) (cutting fail c f) = absurd (fail s (nearest_in n))
come_to_one (o ∷ os) (failing {s = s} n) (lacking fail cuts l f) = absurd (fail s (nearest_in n))
come_to_one (o ∷ os) (failing {s = s} n) (breaking fail cuts reach b u e) = absurd (fail s (nearest_in n))
come_to_one (o ∷ os) (failing {s = s} n) (finding fail cuts reach u e) = absurd (fail s (nearest_in n))
come_to_one (o ∷ os) (cutting fail c f) (failing {s = s} n) = absurd (fail s (nearest_in n))
come_to_one (o ∷ os) (cutting fail c f) (cutting none d g) = rw (value_fault_one f g) refl
come_to_one (o ∷ os) (cutting {s = s} fail c f) (lacking none cuts l g) = absurd (cuts s c)
come_to_one (o ∷ os) (cutting {s = s} fail c f) (breaking none cuts reach b u e) = absurd (cuts s c)
come_to_one (o ∷ os) (cutting {s = s} fail c f) (finding none cuts reach u e) = absurd (cuts s c)
come_to_one (o ∷ os) (lacking fail cuts l f) (failing {s = s} n) = absurd (fail s (nearest_in n))
come_to_one (o ∷ os) (lacking fail cuts l f) (cutting {s = s} none c g) = absurd (cuts s c)
come_to_one (o ∷ os) (lacking fail cuts l f) (lacking none more m g) = rw (value_fault_one f g) refl
come_to_one (o ∷ os) (lacking fail cuts l f) (breaking none more reach b u e) = absurd (reach_no_fault reach l f)
come_to_one (o ∷ os) (lacking fail cuts l f) (finding none more reach u e) = absurd (reach_no_fault reach l f)
come_to_one (o ∷ os) (breaking fail cuts reach b u e) (failing {s = s} n) = absurd (fail s (nearest_in n))
come_to_one (o ∷ os) (breaking fail cuts reach b u e) (cutting {s = s} none c g) = absurd (cuts s c)
come_to_one (o ∷ os) (breaking fail cuts reach b u e) (lacking none more l g) = absurd (reach_no_fault reach l g)
come_to_one (o ∷ os) (breaking fail cuts reach b u e) (breaking none more other d w f) = rw (e, f, reach_one reach other) refl
come_to_one {t} (o ∷ os) (breaking {r = r} fail cuts reach b u e) (finding {r = q} none more other text f) =
    let same : q ≡ r = reach_one other reach in
    let whole : IsUtf8 (take r t) = rw same at (text b) in
    absurd (u whole)
come_to_one (o ∷ os) (finding fail cuts reach text e) (failing {s = s} n) = absurd (fail s (nearest_in n))
come_to_one (o ∷ os) (finding fail cuts reach text e) (cutting {s = s} none c g) = absurd (cuts s c)
come_to_one (o ∷ os) (finding fail cuts reach text e) (lacking none more l g) = absurd (reach_no_fault reach l g)
come_to_one {t} (o ∷ os) (finding {r = q} fail cuts reach text e) (breaking {r = r} none more other b u f) =
    let same : q ≡ r = reach_one reach other in
    let whole : IsUtf8 (take r t) = rw same at (text b) in
    absurd (u whole)
come_to_one (o ∷ os) (finding fail cuts reach text e) (finding none more other whole f) = rw (e, f) refl

-- under a rule paths have exactly one answer
pub answer_by_one : (r : KeyRule) (t : List ℕ) (is_bytes : Bool) (paths : List (List Node)) → ExactlyOne (IsAnswerBy r t is_bytes paths)
answer_by_one r t is_bytes paths =
    let os = all_some r t paths in
    let a = come_to_some t is_bytes os.0 (λ s c. cut_by_root s os.1 c) in
    record {
      some = (a.0, record { outcomes = os.0; lead = os.1; come_to = a.1 });
      one = λ a b x y.
          let same : y.outcomes ≡ x.outcomes = all_one paths y.lead x.lead in
          let z : ComeTo t is_bytes x.outcomes b = rw same at y.come_to in
          come_to_one x.outcomes x.come_to z;
    }

-- and so they have by first equal keys
pub answer_one : (t : List ℕ) (is_bytes : Bool) (paths : List (List Node)) → ExactlyOne (IsAnswer t is_bytes paths)
answer_one t is_bytes paths = answer_by_one First t is_bytes paths
