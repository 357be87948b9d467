-- Where a node leads among the items that were passed, and when they all were.
use Rattle.std.proofs.Common.{◌≡◌, ◌≢◌, inl, inr, ℕ, ◌+◌, List, Bool, true, false, ◌∷◌, arith, refl}
use Rattle.std.proofs.lemmas.Bool.{cases_order}
use Rattle.sonic_error.specs.declared.code.ErrorCode.TheVariants.{DuplicateKey}
use Rattle.sonic_find.proofs.PathLemmas.Lead.{NoFurther}
use Rattle.sonic_find.specs.Paths.{LeadsOn, LeadsBy, fails_at, kind_of, IsNamed, EvaluatesBy}
use Rattle.sonic_find.specs.Paths.EvaluatesBy.{repeats}
use Rattle.sonic_find.specs.Internal.Marks.{Sight, none_seen, one_seen, two_seen, NoneAmong, OnlyAmong, TwiceAmong, IsSeen, seen_none, seen_only, seen_twice}
use Rattle.sonic_find.proofs.MarkLemmas.Seen.{seen_other, seen_last_next, seen_only_next, seen_twice_next, seen_twice_still, NoMore, none_of_all, one_of_all, two_of_all}
use Rattle.sonic_lazy_tests.specs.declared.reference.Way.{Way}
use Rattle.sonic_lazy_tests.specs.declared.reference.Way.TheVariants.{On, Twice, Nowhere}
use Rattle.sonic_pointer.specs.declared.rule.KeyRule.{KeyRule}
use Rattle.sonic_pointer.specs.declared.rule.KeyRule.TheVariants.{First, Last, Refuse}
use Rattle.sonic_text.specs.Paths.{Node, key, index}
use Rattle.sonic_text.specs.Strings.{strict}
use Rattle.sonic_text.specs.Values.{IsValue, ItemsFit}
use Rattle.sonic_text.specs.declared.kind.Kind.{Kind}
use Rattle.sonic_text.specs.declared.kind.Kind.TheVariants.{Object}
use Rattle.sonic_text.specs.declared.stop.Stop.{Stop}
use Rattle.sonic_text.specs.Faults.{IsFault}
use Rattle.sonic_text.proofs.Values.{value_never_both}

-- what was seen where a node has led so far
abbrev pub sight_of : Way → Sight
sight_of Nowhere = none_seen
sight_of (On v) = one_seen v
sight_of (Twice q) = two_seen q

-- before an item that the node names none was seen
none_known : {t : List ℕ} {i n : ℕ} {node : Node} {r : KeyRule} → IsSeen t i n node r none_seen → NoneAmong t i n node
none_known (seen_none x) = x

-- or one alone
one_known : {t : List ℕ} {i n v : ℕ} {node : Node} → IsSeen t i n node Refuse (one_seen v) → OnlyAmong t i n node v
one_known (seen_only x) = x

-- or two
two_known : {t : List ℕ} {i n q : ℕ} {node : Node} {r : KeyRule} → IsSeen t i n node r (two_seen q) → TwiceAmong t i n node q
two_known (seen_twice x) = x

-- where a node has led after an item that it names
pub record IsWayAfter (r : KeyRule) (h v : ℕ) (way next : Way) : Type 0 where
  pub last : r ≡ Last → next ≡ On v
  pub first : r ≡ Refuse → way ≡ Nowhere → next ≡ On v
  pub second : r ≡ Refuse → (w : ℕ) → way ≡ On w → next ≡ Twice h
  pub more : r ≡ Refuse → (q : ℕ) → way ≡ Twice q → next ≡ way

seen_named : {t : List ℕ} {i n h v : ℕ} {node : Node} (r : KeyRule) (way next : Way) → r ≢ First → IsWayAfter r h v way next
    → ItemsFit strict t (kind_of node) i n h → IsNamed t (kind_of node) n h v node → IsSeen t i n node r (sight_of way)
    → IsSeen t i (n + 1) node r (sight_of next)
seen_named First way next other x is y s = absurd (other refl)
seen_named Last way next other x is y s = rw (x.last refl) (seen_last_next is y)
seen_named Refuse Nowhere next other x is y s = rw (x.first refl refl) (seen_only_next is y (none_known s))
seen_named Refuse (On w) next other x is y s = rw (x.second refl w refl) (seen_twice_next is y (one_known s))
seen_named Refuse (Twice q) next other x is y s = rw (x.more refl q refl) (seen_twice_still (two_known s))

-- so it is after each item, whether the node names it or not
pub seen_after : {t : List ℕ} {i n h v : ℕ} {item node : Node} {r : KeyRule} {way next : Way} (named : Bool) → r ≢ First
    → (named ≡ true → IsWayAfter r h v way next) → (named ≡ false → next ≡ way) → ItemsFit strict t (kind_of node) i n h
    → IsNamed t (kind_of node) n h v item → (named ≡ true → item ≡ node) → (named ≡ false → item ≢ node) → IsSeen t i n node r (sight_of way)
    → IsSeen t i (n + 1) node r (sight_of next)
seen_after {r = r} {way} {next} true counts follows keeps is y one two s = seen_named r way next counts (follows refl) is (rw (one refl) at y) s
seen_after false counts follows keeps is y one two s = rw (keeps refl) (seen_other is y (two refl) s)

-- no more items fit than were passed
pub all_passed : {t : List ℕ} {i n : ℕ} {kind : Kind} → NoFurther t i kind n → NoMore t i kind (n + 1)
all_passed {n = n} last p g is = elim (cases_order p n) [
  | inl same ↦ omega (arith, same)
  | inr (inl less) ↦ omega (arith, less)
  | inr (inr more) ↦ absurd (last p g more is)
]

-- then the node leads there
pub leads_there : {t : List ℕ} {i n end : ℕ} {r : KeyRule} {node : Node} (way : Way) → IsValue strict t i end → NoMore t i (kind_of node) n
    → IsSeen t i n node r (sight_of way) → (v : ℕ) → way ≡ On v → LeadsBy r t i node v
leads_there {node = node} way whole most s v e = one_of_all node whole most (rw e at s)

-- or comes twice
pub comes_twice : {t : List ℕ} {i n end : ℕ} {r : KeyRule} {node : Node} (way : Way) → IsValue strict t i end → IsSeen t i n node r (sight_of way) → (q : ℕ)
    → way ≡ Twice q → (rest : List Node) → EvaluatesBy r t i (node ∷ rest) (fails_at q DuplicateKey)
comes_twice {node = node} way whole s q e rest = let x = two_of_all node whole (rw e at s) in rw (x.refuses, x.is) (repeats x.twice)

-- or leads nowhere
pub leads_no_way : {t : List ℕ} {i n : ℕ} {r : KeyRule} {node : Node} (way : Way) → NoMore t i (kind_of node) n → IsSeen t i n node r (sight_of way)
    → way ≡ Nowhere → (v : ℕ) → ¬ LeadsOn t i node v
leads_no_way way most s e = none_of_all most (none_known (rw e at s))

-- a key that isn't the first one that counts leads nowhere in a value that has a fault
pub cut_leads_no_way : {t : List ℕ} {i : ℕ} {s : Stop} (r : KeyRule) (node : Node) → r ≢ First → kind_of node ≡ Object → IsFault strict t i s → (v : ℕ)
    → ¬ LeadsBy r t i node v
cut_leads_no_way First node counts kind f v l = absurd (counts refl)
cut_leads_no_way Last (key k) counts kind f v l = value_never_both l.whole f
cut_leads_no_way Last (index n) counts kind f v l = absurd (cc kind)
cut_leads_no_way Refuse (key k) counts kind f v l = value_never_both l.last.whole f
cut_leads_no_way Refuse (index n) counts kind f v l = absurd (cc kind)
