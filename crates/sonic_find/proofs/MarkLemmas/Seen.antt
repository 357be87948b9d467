-- What is seen of a node, item by item, and what that is when the container has closed.
use Rattle.std.proofs.Common.{◌≡◌, ◌≢◌, inl, inr, refl, ℕ, ◌+◌, ◌<◌, List, arith}
use Rattle.std.proofs.lemmas.Bool.{cases_order}
use Rattle.sonic_find.proofs.PathLemmas.Lead.{named_one}
use Rattle.sonic_find.specs.Internal.Marks.{one_seen, two_seen, none_seen, NoneAmong, NoneBetween, LastAmong, OnlyAmong, TwiceAmong, Sight, IsSeen, seen_none, seen_last, seen_only, seen_twice}
use Rattle.sonic_find.specs.Paths.{LeadsOn, LeadsToLast, Repeats, LeadsBy, kind_of, name_of, IsNamed}
use Rattle.sonic_pointer.specs.declared.rule.KeyRule.{KeyRule}
use Rattle.sonic_pointer.specs.declared.rule.KeyRule.TheVariants.{Last, Refuse}
use Rattle.sonic_text.proofs.Values.{items_one}
use Rattle.sonic_text.specs.Paths.{Node, key, index}
use Rattle.sonic_text.specs.Strings.{strict}
use Rattle.sonic_text.specs.Values.{IsValue, no_head, key_head, ItemsFit}
use Rattle.sonic_text.specs.declared.kind.Kind.{Kind}

-- before the first item nothing is
pub nothing_seen : (t : List ℕ) (i : ℕ) (node : Node) (r : KeyRule) → IsSeen t i 0 node r none_seen
nothing_seen t i node r = seen_none (λ p g v l. absurd (omega (arith, l)))

-- at the number n stands the item that is known
at_one : {t : List ℕ} {i n p h g v w : ℕ} {kind : Kind} {a b : Node} → ItemsFit strict t kind i n h → IsNamed t kind n h v a → p ≡ n
    → ItemsFit strict t kind i p g → IsNamed t kind p g w b → a ≡ b
at_one {t} {i} {n} {g = g} {w = w} {kind} {b = b} is y same fits named =
    let there : ItemsFit strict t kind i n g = rw same at fits in
    let at_n : IsNamed t kind n g w b = rw same at named in
    let here = rw (items_one there is) at at_n in
    (named_one y here).1

-- an item of another name adds none among those that were passed
among_more : {t : List ℕ} {i n h v : ℕ} {a b : Node} → ItemsFit strict t (kind_of b) i n h → IsNamed t (kind_of b) n h v a → a ≢ b
    → NoneAmong t i n b → NoneAmong t i (n + 1) b
among_more {n = n} is y other none p g u less fits named = elim (cases_order p n) [
  | inl same ↦ other (at_one is y same fits named)
  | inr (inl before) ↦ none p g u before fits named
  | inr (inr past) ↦ absurd (omega (arith, less, past))
]

-- nor after one of them
between_more : {t : List ℕ} {i m n h v : ℕ} {a b : Node} → ItemsFit strict t (kind_of b) i n h → IsNamed t (kind_of b) n h v a → a ≢ b
    → NoneBetween t i m n b → NoneBetween t i m (n + 1) b
between_more {n = n} is y other none p g u more less fits named = elim (cases_order p n) [
  | inl same ↦ other (at_one is y same fits named)
  | inr (inl before) ↦ none p g u more before fits named
  | inr (inr past) ↦ absurd (omega (arith, less, past))
]

-- after an item of another name the same is seen
pub seen_other : {t : List ℕ} {i n h v : ℕ} {a b : Node} {r : KeyRule} {s : Sight} → ItemsFit strict t (kind_of b) i n h → IsNamed t (kind_of b) n h v a → a ≢ b
    → IsSeen t i n b r s → IsSeen t i (n + 1) b r s
seen_other is y other (seen_none none) = seen_none (among_more is y other none)
seen_other is y other (seen_last x) = seen_last (record {
  m = x.m;
  g = x.g;
  less = (let l = x.less in omega (arith, l));
  fit = x.fit;
  item = x.item;
  between = between_more is y other x.between;
})
seen_other is y other (seen_only x) = seen_only (record {
  last = record {
    m = x.last.m;
    g = x.last.g;
    less = (let l = x.last.less in omega (arith, l));
    fit = x.last.fit;
    item = x.last.item;
    between = between_more is y other x.last.between;
  };
  first = x.first;
})
seen_other is y other (seen_twice x) =
    seen_twice (record { v = x.v; m = x.m; first = x.first; less = (let l = x.less in omega (arith, l)); w = x.w; fit = x.fit; item = x.item })

-- the next item is the last one
last_next : {t : List ℕ} {i n h v : ℕ} {node : Node} → ItemsFit strict t (kind_of node) i n h → IsNamed t (kind_of node) n h v node
    → LastAmong t i (n + 1) node v
last_next {n = n} {h} is y =
    record { m = n; g = h; less = omega arith; fit = is; item = y; between = λ p g u more less fits named. absurd (omega (arith, more, less)) }

-- so after an item that the node names, the last one is seen
pub seen_last_next : {t : List ℕ} {i n h v : ℕ} {node : Node} → ItemsFit strict t (kind_of node) i n h → IsNamed t (kind_of node) n h v node
    → IsSeen t i (n + 1) node Last (one_seen v)
seen_last_next is y = seen_last (last_next is y)

-- or the only one
pub seen_only_next : {t : List ℕ} {i n h v : ℕ} {node : Node} → ItemsFit strict t (kind_of node) i n h → IsNamed t (kind_of node) n h v node
    → NoneAmong t i n node → IsSeen t i (n + 1) node Refuse (one_seen v)
seen_only_next {n = n} {h} is y none = seen_only (record {
  last = record { m = n; g = h; less = omega arith; fit = is; item = y; between = λ p g u more less fits named. absurd (omega (arith, more, less)) };
  first = none;
})

-- or the second one
pub seen_twice_next : {t : List ℕ} {i n h v w : ℕ} {node : Node} → ItemsFit strict t (kind_of node) i n h → IsNamed t (kind_of node) n h w node
    → OnlyAmong t i n node v → IsSeen t i (n + 1) node Refuse (two_seen h)
seen_twice_next {n = n} {v = v} {w} is y x = seen_twice (record { v = v; m = n; first = x; less = omega arith; w = w; fit = is; item = y })

-- after which it stays so
pub seen_twice_still : {t : List ℕ} {i n q : ℕ} {node : Node} → TwiceAmong t i n node q → IsSeen t i (n + 1) node Refuse (two_seen q)
seen_twice_still x =
    seen_twice (record { v = x.v; m = x.m; first = x.first; less = (let l = x.less in omega (arith, l)); w = x.w; fit = x.fit; item = x.item })

-- an index names the item of its number alone
pub named_index : {t : List ℕ} {kind : Kind} {n h v m : ℕ} → IsNamed t kind n h v (index m) → n ≡ m
named_index {n = n} {m = m} x = elim x.head as (λ kind h v label head. name_of n label ≡ index m → n ≡ m) [
  | no_head e ↦ λ name. cc
  | key_head y ↦ λ name. absurd cc
] x.name

-- so the item that it names is the first one
index_leads : {t : List ℕ} {i m n h v : ℕ} → ItemsFit strict t (kind_of (index m)) i n h → IsNamed t (kind_of (index m)) n h v (index m)
    → LeadsOn t i (index m) v
index_leads {n = n} {h} is y =
    record { n = n; h = h; before = record { fit = is; none = λ p g w l fits z. absurd (omega (arith, l, named_index y, named_index z)) }; item = y }

-- no more items fit than were passed
abbrev pub NoMore : List ℕ → ℕ → Kind → ℕ → Type 0
NoMore t i kind n = (p g : ℕ) → ItemsFit strict t kind i p g → p < n

-- where none of all is named, the node leads nowhere
pub none_of_all : {t : List ℕ} {i n : ℕ} {node : Node} → NoMore t i (kind_of node) n → NoneAmong t i n node → (v : ℕ) → ¬ LeadsOn t i node v
none_of_all most none v l = none l.n l.h v (most l.n l.h l.before.fit) l.before.fit l.item

-- where the last one of all is seen, it leads to that
last_of_all : {t : List ℕ} {i n end v : ℕ} {node : Node} → IsValue strict t i end → NoMore t i (kind_of node) n → LastAmong t i n node v
    → LeadsToLast t i node v
last_of_all {end = end} whole most x = record {
  end = end;
  whole = whole;
  n = x.m;
  h = x.g;
  fit = x.fit;
  item = x.item;
  after = λ p g w more is y. x.between p g w more (most p g is) is y;
}

-- the only one is the first
first_of_all : {t : List ℕ} {i n v : ℕ} {node : Node} → OnlyAmong t i n node v → LeadsOn t i node v
first_of_all x = record { n = x.last.m; h = x.last.g; before = record { fit = x.last.fit; none = x.first }; item = x.last.item }

-- so when the container has closed, the node leads to what was seen once
pub one_of_all : {t : List ℕ} {i n end v : ℕ} {r : KeyRule} (node : Node) → IsValue strict t i end → NoMore t i (kind_of node) n
    → IsSeen t i n node r (one_seen v) → LeadsBy r t i node v
one_of_all (key k) whole most (seen_last x) = last_of_all whole most x
one_of_all (index m) whole most (seen_last x) = index_leads x.fit x.item
one_of_all (key k) whole most (seen_only x) = record { first = first_of_all x; last = last_of_all whole most x.last }
one_of_all (index m) whole most (seen_only x) = first_of_all x

-- a node that was seen twice is a key, which repeats
pub record RepeatsKey (r : KeyRule) (t : List ℕ) (i : ℕ) (node : Node) (q : ℕ) : Type 0 where
  pub refuses : r ≡ Refuse
  pub k : List ℕ
  pub is : node ≡ key k
  pub twice : Repeats t i (key k) q

pub two_of_all : {t : List ℕ} {i n end q : ℕ} {r : KeyRule} (node : Node) → IsValue strict t i end → IsSeen t i n node r (two_seen q)
    → RepeatsKey r t i node q
two_of_all (key k) whole (seen_twice x) = record {
  refuses = refl;
  k = k;
  is = refl;
  twice = record {
    end = _;
    whole = whole;
    v = x.v;
    first = record { n = x.first.last.m; h = x.first.last.g; before = record { fit = x.first.last.fit; none = x.first.first }; item = x.first.last.item };
    n = x.m;
    w = x.w;
    later = x.first.last.less;
    fit = x.fit;
    item = x.item;
    between = x.first.last.between;
  };
}
two_of_all (index m) whole (seen_twice x) =
    absurd (let l = x.first.last.less in omega (arith, l, named_index x.first.last.item, named_index x.item))
