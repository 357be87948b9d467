-- The order of nodes is total.
use Rattle.std.proofs.Common.{◌≡◌, ◌≢◌, ℕ, ◌+◌, ◌<◌, ◌≤◌, List, length, get_or, AllPairs, refl, sym, subst, inl, inr, arith, Less, Equal, Greater}
use Rattle.std.proofs.lemmas.Bool.{cases_eq}
use Rattle.std.specs.Cmp.{nat_cmp_is}
use Rattle.std.proofs.lemmas.Cmp.{ranked}
use Rattle.std.specs.Ordering.{ordering_reverse}
use Rattle.std.specs.FinMap.{nat_cmp-IsAntisymmetric, slice_cmp-IsAntisymmetric}
use Rattle.std.proofs.lemmas.Cmp.{nat_cmp_total, nat_list_cmp_total, tied_itself}
use Rattle.sonic_text.specs.Paths.{Node, key, index}
use Rattle.sonic_pointer.specs.Internal.Nodes.{node_cmp}
use Rattle.sonic_pointer.specs.Internal.Tries.{IsBefore, IsGap}

pub before_trans : (a b c : Node) → IsBefore a b → IsBefore b c → IsBefore a c
before_trans (key a) (key b) (key c) h k = nat_list_cmp_total.trans a b c h k
before_trans (key a) (key b) (index c) h k = refl
before_trans (key a) (index b) (key c) h k = absurd (cc)
before_trans (key a) (index b) (index c) h k = refl
before_trans (index a) (key b) c h k = absurd (cc)
before_trans (index a) (index b) (key c) h k = absurd (cc)
before_trans (index a) (index b) (index c) h k = nat_cmp_total.trans a b c h k

pub node_cmp_back : (a b : Node) → node_cmp a b ≡ ordering_reverse (node_cmp b a)
node_cmp_back (key a) (key b) = nat_list_cmp_total.antisymm a b
node_cmp_back (key a) (index b) = refl
node_cmp_back (index a) (key b) = refl
node_cmp_back (index a) (index b) = nat_cmp_total.antisymm a b

pub node_cmp_itself : (a : Node) → node_cmp a a ≡ Equal
node_cmp_itself (key a) = tied_itself nat_list_cmp_total a
node_cmp_itself (index a) = tied_itself nat_cmp_total a

pub node_cmp_same : (a b : Node) → node_cmp a b ≡ Equal → a ≡ b
node_cmp_same (key a) (key b) e = let same = slice_cmp-IsAntisymmetric nat_cmp-IsAntisymmetric a b e in cc
node_cmp_same (key a) (index b) e = absurd (cc)
node_cmp_same (index a) (key b) e = absurd (cc)
node_cmp_same (index a) (index b) e = let same = nat_cmp-IsAntisymmetric a b e in cc

-- a node doesn't come before itself
pub before_other : (a b : Node) → IsBefore a b → a ≢ b
before_other a b h e = let itself = node_cmp_itself b in let h' : node_cmp b b ≡ Less = rw e at h in absurd (cc)

-- the one that isn't less and isn't equal is after
pub after_of : (a b : Node) → node_cmp a b ≡ Greater → IsBefore b a
after_of a b h = let back = node_cmp_back b a in rw (back, h)

-- in a sorted list, a node after the element at m is after all up to there
pub after_middle : (xs : List Node) (n v : Node) (m : ℕ) → AllPairs IsBefore xs → m < length xs → ((d : Node) → get_or xs m d ≡ v) → node_cmp n v ≡ Greater
    → (k : ℕ) (d : Node) → k < m + 1 → IsBefore (get_or xs k d) n
after_middle xs n v m sorted l is e k d below =
    let last : IsBefore v n = after_of n v e in
    elim (cases_eq k m) [
      | inl same ↦ rw (same, is d) last
      | inr other ↦ before_trans (get_or xs k d) v n (subst (IsBefore (get_or xs k d)) (is d) (sorted k m d (omega arith) l)) last
    ]

-- and a node before it is before all from there on
pub before_middle : (xs : List Node) (n v : Node) (m : ℕ) → AllPairs IsBefore xs → m < length xs → ((d : Node) → get_or xs m d ≡ v) → node_cmp n v ≡ Less
    → (k : ℕ) (d : Node) → m ≤ k → k < length xs → IsBefore n (get_or xs k d)
before_middle xs n v m sorted l is e k d above inside =
    elim (cases_eq k m) [
      | inl same ↦ rw (same, is d) e
      | inr other ↦ before_trans n v (get_or xs k d) e (subst (λ x. IsBefore x (get_or xs k d)) (is d) (sorted m k d (omega arith) inside))
    ]

-- lesser numbers come before greater ones
pub index_before : (n k : ℕ) → n < k → IsBefore (index n) (index k)
index_before n k less = sym (nat_cmp_is n k Less less)

pub before_index : (n k : ℕ) → IsBefore (index n) (index k) → n < k
before_index n k before = ranked n k Less (sym before)

-- where an index would be in a sorted list, so would a greater one that comes before the next node, if there is one
pub gap_wider : (xs : List Node) (n k position : ℕ) → AllPairs IsBefore xs → IsGap xs (index n) position → n ≤ k
    → (position < length xs → (v : Node) × ((d : Node) → get_or xs position d ≡ v) × IsBefore (index k) v) → IsGap xs (index k) position
gap_wider xs n k position sorted gap later next = record {
  fits = gap.fits;
  before = λ j d l.
      elim (cases_eq n k) [
        | inl same ↦ rw (← same) (gap.before j d l)
        | inr other ↦ before_trans (get_or xs j d) (index n) (index k) (gap.before j d l) (index_before n k (omega arith))
      ];
  after = λ j d from inside.
      let (v, is, less) = next (omega arith) in
      before_middle xs (index k) v position sorted (omega arith) is less j d from inside;
}
