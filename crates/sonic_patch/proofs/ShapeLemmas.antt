-- Numbers that are given to shapes name signatures.
use Rattle.std.proofs.Common.{◌≡◌, ◌⊎◌, ◌∙◌, inl, inr, sym, subst, ap, ℕ, ◌+◌, Bool, true, false, cond, List, [], ◌∷◌, arith, refl}
use Rattle.std.proofs.lemmas.Bool.{cases_Bool, eq-eqb, eqb-true}
use Rattle.std.proofs.lemmas.Cmp.{lists_total, nat_cmp_total, tied_itself}
use Rattle.std.proofs.lemmas.Map.Lookups.{CmpEqualImpliesEq, exact_bytes, exact_unsigned}
use Rattle.std.specs.BTreeMap as tree
use Rattle.std.specs.BTreeMap.{BTreeMap, btree_map_len, is_at}
use Rattle.std.specs.Cmp.{IsTotalOrder}
use Rattle.std.specs.Cmp.Lexicographic.{slice_cmp}
use Rattle.std.specs.Map.{lookup}
use Rattle.std.specs.Ordering.{bool_cmp, is_eq, nat_cmp, ordering_then}
use Rattle.std.specs.Prelude.{◌↔◌, IsTrue, nat_eq, Some, None}
use Rattle.std.specs.declared.cmp.Ordering.{Ordering}
use Rattle.std.specs.declared.cmp.Ordering.TheVariants.{Less, Equal, Greater}
use Rattle.sonic_patch.specs.declared.shape.Shape.{Shape}
use Rattle.sonic_patch.specs.declared.shape.Shape.TheVariants.{Null, Truth, Number, Text, Elements, Members}
use Rattle.sonic_patch.specs.contracts.shape.ShapeOrd.TheImpl.Laws as laws
use Rattle.sonic_patch.specs.Internal.Marks.{Signature, truth_signature, number_signature, text_signature, elements_signature, signature_of, pair_cmp, shape_cmp, Names, AreNumbers, IsTreeMark, IsNaming}
use Rattle.sonic_text.specs.Trees.{Tree}
use Rattle.sonic_patch.specs.Sameness.{same}
use Rattle.sonic_patch.proofs.MarkLemmas.{signature_still, signatures_same, pair_exact, pair_total, same_signatures}

pub shape_total : IsTotalOrder shape_cmp
shape_total = laws.total-law

-- what comes to equal in two steps does in each
then_equal : (a b : Ordering) → ordering_then a b ≡ Equal → (a ≡ Equal) × (b ≡ Equal)
then_equal Less b e = absurd cc
then_equal Equal b e = (refl, e)
then_equal Greater b e = absurd cc

-- an order that tells elements apart tells lists apart
exact_lists : {K : Type 0} {R : K → K → Ordering} → CmpEqualImpliesEq R → (xs ys : List K) → slice_cmp R xs ys ≡ Equal → xs ≡ ys
exact_lists exact [] [] e = refl
exact_lists exact [] (y ∷ ys) e = absurd cc
exact_lists exact (x ∷ xs) [] e = absurd cc
exact_lists {R = R} exact (x ∷ xs) (y ∷ ys) e =
    let parts = then_equal (R x y) (slice_cmp R xs ys) e in
    rw (exact x y parts.0, exact_lists exact xs ys parts.1) refl

exact_truth : (a b : Bool) → bool_cmp a b ≡ Equal → a ≡ b
exact_truth true true e = refl
exact_truth true false e = absurd cc
exact_truth false true e = absurd cc
exact_truth false false e = refl

-- shapes that are equal have one signature
shape_signature : (k q : Shape) → shape_cmp k q ≡ Equal → signature_of k ≡ signature_of q
shape_signature Null Null e = refl
shape_signature (Truth a) (Truth b) e = ap truth_signature (exact_truth a b e)
shape_signature (Number a) (Number b) e = ap number_signature (exact_bytes a.items b.items e)
shape_signature (Text a) (Text b) e = ap text_signature (exact_bytes a.items b.items e)
shape_signature (Elements a) (Elements b) e = ap elements_signature (exact_bytes a.items b.items e)
shape_signature (Members n s) (Members m t) e =
    let parts = then_equal (nat_cmp n m) (slice_cmp pair_cmp s.keys t.keys) e in
    rw (exact_unsigned n m parts.0, exact_lists pair_exact s.keys t.keys parts.1) refl
shape_signature k q e = absurd cc

truth_itself : (a : Bool) → bool_cmp a a ≡ Equal
truth_itself true = refl
truth_itself false = refl

-- and shapes of one signature are equal
signature_shape : (k q : Shape) → signature_of k ≡ signature_of q → shape_cmp k q ≡ Equal
signature_shape Null Null e = refl
signature_shape (Truth a) (Truth b) e = let q : a ≡ b = cc in rw q (truth_itself b)
signature_shape (Number a) (Number b) e = let q : a.items ≡ b.items = cc in rw q (tied_itself (lists_total nat_cmp_total) b.items)
signature_shape (Text a) (Text b) e = let q : a.items ≡ b.items = cc in rw q (tied_itself (lists_total nat_cmp_total) b.items)
signature_shape (Elements a) (Elements b) e = let q : a.items ≡ b.items = cc in rw q (tied_itself (lists_total nat_cmp_total) b.items)
signature_shape (Members n s) (Members m t) e =
    let p : n ≡ m = cc in
    let q : s.keys ≡ t.keys = cc in
    let keys : slice_cmp pair_cmp s.keys t.keys ≡ Equal = rw q (tied_itself (lists_total pair_total) t.keys) in
    let counts : nat_cmp n m ≡ Equal = rw p (tied_itself nat_cmp_total m) in
    rw (counts, keys) refl
signature_shape k q e = absurd cc

-- equal shapes have one number
lookup_alike : (f g : Shape → Bool) → ((k : Shape) → f k ≡ g k) → (es : List (Shape × ℕ)) → lookup f es ≡ lookup g es
lookup_alike f g h [] = refl
lookup_alike f g h (e ∷ es) = rw (h e.0, lookup_alike f g h es) refl

get_alike : (m : BTreeMap Shape ℕ) (k q : Shape) → shape_cmp k q ≡ Equal → tree.get shape_cmp m k ≡ tree.get shape_cmp m q
get_alike m k q e = lookup_alike (is_at (shape_cmp k)) (is_at (shape_cmp q)) (λ s. ap is_eq (shape_total.congr k q s e)) m.entries

is_equal : (o : Ordering) → is_eq o ≡ true → o ≡ Equal
is_equal Less e = absurd cc
is_equal Equal e = refl
is_equal Greater e = absurd cc

-- numbers that are given in turn name signatures
pub naming : {m : BTreeMap Shape ℕ} → AreNumbers m → IsNaming (Names m)
naming {m} s = record {
  number_one = λ f i j x y.
      let one : tree.get shape_cmp m x.shape ≡ tree.get shape_cmp m y.shape = get_alike m x.shape y.shape (signature_shape x.shape y.shape (x.is ∙ sym y.is)) in
      let both : Some i ≡ Some j = sym x.at ∙ one ∙ y.at in
      cc;
  signature_one = λ f g i x y. sym x.is ∙ s.signature_one x.shape y.shape i x.at y.at ∙ y.is;
}

-- a new shape changes nothing that was named
pub named_still : {m n : BTreeMap Shape ℕ} (k : Shape) → tree.get shape_cmp m k ≡ None
    → ((q : Shape) → is_at (shape_cmp k) q ≡ false → tree.get shape_cmp n q ≡ tree.get shape_cmp m q) → (f : Signature) (i : ℕ) → Names m f i → Names n f i
named_still {m} {n} k none others f i x = elim (cases_Bool (is_at (shape_cmp k) x.shape)) [
  | inl equal ↦ absurd (
      let found : Some i ≡ None = sym x.at ∙ sym (get_alike m k x.shape (is_equal (shape_cmp k x.shape) equal)) ∙ none in cc)
  | inr apart ↦ record { shape = x.shape; is = x.is; at = others x.shape apart ∙ x.at }
]

-- what has a number then is the new shape, or had it
had_number : {v : ℕ} (m n : BTreeMap Shape ℕ) (k : Shape)
    → ((q : Shape) → tree.get shape_cmp n q ≡ cond (is_at (shape_cmp k) q) (Some v) (tree.get shape_cmp m q)) → (q : Shape) (i : ℕ)
    → tree.get shape_cmp n q ≡ Some i → ((signature_of k ≡ signature_of q) × (i ≡ v)) ⊎ (tree.get shape_cmp m q ≡ Some i)
had_number {v} m n k updates q i e = elim (cases_Bool (is_at (shape_cmp k) q)) [
  | inl equal ↦ inl (
    shape_signature k q (is_equal (shape_cmp k q) equal),
    let found : Some v ≡ Some i = rw equal at (sym (updates q) ∙ e) in cc,
  )
  | inr apart ↦ inr (rw apart at (sym (updates q) ∙ e))
]

pub numbers_still : {m n : BTreeMap Shape ℕ} {v : ℕ} (k : Shape) → AreNumbers m → v ≡ btree_map_len m → btree_map_len n ≡ btree_map_len m + 1
    → ((q : Shape) → tree.get shape_cmp n q ≡ cond (is_at (shape_cmp k) q) (Some v) (tree.get shape_cmp m q)) → AreNumbers n
numbers_still {m} {n} {v} k s is long updates = record {
  fewer = λ q i e. elim (had_number m n k updates q i e) [
    | inl new ↦ omega (arith, new.1)
    | inr old ↦ (let less = s.fewer q i old in omega arith)
  ];
  signature_one = λ a b i e f. elim (had_number m n k updates a i e) [
    | inl new ↦ elim (had_number m n k updates b i f) [
      | inl same ↦ sym new.0 ∙ same.0
      | inr old ↦ absurd (let less = s.fewer b i old in omega (arith, new.1))
    ]
    | inr old ↦ elim (had_number m n k updates b i f) [
      | inl new ↦ absurd (let less = s.fewer a i old in omega (arith, new.1))
      | inr same ↦ s.signature_one a b i old same
    ]
  ];
}

-- no number is given
pub no_numbers : {m : BTreeMap Shape ℕ} → m.entries ≡ [] → AreNumbers m
no_numbers {m} e = record {
  fewer = λ k i f. absurd (let none : tree.get shape_cmp m k ≡ None = rw e refl in cc);
  signature_one = λ k q i f g. absurd (let none : tree.get shape_cmp m k ≡ None = rw e refl in cc);
}

-- marks stay where more signatures have numbers
pub mark_still : {m n : BTreeMap Shape ℕ} {x : Tree} {i : ℕ} → ((f : Signature) (j : ℕ) → Names m f j → Names n f j) → IsTreeMark (Names m) x i → IsTreeMark (Names n) x i
mark_still {i = i} more k = record { signature = k.signature; is = signature_still more k.is; number = more k.signature i k.number }

-- marks are equal exactly where the trees are the same
pub decided : {m : BTreeMap Shape ℕ} {x y : Tree} {i j : ℕ} → AreNumbers m → IsTreeMark (Names m) x i → IsTreeMark (Names m) y j → IsTrue (nat_eq i j) ↔ (same x y ≡ true)
decided {m} {x} {y} {i} {j} s a b =
    let names = naming s in (
      (λ e.
          let one : i ≡ j = eqb-true i j e in
          let number : Names m b.signature i = subst (λ (o : ℕ). Names m b.signature o) (sym one) b.number in
          signatures_same (Names m) names a.is b.is (names.signature_one a.signature b.signature i a.number number)),
      (λ e.
          let one : a.signature ≡ b.signature = same_signatures (Names m) names a.is b.is e in
          let number : Names m b.signature i = subst (λ (f : Signature). Names m f i) one a.number in
          eq-eqb i j (names.number_one b.signature i j number b.number)),
    )
