-- Trees have one signature exactly where they are the same.
use Rattle.std.proofs.Common.{◌≡◌, ◌∙◌, inl, inr, sym, subst, ap, ℕ, Bool, true, false, List, [], ◌∷◌, ◌++◌, length, map, arith, refl}
use Rattle.std.proofs.lemmas.Bool.{and_parts}
use Rattle.std.proofs.lemmas.Cmp.{eq_by_cmp_equiv, nat_cmp_total, on_total, then_total}
use Rattle.std.proofs.lemmas.List.{length-append, map_push, same_from_push}
use Rattle.std.proofs.lemmas.List.Elements.{Contains-append_left, Contains-push, Contains-push_cases}
use Rattle.std.proofs.lemmas.Map.Lookups.{CmpEqualImpliesEq, btree_set_from_contains, exact_pairs, exact_unsigned}
use Rattle.std.proofs.lemmas.Map.Views.{Contains-from_any, list_any-from_Contains, tells_apart}
use Rattle.std.specs.BTreeSet as sorted
use Rattle.std.specs.BTreeSet.{BTreeSet}
use Rattle.std.specs.Cmp.{IsTotalOrder}
use Rattle.std.specs.List.{Contains}
use Rattle.std.specs.Ordering.{nat_cmp}
use Rattle.std.specs.Prelude.{Option, Some, None}
use Rattle.sonic_text.specs.Trees.{Tree, Items}
use Rattle.sonic_text.specs.Trees.Items.{item}
use Rattle.sonic_patch.specs.Sameness.{count, same, same_elements}
use Rattle.sonic_patch.specs.Internal.Marks.{Pair, Signature, truth_signature, number_signature, text_signature, elements_signature, label_signature, pair_cmp, IsSetOf, second, IsSignature, null_is, truth_is, number_is, text_is, elements_are, members_are as members_of, AreMarks, no_mark, more_marks, IsNaming}
use Rattle.sonic_patch.proofs.SameLemmas.{IsAmong, among_first, among_later, both, texts_same, texts_equal, beq_equal, beq_self, HasSame, HasSameBefore, are_members, members_are}

-- pairs are told apart by their order
pub pair_total : IsTotalOrder pair_cmp
pair_total = then_total (on_total (λ (p : Pair). p.0) nat_cmp_total) (on_total (λ (p : Pair). p.1) nat_cmp_total)

pub pair_exact : CmpEqualImpliesEq pair_cmp
pair_exact = exact_pairs nat_cmp nat_cmp exact_unsigned exact_unsigned

-- the set has what the list has
set_has : {pairs : List Pair} {set : BTreeSet Pair} → IsSetOf pairs set → (q : Pair) → Contains pairs q → sorted.contains pair_cmp set q ≡ true
set_has {pairs} s q c = s.has q ∙ list_any-from_Contains (eq_by_cmp_equiv pair_total) q pairs c

has_set : {pairs : List Pair} {set : BTreeSet Pair} → IsSetOf pairs set → (q : Pair) → sorted.contains pair_cmp set q ≡ true → Contains pairs q
has_set {pairs} s q e = Contains-from_any (tells_apart pair_exact) q pairs (sym (s.has q) ∙ e)

equal_tests : (a b : Bool) → (a ≡ true → b ≡ true) → (b ≡ true → a ≡ true) → a ≡ b
equal_tests true b f g = sym (f refl)
equal_tests false true f g = g refl
equal_tests false false f g = refl

-- one set is that of two lists with the same pairs
set_one : {pairs others : List Pair} {set other : BTreeSet Pair} → IsSetOf pairs set → IsSetOf others other → ((q : Pair) → Contains pairs q → Contains others q)
    → ((q : Pair) → Contains others q → Contains pairs q) → set.keys ≡ other.keys
set_one {set = set} {other} s t on back =
    btree_set_from_contains pair_total set other s.ordered t.ordered
    (λ q. equal_tests _ _ (λ e. set_has t q (on q (has_set s q e))) (λ e. set_has s q (back q (has_set t q e)))) pair_exact

-- sets with one list of keys have the same
contains_one : {s t : BTreeSet Pair} → s.keys ≡ t.keys → (q : Pair) → sorted.contains pair_cmp s q ≡ sorted.contains pair_cmp t q
contains_one e q = rw e refl

-- labels of one signature are one
label_one : (l k : Option (List ℕ)) → label_signature l ≡ label_signature k → l ≡ k
label_one None None e = refl
label_one None (Some k) e = absurd cc
label_one (Some l) None e = absurd cc
label_one (Some l) (Some k) e = let f : l ≡ k = cc in ap Some f

module _ (N : Signature → ℕ → Type 0) where
  -- as many pairs as items
  marks_count : {xs : Items} {pairs : List Pair} → AreMarks N xs pairs → count xs ≡ length pairs
  marks_count no_mark = refl
  marks_count (more_marks {n = n} {m} {pairs} nl is nm rest) = omega (arith, marks_count rest, length-append pairs ((n, m) ∷ []))

  -- an item has a pair
  record HasPair (l : Option (List ℕ)) (x : Tree) (pairs : List Pair) : Type 0 where
    signature : Signature
    label : ℕ
    mark : ℕ
    named : N (label_signature l) label
    is : IsSignature N x signature
    number : N signature mark
    among : Contains pairs (label, mark)

  pair_of : {l : Option (List ℕ)} {x : Tree} {xs : Items} {pairs : List Pair} → AreMarks N xs pairs → IsAmong l x xs → HasPair l x pairs
  pair_of no_mark a = elim a [ ]
  pair_of (more_marks {f = f} {n} {m} {pairs} nl is nm rest) among_first =
      record { signature = f; label = n; mark = m; named = nl; is = is; number = nm; among = Contains-push pairs (n, m) }
  pair_of (more_marks {n = n} {m} {pairs} nl is nm rest) (among_later a) =
      let p = pair_of rest a in
      record {
        signature = p.signature;
        label = p.label;
        mark = p.mark;
        named = p.named;
        is = p.is;
        number = p.number;
        among = Contains-append_left pairs ((n, m) ∷ []) (p.label, p.mark) p.among;
      }

  -- and a pair an item
  record HasItem (xs : Items) (pair : Pair) : Type 0 where
    label : Option (List ℕ)
    value : Tree
    signature : Signature
    among : IsAmong label value xs
    named : N (label_signature label) pair.0
    is : IsSignature N value signature
    number : N signature pair.1

  item_of : {xs : Items} {pairs : List Pair} → AreMarks N xs pairs → (q : Pair) → Contains pairs q → HasItem xs q
  item_of no_mark q c = absurd (omega (arith, c.1))
  item_of (more_marks {l} {x} {xs} {f} {n} {m} {pairs} nl is nm rest) q c = elim (Contains-push_cases pairs (n, m) q c) [
    | inl d ↦ (let p = item_of rest q d in
        record { label = p.label; value = p.value; signature = p.signature; among = among_later p.among; named = p.named; is = p.is; number = p.number })
    | inr e ↦ record {
      label = l;
      value = x;
      signature = f;
      among = among_first;
      named = subst (λ (p : Pair). N (label_signature l) p.0) e nl;
      is = is;
      number = subst (λ (p : Pair). N f p.1) e nm;
    }
  ]

  module _ (naming : IsNaming N) where
    mutual
      -- of one signature are trees that are the same
      pub signatures_same : {x y : Tree} {f g : Signature} → IsSignature N x f → IsSignature N y g → f ≡ g → same x y ≡ true
      signatures_same null_is null_is e = refl
      signatures_same (truth_is {b = a}) (truth_is {b}) e = let q : a ≡ b = cc in rw q (beq_self b)
      signatures_same (number_is {b = a}) (number_is {b}) e = let q : a ≡ b = cc in rw q (texts_same b)
      signatures_same (text_is {b = a}) (text_is {b}) e = let q : a ≡ b = cc in rw q (texts_same b)
      signatures_same (elements_are {pairs = ps} a) (elements_are {pairs = qs} b) e = let q : map second ps ≡ map second qs = cc in elements_same a b q
      signatures_same (members_of {xs} {pairs = ps} {set = s} a k) (members_of {xs = ys} {pairs = qs} {set = t} b j) e =
          let long : length ps ≡ length qs = cc in
          let keys : s.keys ≡ t.keys = cc in
          are_members xs ys
          (record {
            many = marks_count a ∙ long ∙ sym (marks_count b);
            on = λ l x m. found_same a m b (λ q c. has_set j q (contains_one (sym keys) q ∙ set_has k q c));
            back = λ l y m.
                let p = pair_of b m in
                before_same a p.named p.is p.number
                (has_set k (p.label, p.mark) (contains_one keys (p.label, p.mark) ∙ set_has j (p.label, p.mark) p.among));
          })
      signatures_same p q e = absurd cc

      elements_same : {xs ys : Items} {ps qs : List Pair} → AreMarks N xs ps → AreMarks N ys qs → map second ps ≡ map second qs → same_elements xs ys ≡ true
      elements_same no_mark no_mark e = refl
      elements_same no_mark (more_marks {n = n} {m} {pairs = qs} nl is nm rest) e =
          absurd (omega (arith, ap length (e ∙ map_push second qs (n, m)), length-append (map second qs) (m ∷ [])))
      elements_same (more_marks {n = n} {m} {pairs = ps} nl is nm rest) no_mark e =
          absurd (omega (arith, ap length (sym (map_push second ps (n, m)) ∙ e), length-append (map second ps) (m ∷ [])))
      elements_same (more_marks {x = x} {xs} {f} {n} {m} {pairs = ps} nl is nm rest) (more_marks {x = y} {xs = ys} {f = g} {n = k} {m = i} {pairs = qs} kl js gi others) e =
          let parts = same_from_push (map second ps) (map second qs) m i (sym (map_push second ps (n, m)) ∙ e ∙ map_push second qs (k, i)) in
          let number : N g m = subst (λ (o : ℕ). N g o) (sym parts.1) gi in
          both (same x y) (same_elements xs ys) (signatures_same is js (naming.signature_one f g m nm number)) (elements_same rest others parts.0)

      found_same : {l : Option (List ℕ)} {x : Tree} {xs ys : Items} {ps qs : List Pair} → AreMarks N xs ps → IsAmong l x xs → AreMarks N ys qs
          → ((q : Pair) → Contains ps q → Contains qs q) → HasSame l x ys
      found_same no_mark a b sub = elim a [ ]
      found_same {ys = ys} (more_marks {l} {x} {f = f} {n} {m} {pairs = ps} nl is nm rest) among_first b sub =
          let at = item_of b (n, m) (sub (n, m) (Contains-push ps (n, m))) in
          let named : at.label ≡ l = label_one at.label l (naming.signature_one (label_signature at.label) (label_signature l) n at.named nl) in
          record {
            value = at.value;
            among = subst (λ (j : Option (List ℕ)). IsAmong j at.value ys) named at.among;
            equal = signatures_same is at.is (naming.signature_one f at.signature m nm at.number);
          }
      found_same (more_marks {n = n} {m} {pairs = ps} nl is nm rest) (among_later a) b sub = found_same rest a b (λ q c. sub q (Contains-append_left ps ((n, m) ∷ []) q c))

      before_same : {l : Option (List ℕ)} {y : Tree} {xs : Items} {ps : List Pair} {g : Signature} {k i : ℕ} → AreMarks N xs ps → N (label_signature l) k → IsSignature N y g → N g i
          → Contains ps (k, i) → HasSameBefore xs l y
      before_same no_mark kl js gi c = absurd (omega (arith, c.1))
      before_same {l} {g = g} {k} {i} (more_marks {l = j} {x} {xs} {f} {n} {m} {pairs = ps} nl is nm rest) kl js gi c = elim (Contains-push_cases ps (n, m) (k, i) c) [
        | inl d ↦ (let p = before_same rest kl js gi d in record { value = p.value; among = among_later p.among; equal = p.equal })
        | inr e ↦ (
            let here : N (label_signature j) k = subst (λ (p : Pair). N (label_signature j) p.0) e nl in
            let number : N f i = subst (λ (p : Pair). N f p.1) e nm in
            let named : j ≡ l = label_one j l (naming.signature_one (label_signature j) (label_signature l) k here kl) in
            let first : IsAmong j x (item j x xs) = among_first in
            record {
              value = x;
              among = subst (λ (o : Option (List ℕ)). IsAmong o x (item j x xs)) named first;
              equal = signatures_same is js (naming.signature_one f g i number gi);
            })
      ]

    mutual
      -- trees that are the same are of one signature
      pub same_signatures : {x y : Tree} {f g : Signature} → IsSignature N x f → IsSignature N y g → same x y ≡ true → f ≡ g
      same_signatures null_is null_is e = refl
      same_signatures (truth_is {b = a}) (truth_is {b}) e = ap truth_signature (beq_equal a b e)
      same_signatures (number_is {b = a}) (number_is {b}) e = ap number_signature (texts_equal a b e)
      same_signatures (text_is {b = a}) (text_is {b}) e = ap text_signature (texts_equal a b e)
      same_signatures (elements_are a) (elements_are b) e = ap elements_signature (same_marks a b e)
      same_signatures (members_of {xs} {pairs = ps} {set = s} a k) (members_of {xs = ys} {pairs = qs} {set = t} b j) e =
          let m = members_are xs ys e in
          let long : length ps ≡ length qs = sym (marks_count a) ∙ m.many ∙ marks_count b in
          let keys : s.keys ≡ t.keys =
          set_one k j (λ q c. marks_on a b m.on q c)
          (λ q c. let p = item_of b q c in let h = m.back p.label p.value p.among in marks_back a h.among p.named p.is p.number h.equal) in
          cc
      same_signatures p q e = absurd cc

      same_marks : {xs ys : Items} {ps qs : List Pair} → AreMarks N xs ps → AreMarks N ys qs → same_elements xs ys ≡ true → map second ps ≡ map second qs
      same_marks no_mark no_mark e = refl
      same_marks no_mark (more_marks nl is nm rest) e = absurd cc
      same_marks (more_marks nl is nm rest) no_mark e = absurd cc
      same_marks (more_marks {x = x} {xs} {f} {n} {m} {pairs = ps} nl is nm rest) (more_marks {x = y} {xs = ys} {f = g} {n = k} {m = i} {pairs = qs} kl js gi others) e =
          let parts = and_parts (same x y) (same_elements xs ys) e in
          let signature : f ≡ g = same_signatures is js parts.0 in
          let there : N g m = subst (λ (o : Signature). N o m) signature nm in
          let mark : m ≡ i = naming.number_one g m i there gi in
          let before = same_marks rest others parts.1 in
          map_push second ps (n, m) ∙ rw (before, mark) (sym (map_push second qs (k, i)))

      marks_on : {xs ys : Items} {ps qs : List Pair} → AreMarks N xs ps → AreMarks N ys qs → ((l : Option (List ℕ)) (x : Tree) → IsAmong l x xs → HasSame l x ys)
          → (q : Pair) → Contains ps q → Contains qs q
      marks_on no_mark b on q c = absurd (omega (arith, c.1))
      marks_on {qs = qs} (more_marks {l} {x} {f = f} {n} {m} {pairs = ps} nl is nm rest) b on q c = elim (Contains-push_cases ps (n, m) q c) [
        | inl d ↦ marks_on rest b (λ k y a. on k y (among_later a)) q d
        | inr e ↦ (
            let h = on l x among_first in
            let p = pair_of b h.among in
            let signature : f ≡ p.signature = same_signatures is p.is h.equal in
            let there : N p.signature m = subst (λ (o : Signature). N o m) signature nm in
            let label : p.label ≡ n = naming.number_one (label_signature l) p.label n p.named nl in
            let mark : p.mark ≡ m = naming.number_one p.signature p.mark m p.number there in
            let pair : ◌≡◌ {A = Pair} (p.label, p.mark) (n, m) = rw (label, mark) refl in
            subst (λ (o : Pair). Contains qs o) (pair ∙ e) p.among)
      ]

      marks_back : {l : Option (List ℕ)} {x y : Tree} {xs : Items} {ps : List Pair} {g : Signature} {q : Pair} → AreMarks N xs ps → IsAmong l x xs → N (label_signature l) q.0
          → IsSignature N y g → N g q.1 → same x y ≡ true → Contains ps q
      marks_back no_mark a kl js gi e = elim a [ ]
      marks_back {l} {g = g} {q} (more_marks {f = f} {n} {m} {pairs = ps} nl is nm rest) among_first kl js gi e =
          let signature : f ≡ g = same_signatures is js e in
          let there : N g m = subst (λ (o : Signature). N o m) signature nm in
          let label : n ≡ q.0 = naming.number_one (label_signature l) n q.0 nl kl in
          let mark : m ≡ q.1 = naming.number_one g m q.1 there gi in
          let pair : ◌≡◌ {A = Pair} (n, m) q = rw (label, mark) refl in
          subst (λ (o : Pair). Contains (ps ++ (n, m) ∷ []) o) pair (Contains-push ps (n, m))
      marks_back {q = q} (more_marks {n = n} {m} {pairs = ps} nl is nm rest) (among_later a) kl js gi e =
          Contains-append_left ps ((n, m) ∷ []) q (marks_back rest a kl js gi e)

-- a signature stays one where more signatures have numbers
mutual
  pub signature_still : {N M : Signature → ℕ → Type 0} → ((f : Signature) (n : ℕ) → N f n → M f n) → {x : Tree} {f : Signature} → IsSignature N x f → IsSignature M x f
  signature_still more null_is = null_is
  signature_still more truth_is = truth_is
  signature_still more number_is = number_is
  signature_still more text_is = text_is
  signature_still more (elements_are a) = elements_are (marks_still more a)
  signature_still more (members_of a s) = members_of (marks_still more a) s

  pub marks_still : {N M : Signature → ℕ → Type 0} → ((f : Signature) (n : ℕ) → N f n → M f n) → {xs : Items} {pairs : List Pair} → AreMarks N xs pairs → AreMarks M xs pairs
  marks_still more no_mark = no_mark
  marks_still more (more_marks {l} {f = f} {n} {m} nl is nm rest) = more_marks (more (label_signature l) n nl) (signature_still more is) (more f m nm) (marks_still more rest)
