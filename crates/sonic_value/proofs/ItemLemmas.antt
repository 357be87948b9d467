-- The items of a container as lists, and the first that has a key.
use Rattle.std.proofs.Common.{◌≡◌, ◌≢◌, ◌<◌, ◌≤◌, ◌+◌, ◌∙◌, ap, sym, refl, inl, inr, ℕ, zero, suc, List, [], ◌∷◌, length, get_or, map, string_bytes, Option, Some, None, true, false, nat_eq, option_map, IfSome, MutBor, arith}
use Rattle.std.proofs.lemmas.Bool.{cases_Bool, cases_eq, cases_lt, and_parts, eqb-true}
use Rattle.std.proofs.lemmas.List.{length-map}
use Rattle.std.proofs.lemmas.Option.{same_Some, slice_get_past, slice_get-get_or, slice_get-map, slice_get_within}
use Rattle.std.specs.declared.alloc.Global.{Global}
use Rattle.std.specs.declared.string.String.{String}
use Rattle.std.specs.declared.vec.Vec.{Vec}
use Rattle.std.specs.Vec.{with_item}
use mathlib.Core.HLevel.{is_prop→PathP}
use native.Mathlib.Bridge.{le_prop}
use native.Mathlib.Nat.{ℕ_set}
use Rattle.sonic_value.specs.declared.value.Value.{Value}
use Rattle.std.specs.Cmp.Lexicographic.{pointwise, nat_list_eq_equiv}
use Rattle.std.specs.List.{slice_get, slice_set}
use Rattle.sonic_owned.specs.TreePuts.{change_at, change_of}
use Rattle.sonic_text.specs.TreePaths.{element_at, member_of}
use Rattle.sonic_text.specs.Trees.Items.{item}
use Rattle.sonic_text.specs.Trees.{Tree}
use Rattle.sonic_value.specs.Internal.Keys.{seen, keys, IsFirstKey}
use Rattle.sonic_value.specs.Views.{tree, elements_of, members_of, key_and_tree}

-- the member at a place, and its key
pub seen_at : (ms : List (String Global × Value)) (i : ℕ) (m : String Global × Value) → i < length ms → slice_get (seen ms) i ≡ Some (key_and_tree (get_or ms i m))
seen_at ms i m l = slice_get-map key_and_tree ms i ∙ ap (option_map key_and_tree) (slice_get-get_or ms i m l)

pub key_at : (ms : List (String Global × Value)) (i : ℕ) (m : String Global × Value) → i < length ms
    → slice_get (keys (seen ms)) i ≡ Some (string_bytes (get_or ms i m).0)
key_at ms i m l = slice_get-map (λ (q : List ℕ × Tree). q.0) (seen ms) i ∙ ap (option_map (λ (q : List ℕ × Tree). q.0)) (seen_at ms i m l)

pub key_past : (ms : List (String Global × Value)) (i : ℕ) → length ms ≤ i → slice_get (keys (seen ms)) i ≡ None
key_past ms i l = slice_get_past (keys (seen ms)) i (rw (length-map (seen ms) (λ (q : List ℕ × Tree). q.0), length-map ms key_and_tree) l)

-- a member whose key is there is there
pub key_within : (ms : List (String Global × Value)) (i : ℕ) (k : List ℕ) → slice_get (keys (seen ms)) i ≡ Some k → i < length ms
key_within ms i k e =
    let within = slice_get_within (keys (seen ms)) i k e in
    rw (length-map (seen ms) (λ (q : List ℕ × Tree). q.0), length-map ms key_and_tree) at within

-- one more place without x, and all of them
pub first_more : (x : List ℕ) (xs : List (List ℕ)) (i : ℕ) → slice_get xs i ≢ Some x → ((p : ℕ) → p < i → slice_get xs p ≢ Some x)
    → (p : ℕ) → p < i + 1 → slice_get xs p ≢ Some x
first_more x xs i other before p less e = elim (cases_eq p i) [ inl is ↦ other (rw is at e) | inr another ↦ before p (omega arith) e ]

pub none_past : (x : List ℕ) (ms : List (String Global × Value)) (i : ℕ) → length ms ≤ i → ((p : ℕ) → p < i → slice_get (keys (seen ms)) p ≢ Some x)
    → (p : ℕ) → slice_get (keys (seen ms)) p ≢ Some x
none_past x ms i end before p e = elim (cases_lt p i) [
  | inl less ↦ before p less e
  | inr past ↦ let none = key_past ms p (omega arith) in let clash = sym none ∙ e in cc
]

-- an element
pub element_is : (xs : List Tree) (n : ℕ) → element_at n (elements_of xs) ≡ slice_get xs n
element_is [] n = refl
element_is (x ∷ xs) zero = refl
element_is (x ∷ xs) (suc n) = element_is xs n

pub element_there : (xs : List Value) (n : ℕ) (d : Value) → n < length xs → element_at n (elements_of (map tree xs)) ≡ Some (tree (get_or xs n d))
element_there xs n d l = element_is (map tree xs) n ∙ slice_get-map tree xs n ∙ ap (option_map tree) (slice_get-get_or xs n d l)

pub element_past : (xs : List Value) (n : ℕ) → length xs ≤ n → element_at n (elements_of (map tree xs)) ≡ None
element_past xs n l = element_is (map tree xs) n ∙ slice_get_past (map tree xs) n (rw (length-map xs tree) l)

element_put : (xs : List Value) (n : ℕ) (w : Value) → elements_of (map tree (slice_set xs n w)) ≡ change_at n (λ _. tree w) (elements_of (map tree xs))
element_put [] n w = refl
element_put (x ∷ xs) zero w = refl
element_put (x ∷ xs) (suc n) w = ap (item None (tree x)) (element_put xs n w)

-- what is put where it stood changes nothing
set_same : {X : Type 0} (xs : List X) (n : ℕ) (w : X) → w ≡ get_or xs n w → slice_set xs n w ≡ xs
set_same [] n w e = refl
set_same (x ∷ xs) zero w e = ap (λ y. y ∷ xs) e
set_same (x ∷ xs) (suc n) w e = ap (λ ys. x ∷ ys) (set_same xs n w e)

pub same_list : {X : Type 0} (v : Vec X Global) (n : ℕ) (w : X) → w ≡ get_or v.items n w → with_item v n w ≡ v
same_list v n w e =
    let items : slice_set v.items n w ≡ v.items = set_same v.items n w e in
    λ i. record {
      ptr = v.ptr;
      len = v.len;
      cap = v.cap;
      alloc = v.alloc;
      items = items i;
      ok = is_prop→PathP (λ j. (v.len ≡ length (items j)) × (v.len ≤ v.cap)) (λ j x y k. (ℕ_set _ _ x.0 y.0 k, le_prop x.1 y.1 k)) (with_item v n w).ok v.ok i;
      small = v.small;
    }

-- an element that is lent
pub element_lent : (v : Vec Value Global) (n : ℕ) (o : Option (MutBor Value)) → IfSome o (λ x. x.now ≡ get_or v.items n x.now) → (w : Value)
    → IfSome o (λ x. (elements_of (map tree (slice_set v.items n w)) ≡ change_at n (λ _. tree w) (elements_of (map tree v.items)))
    × (w ≡ x.now → with_item v n w ≡ v))
element_lent v n None is w = tt
element_lent v n (Some x) is w = (element_put v.items n w, λ same. same_list v n w (rw same is))

-- keys that are compared as equal are the same, and others aren't
pub key_equal : (k l : List ℕ) → pointwise nat_eq k l ≡ true → k ≡ l
key_equal [] [] e = refl
key_equal [] (y ∷ ys) e = absurd cc
key_equal (x ∷ xs) [] e = absurd cc
key_equal (x ∷ xs) (y ∷ ys) e =
    let both = and_parts (nat_eq x y) (pointwise nat_eq xs ys) e in
    rw (eqb-true x y both.0, key_equal xs ys both.1) refl

pub key_unlike : (k l : List ℕ) → pointwise nat_eq k l ≡ false → ¬ (k ≡ l)
key_unlike k l e same =
    let reflexive : pointwise nat_eq l l ≡ true = nat_list_eq_equiv.refl l in
    let clash : pointwise nat_eq l l ≡ false = rw same at e in
    cc

key_differs : (k l : List ℕ) → ¬ (◌≡◌ {A = Option (List ℕ)} (Some k) (Some l)) → pointwise nat_eq k l ≡ false
key_differs k l other = elim (cases_Bool (pointwise nat_eq k l)) [ inl same ↦ absurd (other (ap Some (key_equal k l same))) | inr differ ↦ differ ]

below : {x : List ℕ} {y : List ℕ} {xs : List (List ℕ)} {i : ℕ} → IsFirstKey x (y ∷ xs) (suc i) → IsFirstKey x xs i
below f = record { here = f.here; first = λ p less. f.first (suc p) (omega (arith, less)) }

-- a member
pub member_first : (ms : List (List ℕ × Tree)) (k : List ℕ) (i : ℕ) (m : List ℕ × Tree) → IsFirstKey k (keys ms) i → slice_get ms i ≡ Some m
    → member_of k (members_of ms) ≡ Some m.1
member_first [] k i m f e = absurd cc
member_first (n ∷ ns) k zero m f e =
    let same : n.0 ≡ k = same_Some _ _ f.here in
    let equal : pointwise nat_eq n.0 k ≡ true = rw same (nat_list_eq_equiv.refl k) in
    rw equal (ap (λ q. Some q.1) (same_Some _ _ e))
member_first (n ∷ ns) k (suc i) m f e = rw (key_differs n.0 k (f.first 0 (omega arith))) (member_first ns k i m (below f) e)

pub member_none : (ms : List (List ℕ × Tree)) (k : List ℕ) → ((p : ℕ) → slice_get (keys ms) p ≢ Some k) → member_of k (members_of ms) ≡ None
member_none [] k none = refl
member_none (m ∷ ms) k none = rw (key_differs m.0 k (none 0)) (member_none ms k (λ p. none (suc p)))

pub member_put : (ms : List (String Global × Value)) (k : List ℕ) (i : ℕ) (m : String Global × Value) (w : Value) → IsFirstKey k (keys (seen ms)) i
    → m ≡ get_or ms i m → members_of (seen (slice_set ms i (m.0, w))) ≡ change_of k (λ _. tree w) (members_of (seen ms))
member_put [] k i m w f e = refl
member_put (n ∷ ns) k zero m w f e =
    let same : string_bytes n.0 ≡ k = same_Some _ _ f.here in
    let equal : pointwise nat_eq (string_bytes n.0) k ≡ true = rw same (nat_list_eq_equiv.refl k) in
    rw equal (ap (λ q. item (Some (string_bytes q.0)) (tree w) (members_of (seen ns))) e)
member_put (n ∷ ns) k (suc i) m w f e =
    rw (key_differs (string_bytes n.0) k (f.first 0 (omega arith))) (ap (item (Some (string_bytes n.0)) (tree n.1)) (member_put ns k i m w (below f) e))
