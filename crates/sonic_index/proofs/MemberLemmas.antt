-- The members of wide objects: how they are gathered, ordered, and found by halving.
use Rattle.std.proofs.Common.{◌≡◌, ◌≢◌, ◌∙◌, inl, inr, ℕ, ◌+◌, ◌-◌, ◌<◌, ◌≤◌, List, [], ◌∷◌, ◌++◌, true, false, All, Contains, get_or, length, map, nat_cmp, Ordering, Less, Equal, Greater, arith, refl, sym, ap}
use Rattle.std.proofs.lemmas.Bool.{cases_order}
use Rattle.std.proofs.lemmas.Cmp.{nat_cmp_total, nat_list_cmp_total, on_total, then_total, tied_itself}
use Rattle.std.proofs.lemmas.List.{length-map}
use Rattle.std.proofs.lemmas.List.Elements.{All-contains, All-contains_itself, All-nil, All-push, All-weaker, Contains-append_left, Contains-push, Contains-push_cases}
use Rattle.std.proofs.lemmas.List.Sorted.{All-permutation, Contains-permutation, ranks_by, searchable_from_sorted, sorted_far}
use Rattle.std.proofs.lemmas.Map.Keys.{ge_from_not_lt}
use Rattle.std.proofs.lemmas.Map.Text.{is_eq-slice_cmp}
use Rattle.std.proofs.lemmas.Option.{get_or_from_slice_get, slice_get-get_or, slice_get-map, slice_get_within}
use Rattle.std.proofs.lemmas.Slice.Eq.{bytes_eq-Decides}
use Rattle.std.specs.Cmp.{IsTotalOrder}
use Rattle.std.specs.Cmp.Lexicographic.{slice_cmp}
use Rattle.std.specs.FinMap.{nat_cmp-IsAntisymmetric}
use Rattle.std.specs.List.Sorted.{IsPermutation, IsSortedBy}
use Rattle.std.specs.Ordering.{is_eq, is_lt, ordering_index, ordering_then}
use Rattle.std.specs.Prelude.{Option, None, Some, option_map, slice_get}
use Rattle.sonic_text.specs.Strings.{IsString, strict}
use Rattle.sonic_text.proofs.Strings.{chars_later, string_one}
use Rattle.sonic_index.specs.declared.cell.Cell.{Cell}
use Rattle.sonic_index.specs.declared.members.Unescaped.{Unescaped}
use Rattle.sonic_index.specs.Internal.Members.{compare_key_of, compare_named, AreCollected, AreJoined, AreOrdered, HasNumber, IsFirstMember, IsMember, IsNamedMember, IsOf, IsPlaceFor, IsUnescapedMember, IsWide, Named}
use Rattle.sonic_index.proofs.PathLemmas.{no_cell}

-- a member's key is at the label of its cell
pub member_key : {t : List ℕ} {cells : List Cell} {p n : ℕ} {b : List ℕ} → (m : IsMember t cells p n b) → IsString strict t (get_or cells n no_cell).label m.end b
member_key {cells = cells} {n = n} m = rw (get_or_from_slice_get cells n m.cell no_cell m.found) m.key

pub member_parent : {t : List ℕ} {cells : List Cell} {p n : ℕ} {b : List ℕ} → IsMember t cells p n b → (get_or cells n no_cell).parent ≡ p
member_parent {cells = cells} {n = n} m = ap (λ (c : Cell). c.parent) (get_or_from_slice_get cells n m.cell no_cell m.found) ∙ m.parent

pub member_within : {t : List ℕ} {cells : List Cell} {p n : ℕ} {b : List ℕ} → IsMember t cells p n b → n < length cells
member_within {cells = cells} {n = n} m = slice_get_within cells n m.cell m.found

-- between the quotes of a string there is room
pub key_room : {t : List ℕ} {i j : ℕ} {b : List ℕ} → IsString strict t i j b → i + 1 ≤ j - 1
key_room s = omega (arith, chars_later s.chars, s.end)

-- a member has one object and one key
pub member_one : {t : List ℕ} {cells : List Cell} {p r n : ℕ} {b c : List ℕ} → IsMember t cells p n b → IsMember t cells r n c → (p ≡ r) × (b ≡ c)
member_one m o = (sym (member_parent m) ∙ member_parent o, (string_one (member_key m) (member_key o)).1)

-- how it compares, where its object is the one that is sought
pub compared_key : (p i : ℕ) (b q : List ℕ) {o : Ordering} → p ≡ i → o ≡ slice_cmp nat_cmp b q → o ≡ compare_key_of p b i q
compared_key p i b q same e = rw (same, tied_itself nat_cmp_total i) e

-- the orders are total
abbrev pub Pair : Type 0
Pair = ℕ × List ℕ

abbrev pub compare_pair : Pair → Pair → Ordering
compare_pair x y = compare_key_of x.0 x.1 y.0 y.1

pair_total : IsTotalOrder compare_pair
pair_total = then_total (on_total (λ p. p.0) nat_cmp_total) (on_total (λ p. p.1) nat_list_cmp_total)

named_total : IsTotalOrder compare_named
named_total = then_total (then_total (on_total (λ m. m.0) nat_cmp_total) (on_total (λ m. m.1.now) nat_list_cmp_total)) (on_total (λ m. m.2) nat_cmp_total)

-- the parts of an answer that isn't less
not_less_first : (a b : Ordering) → is_lt (ordering_then a b) ≡ false → is_lt a ≡ false
not_less_first Less b e = e
not_less_first Equal b e = refl
not_less_first Greater b e = refl

equal_both : (a b : Ordering) → ordering_then a b ≡ Equal → (a ≡ Equal) × (b ≡ Equal)
equal_both Less b e = absurd cc
equal_both Equal b e = (refl, e)
equal_both Greater b e = absurd cc

pub is_less : (o : Ordering) → is_lt o ≡ true → o ≡ Less
is_less Less e = refl
is_less Equal e = absurd cc
is_less Greater e = absurd cc

-- what is no more than less is less
low_less : (o p : Ordering) → ordering_index o ≤ ordering_index p → p ≡ Less → o ≡ Less
low_less Less p l e = refl
low_less Equal p l e = absurd (omega (arith, l, ap ordering_index e))
low_less Greater p l e = absurd (omega (arith, l, ap ordering_index e))

-- and what is no more than equal is equal, or less
low_equal : (o p : Ordering) → ordering_index o ≤ ordering_index p → p ≡ Equal → o ≢ Less → o ≡ Equal
low_equal Less p l e other = absurd (other refl)
low_equal Equal p l e other = refl
low_equal Greater p l e other = absurd (omega (arith, l, ap ordering_index e))

-- what ties is one
same_key_of : (p i : ℕ) (b q : List ℕ) → compare_key_of p b i q ≡ Equal → (p ≡ i) × (b ≡ q)
same_key_of p i b q e =
    let both = equal_both (nat_cmp p i) (slice_cmp nat_cmp b q) e in
    (nat_cmp-IsAntisymmetric p i both.0, (bytes_eq-Decides b q).0 (sym (is_eq-slice_cmp b q) ∙ ap is_eq both.1))

tied_key : (p i : ℕ) (b q : List ℕ) → p ≡ i → b ≡ q → compare_key_of p b i q ≡ Equal
tied_key p i b q same one = rw (same, one, tied_itself nat_cmp_total i) (tied_itself nat_list_cmp_total q)

-- the order of the members by their places
abbrev pub AreSorted : List Named → Type 0
AreSorted members = IsSortedBy (λ x y. is_lt (compare_named x y)) members

in_order : (members : List Named) → AreSorted members → (j k : ℕ) (x y : Named) → j ≤ k → slice_get members j ≡ Some x → slice_get members k ≡ Some y
    → is_lt (compare_named y x) ≡ false
in_order members up j k x y l e f =
    let far = sorted_far (λ x y. is_lt (compare_named x y)) (ranks_by named_total (λ m. m)) members up j k x l (slice_get_within members k y f) in
    rw (get_or_from_slice_get members j x x e, get_or_from_slice_get members k y x f) at far

-- and how they compare with what is sought goes up
rising : (members : List Named) → AreSorted members → (i : ℕ) (q : List ℕ) (j k : ℕ) (x y : Named) → j ≤ k → slice_get members j ≡ Some x → slice_get members k ≡ Some y
    → ordering_index (compare_key_of x.0 x.1.now i q) ≤ ordering_index (compare_key_of y.0 y.1.now i q)
rising members up i q j k x y l e f =
    let order = searchable_from_sorted pair_total (λ (m : Named). (m.0, m.1.now)) members (i, q) (λ n d a b. not_less_first _ _ (up n d a b)) j k x l (slice_get_within members k y f) in
    rw (get_or_from_slice_get members j x x e, get_or_from_slice_get members k y x f) at order

-- the bounds come nearer
pub place_low : {members : List Named} {i low high : ℕ} {q : List ℕ} (k : ℕ) (x : Named) → AreSorted members → IsPlaceFor members i q low high → slice_get members k ≡ Some x
    → compare_key_of x.0 x.1.now i q ≡ Less → k < high → IsPlaceFor members i q (k + 1) high
place_low {members} {i} {q = q} k x up s e less l = record {
  order = omega (arith, l);
  within = s.within;
  before = λ j y f g. low_less _ _ (rising members up i q j k y x (omega (arith, f)) g e) less;
  from = s.from;
}

pub place_high : {members : List Named} {i low high : ℕ} {q : List ℕ} (k : ℕ) (x : Named) → AreSorted members → IsPlaceFor members i q low high → slice_get members k ≡ Some x
    → compare_key_of x.0 x.1.now i q ≢ Less → low ≤ k → k < high → IsPlaceFor members i q low k
place_high {members} {i} {q = q} k x up s e other m l = record {
  order = m;
  within = omega (arith, l, s.within);
  before = s.before;
  from = λ j y f g less. other (low_less _ _ (rising members up i q k j x y f e g) less);
}

-- what a mapped list has comes of what the list has
some_mapped : {A B : Type 0} (f : A → B) (r : Option A) (y : B) → option_map f r ≡ Some y → (x : A) × (r ≡ Some x) × (f x ≡ y)
some_mapped f None y e = absurd cc
some_mapped f (Some x) y e = (x, refl, cc)

-- the member whose number is at a place of the order
pub record IsThere (t : List ℕ) (cells : List Cell) (members : List Named) (k n : ℕ) : Type 0 where
  pub x : Named
  pub read : slice_get members k ≡ Some x
  pub number : x.2 ≡ n
  pub is : IsNamedMember t cells x

named_at : {t : List ℕ} {cells : List Cell} (members : List Named) (k : ℕ) (x : Named) → All (IsNamedMember t cells) members → slice_get members k ≡ Some x → IsNamedMember t cells x
named_at {t} {cells} members k x all e =
    let is : IsNamedMember t cells (get_or members k x) = all k x (slice_get_within members k x e) in
    rw (get_or_from_slice_get members k x x e) at is

pub member_at : {t : List ℕ} {cells : List Cell} {numbers : List ℕ} (o : AreOrdered t cells numbers) (k : ℕ) → k < length numbers
    → IsThere t cells o.members k (get_or numbers k 0)
member_at {t} {cells} {numbers} o k l =
    let n = get_or numbers k 0 in
    let read : slice_get (map (λ (m : Named). m.2) o.members) k ≡ Some n = rw (← o.are) (slice_get-get_or numbers k 0 l) in
    let y = some_mapped (λ (m : Named). m.2) (slice_get o.members k) n (sym (slice_get-map (λ (m : Named). m.2) o.members k) ∙ read) in
    record { x = y.0; read = y.1; number = y.2; is = named_at o.members k y.0 o.named y.1 }

pub as_many : {t : List ℕ} {cells : List Cell} {numbers : List ℕ} (o : AreOrdered t cells numbers) → length o.members ≡ length numbers
as_many o = sym (length-map o.members (λ (m : Named). m.2)) ∙ ap length (sym o.are)

-- the place of each member of a wide object
record IsPlaced (members : List Named) (i n : ℕ) (q : List ℕ) : Type 0 where
  k : ℕ
  x : Named
  read : slice_get members k ≡ Some x
  number : x.2 ≡ n
  tied : compare_key_of x.0 x.1.now i q ≡ Equal

placed : {t : List ℕ} {cells : List Cell} {numbers : List ℕ} (o : AreOrdered t cells numbers) {i n : ℕ} {q : List ℕ} → IsWide cells i → IsMember t cells i n q
    → IsPlaced o.members i n q
placed {t} {cells} o {i} {n} {q} wide m =
    let z = o.all i n q wide m in
    let read : slice_get o.members z.1.0 ≡ Some z.0 = slice_get-get_or o.members z.1.0 z.0 z.1.1 ∙ ap Some z.1.2 in
    let is : IsMember t cells z.0.0 n z.0.1.now = rw z.2 at (named_at o.members z.1.0 z.0 o.named read).member in
    let one = member_one is m in
    record { k = z.1.0; x = z.0; read = read; number = z.2; tied = tied_key z.0.0 i z.0.1.now q one.0 one.1 }

-- where the place that was found is after all members, none is sought
pub none_placed : {t : List ℕ} {cells : List Cell} {numbers : List ℕ} {i at : ℕ} {q : List ℕ} (o : AreOrdered t cells numbers) → IsWide cells i → IsPlaceFor o.members i q at at
    → at ≡ length numbers → (n : ℕ) → ¬ IsMember t cells i n q
none_placed o wide s all n m =
    let z = placed o wide m in
    let less = s.before z.k z.x (omega (arith, slice_get_within o.members z.k z.x z.read, as_many o, all)) z.read in
    let tied = z.tied in
    absurd cc

-- nor where another one is there
pub other_placed : {t : List ℕ} {cells : List Cell} {numbers : List ℕ} {i at : ℕ} {q : List ℕ} (o : AreOrdered t cells numbers) → IsWide cells i → IsPlaceFor o.members i q at at
    → (x : Named) → slice_get o.members at ≡ Some x → compare_key_of x.0 x.1.now i q ≢ Equal → (n : ℕ) → ¬ IsMember t cells i n q
other_placed {i = i} {at} {q} o wide s x e other n m =
    let z = placed o wide m in
    elim (cases_order z.k at) [
      | inl same ↦
          let there : slice_get o.members at ≡ Some z.x = rw same at z.read in
          let one : z.x ≡ x = cc in
          let tied : compare_key_of x.0 x.1.now i q ≡ Equal = rw one at z.tied in
          other tied
      | inr (inl less) ↦ (let l = s.before z.k z.x less z.read in let tied = z.tied in absurd cc)
      | inr (inr more) ↦
          other (low_equal _ _ (rising o.members o.sorted i q at z.k x z.x (omega (arith, more)) e z.read) z.tied (s.from at x (omega arith) e))
    ]

-- and where it is one that is sought, it is the first
pub first_placed : {t : List ℕ} {cells : List Cell} {numbers : List ℕ} {i at c : ℕ} {q : List ℕ} (o : AreOrdered t cells numbers) → IsWide cells i → IsPlaceFor o.members i q at at
    → (y : IsThere t cells o.members at c) → compare_key_of y.x.0 y.x.1.now i q ≡ Equal → IsFirstMember t cells i q c
first_placed {t} {cells} {i = i} {at} {c} {q} o wide s y tied =
    let x = y.x in
    let one = same_key_of x.0 i x.1.now q tied in
    record {
      member = rw (one.0, one.1, y.number) at y.is.member;
      first = λ n m.
          let z = placed o wide m in
          elim (cases_order z.k at) [
            | inl same ↦ (let there : slice_get o.members at ≡ Some z.x = rw same at z.read in let read = y.read in let it : z.x ≡ x = cc in
                omega (arith, ap (λ (m : Named). m.2) it, z.number, y.number))
            | inr (inl less) ↦ (let l = s.before z.k z.x less z.read in let other = z.tied in absurd cc)
            | inr (inr more) ↦
                let other = same_key_of z.x.0 i z.x.1.now q z.tied in
                let pair : compare_key_of z.x.0 z.x.1.now x.0 x.1.now ≡ Equal = tied_key z.x.0 x.0 z.x.1.now x.1.now (other.0 ∙ sym one.0) (other.1 ∙ sym one.1) in
                let up = in_order o.members o.sorted at z.k x z.x (omega (arith, more)) y.read z.read in
                let last : is_lt (nat_cmp z.x.2 x.2) ≡ false = rw pair at up in
                omega (arith, ge_from_not_lt z.x.2 x.2 last, z.number, y.number)
          ];
    }

-- no member is gathered at first
pub collected_none : (t : List ℕ) (cells : List Cell) → AreCollected t cells 0 [] []
collected_none t cells = record { named = All-nil (IsNamedMember t cells); unescaped = All-nil (IsUnescapedMember t cells); all = λ p n b l w m. absurd (omega (arith, l)) }

-- one more that is none
pub collected_other : {t : List ℕ} {cells : List Cell} {n : ℕ} {plain : List Named} {escaped : List Unescaped} → AreCollected t cells n plain escaped
    → ((p : ℕ) (b : List ℕ) → IsWide cells p → IsMember t cells p n b → ⊥) → AreCollected t cells (n + 1) plain escaped
collected_other {t} {cells} {n} s none = record {
  named = s.named;
  unescaped = s.unescaped;
  all = λ p k b l w m. elim (cases_order k n) [
    | inl same ↦ (let here : IsMember t cells p n b = rw same at m in absurd (none p b w here))
    | inr (inl less) ↦ s.all p k b less w m
    | inr (inr more) ↦ absurd (omega (arith, l, more))
  ];
}

-- what was gathered stays
more_plain : (plain : List Named) (escaped : List Unescaped) {n : ℕ} (x : Named) → HasNumber plain escaped n → HasNumber (plain ++ x ∷ []) escaped n
more_plain plain escaped x (inl y) = inl (y.0, Contains-append_left plain (x ∷ []) y.0 y.1, y.2)
more_plain plain escaped x (inr y) = inr y

more_escaped : (plain : List Named) (escaped : List Unescaped) {n : ℕ} (x : Unescaped) → HasNumber plain escaped n → HasNumber plain (escaped ++ x ∷ []) n
more_escaped plain escaped x (inl y) = inl y
more_escaped plain escaped x (inr y) = inr (y.0, Contains-append_left escaped (x ∷ []) y.0 y.1, y.2)

-- one more whose key is as it is written
pub collected_plain : {t : List ℕ} {cells : List Cell} {n : ℕ} {plain now : List Named} {escaped : List Unescaped} (x : Named) → AreCollected t cells n plain escaped
    → IsNamedMember t cells x → x.2 ≡ n → now ≡ plain ++ x ∷ [] → AreCollected t cells (n + 1) now escaped
collected_plain {t} {cells} {n} {plain} {escaped = escaped} x s is number e = rw e (record {
  named = All-push (IsNamedMember t cells) plain x s.named is;
  unescaped = s.unescaped;
  all = λ p k b l w m. elim (cases_order k n) [
    | inl same ↦ inl (x, Contains-push plain x, number ∙ sym same)
    | inr (inl less) ↦ more_plain plain escaped x (s.all p k b less w m)
    | inr (inr more) ↦ absurd (omega (arith, l, more))
  ];
})

-- and one more whose key has an escape
pub collected_escaped : {t : List ℕ} {cells : List Cell} {n : ℕ} {plain : List Named} {escaped now : List Unescaped} (x : Unescaped) → AreCollected t cells n plain escaped
    → IsUnescapedMember t cells x → x.number ≡ n → now ≡ escaped ++ x ∷ [] → AreCollected t cells (n + 1) plain now
collected_escaped {t} {cells} {n} {plain} {escaped} x s is number e = rw e (record {
  named = s.named;
  unescaped = All-push (IsUnescapedMember t cells) escaped x s.unescaped is;
  all = λ p k b l w m. elim (cases_order k n) [
    | inl same ↦ inr (x, Contains-push escaped x, number ∙ sym same)
    | inr (inl less) ↦ more_escaped plain escaped x (s.all p k b less w m)
    | inr (inr more) ↦ absurd (omega (arith, l, more))
  ];
})

-- a member of a wide object, as it is sorted and as its key is kept
pub named_of : {t : List ℕ} {cells : List Cell} {p n : ℕ} {b : List ℕ} (x : Named) → IsWide cells p → IsMember t cells p n b → x.0 ≡ p → x.1.now ≡ b → x.2 ≡ n → IsNamedMember t cells x
named_of x wide m e f g = record { wide = rw e wide; member = rw (e, f, g) m }

pub unescaped_of : {t : List ℕ} {cells : List Cell} {p n : ℕ} {b : List ℕ} (x : Unescaped) → IsWide cells p → IsMember t cells p n b → x.key.items ≡ b → x.number ≡ n
    → IsUnescapedMember t cells x
unescaped_of {p = p} x wide m f g = record { object = p; wide = wide; member = rw (f, g) m }

-- each number of a member whose key has an escape is that of a cell
pub unescaped_within : {t : List ℕ} {cells : List Cell} (escaped : List Unescaped) → All (IsUnescapedMember t cells) escaped → All (λ u. u.number < length cells) escaped
unescaped_within {t} {cells} escaped = All-weaker (IsUnescapedMember t cells) (λ u. u.number < length cells) (λ u is. member_within is.member) escaped

-- at first none is added
pub joined_none : (cells : List Cell) (members : List Named) → AreJoined cells [] members members
joined_none cells members = record { kept = λ x k. k; added = λ u k. absurd (omega (arith, k.1)); sound = λ x k. inl k }

-- and then one more
pub joined_more : {cells : List Cell} {escaped : List Unescaped} {before members now : List Named} (u : Unescaped) (x : Named) → AreJoined cells escaped before members → IsOf cells u x
    → now ≡ members ++ x ∷ [] → AreJoined cells (escaped ++ u ∷ []) before now
joined_more {escaped = escaped} {members = members} u x s is e = rw e (record {
  kept = λ y k. Contains-append_left members (x ∷ []) y (s.kept y k);
  added = λ v k. elim (Contains-push_cases escaped u v k) [
    | inl old ↦ (let z = s.added v old in (z.0, Contains-append_left members (x ∷ []) z.0 z.1, z.2))
    | inr same ↦ (x, Contains-push members x, is.number ∙ ap (λ (o : Unescaped). o.number) same)
  ];
  sound = λ y k. elim (Contains-push_cases members x y k) [
    | inl old ↦ elim (s.sound y old) [
      | inl first ↦ inl first
      | inr (v, c, of) ↦ inr (v, Contains-append_left escaped (u ∷ []) v c, of)
    ]
    | inr same ↦ inr (u, Contains-push escaped u, rw same at is)
  ];
})

-- what was joined has all members of wide objects
pub joined_named : {t : List ℕ} {cells : List Cell} {n : ℕ} {plain now : List Named} {escaped : List Unescaped} → AreCollected t cells n plain escaped → AreJoined cells escaped plain now
    → All (IsNamedMember t cells) now
joined_named {t} {cells} {plain = plain} {now} {escaped} s j = All-weaker (Contains now) (IsNamedMember t cells)
    (λ x k. elim (j.sound x k) [
      | inl first ↦ All-contains (IsNamedMember t cells) plain x s.named first
      | inr (u, c, of) ↦
          let is = All-contains (IsUnescapedMember t cells) escaped u s.unescaped c in
          let m = is.member in
          let parent : of.cell.parent ≡ is.object = (let f = m.found in let g = of.read in let same : m.cell ≡ of.cell = cc in ap (λ (o : Cell). o.parent) (sym same) ∙ m.parent) in
          named_of x is.wide m (of.object ∙ parent) of.key of.number
    ]) now (All-contains_itself now)

pub joined_all : {t : List ℕ} {cells : List Cell} {n : ℕ} {plain now : List Named} {escaped : List Unescaped} → AreCollected t cells n plain escaped → AreJoined cells escaped plain now
    → (p k : ℕ) (b : List ℕ) → k < n → IsWide cells p → IsMember t cells p k b → (x : Named) × Contains now x × (x.2 ≡ k)
joined_all s j p k b l wide m = elim (s.all p k b l wide m) [
  | inl (x, c, e) ↦ (x, j.kept x c, e)
  | inr (u, c, e) ↦ (let z = j.added u c in (z.0, z.1, z.2 ∙ e))
]

-- sorted, they are in order
pub ordered : {t : List ℕ} {cells : List Cell} {plain joined sorted : List Named} {escaped : List Unescaped} {numbers : List ℕ} → AreCollected t cells (length cells) plain escaped
    → AreJoined cells escaped plain joined → IsPermutation joined sorted → AreSorted sorted → numbers ≡ map (λ (m : Named). m.2) sorted → AreOrdered t cells numbers
ordered {t} {cells} {joined = joined} {sorted} s j moved up are = record {
  members = sorted;
  are = are;
  named = All-permutation (IsNamedMember t cells) joined sorted moved (joined_named s j);
  all = λ p n b wide m. (let z = joined_all s j p n b (member_within m) wide m in (z.0, Contains-permutation joined sorted z.0 moved z.1, z.2));
  sorted = up;
}
