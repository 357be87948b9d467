-- Each value has one spelling, and values that are spelled alike mean one tree.
use Rattle.std.proofs.Common.{◌≡◌, ◌≢◌, ◌∙◌, ◌⊎◌, inl, inr, ℕ, ◌+◌, arith, refl, sym, ap, codes}
use Rattle.std.specs.Prelude.{List, Option, Some, length, slice_range}
use Rattle.sonic_text.proofs.PlacedLemmas.{slice_means}
use Rattle.sonic_text.specs.declared.kind.Kind.{Kind}
use Rattle.sonic_text.specs.declared.kind.Kind.TheVariants.{Array, Object}
use Rattle.sonic_text.specs.Places.{IsDigit}
use Rattle.sonic_text.specs.Strings.{strict}
use Rattle.sonic_text.specs.Trees.{Tree, text, Items, Means, ItemsMean}
use Rattle.sonic_text.specs.Trees.Means.{means_string, means_empty, means_filled}
use Rattle.sonic_text.specs.Trees.ItemsMean.{last_item, more_items}
use Rattle.sonic_text.specs.Values.{opening, ItemHead, no_head, key_head, IsKey, IsValue, ItemsFit}
use Rattle.sonic_text.specs.Values.IsValue.{null_literal, true_literal, false_literal, number, string, empty, filled}
use Rattle.sonic_text.specs.Values.ItemsFit.{first_item, next_item}
use Rattle.sonic_text.proofs.Items.{closing_no_comma, opening_one}
use Rattle.sonic_text.proofs.Numbers.{number_begins}
use Rattle.sonic_text.proofs.Strings.{string_one}
use Rattle.sonic_text.proofs.TreeLemmas.{tree_of, value_of, means_one}
use Rattle.sonic_text.proofs.Values.{first_letter, key_one, value_end_one}
use Rattle.sonic_text.proofs.Within.{value_within}
use Rattle.sonic_min.specs.Spellings.{Spelling, scalar, container, Parts, no_part, HeadSpelled, no_key, key_spelled, IsSpelled, scalar_spelled, empty_spelled, filled_spelled, PartsSpelled, last_part, more_parts}

-- a head is spelled
head_of : {t : List ℕ} {kind : Kind} {h v : ℕ} {l : Option (List ℕ)} → ItemHead strict t kind h v l → (k : Option (List ℕ)) × HeadSpelled t kind h v k
head_of (no_head e) = (_, no_key e)
head_of (key_head y) = (_, key_spelled y refl)

-- what is spelled is a head
pub head_spelled : {t : List ℕ} {kind : Kind} {h v : ℕ} {k : Option (List ℕ)} → HeadSpelled t kind h v k → (l : Option (List ℕ)) × ItemHead strict t kind h v l
head_spelled (no_key e) = (_, no_head e)
head_spelled (key_spelled y e) = (_, key_head y)

-- no container begins with this byte
no_bracket : (b : ℕ) → b ≢ 91 → b ≢ 123 → (kind : Kind) → b ≢ opening kind
no_bracket b c d Array = c
no_bracket b c d Object = d

-- a number begins with no bracket
number_no_bracket : (b : ℕ) → (b ≡ 45) ⊎ IsDigit b → (kind : Kind) → b ≢ opening kind
number_no_bracket b (inl e) = no_bracket b (λ f. omega arith) (λ f. omega arith)
number_no_bracket b (inr e) = no_bracket b (λ f. omega (arith, e.1)) (λ f. omega (arith, e.1))

mutual
  -- a value is spelled
  pub spelling_of : {t : List ℕ} {i j : ℕ} → IsValue strict t i j → (x : Spelling) × IsSpelled t i j x
  spelling_of {t} {i} (null_literal h) =
      let b = first_letter (codes "null") t i (omega arith) h in (_, scalar_spelled (null_literal h) (no_bracket _ (λ e. omega arith) (λ e. omega arith)) refl)
  spelling_of {t} {i} (true_literal h) =
      let b = first_letter (codes "true") t i (omega arith) h in (_, scalar_spelled (true_literal h) (no_bracket _ (λ e. omega arith) (λ e. omega arith)) refl)
  spelling_of {t} {i} (false_literal h) =
      let b = first_letter (codes "false") t i (omega arith) h in (_, scalar_spelled (false_literal h) (no_bracket _ (λ e. omega arith) (λ e. omega arith)) refl)
  spelling_of (number h) = (_, scalar_spelled (number h) (number_no_bracket _ (number_begins h)) refl)
  spelling_of (string h) = let b = h.opens in (_, scalar_spelled (string h) (no_bracket _ (λ e. omega arith) (λ e. omega arith)) refl)
  spelling_of (empty kind b c q) = (_, empty_spelled b c q)
  spelling_of (filled is y x c q) = let z = spelling_of x in spelling_around is (last_part (head_of y).1 z.1 c q)

  -- so do the items before others that are spelled
  spelling_around : {t : List ℕ} {kind : Kind} {i n h j : ℕ} {xs : Parts} → ItemsFit strict t kind i n h → PartsSpelled t kind h j xs
      → (x : Spelling) × IsSpelled t i j x
  spelling_around (first_item b q d o) xs = (_, filled_spelled b q d xs)
  spelling_around (next_item is y x c q o) xs = let z = spelling_of x in spelling_around is (more_parts (head_of y).1 z.1 c q xs)

mutual
  -- what is spelled is a value
  pub spelled_value : {t : List ℕ} {i j : ℕ} {x : Spelling} → IsSpelled t i j x → IsValue strict t i j
  spelled_value (scalar_spelled x plain e) = x
  spelled_value (empty_spelled {kind} b c q) = empty kind b c q
  spelled_value (filled_spelled b q d xs) = value_around xs 0 (first_item b q d refl)

  -- with the items before it
  value_around : {t : List ℕ} {kind : Kind} {i h j : ℕ} {xs : Parts} → PartsSpelled t kind h j xs → (n : ℕ) → ItemsFit strict t kind i n h → IsValue strict t i j
  value_around (last_part y x c q) n is = filled is (head_spelled y).1 (spelled_value x) c q
  value_around (more_parts y x c q xs) n is = value_around xs (n + 1) (next_item is (head_spelled y).1 (spelled_value x) c q refl)

-- at one place is one head
head_one : {t : List ℕ} {kind : Kind} {h g v w : ℕ} {k l : Option (List ℕ)} → h ≡ g → HeadSpelled t kind h v k → HeadSpelled t kind g w l → (v ≡ w) × (k ≡ l)
head_one e (no_key p) (no_key q) = (omega arith, refl)
head_one {t} {h = h} {w = w} e (key_spelled y p) (key_spelled {b = b} z q) =
    let here : IsKey strict t h w b = rw e z in
    let both = key_one y here in
    let ends : y.end ≡ z.end = (string_one y.string here.string).0 in
    (both.0, ap Some (rw (p, q, e, ends) refl))

-- some part is spelled
some_part : {t : List ℕ} {kind : Kind} {h j : ℕ} {xs : Parts} → PartsSpelled t kind h j xs → xs ≢ no_part
some_part (last_part y x c q) e = cc
some_part (more_parts y x c q xs) e = cc

-- the part there has one end
part_end : {t : List ℕ} {kind : Kind} {h g v w e f : ℕ} {k l : Option (List ℕ)} {x y : Spelling} → h ≡ g → HeadSpelled t kind h v k → IsSpelled t v e x
    → HeadSpelled t kind g w l → IsSpelled t w f y → e ≡ f
part_end {t} {v = v} {f = f} {y = b} e y x u r =
    let o = head_one e y u in
    let n : IsSpelled t v f b = rw (← o.0) at r in
    value_end_one (spelled_value x) (spelled_value n)

mutual
  -- what is spelled has one spelling
  pub spelled_one : {t : List ℕ} {i j k : ℕ} {x y : Spelling} → IsSpelled t i j x → IsSpelled t i k y → x ≡ y
  spelled_one (scalar_spelled x plain e) (scalar_spelled y other f) = let z = value_end_one x y in ap scalar (rw (e, f, z) refl)
  spelled_one (scalar_spelled x plain e) (empty_spelled {kind} b c q) = absurd (plain kind b)
  spelled_one (scalar_spelled x plain e) (filled_spelled {kind} b q d xs) = absurd (plain kind b)
  spelled_one (empty_spelled {kind} b c q) (scalar_spelled y other f) = absurd (other kind b)
  spelled_one (filled_spelled {kind} b q d xs) (scalar_spelled y other f) = absurd (other kind b)
  spelled_one (empty_spelled {kind = a} b c q) (empty_spelled {kind} s d r) = ap (λ o. container o no_part) (opening_one a kind (sym b ∙ s))
  spelled_one (empty_spelled {kind = a} b c q) (filled_spelled {kind} s r d xs) =
      let same : a ≡ kind = opening_one a kind (sym b ∙ s) in absurd (d (rw (r, ← same) c))
  spelled_one (filled_spelled {kind} s r d xs) (empty_spelled {kind = a} b c q) =
      let same : a ≡ kind = opening_one a kind (sym b ∙ s) in absurd (d (rw (r, ← same) c))
  spelled_one {t} (filled_spelled {kind = a} {xs = xs} b q d is) (filled_spelled {kind} {h} {j} {xs = ys} s r e us) =
      let same : kind ≡ a = opening_one kind a (sym s ∙ b) in
      let there : PartsSpelled t a h j ys = rw same at us in
      let equal : xs ≡ ys = parts_one (rw (q, r) refl) is there in
      cc

  -- so have parts
  parts_one : {t : List ℕ} {kind : Kind} {h g j k : ℕ} {xs ys : Parts} → h ≡ g → PartsSpelled t kind h j xs → PartsSpelled t kind g k ys → xs ≡ ys
  parts_one {t} z (last_part {v} {x = a} y x c q) (last_part {e = f} {x = b} u r d p) =
      let o = head_one z y u in
      let n : IsSpelled t v f b = rw (← o.0) at r in
      let s : a ≡ b = spelled_one x n in
      cc (o.1, s)
  parts_one {kind = kind} z (last_part y x c q) (more_parts u r d p us) =
      let e = part_end z y x u r in
      absurd (closing_no_comma kind (omega (arith, rw e at c)))
  parts_one {kind = kind} z (more_parts y x c q is) (last_part u r d p) =
      let e = part_end z y x u r in
      absurd (closing_no_comma kind (omega (arith, rw e at c)))
  parts_one {t} z (more_parts {v} {x = a} y x c q is) (more_parts {e = f} {x = b} u r d p us) =
      let o = head_one z y u in
      let n : IsSpelled t v f b = rw (← o.0) at r in
      let s : a ≡ b = spelled_one x n in
      let e = part_end z y x u r in
      let k = parts_one (rw (q, p, e) refl) is us in
      cc (o.1, s, k)

-- one list of bytes that two texts hold as values denotes one tree
same_text : {t u : List ℕ} {i j p q : ℕ} {v w : Tree} → slice_range t i j ≡ slice_range u p q → Means t i j v → Means u p q w → v ≡ w
same_text {t} {u} {i} {j} {p} {q} {w = w} e m n =
    let s = slice_range t i j in
    let a = slice_means m (value_within (value_of m)) in
    let b : Means s 0 (length s) w = rw e (slice_means n (value_within (value_of n))) in
    means_one a b

-- heads that are spelled alike have one label
heads_alike : {t u : List ℕ} {kind : Kind} {h v g w : ℕ} {k : Option (List ℕ)} → HeadSpelled t kind h v k → HeadSpelled u kind g w k
    → (l : Option (List ℕ)) × ItemHead strict t kind h v l × ItemHead strict u kind g w l
heads_alike (no_key e) (no_key f) = (_, no_head e, no_head f)
heads_alike {u = u} {g = g} {w = w} (key_spelled {b = a} y e) (key_spelled {b} z f) =
    let same : text a ≡ text b = same_text (sym e ∙ f) (means_string y.string) (means_string z.string) in
    let bytes : b ≡ a = cc in
    let there : IsKey strict u g w a = rw bytes at z in
    (_, key_head y, key_head there)

mutual
  -- values that are spelled alike mean one tree
  tree_spelled : {t u : List ℕ} {i j p q : ℕ} {x : Spelling} → IsSpelled t i j x → IsSpelled u p q x → (v : Tree) × Means t i j v × Means u p q v
  tree_spelled {u = u} {p = p} {q} (scalar_spelled x plain e) (scalar_spelled y other f) =
      let a = tree_of x in
      let b = tree_of y in
      let same : b.0 ≡ a.0 = sym (same_text (sym e ∙ f) a.1 b.1) in
      let there : Means u p q a.0 = rw same at b.1 in
      (_, a.1, there)
  tree_spelled (empty_spelled b c q) (empty_spelled s d r) = (_, means_empty b c q, means_empty s d r)
  tree_spelled (empty_spelled b c q) (filled_spelled s r d xs) = absurd (some_part xs refl)
  tree_spelled (filled_spelled s r d xs) (empty_spelled b c q) = absurd (some_part xs refl)
  tree_spelled (filled_spelled b q d xs) (filled_spelled s r e ys) = let a = items_spelled xs ys in (_, means_filled b q d a.1, means_filled s r e a.2)

  -- so do parts
  items_spelled : {t u : List ℕ} {kind : Kind} {h j g k : ℕ} {xs : Parts} → PartsSpelled t kind h j xs → PartsSpelled u kind g k xs
      → (vs : Items) × ItemsMean t kind h j vs × ItemsMean u kind g k vs
  items_spelled (last_part y x c q) (last_part z w d r) =
      let a = heads_alike y z in
      let b = tree_spelled x w in
      (_, last_item a.1 b.1 c q, last_item a.2 b.2 d r)
  items_spelled (last_part y x c q) (more_parts z w d r ws) = absurd (some_part ws refl)
  items_spelled (more_parts z w d r ws) (last_part y x c q) = absurd (some_part ws refl)
  items_spelled (more_parts y x c q xs) (more_parts z w d r ws) =
      let a = heads_alike y z in
      let b = tree_spelled x w in
      let rest = items_spelled xs ws in
      (_, more_items a.1 b.1 c q rest.1, more_items a.2 b.2 d r rest.2)

-- so what one of them means, the other does
pub spelled_means : {t u : List ℕ} {i j p q : ℕ} {x : Spelling} {v : Tree} → IsSpelled t i j x → IsSpelled u p q x → Means t i j v → Means u p q v
spelled_means {u = u} {p = p} {q} {v = v} x y m =
    let a = tree_spelled x y in
    let same : a.0 ≡ v = means_one a.1 m in
    rw same at a.2
