-- Numbers, and those of a tree that a text means.
use Rattle.std.proofs.Common.{inl, inr, ℕ, List, length, arith, refl, Some, None, nat_eq}
use Rattle.std.proofs.lemmas.Bool.{cases_Bool}
use Rattle.std.specs.Cmp.Lexicographic.{pointwise}
use Rattle.sonic_text.proofs.Places.{byte_after}
use Rattle.sonic_text.proofs.ValueParts.{number_of_part}
use Rattle.sonic_text.specs.Numbers.{IsNumber, IsWholeText}
use Rattle.sonic_text.specs.Trees.ItemsMean.{last_item, more_items}
use Rattle.sonic_text.specs.Trees.Means.{means_null, means_true, means_false, means_number, means_string, means_empty, means_filled}
use Rattle.sonic_text.specs.Trees.{Tree, Items, no_item, item, container, Means, ItemsMean}
use Rattle.sonic_text.specs.declared.kind.Kind.{Kind}
use Rattle.sonic_text.specs.declared.kind.Kind.TheVariants.{Object}
use Rattle.sonic_value.specs.CompactTexts.{HasNumbers, HaveNumbers}
use Rattle.sonic_value.specs.Filling.{change_last, fill, fill_members, has_key}

-- an integer with no fraction and no exponent is a number
pub whole_is_number : (t : List ℕ) → IsWholeText t → IsNumber t 0 (length t)
whole_is_number t int =
    let past = byte_after t (length t) (omega arith) in
    record {
      int_end = length t;
      fraction_end = length t;
      int = int;
      fraction = inr (λ e. omega (arith, e, past), refl);
      exponent = inr (λ e. elim e [ inl a ↦ omega (arith, a, past) | inr a ↦ omega (arith, a, past) ], refl);
    }

mutual
  pub means_numbers : {t : List ℕ} {i j : ℕ} {x : Tree} → Means t i j x → HasNumbers x
  means_numbers (means_null h) = tt
  means_numbers (means_true h) = tt
  means_numbers (means_false h) = tt
  means_numbers (means_number n is) = rw is (number_of_part n)
  means_numbers (means_string h) = tt
  means_numbers (means_empty b c e) = tt
  means_numbers (means_filled b h c xs) = items_mean_numbers xs

  items_mean_numbers : {t : List ℕ} {kind : Kind} {h j : ℕ} {xs : Items} → ItemsMean t kind h j xs → HaveNumbers xs
  items_mean_numbers (last_item h x c e) = (means_numbers x, tt)
  items_mean_numbers (more_items h x c e xs) = (means_numbers x, items_mean_numbers xs)

-- where a change keeps numbers, they are kept where the last member with a key is changed by it
change_numbers : (k : List ℕ) (c : Tree → Tree) (xs : Items) → ((w : Tree) → HasNumbers w → HasNumbers (c w)) → HaveNumbers xs → HaveNumbers (change_last k c xs)
change_numbers k c no_item keeps all = tt
change_numbers k c (item None x xs) keeps all = (all.0, change_numbers k c xs keeps all.1)
change_numbers k c (item (Some l) x xs) keeps all = elim (cases_Bool (has_key k xs)) [
  | inl later ↦ rw later (all.0, change_numbers k c xs keeps all.1)
  | inr last ↦ elim (cases_Bool (pointwise nat_eq l k)) [
    | inl here ↦ rw (last, here) (keeps x all.0, all.1)
    | inr other ↦ rw (last, other) all
  ]
]

-- so they are kept where a schema is filled with data
mutual
  pub fill_numbers : (s d : Tree) → HasNumbers s → HasNumbers d → HasNumbers (fill s d)
  fill_numbers (container Object (item l x xs)) (container Object ds) schema values = members_numbers (item l x xs) ds schema values
  fill_numbers s d schema values = values

  members_numbers : (xs ds : Items) → HaveNumbers xs → HaveNumbers ds → HaveNumbers (fill_members xs ds)
  members_numbers xs no_item schema values = schema
  members_numbers xs (item None d ds) schema values = members_numbers xs ds schema values.1
  members_numbers xs (item (Some k) d ds) schema values =
      members_numbers (change_last k (λ w. fill w d) xs) ds (change_numbers k (λ w. fill w d) xs (λ w numbers. fill_numbers w d numbers values.0) schema) values.1
