-- What is still to be written of containers that are open.
use Rattle.std.proofs.Common.{◌≡◌, ◌∙◌, ap, sym, refl, arith, ℕ, suc, ◌+◌, ◌-◌, ◌*◌, ◌<◌, ◌≤◌, List, [], ◌∷◌, ◌++◌, length, map, drop, get_or, Option, Some, None, string_bytes, append_assoc}
use Rattle.std.proofs.Math.Seq.{drop-cons}
use Rattle.std.proofs.Output.{has_written_of_eq}
use Rattle.std.proofs.lemmas.Bool.{ne_eqb}
use Rattle.std.proofs.lemmas.List.{append-nil, drop_all}
use Rattle.std.specs.Bool.{if◌then◌else◌}
use Rattle.std.specs.Fmt.{HasWritten, IsPlainFormatter}
use Rattle.std.specs.Option.{option_to_list}
use Rattle.std.specs.declared.alloc.Global.{Global}
use Rattle.std.specs.declared.fmt.Formatter.{Formatter}
use Rattle.std.specs.declared.string.String.{String}
use Rattle.sonic_owned.proofs.UnwrittenLemmas.{up_to, up_to_more}
use Rattle.sonic_owned.specs.Forms.{label_text}
use Rattle.sonic_owned.specs.Writing.{IsWrittenUpTo}
use Rattle.sonic_text.specs.Trees.{Items, Tree}
use Rattle.sonic_text.specs.Trees.Items.{item, no_item}
use Rattle.sonic_value.specs.CompactTexts.{compact, items_text}
use Rattle.sonic_value.specs.Internal.OpenTexts.{all_shown, all_shown_size, array_size, array_text, before_item, object_size, object_text, shown_size, shown_sizes, shown_text, shown_texts}
use Rattle.sonic_value.specs.Internal.ValueCounts.{value_count, items_value_count}
use Rattle.sonic_value.specs.Views.{tree, key_and_tree, elements_of, members_of}
use Rattle.sonic_value.specs.declared.value.Value.{Value}
use Rattle.sonic_value.specs.declared.value.show.Showing.{Showing}
use Rattle.sonic_value.specs.declared.value.show.Showing.TheVariants.{Array, Object}

-- a comma stands before each item but the first
comma : (n : ℕ) → before_item (n + 1) ≡ 44 ∷ []
comma n = ap (λ b. if b then [] else 44 ∷ []) (ne_eqb (n + 1) 0 (λ e. omega (arith, e)))

-- a first item, its others and what follows them
item_apart : (before label value rest end : List ℕ) → (before ++ (label ++ (value ++ rest))) ++ end ≡ (before ++ label) ++ (value ++ (rest ++ end))
item_apart before label value rest end = simp append_assoc refl

-- the items that a list stands for, each with a label and a tree
module _ {A : Type 0} (items : List A → Items) (label : A → Option (List ℕ)) (value : A → Tree)
    (none : items [] ≡ no_item) (one : (x : A) (xs : List A) → items (x ∷ xs) ≡ item (label x) (value x) (items xs)) where
  split : (xs : List A) (n : ℕ) (x : A) → n < length xs → x ≡ get_or xs n x → items (drop n xs) ≡ item (label x) (value x) (items (drop (n + 1) xs))
  split xs n x less is =
      let more : n + 1 ≡ suc n = omega arith in
      rw more (ap items (drop-cons xs n x less ∙ ap (λ y. y ∷ drop (suc n) xs) (sym is)) ∙ one x (drop (suc n) xs))

  -- one more is written, up to its value
  pub item_begun : (end : List ℕ) (xs : List A) (n : ℕ) (x : A) → n < length xs → x ≡ get_or xs n x
      → (before_item n ++ label_text (label x)) ++ (compact (value x) ++ (items_text (before_item (n + 1)) (items (drop (n + 1) xs)) ++ end))
      ≡ items_text (before_item n) (items (drop n xs)) ++ end
  item_begun end xs n x less is =
      let rest = items_text (44 ∷ []) (items (drop (n + 1) xs)) in
      rw (comma n, split xs n x less is) (sym (item_apart (before_item n) (label_text (label x)) (compact (value x)) rest end))

  pub item_size : (xs : List A) (n : ℕ) (x : A) → n < length xs → x ≡ get_or xs n x → items_value_count (items (drop n xs)) ≡ value_count (value x) + items_value_count (items (drop (n + 1) xs))
  item_size xs n x less is = ap items_value_count (split xs n x less is)

  -- none is left
  pub none_begun : (before end : List ℕ) (xs : List A) (n : ℕ) → length xs ≤ n → items_text before (items (drop n xs)) ++ end ≡ end
  none_begun before end xs n past = ap (λ l. items_text before l ++ end) (ap items (drop_all n xs past) ∙ none)

-- so of an array and of an object
pub element_size : (vs : List Value) (n : ℕ) (v : Value) → n < length vs → v ≡ get_or vs n v → array_size vs n ≡ 2 * value_count (tree v) + array_size vs (n + 1)
element_size vs n v inside is = let one = item_size (λ l. elements_of (map tree l)) (λ v. None) tree refl (λ v l. refl) vs n v inside is in omega (arith, one)

pub member_size : (ms : List (String Global × Value)) (n : ℕ) (m : String Global × Value) → n < length ms → m ≡ get_or ms n m
    → object_size ms n ≡ 2 * value_count (tree m.1) + object_size ms (n + 1)
member_size ms n m inside is =
    let one = item_size (λ l. members_of (map key_and_tree l)) (λ m. Some (string_bytes m.0)) (λ m. tree m.1) refl (λ m l. refl) ms n m inside is in
    omega (arith, one)

pub array_ends : (vs : List Value) (n : ℕ) → length vs ≤ n → array_text vs n ≡ 93 ∷ []
array_ends vs n past = none_begun (λ l. elements_of (map tree l)) (λ v. None) tree refl (λ v l. refl) (before_item n) (93 ∷ []) vs n past

pub object_ends : (ms : List (String Global × Value)) (n : ℕ) → length ms ≤ n → object_text ms n ≡ 125 ∷ []
object_ends ms n past = none_begun (λ l. members_of (map key_and_tree l)) (λ m. Some (string_bytes m.0)) (λ m. tree m.1) refl (λ m l. refl) (before_item n) (125 ∷ []) ms n past

-- what stands before an item is written
module _ {W : Type 0} {took : W → List ℕ → W → Type 0} where
  pub no_comma : {g : Formatter W} (n : ℕ) → n ≡ 0 → IsPlainFormatter g → HasWritten took g (before_item n) g
  no_comma n none plain = rw none (record { wrote = record { parts = []; calls = refl; whole = refl }; plain = plain })

  pub comma_written : {g h : Formatter W} (n : ℕ) → 0 < n → HasWritten took g (44 ∷ []) h → HasWritten took g (before_item n) h
  comma_written n some has = let one : n ≡ (n - 1) + 1 = omega (arith, some) in has_written_of_eq _ _ _ _ _ (sym (ap before_item one ∙ comma (n - 1))) has

-- and then the item up to its value
module _ {W : Type 0} {took : W → List ℕ → W → Type 0} {f g h : Formatter W} {all : List ℕ} where
  pub element_begun : (vs : List Value) (n : ℕ) (v : Value) → n < length vs → v ≡ get_or vs n v → IsWrittenUpTo took f all (array_text vs n) g
      → HasWritten took g (before_item n) h → IsWrittenUpTo took f all (compact (tree v) ++ array_text vs (n + 1)) h
  element_begun vs n v inside is so_far has =
      let x = has_written_of_eq _ _ _ _ _ (sym (append-nil (before_item n))) has in
      up_to_more so_far (up_to x (item_begun (λ l. elements_of (map tree l)) (λ v. None) tree refl (λ v l. refl) (93 ∷ []) vs n v inside is))

  pub member_begun : (ms : List (String Global × Value)) (n : ℕ) (m : String Global × Value) → n < length ms → m ≡ get_or ms n m → IsWrittenUpTo took f all (object_text ms n) g
      → HasWritten took g (before_item n ++ label_text (Some (string_bytes m.0))) h → IsWrittenUpTo took f all (compact (tree m.1) ++ object_text ms (n + 1)) h
  member_begun ms n m inside is so_far has =
      up_to_more so_far (up_to has (item_begun (λ l. members_of (map key_and_tree l)) (λ m. Some (string_bytes m.0)) (λ m. tree m.1) refl (λ m l. refl) (125 ∷ []) ms n m inside is))

-- a container has its bracket left at least
pub some_shown : (l : Showing) → 0 < shown_size l
some_shown (Array vs n) = omega arith
some_shown (Object ms n) = omega arith

-- with one container more, the innermost
pub texts_more : (ls : List Showing) (l : Showing) → shown_texts (ls ++ l ∷ []) ≡ shown_text l ++ shown_texts ls
texts_more [] l = sym (append-nil (shown_text l))
texts_more (o ∷ ls) l = ap (λ t. t ++ shown_text o) (texts_more ls l) ∙ append_assoc (shown_text l) (shown_texts ls) (shown_text o)

pub sizes_more : (ls : List Showing) (l : Showing) → shown_sizes (ls ++ l ∷ []) ≡ shown_sizes ls + shown_size l
sizes_more [] l = omega arith
sizes_more (o ∷ ls) l = let more = sizes_more ls l in omega (arith, more)

-- with one fewer, which is in hand
pub texts_fewer : (ls left : List Showing) (o : Option Showing) → ls ≡ left ++ option_to_list o → (o ≡ None → length ls ≡ 0) → shown_texts ls ≡ all_shown o left
texts_fewer ls left (Some l) items none = ap shown_texts items ∙ texts_more left l
texts_fewer [] left None items none = refl
texts_fewer (l ∷ ls) left None items none = absurd (omega (arith, none refl))

pub sizes_fewer : (ls left : List Showing) (o : Option Showing) → ls ≡ left ++ option_to_list o → all_shown_size o left ≤ shown_sizes ls
sizes_fewer ls left (Some l) items = let more = ap shown_sizes items ∙ sizes_more left l in omega (arith, more)
sizes_fewer ls left None items = omega arith
