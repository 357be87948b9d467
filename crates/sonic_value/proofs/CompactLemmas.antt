-- The text of a tree is that of the form that is opened all the way.
use Rattle.std.proofs.Common.{◌≡◌, ◌∙◌, ap, refl, subst, sym, ℕ, suc, ◌+◌, ◌-◌, true, false, List, [], ◌∷◌, ◌++◌, length, drop, take, get_or, append_assoc, length-append, codes, arith, Some}
use Rattle.std.proofs.Math.Seq.{get_or-append_seam, take-append_seam, take-length}
use Rattle.std.proofs.lemmas.List.{append-nil}
use Rattle.std.proofs.lemmas.Str.{IsCharBoundary-before_ascii, IsUtf8-between}
use Rattle.std.proofs.lemmas.Slice.{between_from_start}
use Rattle.std.specs.Str.{IsUtf8}
use Rattle.sonic_lazy.proofs.RawNumberLemmas.{whole_utf8}
use Rattle.sonic_owned.proofs.ValueLemmas.{sound_valid}
use Rattle.sonic_owned.specs.Forms.{Form, raw, level, Members, no_member, member, members_text, text as form_text, FormMeans, raw_means, level_means, MembersMean, no_member_means, member_means, IsSound, raw_sound, level_sound, AreSound, none_sound, item_sound}
use Rattle.sonic_text.proofs.TreeLemmas.{value_of}
use Rattle.sonic_text.proofs.WrittenLemmas.{string_stands}
use Rattle.sonic_text.specs.Literals.{IsLiteral}
use Rattle.sonic_text.specs.Numbers.{IsNumber}
use Rattle.sonic_text.specs.Quoting.{quoted}
use Rattle.sonic_text.specs.Strings.{strict, IsString}
use Rattle.sonic_text.specs.Trees.Items.{no_item, item}
use Rattle.sonic_text.specs.Trees.Means.{means_null, means_true, means_false, means_number, means_string}
use Rattle.sonic_text.specs.Trees.Tree.{null, truth, numeral, text, container}
use Rattle.sonic_text.specs.Trees.{Tree, Items, Means}
use Rattle.sonic_text.specs.Values.{opening, closing}
use Rattle.sonic_text.specs.declared.kind.Kind.{Kind}
use Rattle.sonic_text.specs.declared.kind.Kind.TheVariants.{Array, Object}
use Rattle.sonic_value.proofs.TreeLemmas.{IsTextual, AreTextual, null_textual, truth_textual, numeral_textual, text_textual, container_textual, none_textual, item_textual}
use Rattle.sonic_value.proofs.TreeLemmas.{tree_textual}
use Rattle.sonic_value.specs.CompactTexts.{compact, items_text, HasNumbers, HaveNumbers}
use Rattle.sonic_value.specs.Views.{tree}
use Rattle.sonic_value.specs.declared.value.Value.{Value}

abbrev mutual
  -- a tree with each container opened
  pub opened : Tree → Form
  opened null = raw (codes "null")
  opened (truth true) = raw (codes "true")
  opened (truth false) = raw (codes "false")
  opened (numeral b) = raw b
  opened (text b) = raw (quoted b)
  opened (container kind xs) = level kind (all_opened xs)

  pub all_opened : Items → Members
  all_opened no_item = no_member
  all_opened (item l x xs) = member l (opened x) (all_opened xs)

mutual
  pub opened_text : (x : Tree) → form_text (opened x) ≡ compact x
  opened_text null = refl
  opened_text (truth true) = refl
  opened_text (truth false) = refl
  opened_text (numeral b) = refl
  opened_text (text b) = refl
  opened_text (container kind xs) = ap (λ l. opening kind ∷ l ++ closing kind ∷ []) (opened_items [] xs)

  opened_items : (before : List ℕ) (xs : Items) → members_text before (all_opened xs) ≡ items_text before xs
  opened_items before no_item = refl
  opened_items before (item l x xs) = rw (opened_text x, opened_items (44 ∷ []) xs) refl

-- a word is one alone
word_alone : (w : List ℕ) → IsLiteral w w 0 (length w)
word_alone w = ((omega arith, λ k l. let e : 0 + k ≡ k = omega arith in rw e refl), omega arith)

-- a number is its own text
number_whole : (b : List ℕ) → IsNumber b 0 (length b) → Means b 0 (length b) (numeral b)
number_whole b n = means_number n (sym (take-length b) ∙ sym (between_from_start b (length b)))

-- and what is quoted means what was quoted
string_whole : (b : List ℕ) → Means (quoted b) 0 (length (quoted b)) (text b)
string_whole b =
    let end : 0 + length (quoted b) ≡ length (quoted b) = omega arith in
    let is : IsString strict (quoted b) 0 (length (quoted b)) b = rw (append-nil (quoted b), end) at (string_stands [] b []) in
    means_string is

mutual
  -- the form means the tree
  pub opened_means : (x : Tree) → HasNumbers x → FormMeans (opened x) x
  opened_means null h = raw_means (means_null (word_alone (codes "null")))
  opened_means (truth true) h = raw_means (means_true (word_alone (codes "true")))
  opened_means (truth false) h = raw_means (means_false (word_alone (codes "false")))
  opened_means (numeral b) h = raw_means (number_whole b h)
  opened_means (text b) h = raw_means (string_whole b)
  opened_means (container kind xs) h = level_means (opened_mean xs h)

  opened_mean : (xs : Items) → HaveNumbers xs → MembersMean (all_opened xs) xs
  opened_mean no_item h = no_member_means
  opened_mean (item l x xs) h = member_means (opened_means x h.0) (opened_mean xs h.1)

-- what means a tree is a value
whole_sound : {b : List ℕ} {x : Tree} → Means b 0 (length b) x → IsUtf8 b → IsSound (raw b)
whole_sound m u = raw_sound (value_of m) u

-- words are UTF-8
null_utf8 : IsUtf8 (codes "null")
unfolding lib.Utf8.encode
null_utf8 = (codes "null", (refl, refl))

true_utf8 : IsUtf8 (codes "true")
unfolding lib.Utf8.encode
true_utf8 = (codes "true", (refl, refl))

false_utf8 : IsUtf8 (codes "false")
unfolding lib.Utf8.encode
false_utf8 = (codes "false", (refl, refl))

-- a key, its colon and an empty array before the end of an object
key_text : (key : List ℕ) → ((key ++ 58 ∷ []) ++ 91 ∷ 93 ∷ []) ++ 125 ∷ [] ≡ key ++ 58 ∷ 91 ∷ 93 ∷ 125 ∷ []
key_text key = simp append_assoc refl

-- so is what is quoted, as it is between the bracket and the colon of an object with this key
quoted_utf8 : {b : List ℕ} → IsUtf8 b → IsUtf8 (quoted b)
quoted_utf8 {b} u =
    let key : IsSound (level Object (member (Some b) (level Array no_member) no_member)) = level_sound (item_sound (b, refl, u) (level_sound none_sound) none_sound) in
    let tail : List ℕ = 58 ∷ 91 ∷ 93 ∷ 125 ∷ [] in
    let whole = 123 ∷ quoted b ++ tail in
    let end = suc (length (quoted b)) in
    let utf8 : IsUtf8 whole = subst (λ l. IsUtf8 (123 ∷ l)) (key_text (quoted b)) (sound_valid key).utf8 in
    let colon : get_or whole end 0 ≡ 58 = get_or-append_seam (quoted b) 58 (91 ∷ 93 ∷ 125 ∷ []) 0 in
    let size : length whole ≡ end + 4 = omega (arith, length-append (quoted b) tail) in
    let part = IsUtf8-between whole 1 end utf8 (omega arith) (IsCharBoundary-before_ascii whole 1 (omega arith) (omega arith)) (IsCharBoundary-before_ascii whole end (omega arith) (omega (arith, colon))) in
    let most : end - 1 ≡ length (quoted b) = omega arith in
    let front : take (end - 1) (drop 1 whole) ≡ quoted b = rw most (take-append_seam (quoted b) tail) in
    rw front at part

mutual
  -- and it is sound
  opened_sound : {x : Tree} → IsTextual x → HasNumbers x → IsSound (opened x)
  opened_sound null_textual h = whole_sound (means_null (word_alone (codes "null"))) null_utf8
  opened_sound (truth_textual {b = true}) h = whole_sound (means_true (word_alone (codes "true"))) true_utf8
  opened_sound (truth_textual {b = false}) h = whole_sound (means_false (word_alone (codes "false"))) false_utf8
  opened_sound (numeral_textual {b}) h = whole_sound (number_whole b h) (whole_utf8 h refl)
  opened_sound (text_textual {b} u) h = whole_sound (string_whole b) (quoted_utf8 u)
  opened_sound (container_textual xs) h = level_sound (opened_are_sound xs h)

  opened_are_sound : {kind : Kind} {xs : Items} → AreTextual kind xs → HaveNumbers xs → AreSound kind (all_opened xs)
  opened_are_sound none_textual h = none_sound
  opened_are_sound (item_textual label x xs) h = item_sound label (opened_sound x h.0) (opened_are_sound xs h.1)

-- the form of a value's tree is one that is written as it means
pub compact_sound : (v : Value) → HasNumbers (tree v) → IsSound (opened (tree v))
compact_sound v = opened_sound (tree_textual v)
