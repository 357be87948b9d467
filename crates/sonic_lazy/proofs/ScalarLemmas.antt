-- What the first byte says of a whole value.
use Rattle.std.proofs.Common.{◌≡◌, ◌⊎◌, inl, inr, ℕ, List, length, arith, refl, codes}
use Rattle.std.proofs.Math.Seq.{take-length}
use Rattle.std.proofs.lemmas.Bool.Decides.{nat_tests}
use Rattle.std.proofs.lemmas.Slice.{between_from_start}
use Rattle.sonic_error.specs.declared.json_type.JsonType.TheVariants.{Number}
use Rattle.sonic_text.specs.declared.kind.Kind.{Kind}
use Rattle.sonic_text.specs.declared.kind.Kind.TheVariants.{Array, Object}
use Rattle.sonic_text.specs.Numbers.{IsNumber}
use Rattle.sonic_text.specs.Places.{byte, IsDigit}
use Rattle.sonic_text.specs.Strings.{strict, IsString}
use Rattle.sonic_text.specs.Trees.{Tree, Means}
use Rattle.sonic_text.specs.Trees.Means.{means_null, means_true, means_false, means_number, means_string, means_empty, means_filled}
use Rattle.sonic_text.specs.Values.{opening}
use Rattle.sonic_text.proofs.Numbers.{number_begins}
use Rattle.sonic_text.proofs.TreeLemmas.{tree_of}
use Rattle.sonic_text.proofs.Values.{first_letter}
use Rattle.sonic_lazy.proofs.WholeLemmas.{lazy_is_whole}
use Rattle.sonic_lazy.specs.declared.lazyvalue.LazyValue.{LazyValue}
use Rattle.sonic_lazy.specs.Internal.Items.{IsTextSpan}
use Rattle.sonic_text.proofs.StringTexts.{string_utf8}
use Rattle.sonic_lazy.specs.LazyValues.{raw_bytes}
use Rattle.sonic_lazy.specs.Scalars.{numeral, text, container, scalar_of, scalar_of_tree, type_of}

-- a minus sign or a digit begins a number
scalar_number : (t : List ℕ) → (byte t 0 ≡ 45) ⊎ IsDigit (byte t 0) → scalar_of t ≡ numeral t
scalar_number t (inl e) = rw e refl
scalar_number t (inr d) = grind (arith, nat_tests)

-- and a bracket a container
scalar_container : (kind : Kind) (t : List ℕ) → byte t 0 ≡ opening kind → scalar_of t ≡ container kind
scalar_container Array t e = rw e refl
scalar_container Object t e = rw e refl

-- what the first byte of a whole value says is what the value's tree is
pub scalar_means : {t : List ℕ} {j : ℕ} {x : Tree} → j ≡ length t → Means t 0 j x → scalar_of t ≡ scalar_of_tree x
scalar_means {t} e (means_null h) = rw (first_letter (codes "null") t 0 (omega arith) h) refl
scalar_means {t} e (means_true h) = rw (first_letter (codes "true") t 0 (omega arith) h) refl
scalar_means {t} e (means_false h) = rw (first_letter (codes "false") t 0 (omega arith) h) refl
scalar_means {t} e (means_number h is) = rw (is, e, between_from_start t (length t), take-length t) (scalar_number t (number_begins h))
scalar_means e (means_string h) = rw h.opens refl
scalar_means {t} e (means_empty {kind} b c q) = scalar_container kind t b
scalar_means {t} e (means_filled {kind} b q d xs) = scalar_container kind t b

-- no container is a number
kind_no_number : (kind : Kind) → type_of (container kind) ≡ Number → ⊥
kind_no_number Array e = cc
kind_no_number Object e = cc

-- what means a numeral is a number
means_numeral : {t : List ℕ} {i j : ℕ} {x : Tree} → Means t i j x → type_of (scalar_of_tree x) ≡ Number → IsNumber t i j
means_numeral (means_null h) e = absurd cc
means_numeral (means_true h) e = absurd cc
means_numeral (means_false h) e = absurd cc
means_numeral (means_number h is) e = h
means_numeral (means_string h) e = absurd cc
means_numeral (means_empty {kind} b c q) e = absurd (kind_no_number kind e)
means_numeral (means_filled {kind} b q d xs) e = absurd (kind_no_number kind e)

-- a lazy value whose first byte says so is a number
pub lazy_number : (value : LazyValue) → type_of (scalar_of (raw_bytes value)) ≡ Number → IsNumber (raw_bytes value) 0 (length (raw_bytes value))
lazy_number value e =
    let tree = tree_of (lazy_is_whole value).value in
    means_numeral tree.1 (rw (scalar_means refl tree.1) at e)

-- what means a text is a string
means_text : {t : List ℕ} {i j : ℕ} {x : Tree} → Means t i j x → scalar_of_tree x ≡ text → (b : List ℕ) × IsString strict t i j b
means_text (means_null h) e = absurd cc
means_text (means_true h) e = absurd cc
means_text (means_false h) e = absurd cc
means_text (means_number h is) e = absurd cc
means_text (means_string {b = b} h) e = (b, h)
means_text (means_empty b c q) e = absurd cc
means_text (means_filled b q d xs) e = absurd cc

-- a lazy value whose first byte says so is a string
pub lazy_string : (value : LazyValue) → scalar_of (raw_bytes value) ≡ text → (b : List ℕ) × IsString strict (raw_bytes value) 0 (length (raw_bytes value)) b
lazy_string value e =
    let tree = tree_of (lazy_is_whole value).value in
    means_text tree.1 (rw (scalar_means refl tree.1) at e)

-- from end to end, which denotes bytes in UTF-8
pub lazy_span : (value : LazyValue) → scalar_of (raw_bytes value) ≡ text
    → IsTextSpan (raw_bytes value) (record { start = 0; end = length (raw_bytes value); escaped = value.has_escaped })
lazy_span value e =
    let string = lazy_string value e in
    let whole = lazy_is_whole value in
    record {
      span = record { bytes = string.0; is = string.1; escaped = whole.escapes };
      utf8 = λ b s. string_utf8 whole.utf8 s;
    }
