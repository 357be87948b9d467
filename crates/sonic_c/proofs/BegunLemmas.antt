-- With what a value of each type begins, and why a text is refused.
use Rattle.std.proofs.Common.{◌≡◌, inl, inr, refl, sym, ℕ, List, length, take, codes, arith}
use Rattle.std.proofs.Math.Seq.{take-length}
use Rattle.std.specs.Str.{IsUtf8}
use Rattle.sonic_error.specs.Texts.{valid_up_to}
use Rattle.sonic_error.specs.declared.code.ErrorCode.TheVariants.{InvalidUTF8}
use Rattle.sonic_error.specs.declared.json_type.JsonType.{JsonType}
use Rattle.sonic_error.specs.declared.json_type.JsonType.TheVariants.{Null, Boolean, Number, String, Object as AnObject, Array as AnArray}
use Rattle.sonic_find.proofs.DocumentLemmas.{reason_broken}
use Rattle.sonic_find.specs.Documents.{IsAlone, no_root, text_after}
use Rattle.sonic_text.specs.Documents.{IsWhole, IsRootFault}
use Rattle.sonic_text.specs.Numbers.{IsNumberFault}
use Rattle.sonic_text.specs.Places.{byte, after_space}
use Rattle.sonic_text.specs.Faults.{BeginsNone, number_fault, string_fault}
use Rattle.sonic_text.specs.Strings.{strict, IsStringFault}
use Rattle.sonic_text.specs.Trees.{Tree, Means, type_of_tree}
use Rattle.sonic_text.specs.Trees.Means.{means_null, means_true, means_false, means_number, means_string, means_empty, means_filled}
use Rattle.sonic_text.specs.Values.{opening, IsValue}
use Rattle.sonic_text.specs.declared.stop.Stop.{Stop}
use Rattle.sonic_text.specs.declared.kind.Kind.{Kind}
use Rattle.sonic_text.specs.declared.kind.Kind.TheVariants.{Array, Object}
use Rattle.sonic_text.proofs.Numbers.{number_begins}
use Rattle.sonic_text.proofs.Values.{first_letter}
use Rattle.sonic_text.specs.Trees.Tree.{container}
use Rattle.sonic_text.specs.Trees.{Items}
use Rattle.sonic_c.specs.Begun.{BeginsWith, first_byte, IsNotBegun, no_value, other_type, IsTextRefused, not_begun, invalid}
use Rattle.sonic_c.specs.Internal.Begun.{HasBegun, Misses, begins_none, begins_other, RefusesText, misses, is_invalid, TellsRefusal, IsTrailing}
use Rattle.sonic_c.specs.declared.begun.Expected.{Expected}
use Rattle.sonic_c.specs.declared.begun.Expected.TheVariants.{Numeral, Text}
use Rattle.sonic_c.specs.declared.begun.Refusal.{Refusal}
use Rattle.sonic_c.specs.declared.begun.Refusal.TheVariants.{At}
use Rattle.sonic_c.specs.declared.fault.Fault.{Fault}

-- a bracket begins a container
begins_container : (kind : Kind) (xs : Items) (b : ℕ) → b ≡ opening kind → BeginsWith (type_of_tree (container kind xs)) b
begins_container Array xs b e = e
begins_container Object xs b e = e

-- a value begins as its type says
pub means_begins : {t : List ℕ} {i j : ℕ} {x : Tree} → Means t i j x → BeginsWith (type_of_tree x) (byte t i)
means_begins {t} {i} (means_null h) = first_letter (codes "null") t i (omega arith) h
means_begins {t} {i} (means_true h) = inl (first_letter (codes "true") t i (omega arith) h)
means_begins {t} {i} (means_false h) = inr (first_letter (codes "false") t i (omega arith) h)
means_begins (means_number h is) = number_begins h
means_begins (means_string h) = h.opens
means_begins {t} {i} (means_empty {kind} b c q) = begins_container kind _ (byte t i) b
means_begins {t} {i} (means_filled {kind} {xs = xs} b q d y) = begins_container kind xs (byte t i) b

-- so it doesn't begin as none does
pub never_none : (kind : JsonType) (b : ℕ) → BeginsWith kind b → BeginsNone b → ⊥
never_none Null b e none = none.5 e
never_none Boolean b (inl e) none = none.6 e
never_none Boolean b (inr e) none = none.7 e
never_none Number b (inl e) none = none.3 e
never_none Number b (inr e) none = none.4 e
never_none String b e none = none.2 e
never_none AnArray b e none = none.0 e
never_none AnObject b e none = none.1 e

-- that no value of an expected type begins a text is told as it is
pub not_begun_told : {expected : Expected} {t : List ℕ} {before after : Fault} {status : ℕ} (refusal : Refusal) → Misses expected t refusal
    → TellsRefusal t refusal before after status → IsNotBegun expected t before after status
not_begun_told refusal (begins_none none is) told = let x = rw is at told in no_value none x.0 x.1
not_begun_told refusal (begins_other kind begins other is) told = let x = rw is at told in other_type kind begins other x.0 x.1

-- and so is why it is refused
pub refusal_told : {expected : Expected} {t : List ℕ} {before after : Fault} {status : ℕ} (refusal : Refusal) → RefusesText expected t refusal
    → TellsRefusal t refusal before after status → IsTextRefused expected t before after status
refusal_told refusal (misses x) told = not_begun (not_begun_told refusal x told)
refusal_told refusal (is_invalid s begun bad is) told = let x = rw is at told in invalid begun.0 s begun.1 begun.2 bad x.0 x.1

-- a number that isn't there is the root's fault
pub number_fails : {t : List ℕ} {i : ℕ} {s : Stop} → HasBegun Numeral t → i ≡ after_space t 0 → IsNumberFault t i s → IsRootFault t s
number_fails {t} {i} {s} begun place f =
    let begins : BeginsWith Number (first_byte t) = rw begun.2 at begun.1 in
    let fault : IsNumberFault t (after_space t 0) s = rw place at f in
    number_fault begins fault

-- and so is a string that isn't
pub string_fails : {t : List ℕ} {i : ℕ} {s : Stop} → HasBegun Text t → i ≡ after_space t 0 → IsStringFault strict t i s → IsRootFault t s
string_fails {t} {i} {s} begun place f =
    let begins : BeginsWith String (first_byte t) = rw begun.2 at begun.1 in
    let fault : IsStringFault strict t (after_space t 0) s = rw place at f in
    string_fault begins fault

-- it begins with a quote
pub string_begins : (t : List ℕ) (i : ℕ) → HasBegun Text t → i ≡ after_space t 0 → byte t i ≡ 34
string_begins t i begun place = let begins : BeginsWith String (first_byte t) = rw begun.2 at begun.1 in rw place begins

-- a text with such a fault is refused
pub fault_refused : {expected : Expected} {t : List ℕ} {s : Stop} → HasBegun expected t → IsRootFault t s → RefusesText expected t (At s)
fault_refused {s = s} begun f = is_invalid s begun (no_root f) refl

-- the value that ends at j begins the text
pub whole_at : {t : List ℕ} {i j : ℕ} → i ≡ after_space t 0 → IsValue strict t i j → IsWhole t j
whole_at place x = rw place at x

-- where something follows it, the text is refused
pub rest_refused : {expected : Expected} {t : List ℕ} {j : ℕ} {s : Stop} → HasBegun expected t → IsWhole t j → IsTrailing t j s → RefusesText expected t (At s)
rest_refused {j = j} {s} begun x f = is_invalid s begun (text_after (record { end = j; root = x; place = refl }) f.0 f.1) refl

-- and where it is no UTF-8
pub broken_refused : {expected : Expected} {t : List ℕ} {j : ℕ} {s : Stop} → HasBegun expected t → IsWhole t j → after_space t j ≡ length t
    → ¬ IsUtf8 (take (length t) t) → s ≡ record { place = valid_up_to (take (length t) t); code = InvalidUTF8 } → RefusesText expected t (At s)
broken_refused {j = j} {s} begun x rest n e = is_invalid s begun (reason_broken (record { end = j; root = x; place = rest }) refl n e) refl

-- else it is the value alone
pub alone_at : {t : List ℕ} {i j : ℕ} → i ≡ after_space t 0 → IsValue strict t i j → after_space t j ≡ length t → IsAlone t i j
alone_at place x rest = record { start = sym place; root = whole_at place x; end = rest }

-- the whole of a text in UTF-8 is the text
pub whole_utf8 : {t : List ℕ} → IsUtf8 (take (length t) t) → IsUtf8 t
whole_utf8 {t} u = rw (take-length t) at u

-- so it is where it is broken
pub broken_text_at : {t : List ℕ} {s : Stop} → ¬ IsUtf8 (take (length t) t) → s ≡ record { place = valid_up_to (take (length t) t); code = InvalidUTF8 }
    → ¬ IsUtf8 t × (s ≡ record { place = valid_up_to t; code = InvalidUTF8 })
broken_text_at {t} n e = (rw (take-length t) at n, rw (take-length t) at e)
