-- The stop of a fault: it lies within the text, at or after the place where a value is expected, and isn't out of memory.
use Rattle.std.proofs.Common.{◌≡◌, ◌≢◌, inl, inr, ℕ, ◌≤◌, ◌<◌, length, arith}
use Rattle.std.specs.Prelude.{Bool, List, Some, ◌+◌}
use Rattle.std.proofs.lemmas.Bool.Decides.{nat_tests}
use Rattle.sonic_error.specs.declared.code.ErrorCode.{ErrorCode}
use Rattle.sonic_error.specs.declared.code.ErrorCode.TheVariants.{EofWhileParsing, NoMemory}
use Rattle.sonic_text.specs.declared.kind.Kind.{Kind}
use Rattle.sonic_text.specs.declared.kind.Kind.TheVariants.{Array, Object}
use Rattle.sonic_text.specs.declared.stop.Stop.{Stop}
use Rattle.sonic_text.specs.Places.{stop_at}
use Rattle.sonic_text.specs.Numbers.{IsNumberFault}
use Rattle.sonic_text.specs.Numbers.IsNumberFault.{in_int, in_fraction, in_exponent}
use Rattle.sonic_text.specs.Literals.{IsLiteralFault}
use Rattle.sonic_text.specs.Strings.{IsStringFault, escape_fault}
use Rattle.sonic_text.specs.Strings.IsStringFault.{control_char, in_escape}
use Rattle.sonic_text.specs.Faults.{IsKeyFault, IsFault, code_after_item}
use Rattle.sonic_text.specs.Faults.IsKeyFault.{no_quote, key_fault, no_colon}
use Rattle.sonic_text.specs.Faults.IsFault.{no_value, null_fault, true_fault, false_fault, number_fault, string_fault, in_key, in_value, after_item}
use Rattle.sonic_text.proofs.Numbers.{int_longer, after_minus_later, after_sign_later, fraction_later}
use Rattle.sonic_text.proofs.Places.{after_space_later}
use Rattle.sonic_text.proofs.Strings.{chars_later, string_longer}
use Rattle.sonic_text.proofs.Values.{head-later, value-longer, items-later}

-- a stop at p lies at or after each place of the text at or before p
pub stop_at_from : (t : List ℕ) (p : ℕ) (code : ErrorCode) (s : Stop) {i : ℕ} → s ≡ stop_at t p code → i ≤ p → i ≤ length t → i ≤ s.place
stop_at_from t p code s e l m = rw e (grind (arith, nat_tests))

-- and at or after the end of the text, where the end of the input is the reason
pub stop_at_end : (t : List ℕ) (p : ℕ) (code : ErrorCode) (s : Stop) → s ≡ stop_at t p code → s.code ≡ EofWhileParsing → code ≢ EofWhileParsing → length t ≤ p
stop_at_end t p code s e c d = grind (arith, nat_tests)

-- the stop of a fault of what is expected at i
pub record IsStopFrom (t : List ℕ) (i : ℕ) (s : Stop) : Type 0 where
  pub place : ℕ
  pub code : ErrorCode
  pub later : i ≤ place
  pub known : code ≢ NoMemory
  pub is : s ≡ stop_at t place code

-- lies within the text
stop_within : {t : List ℕ} {i : ℕ} {s : Stop} → IsStopFrom t i s → s.place ≤ length t
stop_within h = rw h.is (grind (arith, nat_tests))

-- at or after i
stop_later : {t : List ℕ} {i : ℕ} {s : Stop} → IsStopFrom t i s → i ≤ length t → i ≤ s.place
stop_later {t} {s = s} h l = stop_at_from t h.place h.code s h.is h.later l

-- at the place where it isn't the end
pub stop_byte : {t : List ℕ} {i : ℕ} {s : Stop} → IsStopFrom t i s → s.code ≢ EofWhileParsing → (i ≤ s.place) × (s.place < length t)
stop_byte h c = let e = h.is in let l = h.later in (grind (arith, nat_tests), grind (arith, nat_tests))

-- and isn't out of memory
stop_known : {t : List ℕ} {i : ℕ} {s : Stop} → IsStopFrom t i s → s.code ≢ NoMemory
stop_known h e = let k = h.known in let is = h.is in grind (arith, nat_tests)

-- what is expected at v after i stops after i
stop_before : {t : List ℕ} {i v : ℕ} {s : Stop} → i ≤ v → IsStopFrom t v s → IsStopFrom t i s
stop_before l h = record { place = h.place; code = h.code; later = omega (arith, h.later); known = h.known; is = h.is }

-- a number's
pub number_stop : {t : List ℕ} {i : ℕ} {s : Stop} → IsNumberFault t i s → IsStopFrom t i s
number_stop {t} {i} (in_int (inl f)) = record { place = _; code = _; later = after_minus_later t i; known = λ e. cc; is = f.1 }
number_stop {t} {i} (in_int (inr f)) = record { place = _; code = _; later = omega (arith, after_minus_later t i); known = λ e. cc; is = f.2 }
number_stop {t} {i} (in_fraction {w} n f) =
    record { place = _; code = _; later = omega (arith, after_minus_later t i, int_longer t _ w n); known = λ e. cc; is = f.2 }
number_stop {t} {i} (in_exponent {w} {f = e} n d f) =
    record {
      place = _;
      code = _;
      later = omega (arith, after_minus_later t i, int_longer t _ w n, fraction_later t w e d, after_sign_later t (e + 1));
      known = λ e. cc;
      is = f.2;
    }

-- a word's
pub literal_stop : {word t : List ℕ} {i : ℕ} {s : Stop} → IsLiteralFault word t i s → IsStopFrom t i s
literal_stop f = record { place = _; code = _; later = omega arith; known = λ e. cc; is = f.stop }

-- no escape is at fault for being out of memory, or for the end of the input
pub escape_known : (m : Bool) (t : List ℕ) (k n : ℕ) {c : ErrorCode} → escape_fault m t k n ≡ Some c → (c ≢ NoMemory) × (c ≢ EofWhileParsing)
unfolding escape_fault
escape_known m t k n h = ((λ e. grind (arith, nat_tests)), (λ e. grind (arith, nat_tests)))

-- a string's
pub string_stop : {m : Bool} {t : List ℕ} {i : ℕ} {s : Stop} → IsStringFault m t i s → IsStopFrom t i s
string_stop (control_char cs l e) = record { place = _; code = _; later = omega (arith, chars_later cs); known = λ e. cc; is = e }
string_stop {m} {t} (in_escape {k} cs b f) =
    record { place = _; code = f.code; later = omega (arith, chars_later cs); known = (escape_known m t k f.n f.wrong).0; is = f.stop }

-- a key's
pub key_stop : {m : Bool} {t : List ℕ} {k : ℕ} {s : Stop} → IsKeyFault m t k s → IsStopFrom t k s
key_stop (no_quote d e) = record { place = _; code = _; later = omega arith; known = λ e. cc; is = e }
key_stop (key_fault o f) = string_stop f
key_stop {t = t} (no_colon {e} x d q) =
    record { place = _; code = _; later = omega (arith, string_longer x, after_space_later t e); known = λ e. cc; is = q }

-- nor is a byte after an item
pub after_known : (kind : Kind) → (code_after_item kind ≢ NoMemory) × (code_after_item kind ≢ EofWhileParsing)
after_known Array = ((λ e. cc), (λ e. cc))
after_known Object = ((λ e. cc), (λ e. cc))

-- and a value's
pub value_stop : {m : Bool} {t : List ℕ} {i : ℕ} {s : Stop} → IsFault m t i s → IsStopFrom t i s
value_stop (no_value b e) = record { place = _; code = _; later = omega arith; known = λ e. cc; is = e }
value_stop (null_fault b f) = literal_stop f
value_stop (true_fault b f) = literal_stop f
value_stop (false_fault b f) = literal_stop f
value_stop (number_fault b f) = number_stop f
value_stop (string_fault b f) = string_stop f
value_stop (in_key is f) = stop_before (omega (arith, items-later is)) (key_stop f)
value_stop (in_value is y f) = stop_before (omega (arith, items-later is, head-later y)) (value_stop f)
value_stop {t = t} (after_item {kind} {e = e} is y x n q) =
    record {
      place = _;
      code = _;
      later = omega (arith, items-later is, head-later y, value-longer x, after_space_later t e);
      known = (after_known kind).0;
      is = q;
    }

-- each of these three, by name
pub number_fault_within : {t : List ℕ} {i : ℕ} {s : Stop} → IsNumberFault t i s → s.place ≤ length t
number_fault_within f = stop_within (number_stop f)

pub fault_within : {m : Bool} {t : List ℕ} {i : ℕ} {s : Stop} → IsFault m t i s → s.place ≤ length t
fault_within f = stop_within (value_stop f)

pub fault_not : {m : Bool} {t : List ℕ} {i : ℕ} {s : Stop} → IsFault m t i s → s.code ≢ NoMemory
fault_not f = stop_known (value_stop f)

pub key_fault_from : {m : Bool} {t : List ℕ} {k : ℕ} {s : Stop} → IsKeyFault m t k s → k ≤ length t → k ≤ s.place
key_fault_from f l = stop_later (key_stop f) l

pub fault_from : {m : Bool} {t : List ℕ} {i : ℕ} {s : Stop} → IsFault m t i s → i ≤ length t → i ≤ s.place
fault_from f l = stop_later (value_stop f) l
