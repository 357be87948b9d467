-- A fault that isn't the end of the input is in each text that holds the same bytes up to its place.
use Rattle.std.proofs.Common.{◌≡◌, ◌≢◌, ◌⊎◌, ◌∙◌, ℕ, ◌+◌, ◌<◌, Bool, inl, inr, List, take, arith, refl, codes}
use Rattle.std.proofs.lemmas.Bool.Decides.{nat_tests}
use Rattle.sonic_error.specs.declared.code.ErrorCode.{ErrorCode}
use Rattle.sonic_error.specs.declared.code.ErrorCode.TheVariants.{EofWhileParsing}
use Rattle.sonic_text.specs.declared.stop.Stop.{Stop}
use Rattle.sonic_text.specs.Places.{byte, after_space, stop_at, IsDigit}
use Rattle.sonic_text.specs.Literals.{IsLiteralFault}
use Rattle.sonic_text.specs.Numbers.{after_minus, after_sign, IsInt, IsFraction, IsIntFault, IsNumberFault, IsE}
use Rattle.sonic_text.specs.Numbers.IsNumberFault.{in_int, in_fraction, in_exponent}
use Rattle.sonic_text.specs.Strings.{IsStringFault, IsEscapeFault}
use Rattle.sonic_text.specs.Strings.IsUnicodeChar.{lone_low}
use Rattle.sonic_text.specs.Strings.IsChar.{unicode_escape}
use Rattle.sonic_text.specs.Strings.IsStringFault.{control_char, in_escape}
use Rattle.sonic_text.specs.Values.{closing}
use Rattle.sonic_text.specs.Faults.{IsKeyFault, IsFault, NothingFits, BeginsNone}
use Rattle.sonic_text.specs.Faults.IsKeyFault.{no_quote, key_fault, no_colon}
use Rattle.sonic_text.specs.Faults.IsFault.{no_value, null_fault, true_fault, false_fault, number_fault, string_fault, in_key, in_value, after_item}
use Rattle.sonic_text.proofs.Places.{after_space_later}
use Rattle.sonic_text.proofs.Numbers.{after_sign_later, fraction_later}
use Rattle.sonic_text.proofs.EscapeLemmas.{char_never}
use Rattle.sonic_text.proofs.Values.{value-longer}
use Rattle.sonic_text.proofs.Stops.{IsStopFrom, stop_byte, literal_stop, number_stop, string_stop, key_stop, value_stop}
use Rattle.sonic_text.proofs.Same.{Same, same_less, same_prefix, same_byte, agree_at, space_before, int_same, fraction_same}
use Rattle.sonic_text.proofs.SameStrings.{NoNewLow, no_new_low, chars_same, string_same, escape_fault_same}
use Rattle.sonic_text.proofs.SameValues.{value_same, items_same, item_same}

module _ {t u : List ℕ} {n : ℕ} {s : Stop} (h : Same t u n) (before : s.place < n) (not_end : s.code ≢ EofWhileParsing) where
  -- a byte that doesn't fit
  stop_same : (p : ℕ) (code : ErrorCode) → s ≡ stop_at t p code → (p < n) × (s ≡ stop_at u p code)
  stop_same p code e = let a = h.reach_u in let b = h.reach_t in (grind (arith, nat_tests), grind (arith, nat_tests))

  -- what is at fault begins with a byte that is the same
  begins_same : {i : ℕ} → IsStopFrom t i s → (i < n) × (byte u i ≡ byte t i)
  begins_same {i} f = let l : i < n = omega (arith, stop_byte f not_end) in (l, same_byte h i l)

  -- a word
  literal_fault_same : (word : List ℕ) (i : ℕ) → IsLiteralFault word t i s → IsLiteralFault word u i s
  literal_fault_same word i f =
      let (o, e) = stop_same (i + f.n) _ f.stop in
      let a = h.reach_u in
      let b = h.reach_t in
      let d : byte t (i + f.n) ≢ byte word f.n = f.differs (omega arith) in
      record {
        n = f.n;
        shorter = f.shorter;
        letters = (omega arith, λ k q. same_byte h (i + k) (omega arith) ∙ f.letters.1 k q);
        differs = λ q. rw (same_byte h (i + f.n) o) d;
        stop = e;
      }

  -- an integer
  int_fault_same : (i : ℕ) → IsIntFault t i s → IsIntFault u i s
  int_fault_same i (inl f) = let (o, e) = stop_same i _ f.1 in inl (rw (same_byte h i o) f.0, e)
  int_fault_same i (inr f) = let (o, e) = stop_same (i + 1) _ f.2 in inr (same_byte h i (omega arith) ∙ f.0, rw (same_byte h (i + 1) o) f.1, e)

  -- an integer that ends before n
  int_there : (i w : ℕ) → w < n → IsInt t i w → IsInt u i w
  int_there i w l a = int_same i i (omega arith) (agree_at h w w (omega arith) l) a

  -- a number
  number_fault_same : (i : ℕ) → after_minus u i ≡ after_minus t i → IsNumberFault t i s → IsNumberFault u i s
  number_fault_same i q (in_int f) = in_int (rw q (int_fault_same (after_minus t i) f))
  number_fault_same i q (in_fraction {w} a f) =
      let (o, e) = stop_same (w + 1) _ f.2 in
      let b = int_there (after_minus t i) w (omega arith) a in
      in_fraction (rw q b) (same_byte h w (omega arith) ∙ f.0, rw (same_byte h (w + 1) o) f.1, e)
  number_fault_same i q (in_exponent {w} {f = v} a d f) =
      let z = after_sign t (v + 1) in
      let (o, e) = stop_same z _ f.2 in
      let r = fraction_later t w v d in
      let k = after_sign_later t (v + 1) in
      let y : after_sign u (v + 1) ≡ z = rw (same_byte h (v + 1) (omega arith)) refl in
      let b = int_there (after_minus t i) w (omega arith) a in
      let x : IsFraction u w v = fraction_same w w (omega arith) (agree_at h v v (omega arith) (omega arith)) d in
      let starts : IsE (byte u v) = rw (same_byte h v (omega arith)) f.0 in
      let none : ¬ IsDigit (byte u z) = rw (same_byte h z o) f.1 in
      in_exponent (rw q b) x (starts, rw y none, rw y e)

  -- an escape
  escape_fault_there : {m : Bool} (k : ℕ) → IsEscapeFault m t k s → (k < n) × IsEscapeFault m u k s
  escape_fault_there {m} k f =
      let (o, e) = stop_same (k + f.n) _ f.stop in
      let b = f.after in (
        omega arith,
        record {
          n = f.n;
          code = f.code;
          after = b;
          right = λ d z y. escape_fault_same m k d z (same_less (k + d + 1) h (omega arith)) ∙ f.right d z y;
          wrong = escape_fault_same m k f.n b.0 (same_less (k + f.n + 1) h (omega arith)) ∙ f.wrong;
          stop = e;
        },
      )

  -- a string
  string_fault_same : {m : Bool} {i : ℕ} → IsStringFault m t i s → IsStringFault m u i s
  string_fault_same {m} (control_char {k} cs g e) =
      let (o, q) = stop_same k _ e in
      let b : byte u k ≡ byte t k = same_byte h k o in
      control_char (chars_same (same_less k h (omega arith)) (omega arith) (omega arith) (no_new_low m t u k k (λ y. omega arith)) cs) (rw b g) q
  string_fault_same {m} (in_escape {k} cs g f) =
      let (o, q) = escape_fault_there k f in
      let b : byte u k ≡ 92 = same_byte h k o ∙ g in
      let low : NoNewLow m t u k k = λ r y. absurd (char_never b (unicode_escape y.1 (lone_low r y.2 refl refl)) q) in
      in_escape (chars_same (same_less k h (omega arith)) (omega arith) (omega arith) low cs) b q

  -- a key
  key_fault_same : {m : Bool} {k : ℕ} → IsKeyFault m t k s → IsKeyFault m u k s
  key_fault_same {k = k} (no_quote d e) = let (o, q) = stop_same k _ e in no_quote (rw (same_byte h k o) d) q
  key_fault_same (key_fault b f) = key_fault ((begins_same (string_stop f)).1 ∙ b) (string_fault_same f)
  key_fault_same (no_colon {e} x d q) =
      let (o, z) = stop_same (after_space t e) _ q in
      let p = after_space_later t e in
      let y : after_space u e ≡ after_space t e = space_before e h o in
      let w : byte u (after_space t e) ≢ 58 = rw (same_byte h (after_space t e) o) d in
      no_colon (string_same (same_less e h (omega arith)) (omega arith) (omega arith) x) (rw y w) (rw y z)

  -- neither a comma nor a bracket
  nothing_same : (e bracket : ℕ) → after_space t e < n → NothingFits t e bracket → NothingFits u e bracket
  nothing_same e bracket o f =
      let b : byte u (after_space u e) ≡ byte t (after_space t e) = rw (space_before e h o) (same_byte h (after_space t e) o) in
      rw b f

  -- a value
  fault_same : {m : Bool} {i : ℕ} → IsFault m t i s → IsFault m u i s
  fault_same {i = i} (no_value b e) =
      let (o, q) = stop_same i _ e in
      let z : byte u i ≡ byte t i = same_byte h i o in
      let g : BeginsNone (byte u i) = rw z b in
      no_value g q
  fault_same {i = i} (null_fault b f) = null_fault ((begins_same (literal_stop f)).1 ∙ b) (literal_fault_same (codes "null") i f)
  fault_same {i = i} (true_fault b f) = true_fault ((begins_same (literal_stop f)).1 ∙ b) (literal_fault_same (codes "true") i f)
  fault_same {i = i} (false_fault b f) = false_fault ((begins_same (literal_stop f)).1 ∙ b) (literal_fault_same (codes "false") i f)
  fault_same {i = i} (number_fault b f) =
      let e = (begins_same (number_stop f)).1 in
      let z : (byte u i ≡ 45) ⊎ IsDigit (byte u i) = rw e b in
      number_fault z (number_fault_same i (rw e refl) f)
  fault_same (string_fault b f) = string_fault ((begins_same (string_stop f)).1 ∙ b) (string_fault_same f)
  fault_same (in_key {k = k} is f) =
      let (o, e) = begins_same (key_stop f) in
      in_key (items_same (agree_at h k k (omega arith) o) (omega arith) is) (key_fault_same f)
  fault_same (in_value {v = v} is y f) =
      let (o, e) = begins_same (value_stop f) in
      let (fs, z) = item_same (agree_at h v v (omega arith) o) is y in
      in_value fs z (fault_same f)
  fault_same (after_item {kind} {v = v} {e} is y x f q) =
      let (o, g) = stop_same (after_space t e) _ q in
      let r = value-longer x in
      let p = after_space_later t e in
      let w : after_space u e ≡ after_space t e = space_before e h o in
      let (fs, z) = item_same (agree_at h v v (omega arith) (omega arith)) is y in
      let c = value_same (agree_at h e e (omega arith) (omega arith)) (omega arith) x in
      after_item fs z c (nothing_same e (closing kind) o f) (rw w g)

-- each text with the same bytes up to the fault has that fault, after white space
pub fault_decides : {m : Bool} {t : List ℕ} {s : Stop} (p : ℕ) → IsFault m t (after_space t p) s → s.code ≢ EofWhileParsing → (u : List ℕ)
    → take (s.place + 1) u ≡ take (s.place + 1) t → IsFault m u (after_space u p) s
fault_decides {t = t} {s} p f c u e =
    let (l, o) = stop_byte (value_stop f) c in
    let h : Same t u (s.place + 1) = same_prefix t u (s.place + 1) (omega arith) e in
    let q : after_space u p ≡ after_space t p = space_before p h (omega arith) in
    rw q (fault_same h (omega arith) c f)
