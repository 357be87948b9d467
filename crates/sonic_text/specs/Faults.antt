-- Where and why a value that is expected isn't there: the first byte that fits no value, as all before it does.
use Rattle.std.specs.Prelude.{◌≡◌, ◌≢◌, ℕ, ◌⊎◌, Bool, List, Option, codes}
use Rattle.sonic_error.specs.declared.code.ErrorCode.{ErrorCode}
use Rattle.sonic_error.specs.declared.code.ErrorCode.TheVariants.{ExpectedArrayCommaOrEnd, ExpectedColon, ExpectedObjectCommaOrEnd, ExpectObjectKeyOrEnd, InvalidJsonValue}
use Rattle.sonic_text.specs.declared.kind.Kind.{Kind}
use Rattle.sonic_text.specs.declared.kind.Kind.TheVariants.{Array, Object}
use Rattle.sonic_text.specs.declared.stop.Stop.{Stop}
use Rattle.sonic_text.specs.Places.{byte, after_space, stop_at, IsDigit}
use Rattle.sonic_text.specs.Literals.{IsLiteralFault}
use Rattle.sonic_text.specs.Numbers.{IsNumberFault}
use Rattle.sonic_text.specs.Strings.{IsString, IsStringFault}
use Rattle.sonic_text.specs.Values.{closing, ItemHead, IsValue, ItemsFit}

-- no value begins with this byte
abbrev pub BeginsNone : ℕ → Type 0
BeginsNone b = (b ≢ 91) × (b ≢ 123) × (b ≢ 34) × (b ≢ 45) × ¬ (IsDigit b) × (b ≢ 110) × (b ≢ 116) × (b ≢ 102)

-- after e is neither a comma nor this bracket
abbrev pub NothingFits : List ℕ → ℕ → ℕ → Type 0
NothingFits t e bracket = (byte t (after_space t e) ≢ 44) × (byte t (after_space t e) ≢ bracket)

-- the code where neither fits in a container of this kind
abbrev pub code_after_item : Kind → ErrorCode
code_after_item Array = ExpectedArrayCommaOrEnd
code_after_item Object = ExpectedObjectCommaOrEnd

-- a key is expected at k and isn't there, for this reason, or no colon follows it
pub data IsKeyFault (m : Bool) (t : List ℕ) (k : ℕ) (s : Stop) : Type 0 where
  no_quote : byte t k ≢ 34 → s ≡ stop_at t k ExpectObjectKeyOrEnd → IsKeyFault m t k s
  key_fault : byte t k ≡ 34 → IsStringFault m t k s → IsKeyFault m t k s
  no_colon : {e : ℕ} {b : List ℕ} → IsString m t k e b → byte t (after_space t e) ≢ 58 → s ≡ stop_at t (after_space t e) ExpectedColon → IsKeyFault m t k s

-- a value is expected at i and isn't there, for this reason
pub data IsFault (m : Bool) (t : List ℕ) : ℕ → Stop → Type 0 where
  no_value : {i : ℕ} {s : Stop} → BeginsNone (byte t i) → s ≡ stop_at t i InvalidJsonValue → IsFault m t i s
  null_fault : {i : ℕ} {s : Stop} → byte t i ≡ 110 → IsLiteralFault (codes "null") t i s → IsFault m t i s
  true_fault : {i : ℕ} {s : Stop} → byte t i ≡ 116 → IsLiteralFault (codes "true") t i s → IsFault m t i s
  false_fault : {i : ℕ} {s : Stop} → byte t i ≡ 102 → IsLiteralFault (codes "false") t i s → IsFault m t i s
  number_fault : {i : ℕ} {s : Stop} → (byte t i ≡ 45) ⊎ IsDigit (byte t i) → IsNumberFault t i s → IsFault m t i s
  string_fault : {i : ℕ} {s : Stop} → byte t i ≡ 34 → IsStringFault m t i s → IsFault m t i s
  in_key : {i n k : ℕ} {s : Stop} → ItemsFit m t Object i n k → IsKeyFault m t k s → IsFault m t i s
  in_value : {kind : Kind} {i n h v : ℕ} {l : Option (List ℕ)} {s : Stop} → ItemsFit m t kind i n h → ItemHead m t kind h v l → IsFault m t v s → IsFault m t i s
  after_item : {kind : Kind} {i n h v e : ℕ} {l : Option (List ℕ)} {s : Stop} → ItemsFit m t kind i n h → ItemHead m t kind h v l → IsValue m t v e → NothingFits t e (closing kind)
      → s ≡ stop_at t (after_space t e) (code_after_item kind) → IsFault m t i s
