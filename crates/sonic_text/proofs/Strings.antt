-- A string is at a quote, or isn't, for one reason, and never both.
use Rattle.std.proofs.Common.{◌≡◌, ◌⊎◌, ℕ, zero, suc, ◌+◌, ◌<◌, ◌≤◌, Bool, inl, inr, List, [], ◌++◌, length, append_assoc, append-nil, arith, refl}
use Rattle.std.proofs.lemmas.Bool.{cases_lt, cases_eq}
use Rattle.sonic_error.specs.declared.code.ErrorCode.TheVariants.{ControlCharacterWhileParsingString}
use Rattle.sonic_text.specs.declared.stop.Stop.{Stop}
use Rattle.sonic_text.specs.Places.{byte, stop_at}
use Rattle.sonic_text.specs.Strings.{IsChar, AreChars, IsString, IsEscapeFault, IsStringFault}
use Rattle.sonic_text.specs.Strings.IsChar.{unescaped, short_escape, unicode_escape}
use Rattle.sonic_text.specs.Strings.AreChars.{no_char, one_more}
use Rattle.sonic_text.specs.Strings.IsStringFault.{control_char, in_escape}
use Rattle.sonic_text.proofs.Places.{byte_after}
use Rattle.sonic_text.proofs.EscapeLemmas.{char_one, char_longer, char_never, escape_fault_one, escape_some}

-- chars, read from the left
pub data Chain (m : Bool) (t : List ℕ) : ℕ → ℕ → List ℕ → Type 0 where
  done : {i k : ℕ} {b : List ℕ} → k ≡ i → b ≡ [] → Chain m t i k b
  more : {i p k : ℕ} {b c d : List ℕ} → IsChar m t i p b → Chain m t p k c → d ≡ b ++ c → Chain m t i k d

-- and one more at the end
snoc : {m : Bool} {t : List ℕ} {i p k : ℕ} {b c d : List ℕ} → Chain m t i p b → IsChar m t p k c → d ≡ b ++ c → Chain m t i k d
snoc {c = c} {d} (done e f) h g = let q : d ≡ c ++ [] = rw (g, f, append-nil) refl in more (rw e at h) (done refl refl) q
snoc (more x y z) h g = more x (snoc y h refl) (rw (g, z, append_assoc) refl)

-- chars are chars read from the left
pub chain_of : {m : Bool} {t : List ℕ} {i k : ℕ} {b : List ℕ} → AreChars m t i k b → Chain m t i k b
chain_of (no_char e f) = done e f
chain_of (one_more h c e) = snoc (chain_of h) c e

-- no char is at this place
abbrev Stuck : Bool → List ℕ → ℕ → Type 0
Stuck m t k = (q : ℕ) (b : List ℕ) → IsChar m t k q b → ⊥

-- chars end at one place that no char follows
one_end : {m : Bool} {t : List ℕ} {i k l : ℕ} {b c : List ℕ} → Chain m t i k b → Chain m t i l c → Stuck m t k → Stuck m t l → (k ≡ l) × (b ≡ c)
one_end (done e f) (done x y) v w = (cc, cc)
one_end (done e f) (more x y z) v w = absurd (v _ _ (rw (← e) at x))
one_end (more h g e) (done x y) v w = absurd (w _ _ (rw (← x) at h))
one_end (more h g e) (more x y z) v w =
    let (q, r) = char_one h x in
    let (n, o) = one_end g (rw (← q) at y) v w in
    (n, cc)

-- no char begins with a quote
stuck_quote : {m : Bool} {t : List ℕ} {k : ℕ} → byte t k ≡ 34 → Stuck m t k
stuck_quote o q b (unescaped h e f) = h.1 o
stuck_quote o q b (short_escape h k e f) = absurd (omega arith)
stuck_quote o q b (unicode_escape h k) = absurd (omega arith)

-- nor with a control character
stuck_control : {m : Bool} {t : List ℕ} {k : ℕ} → byte t k < 32 → Stuck m t k
stuck_control o q b (unescaped h e f) = absurd (omega arith)
stuck_control o q b (short_escape h k e f) = absurd (omega arith)
stuck_control o q b (unicode_escape h k) = absurd (omega arith)

-- nor where a byte after the backslash is wrong
stuck_escape : {m : Bool} {t : List ℕ} {k : ℕ} {s : Stop} → byte t k ≡ 92 → IsEscapeFault m t k s → Stuck m t k
stuck_escape o f q b h = char_never o h f

-- chars lead on, or there is none
pub chain_later : {m : Bool} {t : List ℕ} {i k : ℕ} {b : List ℕ} → Chain m t i k b → i ≤ k
chain_later (done e f) = omega arith
chain_later (more h g e) = let l = chain_later g in let n = char_longer h in omega arith

pub chars_later : {m : Bool} {t : List ℕ} {i k : ℕ} {b : List ℕ} → AreChars m t i k b → i ≤ k
chars_later h = chain_later (chain_of h)

-- a string leads on
pub string_longer : {m : Bool} {t : List ℕ} {i j : ℕ} {b : List ℕ} → IsString m t i j b → i < j
string_longer h = let l = chars_later h.chars in let e = h.end in omega arith

-- a string has one end and denotes one text
pub string_one : {m : Bool} {t : List ℕ} {i j k : ℕ} {b c : List ℕ} → IsString m t i j b → IsString m t i k c → (j ≡ k) × (b ≡ c)
string_one h g =
    let (e, f) = one_end (chain_of h.chars) (chain_of g.chars) (stuck_quote h.closes) (stuck_quote g.closes) in
    (cc (h.end, g.end), f)

-- a string that is somewhere has no fault there
pub string_never_both : {m : Bool} {t : List ℕ} {i j : ℕ} {b : List ℕ} {s : Stop} → IsString m t i j b → IsStringFault m t i s → ⊥
string_never_both {t = t} h (control_char {k} g l e) =
    let q = one_end (chain_of h.chars) (chain_of g) (stuck_quote h.closes) (stuck_control l) in
    let o : byte t k ≡ 34 = rw q.0 at h.closes in
    absurd (omega arith)
string_never_both {t = t} h (in_escape {k} g l f) =
    let q = one_end (chain_of h.chars) (chain_of g) (stuck_quote h.closes) (stuck_escape l f) in
    let o : byte t k ≡ 34 = rw q.0 at h.closes in
    absurd (omega arith)

-- a string has one fault at a place
pub string_fault_one : {m : Bool} {t : List ℕ} {i : ℕ} {s r : Stop} → IsStringFault m t i s → IsStringFault m t i r → s ≡ r
string_fault_one {t = t} (control_char {k} h l e) (control_char {k = n} g o f) =
    let q = one_end (chain_of h) (chain_of g) (stuck_control l) (stuck_control o) in
    let d : stop_at t k ControlCharacterWhileParsingString ≡ stop_at t n ControlCharacterWhileParsingString = rw q.0 refl in
    cc
string_fault_one {t = t} (control_char {k} h l e) (in_escape {k = n} g o f) =
    let q = one_end (chain_of h) (chain_of g) (stuck_control l) (stuck_escape o f) in
    let d : byte t k ≡ 92 = rw q.0 o in
    absurd (omega arith)
string_fault_one {t = t} (in_escape {k = n} g o f) (control_char {k} h l e) =
    let q = one_end (chain_of h) (chain_of g) (stuck_control l) (stuck_escape o f) in
    let d : byte t k ≡ 92 = rw q.0 o in
    absurd (omega arith)
string_fault_one (in_escape {k} h l e) (in_escape {k = n} g o f) =
    let q = one_end (chain_of h) (chain_of g) (stuck_escape l e) (stuck_escape o f) in
    escape_fault_one (rw q.0 at e) f

-- what is expected at a quote: a string, or a fault
abbrev pub StringOutcome : Bool → List ℕ → ℕ → Type 0
StringOutcome m t i = ((j : ℕ) × ((b : List ℕ) × IsString m t i j b)) ⊎ ((s : Stop) × IsStringFault m t i s)

-- after some chars of a string
some_from : (m : Bool) (t : List ℕ) (i : ℕ) → byte t i ≡ 34 → (n k : ℕ) {b : List ℕ} → length t < k + n → AreChars m t (i + 1) k b → StringOutcome m t i
some_from m t i o zero k l h =
    let e = byte_after t k (omega arith) in
    inr (_, control_char h (omega arith) refl)
some_from m t i o (suc n) k {b} l h = elim (cases_lt (byte t k) 32) [
  | inl f ↦ inr (_, control_char h f refl)
  | inr f ↦ elim (cases_eq (byte t k) 34) [
    | inl e ↦ inl (k + 1, (b, record { close = k; opens = o; chars = h; closes = e; end = refl }))
    | inr e ↦ elim (cases_eq (byte t k) 92) [
      | inr g ↦ some_from m t i o n (k + 1) (omega arith) (one_more h (unescaped (f, e, g) refl refl) refl)
      | inl g ↦ elim (escape_some m t k g) [
        | inr (s, v) ↦ inr (s, in_escape h g v)
        | inl (q, (c, v)) ↦ (let w = char_longer v in some_from m t i o n q (omega arith) (one_more h v refl))
      ]
    ]
  ]
]

-- at a quote is a string or a fault
pub string_some : (m : Bool) (t : List ℕ) (i : ℕ) → byte t i ≡ 34 → StringOutcome m t i
string_some m t i o = some_from m t i o (suc (length t)) (i + 1) (omega arith) (no_char refl refl)
