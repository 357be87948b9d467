-- A word is at a place, or isn't, for one reason.
use Rattle.std.proofs.Common.{◌≡◌, ◌≢◌, ◌⊎◌, ℕ, zero, suc, ◌+◌, ◌<◌, ◌≤◌, inl, inr, length, arith, refl}
use Rattle.std.proofs.lemmas.Bool.{cases_lt, cases_eq, cases_order}
use Rattle.std.specs.Prelude.{List}
use Rattle.sonic_error.specs.declared.code.ErrorCode.TheVariants.{InvalidLiteral}
use Rattle.sonic_text.specs.declared.stop.Stop.{Stop}
use Rattle.sonic_text.specs.Places.{byte, stop_at}
use Rattle.sonic_text.specs.Literals.{Letters, IsLiteral, IsLiteralFault}

-- where the letter after n others is missing or differs, no more letters fit
letters_no_more : (word t : List ℕ) (i n m : ℕ) → n < m → (i + n < length t → byte t (i + n) ≢ byte word n) → Letters word t i m → ⊥
letters_no_more word t i n m l d h = d (omega arith) (h.1 n l)

-- a word that is somewhere has no fault there
pub literal_never_both : (word t : List ℕ) (i : ℕ) {j : ℕ} {s : Stop} → IsLiteral word t i j → IsLiteralFault word t i s → ⊥
literal_never_both word t i h f = letters_no_more word t i f.n (length word) f.shorter f.differs h.0

-- the same number of letters fits in two faults of one word
same_letters : {word t : List ℕ} {i : ℕ} {s r : Stop} (f : IsLiteralFault word t i s) (g : IsLiteralFault word t i r) → f.n ≡ g.n
same_letters {word} {t} {i} f g = elim (cases_order f.n g.n) [
  | inl e ↦ e
  | inr (inl l) ↦ absurd (letters_no_more word t i f.n g.n l f.differs g.letters)
  | inr (inr l) ↦ absurd (letters_no_more word t i g.n f.n l g.differs f.letters)
]

-- a word has one fault at a place
pub literal_fault_one : {word t : List ℕ} {i : ℕ} {s r : Stop} → IsLiteralFault word t i s → IsLiteralFault word t i r → s ≡ r
literal_fault_one {t = t} {i} f g =
    let e = same_letters f g in
    let p : stop_at t (i + f.n) InvalidLiteral ≡ stop_at t (i + g.n) InvalidLiteral = rw e in
    cc (f.stop, g.stop)

-- one more letter fits
one_more : (word t : List ℕ) (i n : ℕ) → Letters word t i n → i + n < length t → byte t (i + n) ≡ byte word n → Letters word t i (suc n)
one_more word t i n h l e = (omega arith, λ k m. elim (cases_lt k n) [ inl o ↦ h.1 k o | inr o ↦ let q : k ≡ n = omega arith in rw q e ])

-- a word of which n letters fit is there, or has a fault
literal_from : (word t : List ℕ) (i : ℕ) (m n : ℕ) → n + m ≡ length word → Letters word t i n
    → ((j : ℕ) × IsLiteral word t i j) ⊎ ((s : Stop) × IsLiteralFault word t i s)
literal_from word t i zero n e h =
    let q : n ≡ length word = omega arith in
    inl (i + length word, (rw q at h, refl))
literal_from word t i (suc m) n e h = elim (cases_lt (i + n) (length t)) [
  | inr l ↦
      let d : i + n < length t → byte t (i + n) ≢ byte word n = λ o. absurd (omega arith) in
      inr (stop_at t (i + n) InvalidLiteral, record { n = n; shorter = omega arith; letters = h; differs = d; stop = refl })
  | inl l ↦ elim (cases_eq (byte t (i + n)) (byte word n)) [
    | inr d ↦ inr (stop_at t (i + n) InvalidLiteral, record { n = n; shorter = omega arith; letters = h; differs = λ o. d; stop = refl })
    | inl d ↦ literal_from word t i m (suc n) (omega arith) (one_more word t i n h l d)
  ]
]

-- each word is at a place of a text or has a fault there
pub literal_some : (word t : List ℕ) (i : ℕ) → i ≤ length t → ((j : ℕ) × IsLiteral word t i j) ⊎ ((s : Stop) × IsLiteralFault word t i s)
literal_some word t i l =
    let e : 0 + length word ≡ length word = omega arith in
    literal_from word t i (length word) 0 e (omega arith, λ k h. absurd (omega arith))
