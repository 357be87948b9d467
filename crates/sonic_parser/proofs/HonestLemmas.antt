-- The error of a fault is honest, and so is one that says nothing of the value.
use Rattle.std.proofs.Common.{◌≡◌, ◌≢◌, ◌∙◌, ℕ, ◌+◌, ◌≤◌, Bool, List, ◌++◌, length, arith, refl, sym}
use Rattle.std.proofs.lemmas.Bool.Decides.{nat_tests}
use Rattle.std.proofs.lemmas.List.{take-append-le}
use Rattle.sonic_error.specs.declared.code.ErrorCode.TheVariants.{EofWhileParsing, NoMemory}
use Rattle.sonic_error.specs.declared.error.Error.{Error}
use Rattle.sonic_error.specs.Errors.{error_code, error_offset, IsErrorAt, IsPlainError}
use Rattle.sonic_text.specs.declared.stop.Stop.{Stop}
use Rattle.sonic_text.specs.Places.{after_space}
use Rattle.sonic_text.specs.Values.{IsValue}
use Rattle.sonic_text.specs.Faults.{IsFault}
use Rattle.sonic_text.proofs.SameFaults.{fault_decides}
use Rattle.sonic_text.proofs.Stops.{stop_byte, value_stop}
use Rattle.sonic_text.proofs.ValueCompletions.{may_go_on}
use Rattle.sonic_text.proofs.Values.{value_fault_one, value_never_both}
use Rattle.sonic_parser.specs.Honest.{IsFinalFrom, IsOfValue, stop_of, IsHonest}

-- the error that reports a fault which isn't the end shows its stop
shows_stop : {m : Bool} {t : List ℕ} {i : ℕ} {s : Stop} {e : Error} → IsFault m t i s → s.code ≢ EofWhileParsing → IsErrorAt e s.code t s.place → stop_of e ≡ s
shows_stop {t = t} {s = s} {e} f c x =
    let within = stop_byte (value_stop f) c in
    let offset : error_offset e ≡ s.place = x.offset ∙ (grind (arith, nat_tests)) in
    rw (offset, x.code) refl

-- what holds of the stop holds of what is shown
of_shown : (P : Stop → Type 0) {r s : Stop} → r ≡ s → P s → P r
of_shown P e h = rw e h

-- a syntax error isn't the end of the input
of_value_goes : (e : Error) → IsOfValue (error_code e) → error_code e ≢ EofWhileParsing
of_value_goes e x z = absurd (let y = x.0 in cc)

-- the error that reports a fault is honest
pub honest_of_fault : {m : Bool} {t : List ℕ} {p : ℕ} {s : Stop} {e : Error} → p ≤ length t → IsFault m t (after_space t p) s → IsErrorAt e s.code t s.place
    → IsHonest m t p e
honest_of_fault {m} {t} {p} {s} {e} l f x = record {
  goes_on = λ c. may_go_on l f (sym x.code ∙ c);
  is_final = λ of.
      let c : s.code ≢ EofWhileParsing = λ z. of_value_goes e of (x.code ∙ z) in
      of_shown (IsFinalFrom m t p) (shows_stop f c x) (fault_decides p f c);
}

-- so is one that is neither the end of the input nor a syntax error of the value
pub honest_of_other : {m : Bool} {t : List ℕ} {p : ℕ} {e : Error} → error_code e ≢ EofWhileParsing → ¬ IsOfValue (error_code e) → IsHonest m t p e
honest_of_other c n = record { goes_on = λ z. absurd (c z); is_final = λ of. absurd (n of) }

-- as running out of memory
pub honest_of_memory : {m : Bool} {t : List ℕ} {p : ℕ} {e : Error} → IsPlainError e NoMemory → IsHonest m t p e
honest_of_memory {e = e} x = let code = x.code in honest_of_other (λ z. cc) (λ of. let y = of.0 in cc)

-- an honest error says the end only of a fault that may be the end
pub end_is_fault : {m : Bool} {t : List ℕ} {s : Stop} {e : Error} (p : ℕ) → IsFault m t (after_space t p) s → IsHonest m t p e → s.code ≢ EofWhileParsing
    → error_code e ≢ EofWhileParsing
end_is_fault {t = t} {s} p f h d c =
    let (w, some, x) = h.goes_on c in
    let within = stop_byte (value_stop f) d in
    value_never_both x (fault_decides p f d (t ++ w) (take-append-le (s.place + 1) t w (omega arith)))

-- and a syntax error of the value is the fault
pub shown_is_fault : {m : Bool} {t : List ℕ} {s : Stop} {e : Error} (p : ℕ) → IsFault m t (after_space t p) s → IsHonest m t p e → IsOfValue (error_code e)
    → stop_of e ≡ s
shown_is_fault {t = t} p f h of = value_fault_one (h.is_final of t refl) f

-- so of a value there is none
pub none_of_value : {m : Bool} {t : List ℕ} {j : ℕ} {e : Error} (p : ℕ) → IsValue m t (after_space t p) j → IsHonest m t p e → ¬ IsOfValue (error_code e)
none_of_value {t = t} p x h of = value_never_both x (h.is_final of t refl)
