-- The errors of an iterator are honest.
use Rattle.std.proofs.Common.{◌≡◌, inl, inr, ℕ, Bool, List, Result, Ok, Err, refl}
use Rattle.std.specs.Prelude.{Option, Some, None, IfSome, IfErr}
use Rattle.sonic_error.specs.Errors.{error_code, IsErrorAt}
use Rattle.sonic_error.specs.Texts.{valid_up_to}
use Rattle.sonic_error.specs.declared.code.ErrorCode.TheVariants.{InvalidUTF8}
use Rattle.sonic_error.specs.declared.error.Error.{Error}
use Rattle.sonic_text.specs.Faults.IsFault.{in_key, in_value}
use Rattle.sonic_text.specs.Strings.{strict}
use Rattle.sonic_text.specs.declared.kind.Kind.{Kind}
use Rattle.sonic_text.specs.declared.stop.Stop.{Stop}
use Rattle.sonic_parser.specs.Honest.{IsHonest}
use Rattle.sonic_find.proofs.HonestLemmas.{broken_other, of_other, of_root, other_stop}
use Rattle.sonic_parser.proofs.HonestLemmas.{honest_of_memory}
use Rattle.sonic_lazy.specs.Items.AreStopped.{no_container, no_item, no_separator, no_key, no_value}
use Rattle.sonic_lazy.specs.Items.EndsItems.{at_broken_text, at_bracket, at_stop}
use Rattle.sonic_lazy.specs.Items.{stop_with, stopped, AreStopped, EndsItems}
use Rattle.sonic_lazy.specs.Iterators.IsNextError.{out_of_memory as ran_out, no_next_item}
use Rattle.sonic_lazy.specs.Iterators.{IteratorState, IsNextError, IsNext, IsOwnCode, IsHonestNext}

-- why an iterator stops
of_stopped : {t : List ℕ} {kind : Kind} {n : ℕ} {s : Stop} {e : Error} → AreStopped t kind n s → IsErrorAt e s.code t s.place → ¬ IsOwnCode kind (error_code e)
    → IsHonest strict t 0 e
of_stopped (no_container n b is) x other = absurd (other (inl (rw (x.code, is) refl)))
of_stopped {n = n} (no_item r b is) x other = absurd (other (inr (inr (n, rw (x.code, is) refl))))
of_stopped (no_separator y n f is) x other = absurd (other (inr (inl (rw (x.code, is) refl))))
of_stopped (no_key k r b f) x other = of_root (in_key (rw k at r) f) x
of_stopped (no_value r b h f) x other = of_root (in_value r h f) x

-- or how its items end
of_ending : {t : List ℕ} {is_bytes : Bool} {kind : Kind} {n : ℕ} {s : Stop} {e : Error} → EndsItems t is_bytes kind n (stopped s) → IsErrorAt e s.code t s.place
    → ¬ IsOwnCode kind (error_code e) → IsHonest strict t 0 e
of_ending {t} {s = s} (at_broken_text b u n is) x other =
    let same : s ≡ stop_with (valid_up_to t) InvalidUTF8 = cc in
    of_other (other_stop same broken_other) x
of_ending (at_bracket u c is) x other = absurd cc
of_ending {t} {kind = kind} {n} {s} (at_stop {s = r} u h is) x other =
    let same : r ≡ s = cc in
    let stopped_so : AreStopped t kind n s = rw same at h in
    of_stopped stopped_so x other

pub honest_of_next : {it : IteratorState} {e : Error} → IsNextError it e → IsHonestNext it e
honest_of_next (ran_out x m) other = honest_of_memory x
honest_of_next (no_next_item h x) other = of_ending h x other

-- so is what a call gives
pub honest_next : {V : Type 0} {Shows : List ℕ → ℕ → V → Type 0} {before now : IteratorState} (result : Option (Result V Error)) → IsNext Shows before now result
    → IfSome result (λ r. IfErr r (IsHonestNext before))
honest_next None x = tt
honest_next (Some (Ok item)) x = tt
honest_next (Some (Err e)) x = honest_of_next x.error.error
