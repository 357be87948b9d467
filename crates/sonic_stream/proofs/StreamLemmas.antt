-- What is said of a record holds of every continuation of the stream.
use Rattle.std.proofs.Common.{◌≡◌, ◌≢◌, ◌∙◌, ℕ, ◌+◌, ◌-◌, ◌<◌, ◌≤◌, Bool, true, false, List, length, arith, refl, sym}
use Rattle.std.specs.Prelude.{slice_range, Some, None}
use Rattle.memchr.specs.Find.{is_byte, IsFirstByte}
use Rattle.std.proofs.lemmas.Bool.Decides.{nat_tests}
use Rattle.sonic_error.specs.declared.code.ErrorCode.TheVariants.{EofWhileParsing}
use Rattle.sonic_error.specs.declared.error.Error.{Error}
use Rattle.sonic_error.specs.Errors.{error_code, error_offset, IsErrorAt}
use Rattle.sonic_parser.specs.Honest.{stop_of}
use Rattle.sonic_text.specs.declared.stop.Stop.{Stop}
use Rattle.sonic_text.specs.Faults.{IsFault}
use Rattle.sonic_text.specs.Places.{byte, after_space}
use Rattle.sonic_text.specs.Strings.{strict}
use Rattle.sonic_text.specs.Values.{IsValue}
use Rattle.sonic_text.proofs.Parts.{part_is, part_length}
use Rattle.sonic_text.proofs.Same.{Same, same_prefix, same_byte, agree_at, space_before}
use Rattle.sonic_text.proofs.SameValues.{value_same}
use Rattle.sonic_text.proofs.SameFaults.{fault_decides}
use Rattle.sonic_text.proofs.Stops.{stop_byte, value_stop}
use Rattle.sonic_text.proofs.Within.{value_within}
use Rattle.sonic_text.proofs.Values.{value-longer, value_end_one, value_never_both}
use Rattle.sonic_parser.specs.Parsers.{ParserState, value_start, IsSkipped}
use Rattle.sonic_parser.specs.declared.status.ParseStatus.{ParseStatus}
use Rattle.sonic_stream.specs.Streams.{Stream, start_of, HasNoRecord, IsSettled, IsNeverOne, IsLineFeed, NoLineFeed}
use Rattle.sonic_stream.specs.Streams.IsSettled.{by_itself, by_space, by_end}

-- a fault that isn't the end of the input is within what is held
pub fault_within : (s : Stream) {stop : Stop} → IsFault strict s.held (start_of s) stop → stop.code ≢ EofWhileParsing → stop.place < length s.held
fault_within s f c = (stop_byte (value_stop f) c).1

-- and no continuation makes it whole
pub fault_never : (s : Stream) {stop : Stop} → IsFault strict s.held (start_of s) stop → stop.code ≢ EofWhileParsing → IsNeverOne s stop
fault_never s {stop} f c = λ u is_ended j e x.
    value_never_both x.value (fault_decides s.next f c u e)

-- what isn't settled at the end of the text has more to come
pub more_to_come : {t : List ℕ} {i : ℕ} (is_ended : Bool) → ¬ IsSettled t is_ended i (length t) → is_ended ≡ false
more_to_come true n = absurd (n (by_end refl refl))
more_to_come false n = refl

-- where the one value that is there isn't settled no record is
pub unsettled_none : (s : Stream) {j : ℕ} → IsValue strict s.held (start_of s) j → ¬ IsSettled s.held s.is_ended (start_of s) j → HasNoRecord s
unsettled_none s x n = λ k r.
    let one = value_end_one r.value x in
    n (rw one at r.settled)

-- where it isn't settled, though a byte follows, no continuation settles it
pub unsettled_never : (s : Stream) (stop : Stop) → IsValue strict s.held (start_of s) stop.place → stop.place < length s.held
    → ¬ IsSettled s.held s.is_ended (start_of s) stop.place → IsNeverOne s stop
unsettled_never s stop x l n = λ u is_ended j e r.
    let i = start_of s in
    let p = stop.place in
    let h : Same s.held u (p + 1) = same_prefix s.held u (p + 1) (omega arith) e in
    let o : i < p = value-longer x in
    let from : after_space u s.next ≡ i = space_before s.next h (omega arith) in
    let there : IsValue strict u i p = value_same (agree_at h p p (omega arith) (omega arith)) (omega arith) x in
    let one : j ≡ p = value_end_one (rw from at r.value) there in
    elim (rw (from, one) at r.settled) [
      | by_itself z ↦ n (by_itself (rw (same_byte h i (omega arith)) at z))
      | by_space z ↦ n (by_space (rw (same_byte h p (omega arith)) at z))
      | by_end z q ↦ let m = h.reach_u in omega arith
    ]

-- a byte of the rest of a text
rest_byte : (t : List ℕ) (p k : ℕ) → p ≤ k → k < length t → byte (slice_range t p (length t)) (k - p) ≡ byte t k
rest_byte t p k a b =
    let n = part_length t p (length t) (omega arith) (omega arith) in
    (part_is t p (length t) (omega arith) (omega arith)).bytes k (k - p) (omega arith) (omega arith)

-- the first line feed of the rest is the first from its place on
pub line_feed_there : (t : List ℕ) (p n : ℕ) → p ≤ length t → IsFirstByte (is_byte 10) (slice_range t p (length t)) (Some n) → IsLineFeed t p (p + n)
line_feed_there t p n l h =
    let e = part_length t p (length t) l (omega arith) in
    let o = h.0.high in
    let back : p + n - p ≡ n = omega arith in
    let at = rest_byte t p (p + n) (omega arith) (omega arith) in
    record {
      later = omega arith;
      within = omega arith;
      is = sym at ∙ (rw back (grind (arith, nat_tests, h.1)));
      first = λ k a b z. h.0.before (k - p) (omega arith) (omega arith) (rw (rest_byte t p k a (omega arith), z) refl);
    }

-- and where the rest has none there is none
pub no_line_feed_there : (t : List ℕ) (p : ℕ) → p ≤ length t → IsFirstByte (is_byte 10) (slice_range t p (length t)) None → NoLineFeed t p (length t)
no_line_feed_there t p l h = λ k a b z.
    let e = part_length t p (length t) l (omega arith) in
    h (k - p) (omega arith) (omega arith) (rw (rest_byte t p k a b, z) refl)

-- a value that was skipped begins as many bytes before its end as its text has
pub skipped_from : {before now : ParserState} {bytes : List ℕ} {needs : ParseStatus} → IsSkipped before now bytes needs → now.place - length bytes ≡ value_start before
skipped_from {before} {now} x =
    let o = value-longer x.value in
    let n = part_length before.text (value_start before) now.place (omega arith) (value_within x.value) in
    rw x.span (omega arith)

-- an error that isn't the end of the input shows the stop of its fault
pub fault_shown : {m : Bool} {t : List ℕ} {i : ℕ} {stop : Stop} {e : Error} → IsFault m t i stop → IsErrorAt e stop.code t stop.place → error_code e ≢ EofWhileParsing
    → IsFault m t i (stop_of e)
fault_shown {t = t} {stop = stop} {e} f x n =
    let within = stop_byte (value_stop f) (λ z. n (x.code ∙ z)) in
    let offset : error_offset e ≡ stop.place = x.offset ∙ (grind (arith, nat_tests)) in
    let same_stop : stop_of e ≡ stop = rw (offset, x.code) refl in
    rw same_stop f
