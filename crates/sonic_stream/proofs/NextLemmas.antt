-- Each stream has one next answer, and is one stream afterwards.
use Rattle.std.proofs.Common.{◌≡◌, ◌≢◌, ℕ, ◌+◌, ◌<◌, ◌++◌, inl, inr, List, true, length, arith, refl}
use Rattle.std.proofs.lemmas.List.{take-append-le}
use Rattle.sonic_parser.specs.Honest.{MayGoOnFrom}
use Rattle.sonic_text.specs.declared.stop.Stop.{Stop}
use Rattle.sonic_text.specs.Strings.{strict}
use Rattle.sonic_text.specs.Values.{IsValue}
use Rattle.sonic_text.proofs.Stops.{stop_at_from, value_stop}
use Rattle.sonic_text.proofs.Values.{value-longer, value_end_one, value_fault_one, value_never_both}
use Rattle.sonic_text.proofs.Within.{value_within}
use Rattle.sonic_stream.specs.Streams.{Stream, start_of, IsRecord, IsNeverOne, IsWrong, IsPastLine, IsLineFeed, MayBecomeOne, IsNextRecord}
use Rattle.sonic_stream.specs.Streams.IsSettled.{by_end}
use Rattle.sonic_stream.specs.Streams.IsWrong.{at_fault, at_end}
use Rattle.sonic_stream.specs.Streams.IsPastLine.{with_line_feed, so_far}
use Rattle.sonic_stream.specs.Streams.IsNextRecord.{whole, needs_more, wrong, cut, end}
use Rattle.sonic_stream.specs.declared.stream.NextRecord.{NextRecord}
use Rattle.sonic_stream.specs.declared.stream.NextRecord.TheVariants.{Record, Wrong}

-- a record that is there ends at one place
record_end_one : (s : Stream) {j k : ℕ} → IsRecord s.held s.is_ended s.next j → IsRecord s.held s.is_ended s.next k → j ≡ k
record_end_one s a b = value_end_one a.value b.value

-- a record begins before the end of what is held
record_starts : (s : Stream) {j : ℕ} → IsRecord s.held s.is_ended s.next j → start_of s < length s.held
record_starts s a = omega (arith, value-longer a.value, value_within a.value)

-- what some continuation makes a whole value isn't dropped as wrong
goes_on_not_wrong : (s : Stream) (stop : Stop) → stop.place < length s.held → MayGoOnFrom strict s.held s.next → ¬ IsNeverOne s stop
goes_on_not_wrong s stop l m n =
    let w = m.0 in
    n (s.held ++ w) true (length (s.held ++ w)) (take-append-le (stop.place + 1) s.held w (omega arith)) (record { value = m.2; settled = by_end refl refl })

-- nor is what ends with a value
ends_not_wrong : (s : Stream) (stop : Stop) → IsValue strict s.held (start_of s) (length s.held) → ¬ IsNeverOne s stop
ends_not_wrong s stop v n = n s.held true (length s.held) refl (record { value = v; settled = by_end refl refl })

-- so what may become a record isn't
may_not_wrong : (s : Stream) (stop : Stop) → stop.place < length s.held → MayBecomeOne s → ¬ IsNeverOne s stop
may_not_wrong s stop l (inl m) n = goes_on_not_wrong s stop l m n
may_not_wrong s stop l (inr v) n = ends_not_wrong s stop v n

-- stops at one place for one reason are one
stop_same : {a b : Stop} → a.place ≡ b.place → a.code ≡ b.code → a ≡ b
stop_same {a} {b} e f =
    let same : record { place = a.place; code = a.code } ≡ (record { place = b.place; code = b.code }) = rw (e, f) refl in
    same

-- what is wrong has one stop
wrong_stop_one : {s : Stream} {a b : Stop} → IsWrong s a → IsWrong s b → a ≡ b
wrong_stop_one (at_fault f) (at_fault g) = value_fault_one f g
wrong_stop_one (at_fault f) (at_end v c) = absurd (value_never_both v f)
wrong_stop_one (at_end v c) (at_fault f) = absurd (value_never_both v f)
wrong_stop_one {a = a} {b} (at_end v c) (at_end w d) = let e : a.place ≡ b.place = value_end_one v w in let f : a.code ≡ b.code = cc in stop_same e f

-- where something is wrong more than white space is left
wrong_starts : {s : Stream} {stop : Stop} → stop.place < length s.held → IsWrong s stop → start_of s ≢ length s.held
wrong_starts {s} {stop} l (at_fault f) e =
    let h = value_stop f in
    omega (arith, stop_at_from s.held h.place h.code stop h.is h.later (omega arith))
wrong_starts l (at_end v c) e = omega (arith, value-longer v)

-- the first line feed is at one place
line_feed_one : {t : List ℕ} {p d e : ℕ} → IsLineFeed t p d → IsLineFeed t p e → d ≡ e
line_feed_one x y = grind (arith, x.later, y.later, x.is, y.is, x.first, y.first)

-- the rest of a line is dropped in one way
past_line_one : {s : Stream} {p : ℕ} {a b : Stream} → IsPastLine s p a → IsPastLine s p b → a ≡ b
past_line_one (with_line_feed x e) (with_line_feed y f) = let d = line_feed_one x y in cc
past_line_one (with_line_feed {e = k} x e) (so_far n f) = absurd (n k x.later x.within x.is)
past_line_one (so_far n f) (with_line_feed {e = k} x e) = absurd (n k x.later x.within x.is)
past_line_one (so_far m e) (so_far n f) = cc

-- a record that is there is the one answer
whole_one : {s a b : Stream} {j : ℕ} {y : NextRecord} → IsRecord s.held s.is_ended s.next j → a ≡ record s { next = j } → IsNextRecord s b y → (Record (start_of s) j ≡ y) × (a ≡ b)
whole_one {s} r e (whole q f) = let o = record_end_one s r q in (cc, cc)
whole_one r e (needs_more n h m f) = absurd (h _ r)
whole_one {s} {j = j} r e (wrong l w n p) = absurd (n s.held s.is_ended j refl r)
whole_one r e (cut n h m l f) = absurd (h _ r)
whole_one {s} r e (end n o f) = absurd (omega (arith, record_starts s r))

-- two things wrong are one
wrong_one : {s a b : Stream} {stop : Stop} {y : NextRecord} → stop.place < length s.held → IsWrong s stop → IsNeverOne s stop → IsPastLine s stop.place a → IsNextRecord s b y
    → (Wrong (s.before + stop.place) stop.code ≡ y) × (a ≡ b)
wrong_one {s} l w n p (whole {end = j} r f) = absurd (n s.held s.is_ended j refl r)
wrong_one {s} {stop = stop} l w n p (needs_more x h m f) = absurd (may_not_wrong s stop l m n)
wrong_one {s} l w n p (wrong k v m q) = let o = wrong_stop_one w v in (rw o refl, past_line_one (rw o at p) q)
wrong_one {s} {stop = stop} l w n p (cut x h m k f) = absurd (goes_on_not_wrong s stop l m n)
wrong_one {s} l w n p (end x o f) = absurd (wrong_starts l w o)

-- the next answer and the stream afterwards
pub next_one : {s a b : Stream} {x y : NextRecord} → IsNextRecord s a x → IsNextRecord s b y → (x ≡ y) × (a ≡ b)
next_one (whole r e) g = whole_one r e g
next_one (wrong l w n p) g = wrong_one l w n p g
next_one f (whole r e) = let o = whole_one r e f in (cc, cc)
next_one f (wrong l w n p) = let o = wrong_one l w n p f in (cc, cc)
next_one (needs_more n h m e) (needs_more o i k f) = (refl, cc)
next_one (needs_more n h m e) (cut o i k l f) = absurd cc
next_one (needs_more n h m e) (end o i f) = absurd cc
next_one (cut n h m l e) (needs_more o i k f) = absurd cc
next_one (cut n h m l e) (cut o i k q f) = (refl, cc)
next_one (cut n h m l e) (end o i f) = absurd (omega arith)
next_one (end n h e) (needs_more o i f g) = absurd cc
next_one (end n h e) (cut o i k l f) = absurd (omega arith)
next_one (end n h e) (end o i f) = (refl, cc)
