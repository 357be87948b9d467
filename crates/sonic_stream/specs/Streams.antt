-- A stream of records that comes in pieces: values (RFC 8259), each of which ends by itself or by white space.
use Rattle.std.specs.Prelude.{◌≡◌, ◌≢◌, ℕ, ◌+◌, ◌<◌, ◌≤◌, ◌⊎◌, Bool, true, false, List, ◌++◌, length, take, slice_range, IsTrue, IsFalse}
use Rattle.sonic_error.specs.declared.code.ErrorCode.TheVariants.{TrailingCharacters}
use Rattle.sonic_text.specs.declared.stop.Stop.{Stop}
use Rattle.sonic_text.specs.Faults.{IsFault}
use Rattle.sonic_text.specs.Places.{byte, after_space, is_space}
use Rattle.sonic_text.specs.Strings.{strict}
use Rattle.sonic_text.specs.Values.{IsValue}
use Rattle.sonic_parser.specs.Honest.{MayGoOnFrom}
use Rattle.sonic_stream.specs.declared.stream.NextRecord.{NextRecord}
use Rattle.sonic_stream.specs.declared.stream.NextRecord.TheVariants.{Record, NeedsMore, Wrong, Cut, End}

-- the bytes that are held, the place of the next record in them, how many bytes of the stream came before them, whether the rest of a wrong record's
-- line is still to come, and whether the stream has ended
pub record Stream : Type 0 where
  pub held : List ℕ
  pub next : ℕ
  pub before : ℕ
  pub is_skipping : Bool
  pub is_ended : Bool

-- the place where the next record begins
abbrev pub start_of : Stream → ℕ
start_of s = after_space s.held s.next

-- a string, an array or an object begins with this byte: its last byte shows its end
abbrev pub ShowsItsEnd : ℕ → Type 0
ShowsItsEnd b = (b ≡ 34) ⊎ (b ≡ 91) ⊎ (b ≡ 123)

-- the value from i to j ends there whatever comes: it shows its end, white space follows, or the stream has ended
pub data IsSettled (t : List ℕ) (is_ended : Bool) (i j : ℕ) : Type 0 where
  by_itself : ShowsItsEnd (byte t i) → IsSettled t is_ended i j
  by_space : IsTrue (is_space (byte t j)) → IsSettled t is_ended i j
  by_end : IsTrue is_ended → j ≡ length t → IsSettled t is_ended i j

-- after white space from p on is a record, which ends at j
pub record IsRecord (t : List ℕ) (is_ended : Bool) (p j : ℕ) : Type 0 where
  pub value : IsValue strict t (after_space t p) j
  pub settled : IsSettled t is_ended (after_space t p) j

-- no text with the same bytes up to the stop, and with its byte, has a record there, however it goes on
abbrev pub IsNeverOne : Stream → Stop → Type 0
IsNeverOne s stop = (u : List ℕ) (is_ended : Bool) (j : ℕ) → take (stop.place + 1) u ≡ take (stop.place + 1) s.held → ¬ IsRecord u is_ended s.next j

-- what is wrong: the value has a fault, or what follows a number or a literal is neither white space nor the end
pub data IsWrong (s : Stream) (stop : Stop) : Type 0 where
  at_fault : IsFault strict s.held (start_of s) stop → IsWrong s stop
  at_end : IsValue strict s.held (start_of s) stop.place → stop.code ≡ TrailingCharacters → IsWrong s stop

-- no line feed is from p up to e
abbrev pub NoLineFeed : List ℕ → ℕ → ℕ → Type 0
NoLineFeed t p e = (k : ℕ) → p ≤ k → k < e → byte t k ≢ 10

-- the first line feed from p on is at e
pub record IsLineFeed (t : List ℕ) (p e : ℕ) : Type 0 where
  pub later : p ≤ e
  pub within : e < length t
  pub is : byte t e ≡ 10
  pub first : NoLineFeed t p e

-- the rest of the line from p on is dropped, with its line feed, or as much of it as is held
pub data IsPastLine (s : Stream) (p : ℕ) (now : Stream) : Type 0 where
  with_line_feed : {e : ℕ} → IsLineFeed s.held p e → now ≡ record s { next = e + 1; is_skipping = false } → IsPastLine s p now
  so_far : NoLineFeed s.held p (length s.held) → now ≡ record s { next = length s.held; is_skipping = true } → IsPastLine s p now

-- no record is there
abbrev pub HasNoRecord : Stream → Type 0
HasNoRecord s = (j : ℕ) → ¬ IsRecord s.held s.is_ended s.next j

-- bytes are missing: some continuation makes a whole value, or what is held ends with a value
abbrev pub MayBecomeOne : Stream → Type 0
MayBecomeOne s = MayGoOnFrom strict s.held s.next ⊎ IsValue strict s.held (start_of s) (length s.held)

-- what `next` answers, and what is held afterwards
pub data IsNextRecord (s now : Stream) : NextRecord → Type 0 where
  whole : {end : ℕ} → IsRecord s.held s.is_ended s.next end → now ≡ record s { next = end } → IsNextRecord s now (Record (start_of s) end)
  needs_more : IsFalse s.is_ended → HasNoRecord s → MayBecomeOne s → now ≡ s → IsNextRecord s now NeedsMore
  wrong : {stop : Stop} → stop.place < length s.held → IsWrong s stop → IsNeverOne s stop → IsPastLine s stop.place now → IsNextRecord s now (Wrong (s.before + stop.place) stop.code)
  cut : IsTrue s.is_ended → HasNoRecord s → MayGoOnFrom strict s.held s.next → start_of s < length s.held → now ≡ record s { next = length s.held } → IsNextRecord s now Cut
  end : IsTrue s.is_ended → start_of s ≡ length s.held → now ≡ s → IsNextRecord s now End

-- a piece of the stream after the bytes that are left of what was held
abbrev pub with_piece : Stream → List ℕ → Stream
with_piece s piece = record { held = slice_range s.held s.next (length s.held) ++ piece; next = 0; before = s.before + s.next; is_skipping = s.is_skipping; is_ended = false }

-- a piece came: where the rest of a wrong record's line is still to come, it is dropped
pub data IsAdded (s : Stream) (piece : List ℕ) (now : Stream) : Type 0 where
  kept : IsFalse s.is_skipping → now ≡ with_piece s piece → IsAdded s piece now
  dropped : IsTrue s.is_skipping → IsPastLine (with_piece s piece) 0 now → IsAdded s piece now
