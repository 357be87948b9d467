-- What the fields of a `Read` denote.
use Rattle.std.specs.Prelude.{◌≡◌, ◌≢◌, ℕ, ◌≤◌, true, false, length}
use Rattle.std.specs.Str.{IsUtf8}
use Rattle.sonic_input.specs.ReadStates.{ReadState, no_invalid, IsNextInvalid}
use Rattle.sonic_input.specs.Slices.{slice_bytes, is_shared}
use Rattle.sonic_input.specs.declared.read.Read.TheInside.{Inside}

-- the cursor that callers see
abbrev pub read_state_of : Inside → ReadState
read_state_of read = record {
  text = read.text.now;
  place = read.index;
  next_invalid = read.next_invalid_utf8;
  is_scanned = read.is_scanned;
  is_bytes = read.need_utf8_valid;
  is_shared = is_shared read.input;
}

-- the place and the invalid byte lie in the text, which is the input's, and which is UTF-8 unless it came as bytes; a scanned reader's byte is that from
-- some place on, and only bytes have an unscanned reader
pub record IsSoundRead (read : Inside) : Type 0 where
  pub place : read.index ≤ length read.text.now
  pub within : read.next_invalid_utf8 ≢ no_invalid → read.next_invalid_utf8 ≤ length read.text.now
  pub next_invalid : read.is_scanned ≡ true → (from : ℕ) × IsNextInvalid read.need_utf8_valid read.text.now from read.next_invalid_utf8
  pub unscanned : read.is_scanned ≡ false → (read.need_utf8_valid ≡ true) × (read.next_invalid_utf8 ≡ no_invalid)
  pub utf8 : read.need_utf8_valid ≡ false → IsUtf8 read.text.now
  pub input : slice_bytes read.input ≡ read.text.now
