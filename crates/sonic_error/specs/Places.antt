-- Where in a text something is wrong, and which bytes round it are shown.
use Rattle.std.specs.Prelude.{ℕ, zero, suc, ◌+◌, ◌-◌, min, Bool, not, ◌&&◌, ◌||◌, ◌==◌, List, length, take, slice_index, count_by, nat_le, nat_lt, if◌then◌else◌}
use Rattle.std.specs.List.{after_last}

-- the place, or the last byte's where the text ends before it
abbrev pub offset_of : List ℕ → ℕ → ℕ
offset_of text place = min place (length text - 1)

-- the byte ends a line
abbrev pub is_line_feed : ℕ → Bool
is_line_feed byte = byte == 10

-- the line of the place, from 1
abbrev pub line_of : List ℕ → ℕ → ℕ
line_of text place = 1 + count_by is_line_feed (take (offset_of text place) text)

-- the column of the place in its line, from 1, in bytes
abbrev pub column_of : List ℕ → ℕ → ℕ
column_of text place = 1 + length (after_last is_line_feed (take (offset_of text place) text))

-- the greatest number up to n that passes the test, or 0
abbrev pub greatest_up_to : (ℕ → Bool) → ℕ → ℕ
greatest_up_to passes zero = 0
greatest_up_to passes (suc n) = if passes (suc n) then suc n else greatest_up_to passes n

-- the least number from n up to the limit that passes the test, or the limit
abbrev pub least_from : (ℕ → Bool) → ℕ → ℕ → ℕ
least_from passes n limit = limit - greatest_up_to (λ left. passes (limit - left)) (limit - n)

-- the byte goes on with a character of UTF-8 that an earlier byte begins
abbrev pub is_continuation : ℕ → Bool
is_continuation byte = nat_le 0x80 byte && nat_lt byte 0xC0

-- what is shown may begin here: a character does, or the offset is far
abbrev pub may_start : List ℕ → ℕ → ℕ → Bool
may_start text offset start = not (is_continuation (slice_index text start)) || nat_lt 16 (offset - start)

-- what is shown may end here: the byte before it goes on with no character, or the offset is far
abbrev pub may_end : List ℕ → ℕ → ℕ → Bool
may_end text offset end = not (is_continuation (slice_index text (end - 1))) || nat_lt 16 (end - offset)

-- what is shown begins at the greatest such place at least 8 bytes before the offset, or with the text
abbrev pub fragment_start : List ℕ → ℕ → ℕ
fragment_start text offset = greatest_up_to (may_start text offset) (offset - 8)

-- what is shown ends at the least such place at least 8 bytes after the offset, or with the text
abbrev pub fragment_end : List ℕ → ℕ → ℕ
fragment_end text offset = least_from (may_end text offset) (offset + 8) (length text)
