-- The span of a value is UTF-8 where the text is, and so is the text up to its end.
use Rattle.std.proofs.Common.{◌≡◌, codes, ℕ, ◌+◌, ◌-◌, ◌<◌, List, length, arith, ◌≤◌, take, drop, add-zero}
use Rattle.std.proofs.lemmas.List.{length-take, get_or-take, drop-take, take-take}
use Rattle.std.proofs.lemmas.Str.{IsUtf8-between, IsUtf8-take, IsCharBoundary-after_ascii}
use Rattle.std.specs.Prelude.{slice_range}
use Rattle.std.specs.Str.{IsUtf8, IsCharBoundary}
use Rattle.sonic_text.proofs.Ascii.{number_ascii}
use Rattle.sonic_text.proofs.Numbers.{number_longer}
use Rattle.sonic_text.proofs.Within.{value_within}
use Rattle.sonic_text.proofs.Values.{value-longer, items_open}
use Rattle.sonic_text.specs.Literals.{IsLiteral}
use Rattle.sonic_text.specs.Places.{byte}
use Rattle.sonic_text.specs.Strings.{strict}
use Rattle.sonic_text.specs.Values.{IsValue, opening, closing}
use Rattle.sonic_text.specs.Values.IsValue.{null_literal, true_literal, false_literal, number, string, empty, filled}
use Rattle.sonic_text.specs.declared.kind.Kind.{Kind}
use Rattle.sonic_text.specs.declared.kind.Kind.TheVariants.{Array, Object}

-- the first and the last byte of a value are ASCII
abbrev AreEndsAscii : List ℕ → ℕ → ℕ → Type 0
AreEndsAscii t i j = (byte t i < 128) × (byte t (j - 1) < 128)

-- the ends of a word
word_ends : (word t : List ℕ) (i j : ℕ) → 0 < length word → byte word 0 < 128 → byte word (length word - 1) < 128 → IsLiteral word t i j → AreEndsAscii t i j
word_ends word t i j some first last h =
    let a : byte t (i + 0) ≡ byte word 0 = h.0.1 0 some in
    let b : byte t (i + (length word - 1)) ≡ byte word (length word - 1) = h.0.1 (length word - 1) (omega arith) in
    let q : i + (length word - 1) ≡ j - 1 = omega (arith, h.1) in
    let c : byte t i ≡ byte word 0 = rw add-zero at a in
    let d : byte t (j - 1) ≡ byte word (length word - 1) = rw q at b in
    (omega (arith, c), omega (arith, d))

-- the last byte, where it is the one at a place
last_at : (t : List ℕ) (q j b : ℕ) → j ≡ q + 1 → byte t q ≡ b → b < 128 → byte t (j - 1) < 128
last_at t q j b e c l = let p : j - 1 ≡ q = omega arith in rw (p, c) l

-- brackets are ASCII
bracket_ascii : (kind : Kind) → (opening kind < 128) × (closing kind < 128)
bracket_ascii Array = (omega arith, omega arith)
bracket_ascii Object = (omega arith, omega arith)

-- the ends of a value
value_ends : {t : List ℕ} {i j : ℕ} → IsValue strict t i j → AreEndsAscii t i j
value_ends {t} {i} {j} (null_literal h) = word_ends (codes "null") t i j (omega arith) (omega arith) (omega arith) h
value_ends {t} {i} {j} (true_literal h) = word_ends (codes "true") t i j (omega arith) (omega arith) (omega arith) h
value_ends {t} {i} {j} (false_literal h) = word_ends (codes "false") t i j (omega arith) (omega arith) (omega arith) h
value_ends {t} {i} {j} (number h) =
    let l = number_longer h in
    (number_ascii t i j h i (omega arith) l, number_ascii t i j h (j - 1) (omega arith) (omega arith))
value_ends {t} {i} {j} (string h) = (omega (arith, h.opens), last_at t h.close j 34 h.end h.closes (omega arith))
value_ends {t} {i} {j} (empty kind b c q) =
    let l = bracket_ascii kind in
    (omega arith, last_at t _ j (closing kind) q c l.1)
value_ends {t} {i} {j} (filled {kind} is y x c q) =
    let l = bracket_ascii kind in
    let b = items_open is in
    (omega arith, last_at t _ j (closing kind) q c l.1)

-- a part of UTF-8 text that begins and ends with ASCII bytes is UTF-8
utf8_between : (b : List ℕ) (i j : ℕ) → IsUtf8 b → i < j → j ≤ length b → byte b i < 128 → byte b (j - 1) < 128 → IsUtf8 (slice_range b i j)
utf8_between b i j u l within first last =
    let after : IsCharBoundary b (j - 1 + 1) = IsCharBoundary-after_ascii b (j - 1) u (omega arith) last in
    let p : j - 1 + 1 ≡ j = omega arith in
    IsUtf8-between b i j u (omega arith) (omega arith, λ m h. absurd (omega arith)) (rw p at after)

-- a part of a prefix is one of the whole
part_of_prefix : (t : List ℕ) (r i j : ℕ) → i ≤ j → j ≤ r → slice_range (take r t) i j ≡ slice_range t i j
part_of_prefix t r i j l h =
    let e : i + (r - i) ≡ r = omega arith in
    let f : drop i (take (i + (r - i)) t) ≡ take (r - i) (drop i t) = drop-take i (r - i) t in
    let d : drop i (take r t) ≡ take (r - i) (drop i t) = rw e at f in
    rw d (take-take (j - i) (r - i) (drop i t) (omega arith))

-- the span of a value is UTF-8 where a prefix of the text is that it lies in
pub utf8_of_span : {t : List ℕ} {i j : ℕ} (r : ℕ) → IsUtf8 (take r t) → IsValue strict t i j → j ≤ r → j ≤ length t → IsUtf8 (slice_range t i j)
utf8_of_span {t} {i} {j} r u x h within =
    let l = value-longer x in
    let ends = value_ends x in
    let long : j ≤ length (take r t) = omega (arith, length-take r t) in
    let a : byte (take r t) i ≡ byte t i = get_or-take r t i 0 (omega arith) in
    let b : byte (take r t) (j - 1) ≡ byte t (j - 1) = get_or-take r t (j - 1) 0 (omega arith) in
    let part : IsUtf8 (slice_range (take r t) i j) = utf8_between (take r t) i j u l long (omega (arith, a, ends.0)) (omega (arith, b, ends.1)) in
    let same : slice_range (take r t) i j ≡ slice_range t i j = part_of_prefix t r i j (omega arith) h in
    rw (← same) part

-- and up to the end of a value the text is UTF-8 where a longer prefix is
pub utf8_up_to : {t : List ℕ} {i j : ℕ} (r : ℕ) → IsUtf8 (take r t) → IsValue strict t i j → j ≤ r → IsUtf8 (take j t)
utf8_up_to {t} {i} {j} r u x h =
    let l = value-longer x in
    let within = value_within x in
    let ends = value_ends x in
    let last : byte (take r t) (j - 1) ≡ byte t (j - 1) = get_or-take r t (j - 1) 0 (omega arith) in
    let long : j ≤ length (take r t) = omega (arith, length-take r t) in
    let after : IsCharBoundary (take r t) (j - 1 + 1) = IsCharBoundary-after_ascii (take r t) (j - 1) u (omega arith) (omega (arith, last, ends.1)) in
    let p : j - 1 + 1 ≡ j = omega arith in
    rw (take-take j r t h) at (IsUtf8-take (take r t) j u (rw p at after))
