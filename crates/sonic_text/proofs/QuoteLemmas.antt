-- The table of escapes is held against what each byte is quoted as, by computing.
use Rattle.std.proofs.Common.{◌≡◌, ◌∙◌, Some, ℕ, zero, suc, ◌+◌, ◌-◌, ◌++◌, drop, ap, ◌<◌, ◌≤◌, Bool, true, false, ◌&&◌, nat_eq, List, [], ◌∷◌, take, length, get_or, ◌*◌, arith, inl, inr, refl}
use Rattle.std.proofs.lemmas.Bool.{cases_eq, cases_Bool, and_parts, eqb-true}
use Rattle.std.proofs.lemmas.Bool.Decides.{nat_tests}
use Rattle.std.proofs.lemmas.Grind.{flat_map-append}
use Rattle.std.proofs.lemmas.List.{length-append, append-nil, append_assoc, drop-drop}
use Rattle.std.proofs.lemmas.Option.{slice_get-get_or}
use Rattle.std.proofs.Math.Seq.{take-add, take-suc, take-append_seam}
use Rattle.std.specs.Prelude.{replicate, slice_get}
use Rattle.std.specs.List.{prefix_len, slice_range}
use Rattle.sonic_text.specs.Places.{byte}
use Rattle.sonic_blocks.specs.Runs.{is_plain}
use Rattle.sonic_text.specs.Quoting.{quoted_byte, digit, quoted_bytes, quote_entry}
use Rattle.sonic_text.specs.declared.quote.TheConstants.{QUOTE_TAB}

-- two lists of numbers are the same
unfoldable pub same : List ℕ → List ℕ → Bool
same [] [] = true
same [] (y ∷ ys) = false
same (x ∷ xs) [] = false
same (x ∷ xs) (y ∷ ys) = nat_eq x y && same xs ys

same_equal : (xs ys : List ℕ) → same xs ys ≡ true → xs ≡ ys
unfolding same
same_equal [] [] e = refl
same_equal [] (y ∷ ys) e = absurd cc
same_equal (x ∷ xs) [] e = absurd cc
same_equal (x ∷ xs) (y ∷ ys) e =
    let both = and_parts (nat_eq x y) (same xs ys) e in
    rw (eqb-true x y both.0, same_equal xs ys both.1) refl

-- the entry is the byte's
abbrev entry_is : ℕ × List ℕ → ℕ → Bool
entry_is entry b = nat_eq entry.0 (quote_entry b).0 && same entry.1 (quote_entry b).1

-- so is each below n
unfoldable pub entries_are : (ℕ → ℕ × List ℕ) → ℕ → Bool
entries_are f zero = true
entries_are f (suc n) = entry_is (f n) n && entries_are f n

-- two pairs are the same whose parts are
pair_equal : (p q : ℕ × List ℕ) → p.0 ≡ q.0 → p.1 ≡ q.1 → p ≡ q
pair_equal (a, xs) (b, ys) e f = cc (e, f)

-- the entry that passes is the one that the byte has
entry_equal : (entry : ℕ × List ℕ) (b : ℕ) → entry_is entry b ≡ true → entry ≡ quote_entry b
entry_equal entry b h =
    let both = and_parts (nat_eq entry.0 (quote_entry b).0) (same entry.1 (quote_entry b).1) h in
    pair_equal entry (quote_entry b) (eqb-true entry.0 (quote_entry b).0 both.0) (same_equal entry.1 (quote_entry b).1 both.1)

entry_at : (f : ℕ → ℕ × List ℕ) (n : ℕ) → entries_are f n ≡ true → (b : ℕ) → b < n → f b ≡ quote_entry b
unfolding entries_are
entry_at f zero h b l = absurd (omega arith)
entry_at f (suc n) h b l =
    let both = and_parts (entry_is (f n) n) (entries_are f n) h in
    elim (cases_eq b n) [ inl is ↦ rw is (entry_equal (f n) n both.0) | inr other ↦ entry_at f n both.1 b (omega arith) ]

-- so the table has the entry of each byte
pub table_entry : (b : ℕ) → b < 256 → get_or QUOTE_TAB b (0, []) ≡ quote_entry b
unfolding entries_are same quote_entry quoted_byte digit
table_entry b l = entry_at (λ k. get_or QUOTE_TAB k (0, [])) 256 refl b l

pub entries_stand : (b : ℕ) → b < 256 → slice_get QUOTE_TAB b ≡ Some (quote_entry b)
entries_stand b l = slice_get-get_or QUOTE_TAB b (0, []) l ∙ ap Some (table_entry b l)

-- an escape has six bytes at most
pub quoted_short : (b : ℕ) → length (quoted_byte b) ≤ 6
unfolding quoted_byte
quoted_short b = grind (arith, nat_tests)

-- so a byte that isn't plain has what it is quoted as, of six bytes at most
pub table_right : (b : ℕ) → b < 256 → is_plain b ≡ false → (take (get_or QUOTE_TAB b (0, [])).0 (get_or QUOTE_TAB b (0, [])).1 ≡ quoted_byte b) × ((get_or QUOTE_TAB b (0, [])).0 ≤ 6)
unfolding quote_entry
table_right b l plain = rw (table_entry b l, plain) (take-append_seam (quoted_byte b) (replicate (8 - length (quoted_byte b)) 0), quoted_short b)

-- so the bytes between the quotes are at most six for each byte
pub contents_short : (b : List ℕ) → length (quoted_bytes b) ≤ 6 * length b
contents_short [] = omega arith
contents_short (x ∷ xs) = omega (arith, length-append (quoted_byte x) (quoted_bytes xs), quoted_short x, contents_short xs)

-- plain bytes stand for themselves
plain_kept : (b : ℕ) → is_plain b ≡ true → quoted_byte b ≡ b ∷ []
unfolding quoted_byte
plain_kept b plain = grind (arith, nat_tests)

-- and so does a run of them
plain_prefix : (b : List ℕ) → quoted_bytes (take (prefix_len is_plain b) b) ≡ take (prefix_len is_plain b) b
plain_prefix [] = refl
plain_prefix (x ∷ xs) = elim (cases_Bool (is_plain x)) [
  | inl plain ↦ (
      let n = prefix_len is_plain xs in
      let more : 1 + n ≡ suc n = omega arith in
      let rest : quoted_bytes (take n xs) ≡ take n xs = plain_prefix xs in
      let both : quoted_bytes (x ∷ take n xs) ≡ x ∷ take n xs = rw (plain_kept x plain) (ap (λ r. x ∷ r) rest) in
      rw (plain, more) both
      )
  | inr special ↦ rw special refl
]

-- a run of plain bytes is passed
pub run_quoted : (t : List ℕ) (i e : ℕ) → e ≡ i + prefix_len is_plain (drop i t) → quoted_bytes (take e t) ≡ quoted_bytes (take i t) ++ slice_range t i e
run_quoted t i e is =
    let n = prefix_len is_plain (drop i t) in
    let count : e - i ≡ n = omega (arith, is) in
    rw (count, is, take-add i n t, flat_map-append quoted_byte (take i t) (take n (drop i t)), plain_prefix (drop i t)) refl

-- and so is one more byte
pub byte_quoted : (t : List ℕ) (e : ℕ) → e < length t → quoted_bytes (take (e + 1) t) ≡ quoted_bytes (take e t) ++ quoted_byte (byte t e)
byte_quoted t e l =
    let more : e + 1 ≡ suc e = omega arith in
    rw (more, take-suc t e 0 l, flat_map-append quoted_byte (take e t) (byte t e ∷ []), append-nil (quoted_byte (byte t e))) refl

-- what is written then, after a run and after one more byte
pub run_written : (t : List ℕ) (i e : ℕ) (done before : List ℕ) → e ≡ i + prefix_len is_plain (drop i t) → done ≡ before ++ quoted_bytes (take i t)
    → done ++ slice_range t i e ≡ before ++ quoted_bytes (take e t)
run_written t i e done before is h = rw (h, run_quoted t i e is) (append_assoc before (quoted_bytes (take i t)) (slice_range t i e))

pub byte_written : (t : List ℕ) (e : ℕ) (done before : List ℕ) → e < length t → done ≡ before ++ quoted_bytes (take e t)
    → done ++ quoted_byte (byte t e) ≡ before ++ quoted_bytes (take (e + 1) t)
byte_written t e done before l h = rw (h, byte_quoted t e l) (append_assoc before (quoted_bytes (take e t)) (quoted_byte (byte t e)))

-- what is the same from a place on is so from each later one
pub behind_later : (xs ys : List ℕ) (a b : ℕ) → a ≤ b → drop a xs ≡ drop a ys → drop b xs ≡ drop b ys
behind_later xs ys a b l e =
    let far : a + (b - a) ≡ b = omega (arith, l) in
    rw (← far, ← drop-drop (b - a) a xs, ← drop-drop (b - a) a ys, e) refl
