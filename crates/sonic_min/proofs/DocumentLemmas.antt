-- The texts of a valid document's spelling are valid documents, and mean the same.
use Rattle.std.proofs.Common.{◌≡◌, ◌∙◌, inl, inr, ℕ, ◌+◌, ◌<◌, true, List, [], ◌∷◌, ◌++◌, length, take, arith, refl, sym}
use Rattle.std.proofs.lemmas.Bool.{cases_lt}
use Rattle.std.proofs.lemmas.Bool.Decides.{nat_tests}
use Rattle.std.proofs.lemmas.Str.{IsUtf8-append, IsUtf8-from_ascii, IsUtf8-nil}
use Rattle.std.proofs.Math.Seq.{take-length}
use Rattle.std.specs.Prelude.{Option, slice_range}
use Rattle.std.specs.List.{AllPass}
use Rattle.std.specs.Str.{IsUtf8}
use Rattle.sonic_find.proofs.Utf8Lemmas.{utf8_of_span}
use Rattle.sonic_find.specs.Documents.{IsValidDocument}
use Rattle.sonic_text.specs.declared.kind.Kind.{Kind}
use Rattle.sonic_text.specs.declared.kind.Kind.TheVariants.{Array, Object}
use Rattle.sonic_text.specs.Places.{byte, is_space, after_space}
use Rattle.sonic_text.specs.Strings.{strict}
use Rattle.sonic_text.specs.Trees.{Tree}
use Rattle.sonic_text.specs.Values.{opening, closing, IsValue}
use Rattle.sonic_text.specs.Values.IsValue.{string}
use Rattle.sonic_text.proofs.Places.{byte_after}
use Rattle.sonic_text.proofs.Values.{value_end_one}
use Rattle.sonic_text.proofs.Within.{value_within}
use Rattle.sonic_min.specs.Spellings.{Spelling, Parts, no_part, part, HeadSpelled, no_key, key_spelled, IsSpelled, scalar_spelled, empty_spelled, filled_spelled, PartsSpelled, last_part, more_parts}
use Rattle.sonic_min.specs.Texts.{Gaps, AreSpace, key_text, last_line, spread, spread_parts, IsDocumentSpelled, DocumentMeans}
use Rattle.sonic_min.proofs.SpellingLemmas.{spelling_of, spelled_value, spelled_one, spelled_means}
use Rattle.sonic_min.proofs.SpreadLemmas.{text_document}

-- an ASCII byte is UTF-8
byte_utf8 : (b : ℕ) → b < 128 → IsUtf8 (b ∷ [])
byte_utf8 b l = IsUtf8-from_ascii (b ∷ []) (λ k. elim (cases_lt k 1) [
  | inl h ↦ (let first : k ≡ 0 = omega arith in rw first l)
  | inr h ↦ (let e : byte (b ∷ []) k ≡ 0 = byte_after (b ∷ []) k h in omega arith)
])

-- white space is ASCII
space_small : (b : ℕ) → is_space b ≡ true → b < 128
space_small b h = grind (arith, nat_tests)

spaces_utf8 : (s : List ℕ) → AllPass is_space s → IsUtf8 s
spaces_utf8 s h = IsUtf8-from_ascii s (λ k. elim (cases_lt k (length s)) [
  | inl l ↦ space_small (byte s k) (h k 0 l)
  | inr l ↦ (let e : byte s k ≡ 0 = byte_after s k l in omega arith)
])

opening_utf8 : (kind : Kind) → IsUtf8 (opening kind ∷ [])
opening_utf8 Array = byte_utf8 91 (omega arith)
opening_utf8 Object = byte_utf8 123 (omega arith)

closing_utf8 : (kind : Kind) → IsUtf8 (closing kind ∷ [])
closing_utf8 Array = byte_utf8 93 (omega arith)
closing_utf8 Object = byte_utf8 125 (omega arith)

-- the last line is white space
last_utf8 : (g : Gaps) (d : ℕ) (xs : Parts) → AreSpace g → IsUtf8 (last_line g d xs)
last_utf8 g d no_part spaces = IsUtf8-nil
last_utf8 g d (part k x xs) spaces = spaces_utf8 (g.line d) (spaces.line d)

module _ {t : List ℕ} (utf8 : IsUtf8 t) (g : Gaps) (spaces : AreSpace g) where
  -- a value's own text
  span_utf8 : {i j : ℕ} → IsValue strict t i j → IsUtf8 (slice_range t i j)
  span_utf8 x = let all : IsUtf8 (take (length t) t) = rw (take-length t) utf8 in utf8_of_span (length t) all x (value_within x) (value_within x)

  -- a key with its colon
  key_utf8 : {kind : Kind} {h v : ℕ} {k : Option (List ℕ)} → HeadSpelled t kind h v k → IsUtf8 (key_text g k)
  key_utf8 (no_key e) = IsUtf8-nil
  key_utf8 (key_spelled {c = c} y e) =
      let key : IsUtf8 c = rw e (span_utf8 (string y.string)) in
      IsUtf8-append c (58 ∷ g.colon) key (IsUtf8-append (58 ∷ []) g.colon (byte_utf8 58 (omega arith)) (spaces_utf8 g.colon spaces.colon))

  -- a part's text, before others
  part_utf8 : (d : ℕ) (before : List ℕ) (k : Option (List ℕ)) (x : Spelling) (rest : List ℕ) → IsUtf8 before → IsUtf8 (key_text g k) → IsUtf8 (spread g d x)
      → IsUtf8 rest → IsUtf8 (before ++ g.line d ++ key_text g k ++ spread g d x ++ rest)
  part_utf8 d before k x rest u key value others =
      let one = IsUtf8-append before (g.line d) u (spaces_utf8 (g.line d) (spaces.line d)) in
      let two = IsUtf8-append (before ++ g.line d) (key_text g k) one key in
      let three = IsUtf8-append (before ++ g.line d ++ key_text g k) (spread g d x) two value in
      IsUtf8-append (before ++ g.line d ++ key_text g k ++ spread g d x) rest three others

  mutual
    -- the text of a value's spelling
    spread_utf8 : {i j : ℕ} {x : Spelling} (d : ℕ) → IsSpelled t i j x → IsUtf8 (spread g d x)
    spread_utf8 d (scalar_spelled x plain e) = rw e (span_utf8 x)
    spread_utf8 d (empty_spelled {kind} b c q) = IsUtf8-append (opening kind ∷ []) (closing kind ∷ []) (opening_utf8 kind) (closing_utf8 kind)
    spread_utf8 d (filled_spelled {kind} {xs = xs} b q o is) =
        let parts = IsUtf8-append (spread_parts g (d + 1) [] xs) (last_line g d xs) (parts_utf8 (d + 1) [] IsUtf8-nil is) (last_utf8 g d xs spaces) in
        IsUtf8-append (opening kind ∷ []) (spread_parts g (d + 1) [] xs ++ last_line g d xs ++ closing kind ∷ []) (opening_utf8 kind)
        (IsUtf8-append (spread_parts g (d + 1) [] xs ++ last_line g d xs) (closing kind ∷ []) parts (closing_utf8 kind))

    -- the texts of parts
    parts_utf8 : {kind : Kind} {h j : ℕ} {xs : Parts} (d : ℕ) (before : List ℕ) → IsUtf8 before → PartsSpelled t kind h j xs
        → IsUtf8 (spread_parts g d before xs)
    parts_utf8 d before u (last_part {k = k} {x = x} y a c q) = part_utf8 d before k x [] u (key_utf8 y) (spread_utf8 d a) IsUtf8-nil
    parts_utf8 d before u (more_parts {k = k} {x = x} {xs = xs} y a c q is) =
        part_utf8 d before k x (spread_parts g d (44 ∷ []) xs) u (key_utf8 y) (spread_utf8 d a) (parts_utf8 d (44 ∷ []) (byte_utf8 44 (omega arith)) is)

-- a document that is spelled is valid where it is UTF-8
valid_of : {t : List ℕ} {x : Spelling} → IsUtf8 t → IsDocumentSpelled t x → IsValidDocument t
valid_of utf8 a = record { alone = record { end = a.end; root = a.alone.root; place = a.alone.end }; utf8 = utf8 }

-- the text of a valid document's spelling is a valid document
pub text_valid : {t : List ℕ} {x : Spelling} (g : Gaps) → AreSpace g → IsValidDocument t → IsDocumentSpelled t x → IsValidDocument (spread g 0 x)
text_valid g spaces v a = valid_of (spread_utf8 v.utf8 g spaces 0 a.spelled) (text_document g spaces a)

-- a valid document is spelled
pub document_spelled : {t : List ℕ} → IsValidDocument t → (x : Spelling) × IsDocumentSpelled t x
document_spelled {t} v =
    let x = spelling_of v.alone.root in (
      x.0,
      record {
        start = after_space t 0;
        end = v.alone.end;
        alone = record { start = refl; root = v.alone.root; end = v.alone.place };
        spelled = x.1;
      },
    )

-- so a document has one spelling
pub document_one : {t : List ℕ} {x y : Spelling} → IsDocumentSpelled t x → IsDocumentSpelled t y → x ≡ y
document_one {t} {y = y} a b =
    let start : b.start ≡ a.start = sym b.alone.start ∙ a.alone.start in
    let there : IsSpelled t a.start b.end y = rw start at b.spelled in
    spelled_one a.spelled there

-- documents that are spelled alike mean the same
pub document_means : {t u : List ℕ} {x : Spelling} {v : Tree} → IsDocumentSpelled t x → IsDocumentSpelled u x → DocumentMeans t v → DocumentMeans u v
document_means {t} {x = x} a b m =
    let start : a.start ≡ m.start = sym a.alone.start ∙ m.alone.start in
    let here : IsSpelled t m.start a.end x = rw start at a.spelled in
    let end : a.end ≡ m.end = value_end_one (spelled_value here) (rw m.alone.start at m.alone.root) in
    let there : IsSpelled t m.start m.end x = rw end at here in
    record { start = b.start; end = b.end; alone = b.alone; means = spelled_means there b.spelled m.means }
