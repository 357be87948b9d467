-- A text is read or has one reason why it isn't, and so with a schema that is filled.
use Rattle.std.proofs.Common.{◌≡◌, ◌⊎◌, ◌∙◌, inl, inr, refl, sym, arith, ℕ, ◌≤◌, List, Bool, true, false, length, take}
use Rattle.std.proofs.lemmas.Bool.{cases_Bool, cases_lt}
use Rattle.std.proofs.lemmas.Str.{IsUtf8-from_is_utf8, is_utf8-from_IsUtf8}
use Rattle.std.specs.Str.{IsUtf8, is_utf8}
use Rattle.sonic_find.proofs.DocumentLemmas.{after_alone, document_one}
use Rattle.sonic_find.specs.Documents.{IsValidDocument}
use Rattle.sonic_text.proofs.TreeLemmas.{value_of, means_one}
use Rattle.sonic_text.proofs.Values.{value_end_one, value_fault_one, value_never_both}
use Rattle.sonic_text.proofs.Within.{value_within, after_space_within}
use Rattle.sonic_text.specs.Places.{after_space}
use Rattle.sonic_text.specs.Trees.{Tree, Means}
use Rattle.sonic_text.specs.declared.stop.Stop.{Stop}
use Rattle.sonic_value.proofs.DocumentLemmas.{root_unread, trailing_unread, root_read, document_read, broken_unread}
use Rattle.sonic_value.proofs.OutcomeLemmas.{read_or_not, fill_or_not}
use Rattle.sonic_value.proofs.UnfilledLemmas.{unfillable_at, unfilled_for, object_or_none}
use Rattle.sonic_value.specs.Depths.{IsShallow}
use Rattle.sonic_value.specs.Laws.{HasOneTreeOrReason}
use Rattle.sonic_value.specs.Internal.Readers.{IsDocumentRead}
use Rattle.sonic_value.specs.Reading.{IsRead, IsUnread, too_deep, invalid}
use Rattle.sonic_value.specs.Schemas.{IsFilledBy, IsFilledAt, IsUnfilled, no_object, too_deep as deep_schema, fault, broken_text}

-- bytes are UTF-8 or not
utf8_or_not : (t : List ℕ) → IsUtf8 t ⊎ ¬ IsUtf8 t
utf8_or_not t = elim (cases_Bool (is_utf8 t)) [
  | inl is ↦ inl (IsUtf8-from_is_utf8 t is)
  | inr other ↦ inr (λ u. let e = is_utf8-from_IsUtf8 t u in cc)
]

-- a place that is the first in two ways is one
one_first : {P : ℕ → Type 0} {p q : ℕ} → P p → ((r : ℕ) → P r → p ≤ r) → P q → ((r : ℕ) → P r → q ≤ r) → p ≡ q
one_first {p = p} {q} a first b least = omega (arith, first q b, least p a)

-- a text that is read is a valid document
read_valid : {t : List ℕ} {x : Tree} → IsRead t x → IsValidDocument t
read_valid r = record { alone = after_alone r.alone; utf8 = r.utf8 }

read_shallow : {t : List ℕ} {x : Tree} → IsRead t x → IsShallow t 255 (after_space t 0)
read_shallow r = rw (← r.alone.start) at r.shallow

unread_one : {t : List ℕ} (is_bytes : Bool) (s r : Stop) → (is_bytes ≡ false → IsUtf8 t) → IsUnread t is_bytes s → IsUnread t is_bytes r → s ≡ r
unread_one is_bytes s r utf8 (too_deep x e) (too_deep y f) = rw (e, f, one_first x.nested x.first y.nested y.first) refl
unread_one is_bytes s r utf8 (too_deep {p = p} x e) (invalid shallow i) = absurd (shallow p x.nested)
unread_one is_bytes s r utf8 (invalid shallow i) (too_deep {p = p} x e) = absurd (shallow p x.nested)
unread_one {t} is_bytes s r utf8 (invalid a i) (invalid b j) = (document_one t is_bytes utf8).one_reason s r i j

never_unread : {t : List ℕ} {x : Tree} (is_bytes : Bool) (s : Stop) → (is_bytes ≡ false → IsUtf8 t) → IsRead t x → IsUnread t is_bytes s → ⊥
never_unread is_bytes s utf8 r (too_deep {p = p} x e) = read_shallow r p x.nested
never_unread {t} is_bytes s utf8 r (invalid shallow i) = (document_one t is_bytes utf8).never_both s (read_valid r) i

read_one : {t : List ℕ} {x y : Tree} → IsRead t x → IsRead t y → x ≡ y
read_one {t} {x} {y} a b =
    let own : Means t (after_space t 0) a.end x = rw (← a.alone.start) at a.means in
    let other : Means t (after_space t 0) b.end y = rw (← b.alone.start) at b.means in
    means_one own other

broken_some : {t : List ℕ} {x : Tree} (is_bytes : Bool) → (is_bytes ≡ false → IsUtf8 t) → IsDocumentRead (record { text = t; is_utf8 = true }) x → ¬ IsUtf8 t
    → (s : Stop) × IsUnread t is_bytes s
broken_some false utf8 d broken = absurd (broken (utf8 refl))
broken_some true utf8 d broken = (_, broken_unread d broken)

read_some : (t : List ℕ) (is_bytes : Bool) → (is_bytes ≡ false → IsUtf8 t) → ((x : Tree) × IsRead t x) ⊎ ((s : Stop) × IsUnread t is_bytes s)
read_some t is_bytes utf8 = elim (read_or_not t 255 (after_space t 0)) [
  | inr (s, f) ↦ inr (s, root_unread s f is_bytes)
  | inl (j, x, read) ↦ elim (cases_lt (after_space t j) (length t)) [
    | inl less ↦ inr (_, trailing_unread read less is_bytes)
    | inr past ↦
        let within = after_space_within t j (value_within (value_of read.kept.means)) in
        let d = root_read read (omega (arith, past, within)) in
        elim (utf8_or_not t) [
          | inl whole ↦ inl (x, document_read d refl whole)
          | inr broken ↦ inr (broken_some is_bytes utf8 d broken)
        ]
  ]
]

pub text_read_one : (t : List ℕ) (is_bytes : Bool) → (is_bytes ≡ false → IsUtf8 t) → HasOneTreeOrReason (IsRead t) (IsUnread t is_bytes)
text_read_one t is_bytes utf8 = record {
  outcome = record {
    some_reason = read_some t is_bytes utf8;
    one_reason = λ s r x y. unread_one is_bytes s r utf8 x y;
    never_both = λ s x y. never_unread is_bytes s utf8 x.1 y;
  };
  one_tree = λ x y a b. read_one a b;
}

-- the end of a value that fills a schema
same_end : {t : List ℕ} {n : ℕ} {s x y : Tree} {i j k : ℕ} → IsFilledBy t n s x i j → IsFilledBy t n s y i k → j ≡ k
same_end a b = value_end_one (value_of a.means) (value_of b.means)

unfilled_one : {t : List ℕ} {is_bytes : Bool} {w : Tree} {i : ℕ} (s r : Stop) → IsUnfilled t is_bytes w i s → IsUnfilled t is_bytes w i r → s ≡ r
unfilled_one s r (no_object n e) (no_object m f) = e ∙ sym f
unfilled_one s r (no_object n e) (deep_schema o x f) = absurd (n o)
unfilled_one s r (no_object n e) (fault o shallow f) = absurd (n o)
unfilled_one s r (no_object n e) (broken_text o by b u q) = absurd (n o)
unfilled_one s r (deep_schema o x e) (no_object m f) = absurd (m o)
unfilled_one s r (deep_schema o x e) (deep_schema p y f) = rw (e, f, one_first x.deep x.first y.deep y.first) refl
unfilled_one s r (deep_schema {p = q} o x e) (fault p shallow f) = absurd (shallow q x.deep)
unfilled_one s r (deep_schema {p = q} o x e) (broken_text p by b u f) = absurd (by.shallow q x.deep)
unfilled_one s r (fault o shallow f) (no_object m e) = absurd (m o)
unfilled_one s r (fault o shallow f) (deep_schema {p = q} p x e) = absurd (shallow q x.deep)
unfilled_one s r (fault o a f) (fault p b g) = value_fault_one f g
unfilled_one s r (fault o shallow f) (broken_text p by b u e) = absurd (value_never_both (value_of by.means) f)
unfilled_one s r (broken_text o by b u q) (no_object m e) = absurd (m o)
unfilled_one s r (broken_text o by b u f) (deep_schema {p = q} p x e) = absurd (by.shallow q x.deep)
unfilled_one s r (broken_text o by b u e) (fault p shallow f) = absurd (value_never_both (value_of by.means) f)
unfilled_one s r (broken_text o a b u e) (broken_text p c d v f) = rw (e, f, same_end a c) refl

never_unfilled : {t : List ℕ} {is_bytes : Bool} {w x : Tree} {i : ℕ} (s : Stop) → IsFilledAt t w x i → IsUnfilled t is_bytes w i s → ⊥
never_unfilled s f (no_object n e) = n f.from.object
never_unfilled s f (deep_schema {p = q} o x e) = f.from.by.shallow q x.deep
never_unfilled s f (fault o shallow g) = value_never_both (value_of f.from.by.means) g
never_unfilled s f (broken_text o by b u e) = u (rw (same_end f.from.by by) at f.from.utf8)

filled_one : {t : List ℕ} {w x y : Tree} {i : ℕ} → IsFilledAt t w x i → IsFilledAt t w y i → x ≡ y
filled_one f g = let same = means_one f.from.by.means g.from.by.means in rw (f.from.by.filled, g.from.by.filled, same) refl

filled_some : (t : List ℕ) (is_bytes : Bool) (w : Tree) (i : ℕ) → (is_bytes ≡ false → IsUtf8 t)
    → ((x : Tree) × IsFilledAt t w x i) ⊎ ((s : Stop) × IsUnfilled t is_bytes w i s)
filled_some t is_bytes w i utf8 = elim (object_or_none w) [
  | inr none ↦ inr (_, no_object none refl)
  | inl o ↦ elim (fill_or_not t 255 w i) [
    | inr (s, f) ↦ inr (s, unfilled_for s is_bytes utf8 (unfillable_at s o f))
    | inl (j, x, by) ↦ elim (utf8_or_not (take j t)) [
      | inl whole ↦ inl (x, record { end = j; from = record { object = o; by = by; utf8 = whole } })
      | inr broken ↦ inr (_, unfilled_for _ is_bytes utf8 (broken_text o by refl broken refl))
    ]
  ]
]

pub schema_filled_one : (t : List ℕ) (is_bytes : Bool) (w : Tree) (i : ℕ) → (is_bytes ≡ false → IsUtf8 t)
    → HasOneTreeOrReason (λ x. IsFilledAt t w x i) (IsUnfilled t is_bytes w i)
schema_filled_one t is_bytes w i utf8 = record {
  outcome = record {
    some_reason = filled_some t is_bytes w i utf8;
    one_reason = λ s r x y. unfilled_one s r x y;
    never_both = λ s x y. never_unfilled s x.1 y;
  };
  one_tree = λ x y a b. filled_one a b;
}

-- and so of bytes
never_text : true ≡ false → ⊥
never_text e = cc

pub bytes_read_one : (t : List ℕ) → HasOneTreeOrReason (IsRead t) (IsUnread t true)
bytes_read_one t = text_read_one t true (λ e. absurd (never_text e))

pub bytes_filled_one : (t : List ℕ) (w : Tree) (i : ℕ) → HasOneTreeOrReason (λ x. IsFilledAt t w x i) (IsUnfilled t true w i)
bytes_filled_one t w i = schema_filled_one t true w i (λ e. absurd (never_text e))
