-- A key that is at another place, too.
use Rattle.std.proofs.Common.{◌≡◌, ◌∙◌, inl, inr, ap, sym, ℕ, ◌+◌, ◌-◌, ◌<◌, ◌≤◌, List, [], ◌∷◌, ◌++◌, length, get_or, arith, refl, subst}
use Rattle.std.proofs.lemmas.Option.{slice_get_within, slice_get-get_or}
use Rattle.std.specs.Prelude.{Some, slice_get, slice_range}
use Rattle.sonic_find.proofs.TableLemmas.Rows.{item_or_last}
use Rattle.sonic_find.specs.Internal.Columns.{AreKnown, IsColumnKey, IsKnown}
use Rattle.sonic_find.specs.declared.columns.KnownKey.{KnownKey}
use Rattle.sonic_text.proofs.Parts.{IsPart, byte_part, part_is, part_length}
use Rattle.sonic_text.proofs.PlacedLemmas.{means_same, part_means}
use Rattle.sonic_text.proofs.Same.{EndsNumber, ends_number}
use Rattle.sonic_text.proofs.ValueParts.{number_agrees}
use Rattle.sonic_text.specs.Trees.{text, Means, means_string}
use Rattle.sonic_text.proofs.Strings.{string_longer}
use Rattle.sonic_text.specs.Places.{byte}
use Rattle.sonic_text.specs.Strings.{strict, IsString}

-- a value that is a string is a string
string_meant : {t : List ℕ} {i j : ℕ} {b : List ℕ} → Means t i j (text b) → IsString strict t i j b
string_meant (means_string is) = is

-- a string whose bytes are at another place, with a colon behind them
moved_string : {t : List ℕ} {s p n : ℕ} {b : List ℕ} → IsString strict t s (s + n) b → s + n ≤ length t → p + n ≤ length t → byte t (p + n) ≡ 58
    → ((k : ℕ) → k < n → byte t (p + k) ≡ byte t (s + k)) → IsString strict t p (p + n) b
moved_string {t} {s} {p} {n} {b} string within room colon same =
    let u = slice_range t s (s + n) in
    let long : length u ≡ n = (let l = part_length t s (s + n) (omega arith) within in omega (arith, l)) in
    let here : IsPart t u s = part_is t s (s + n) (omega arith) within in
    let there : IsPart t u p = record {
      reach_t = omega (arith, long);
      reach_u = omega arith;
      bytes = λ a q z l.
          let place : a ≡ p + q = omega arith in
          byte_part here (s + q) q refl l ∙ sym (same q (omega (arith, l, long))) ∙ ap (byte t) (sym place);
    } in
    let alone : Means u 0 n (text b) = means_same (number_agrees here refl (omega (arith, long))) (omega arith) (means_string string) in
    let ends : EndsNumber (byte t (p + length u)) = rw (long, colon) (ends_number 58 refl) in
    let moved : Means t (p + 0) (p + n) (text b) = part_means there ends alone in
    let from : p + 0 ≡ p = omega arith in
    string_meant (subst (λ i. Means t i (p + n) (text b)) from moved)

-- a key whose bytes are there
pub moved_key : {t : List ℕ} {keys : List (List ℕ)} {x : KnownKey} {p : ℕ} → IsKnown t keys x → p + 128 ≤ length t
    → ((k : ℕ) → k < x.length → byte t (p + k) ≡ byte t (x.start + k)) → IsColumnKey t keys p x.length x.column
moved_key {t} {keys} {x} {p} known room same =
    let is = known.is in
    let ends = is.ends in
    let short = is.short in
    let ahead = known.ahead in
    let later = string_longer is.string in
    let n = is.end - x.start in
    let e : is.end ≡ x.start + n = omega (arith, later) in
    let string : IsString strict t x.start (x.start + n) is.label = subst (λ e. IsString strict t x.start e is.label) e is.string in
    let colon : byte t (p + n) ≡ 58 = same n (omega (arith, ends, later)) ∙ ap (byte t) (sym e) ∙ is.colon in
    record {
      label = is.label;
      end = p + n;
      ends = omega (arith, ends, later);
      short = short;
      string = moved_string {s = x.start} {p = p} {n = n} string (omega (arith, ends, short, ahead, later)) (omega (arith, ends, short, room, later)) colon (λ k l. same k (omega (arith, l, ends, later)));
      colon = colon;
      same = is.same;
      other = is.other;
    }

-- one of those that are known
pub known_at : {t : List ℕ} {keys : List (List ℕ)} (known : List KnownKey) (i : ℕ) (x : KnownKey) → AreKnown t keys known → i < length known → x ≡ get_or known i x
    → IsKnown t keys x
known_at known i x are l e = are i x (slice_get-get_or known i x l ∙ ap Some (sym e))

-- and one more
pub known_more : {t : List ℕ} {keys : List (List ℕ)} (known : List KnownKey) (x : KnownKey) → AreKnown t keys known → IsKnown t keys x → AreKnown t keys (known ++ x ∷ [])
known_more {t} {keys} known x are is n y there = elim (item_or_last known x y n there) [
  | inl before ↦ are n y before
  | inr last ↦ subst (λ z. IsKnown t keys z) last.1 is
]

-- which is the last
pub last_known : (known : List KnownKey) (x y : KnownKey) → slice_get (known ++ x ∷ []) (length known) ≡ Some y → x ≡ y
last_known known x y there = elim (item_or_last known x y (length known) there) [
  | inl before ↦ absurd (let w = slice_get_within known (length known) y before in omega (arith, w))
  | inr last ↦ last.1
]

-- what is known of a key that is at a place is known of the key with its number
pub key_here : {t : List ℕ} {keys : List (List ℕ)} {p : ℕ} (known : List KnownKey) (i : ℕ) (x : KnownKey) → i < length known → x ≡ get_or known i x
    → ((y : KnownKey) → slice_get known i ≡ Some y → IsColumnKey t keys p y.length y.column) → IsColumnKey t keys p x.length x.column
key_here known i x l e are = are x (slice_get-get_or known i x l ∙ ap Some (sym e))
