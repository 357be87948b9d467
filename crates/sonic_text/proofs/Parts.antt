-- A part of a text, which holds its bytes.
use Rattle.std.proofs.Common.{◌≡◌, ◌∙◌, ℕ, ◌+◌, ◌-◌, ◌<◌, ◌≤◌, List, ◌++◌, length, take, drop, arith, refl, sym}
use Rattle.std.proofs.lemmas.List.{ext_get_or, get_or-append-add, get_or_append_left, get_or-drop, get_or-take, length-append, length-take, length-drop, drop-take, drop-drop, take-take}
use Rattle.std.specs.Prelude.{slice_range}
use Rattle.sonic_text.specs.Places.{byte}
use Rattle.sonic_text.proofs.Same.{Shared}

-- u is a part of t that begins at d: it holds bytes of t up to its end
abbrev pub IsPart : List ℕ → List ℕ → ℕ → Type 0
IsPart t u d = Shared t u d 0 (length u)

-- what a part holds from its place q on is a part of the text
rest_taken : (t : List ℕ) (d e q r : ℕ) → e - d ≡ q + r → drop q (slice_range t d e) ≡ take r (drop (d + q) t)
rest_taken t d e q r h = rw (h, drop-take q r (drop d t), drop-drop q d t) refl

-- a part of a part is one of the text
pub part_of_part : (t : List ℕ) (i j p q : ℕ) → p ≤ q → q ≤ j - i → slice_range (slice_range t i j) p q ≡ slice_range t (i + p) (i + q)
part_of_part t i j p q l h =
    let e : i + q - (i + p) ≡ q - p = omega arith in
    rw (rest_taken t i j p (j - i - p) (omega arith), e) (take-take (q - p) (j - i - p) (drop (i + p) t) (omega arith))

-- a part within the text is as long as it says
pub part_length : (t : List ℕ) (d e : ℕ) → d ≤ e → e ≤ length t → d + length (slice_range t d e) ≡ e
part_length t d e l h = omega (arith, length-take (e - d) (drop d t), length-drop d t)

-- what is cut out of a text is a part of it
pub part_is : (t : List ℕ) (d e : ℕ) → d ≤ e → e ≤ length t → IsPart t (slice_range t d e) d
part_is t d e l h =
    let n = part_length t d e l h in
    record {
      reach_t = omega arith;
      reach_u = omega arith;
      bytes = λ p q z k.
          let place : p ≡ d + q = omega arith in
          get_or-take (e - d) (drop d t) q 0 (omega arith) ∙ (rw place (get_or-drop d t q 0));
    }

-- a byte of the part is that of the text
pub byte_part : {t u : List ℕ} {d : ℕ} → IsPart t u d → (p q : ℕ) → p ≡ d + q → q < length u → byte u q ≡ byte t p
byte_part part p q e l = part.bytes p q (omega arith) l

pub part_byte : {t u : List ℕ} {d : ℕ} → IsPart t u d → (k : ℕ) → k < length u → byte t (d + k) ≡ byte u k
part_byte {d = d} part k l = sym (part.bytes (d + k) k (omega arith) l)

-- and the part is what is cut out there
pub part_text : {t u : List ℕ} {i j : ℕ} → IsPart t u i → j ≡ i + length u → u ≡ slice_range t i j
part_text {t} {u} {i} {j} part e =
    let l = part.reach_t in
    let n = part_length t i j (omega arith) (omega arith) in
    ext_get_or 0 u (slice_range t i j) (omega arith) (λ k o.
    sym (part_byte part k o) ∙ sym (byte_part (part_is t i j (omega arith) (omega arith)) (i + k) k refl (omega arith)))

-- what is written between two texts is a part of the whole
pub part_between : (front u back : List ℕ) → IsPart (front ++ (u ++ back)) u (length front)
part_between front u back = record {
  reach_t = omega (arith, length-append front (u ++ back), length-append u back);
  reach_u = omega arith;
  bytes = λ p q e l.
      let place : p ≡ length front + q = omega arith in
      rw place (sym (get_or-append-add front (u ++ back) q 0 ∙ get_or_append_left u back 0 q l));
}

-- and the byte after it is the first one of the other text
pub byte_behind : (front u back : List ℕ) → byte (front ++ (u ++ back)) (length front + length u) ≡ byte back 0
byte_behind front u back =
    let place : length front + length u ≡ length front + (length u + 0) = omega arith in
    rw place (get_or-append-add front (u ++ back) (length u + 0) 0 ∙ get_or-append-add u back 0 0)

-- the bytes of the first of two texts are a part where they are a part one after the other
pub part_left : {t : List ℕ} {d : ℕ} (u w : List ℕ) → IsPart t (u ++ w) d → IsPart t u d
part_left u w part =
    let n = length-append u w in
    let l = part.reach_t in
    record { reach_t = omega arith; reach_u = omega arith; bytes = λ p q e k. sym (get_or_append_left u w 0 q k) ∙ part.bytes p q e (omega arith) }

-- and those of the second one after them
pub part_right : {t : List ℕ} {d : ℕ} (u w : List ℕ) → IsPart t (u ++ w) d → IsPart t w (d + length u)
part_right u w part =
    let n = length-append u w in
    let l = part.reach_t in
    record {
      reach_t = omega arith;
      reach_u = omega arith;
      bytes = λ p q e k. sym (get_or-append-add u w q 0) ∙ part.bytes p (length u + q) (omega arith) (omega arith);
    }
