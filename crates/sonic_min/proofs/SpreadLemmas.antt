-- The text of a spelling, with white space for the gaps, is spelled so wherever it stands.
use Rattle.std.proofs.Common.{◌≡◌, ◌≢◌, ◌∙◌, inl, inr, ℕ, zero, suc, ◌+◌, ◌<◌, ◌≤◌, true, arith, refl, sym, ap, List, [], ◌∷◌, ◌++◌, length, add-zero}
use Rattle.std.proofs.lemmas.Bool.{cases_lt}
use Rattle.std.proofs.lemmas.Bool.Decides.{nat_tests}
use Rattle.std.proofs.lemmas.List.{length-append}
use Rattle.std.proofs.lemmas.List.Elements.{All-cons, All-replicate}
use Rattle.std.proofs.lemmas.List.Sums.{prefix_len-drop_yes}
use Rattle.std.specs.Prelude.{◌*◌, Option, slice_range, replicate}
use Rattle.std.specs.List.{AllPass}
use Rattle.sonic_text.specs.declared.kind.Kind.{Kind}
use Rattle.sonic_text.specs.declared.kind.Kind.TheVariants.{Array, Object}
use Rattle.sonic_text.proofs.PlacedLemmas.{part_means, slice_means}
use Rattle.sonic_text.specs.Places.{byte, is_space, after_space}
use Rattle.sonic_text.specs.Strings.{strict, IsString}
use Rattle.sonic_text.specs.Trees.{Tree, text, Means}
use Rattle.sonic_text.specs.Trees.Means.{means_string}
use Rattle.sonic_text.specs.Values.{closing, IsValue}
use Rattle.sonic_text.proofs.Items.{closing_no_space}
use Rattle.sonic_text.proofs.Parts.{IsPart, byte_part, part_byte, part_is, part_left, part_length, part_right, part_text}
use Rattle.sonic_text.proofs.Places.{after_space_later, space_stays}
use Rattle.sonic_text.proofs.Same.{EndsNumber, closing_ends, end_ends, ends_number}
use Rattle.sonic_text.proofs.SameValues.{value_starts_item}
use Rattle.sonic_text.proofs.TreeLemmas.{tree_of, value_of}
use Rattle.sonic_text.proofs.Values.{value-longer, value_starts}
use Rattle.sonic_text.proofs.Within.{after_space_within, value_within}
use Rattle.sonic_min.specs.Spellings.{Spelling, Parts, no_part, part, HeadSpelled, no_key, key_spelled, IsSpelled, scalar_spelled, empty_spelled, filled_spelled, PartsSpelled, last_part, more_parts}
use Rattle.sonic_min.specs.Texts.{Gaps, AreSpace, tight, wide_gaps, key_text, last_line, spread, spread_parts, IsDocumentSpelled}
use Rattle.sonic_min.proofs.SpellingLemmas.{spelled_value, spelled_one}

-- u has these bytes from p to q
record Stands (u s : List ℕ) (p q : ℕ) : Type 0 where
  end : q ≡ p + length s
  part : IsPart u s p

-- a text has its own bytes
whole : (u : List ℕ) → Stands u u 0 (length u)
whole u = record { end = omega arith; part = record { reach_t = omega arith; reach_u = omega arith; bytes = λ p q e l. ap (byte u) (omega arith) } }

-- two lists of bytes, one after the other
record Both (u s r : List ℕ) (p q : ℕ) : Type 0 where
  middle : ℕ
  left : Stands u s p middle
  right : Stands u r middle q

split : {u : List ℕ} (s r : List ℕ) {p q : ℕ} → Stands u (s ++ r) p q → Both u s r p q
split s r {p} h =
    let n = length-append s r in
    let e = h.end in
    record {
      middle = p + length s;
      left = record { end = refl; part = part_left s r h.part };
      right = record { end = omega arith; part = part_right s r h.part };
    }

-- the first byte, and those after it
first : {u s : List ℕ} {p q : ℕ} → Stands u s p q → 0 < length s → byte u p ≡ byte s 0
first {p = p} h l = sym (h.part.bytes p 0 (omega arith) l)

first_byte : {u s : List ℕ} {b p q : ℕ} → Stands u (b ∷ s) p q → (byte u p ≡ b) × Stands u s (p + 1) q
first_byte {u} {s} {b} {p} {q} h =
    let e = h.end in
    (first h (omega arith), record { end = omega arith; part = part_right (b ∷ []) s h.part })

-- white space leads on to what is after it
spaces_lead : (n : ℕ) (u : List ℕ) (p : ℕ) → p + n ≤ length u → ((k : ℕ) → k < n → is_space (byte u (p + k)) ≡ true) → after_space u p ≡ after_space u (p + n)
spaces_lead zero u p l h = ap (after_space u) (omega arith)
spaces_lead (suc n) u p l h =
    let here : is_space (byte u p) ≡ true = ap (λ a. is_space (byte u a)) (omega arith) ∙ h 0 (omega arith) in
    let step = prefix_len-drop_yes is_space u p 0 (omega arith) here in
    let rest = spaces_lead n u (p + 1) (omega arith) (λ k o. ap (λ a. is_space (byte u a)) (omega arith) ∙ h (suc k) (omega arith)) in
    let on : after_space u (p + 1 + n) ≡ after_space u (p + suc n) = ap (after_space u) (omega arith) in
    omega arith

after_gap : {u s : List ℕ} {p q : ℕ} → Stands u s p q → AllPass is_space s → after_space u p ≡ after_space u q
after_gap {u} {s} {p} h spaces =
    let e = h.end in
    let w = h.part.reach_t in
    spaces_lead (length s) u p (omega arith) (λ k l. ap is_space (part_byte h.part k l) ∙ spaces k 0 l) ∙ ap (after_space u) (sym e)

-- no number goes on with white space
space_ends : (b : ℕ) → is_space b ≡ true → EndsNumber b
space_ends b h = ((λ x. grind (arith, nat_tests)), (λ x. grind (arith, nat_tests)), (λ x. grind (arith, nat_tests)))

-- no bracket that closes a container is a quote

quote_no_closing : (kind : Kind) → 34 ≢ closing kind
quote_no_closing Array e = omega arith
quote_no_closing Object e = omega arith

-- no number goes on with what a gap begins with, or else with what is after it
gap_ends : {u s : List ℕ} {p q : ℕ} → Stands u s p q → AllPass is_space s → EndsNumber (byte u q) → EndsNumber (byte u p)
gap_ends {u} {s} {p} {q} h spaces after = elim (cases_lt 0 (length s)) [
  | inl l ↦ space_ends (byte u p) (ap is_space (first h l) ∙ spaces 0 0 l)
  | inr l ↦ (let e : p ≡ q = omega (arith, h.end) in rw e after)
]

-- where the text of a value stands it means what the value means
value_stands : {t u s : List ℕ} {i j p q : ℕ} {v : Tree} → Means t i j v → s ≡ slice_range t i j → Stands u s p q → EndsNumber (byte u q) → Means u p q v
value_stands {t} {u} {s} {i} {j} {p} {q} {v} m e h after =
    let f = h.end in
    let own : Means s 0 (length s) v = rw (← e) at (slice_means m (value_within (value_of m))) in
    let here : Means u (p + 0) (p + length s) v = part_means h.part (rw f at after) own in
    rw (add-zero p, ← f) at here

-- what means a text is a string
string_of : {t b : List ℕ} {i j : ℕ} → Means t i j (text b) → IsString strict t i j b
string_of (means_string x) = x

-- the end of a container, after a gap
record Closed (u : List ℕ) (kind : Kind) (p q : ℕ) : Type 0 where
  closes : byte u (after_space u p) ≡ closing kind
  end : q ≡ after_space u p + 1
  ends : EndsNumber (byte u p)

closed : {u s : List ℕ} (kind : Kind) {p m q : ℕ} → Stands u s p m → AllPass is_space s → Stands u (closing kind ∷ []) m q → Closed u kind p q
closed {u} kind {p} {m} {q} gap spaces b =
    let e : q ≡ m + 1 = b.end in
    let w = b.part.reach_t in
    let first : byte u m ≡ closing kind = first b (omega arith) in
    let stay : after_space u m ≡ m = space_stays u m (omega arith) (ap is_space first ∙ closing_no_space kind) in
    let to : after_space u p ≡ m = after_gap gap spaces ∙ stay in
    record {
      closes = ap (byte u) to ∙ first;
      end = omega arith;
      ends = gap_ends gap spaces (let o = closing_ends kind in rw first o);
    }

-- what comes before a value stands before it
record HeadStands (u : List ℕ) (kind : Kind) (p v : ℕ) (k : Option (List ℕ)) : Type 0 where
  head : HeadSpelled u kind p v k
  starts : after_space u p ≡ p
  item : byte u p ≢ closing kind

head_stands : {t u : List ℕ} {kind : Kind} {h v p q e : ℕ} {k : Option (List ℕ)} (g : Gaps) → AreSpace g → HeadSpelled t kind h v k → Stands u (key_text g k) p q
    → IsValue strict u q e → HeadStands u kind p q k
head_stands {u = u} {p = p} {q} {e} g spaces (no_key f) s x =
    let same : q ≡ p = s.end ∙ add-zero _ in
    let here : IsValue strict u p e = rw same at x in
    record { head = no_key same; starts = value_starts here; item = (value_starts_item here).1 Array }
head_stands {u = u} {p = p} g spaces (key_spelled {c = c} y f) s x =
    let a = split c (58 ∷ g.colon) s in
    let z = a.middle in
    let (colon, rest) = first_byte a.right in
    let w = rest.part.reach_t in
    let o = rest.end in
    let ends : EndsNumber (byte u z) = rw colon (ends_number 58 refl) in
    let string = string_of (value_stands (means_string y.string) f a.left ends) in
    let stay : after_space u z ≡ z = space_stays u z (omega arith) (ap is_space colon) in
    let first : byte u p ≡ 34 = string.opens in
    record {
      head = key_spelled (record {
        end = z;
        string = string;
        colon = ap (byte u) stay ∙ colon;
        value_start = sym (value_starts x) ∙ sym (after_gap rest spaces.colon) ∙ ap (λ k. after_space u (k + 1)) (sym stay);
      }) (part_text a.left.part a.left.end);
      starts = space_stays u p (omega arith) (ap is_space first);
      item = λ d. quote_no_closing Object (sym first ∙ d);
    }

-- parts stand from the place after p where the first one is expected up to the end of their container
record PartsStand (u : List ℕ) (kind : Kind) (before : List ℕ) (p r : ℕ) (xs : Parts) : Type 0 where
  middle : ℕ
  left : Stands u before p middle
  h : ℕ
  first : h ≡ after_space u middle
  item : byte u h ≢ closing kind
  parts : PartsSpelled u kind h r xs

-- the pieces of a part's text: a comma or nothing, a line, a key, the text of a value, and the parts after it
record Pieces (u before line key value rest : List ℕ) (p m : ℕ) : Type 0 where
  comma_end : ℕ
  start : ℕ
  value_start : ℕ
  end : ℕ
  is_before : Stands u before p comma_end
  is_line : Stands u line comma_end start
  is_key : Stands u key start value_start
  is_value : Stands u value value_start end
  is_rest : Stands u rest end m

pieces : {u : List ℕ} (before line key value rest : List ℕ) {p m : ℕ} → Stands u (before ++ line ++ key ++ value ++ rest) p m → Pieces u before line key value rest p m
pieces before line key value rest s =
    let four = split (before ++ line ++ key ++ value) rest s in
    let three = split (before ++ line ++ key) value four.left in
    let two = split (before ++ line) key three.left in
    let one = split before line two.left in
    record {
      comma_end = one.middle;
      start = two.middle;
      value_start = three.middle;
      end = four.middle;
      is_before = one.left;
      is_line = one.right;
      is_key = two.right;
      is_value = three.right;
      is_rest = four.right;
    }

-- where the first of them begins with its key or value
parts_from : {u before line key value rest : List ℕ} {kind : Kind} {p m r : ℕ} {k : Option (List ℕ)} {xs : Parts} (z : Pieces u before line key value rest p m)
    → AllPass is_space line → HeadStands u kind z.start z.value_start k → PartsSpelled u kind z.start r xs → PartsStand u kind before p r xs
parts_from z spaces head parts =
    record { middle = z.comma_end; left = z.is_before; h = z.start; first = sym head.starts ∙ sym (after_gap z.is_line spaces); item = head.item; parts = parts }

-- the last line is white space
last_spaces : (g : Gaps) (d : ℕ) (xs : Parts) → AreSpace g → AllPass is_space (last_line g d xs)
last_spaces g d no_part spaces = λ k e l. absurd (omega arith)
last_spaces g d (part k x xs) spaces = spaces.line d

mutual
  -- the text of a spelling is spelled so where it stands
  spelled_stands : {t u : List ℕ} {i j p q : ℕ} {x : Spelling} (g : Gaps) (d : ℕ) → AreSpace g → IsSpelled t i j x → Stands u (spread g d x) p q
      → EndsNumber (byte u q) → IsSpelled u p q x
  spelled_stands {t} {u} {i} {j} {p} {q} g d spaces (scalar_spelled {b = b} x plain e) s after =
      let l = value-longer x in
      let long = part_length t i j (omega arith) (value_within x) in
      let same : length b ≡ length (slice_range t i j) = ap length e in
      let y = value_of (value_stands (tree_of x).1 e s after) in
      let part = byte_part (part_is t i j (omega arith) (value_within x)) i 0 (omega arith) (omega arith) in
      let first : byte u p ≡ byte t i = first s (omega arith) ∙ ap (λ c. byte c 0) e ∙ part in
      scalar_spelled y (λ kind z. plain kind (sym first ∙ z)) (part_text s.part s.end)
  spelled_stands {u = u} {p = p} {q} g d spaces (empty_spelled {kind} b c f) s after =
      let (opens, rest) = first_byte s in
      let a = split [] (closing kind ∷ []) rest in
      let z = closed kind a.left (λ k e l. absurd (omega arith)) a.right in
      empty_spelled opens z.closes z.end
  spelled_stands {u = u} {p = p} {q} g d spaces (filled_spelled {kind} {xs = xs} b f o is) s after =
      let (opens, rest) = first_byte s in
      let a = split (spread_parts g (d + 1) [] xs ++ last_line g d xs) (closing kind ∷ []) rest in
      let c = split (spread_parts g (d + 1) [] xs) (last_line g d xs) a.left in
      let end = closed kind c.right (last_spaces g d xs spaces) a.right in
      let x = parts_stand g (d + 1) [] spaces is c.left end in
      let here : x.middle ≡ p + 1 = x.left.end ∙ add-zero _ in
      filled_spelled opens (x.first ∙ ap (after_space u) here) x.item x.parts

  -- and so are the texts of parts
  parts_stand : {t u : List ℕ} {kind : Kind} {h j p m r : ℕ} {xs : Parts} (g : Gaps) (d : ℕ) (before : List ℕ) → AreSpace g → PartsSpelled t kind h j xs
      → Stands u (spread_parts g d before xs) p m → Closed u kind m r → PartsStand u kind before p r xs
  parts_stand {u = u} g d before spaces (last_part {k = k} {x = x} y a c f) s end =
      let z = pieces before (g.line d) (key_text g k) (spread g d x) [] s in
      let last : _ ≡ z.end = z.is_rest.end ∙ add-zero _ in
      let value = spelled_stands g d spaces a z.is_value (rw last at end.ends) in
      let head = head_stands g spaces y z.is_key (spelled_value value) in
      parts_from z (spaces.line d) head
      (last_part head.head value (ap (λ o. byte u (after_space u o)) (sym last) ∙ end.closes) (end.end ∙ ap (λ o. after_space u o + 1) last))
  parts_stand {u = u} g d before spaces (more_parts {k = k} {x = x} {xs = xs} y a c f is) s end =
      let z = pieces before (g.line d) (key_text g k) (spread g d x) (spread_parts g d (44 ∷ []) xs) s in
      let rest = parts_stand g d (44 ∷ []) spaces is z.is_rest end in
      let comma : byte u z.end ≡ 44 = (first_byte rest.left).0 in
      let long : rest.middle ≡ z.end + 1 = rest.left.end in
      let w = rest.left.part.reach_t in
      let stay : after_space u z.end ≡ z.end = space_stays u z.end (omega arith) (ap is_space comma) in
      let value = spelled_stands g d spaces a z.is_value (rw comma (ends_number 44 refl)) in
      let head = head_stands g spaces y z.is_key (spelled_value value) in
      parts_from z (spaces.line d) head
      (more_parts head.head value (ap (byte u) stay ∙ comma) (rest.first ∙ ap (after_space u) (long ∙ ap (λ o. o + 1) (sym stay))) rest.parts)

-- the text of a spelling is spelled so
pub text_spelled : {t : List ℕ} {i j : ℕ} {x : Spelling} (g : Gaps) → AreSpace g → IsSpelled t i j x → IsSpelled (spread g 0 x) 0 (length (spread g 0 x)) x
text_spelled {x = x} g spaces a = let u = spread g 0 x in spelled_stands g 0 spaces a (whole u) (end_ends u (length u) (omega arith))

-- and so is the document that it is
pub text_document : {t : List ℕ} {x : Spelling} (g : Gaps) → AreSpace g → IsDocumentSpelled t x → IsDocumentSpelled (spread g 0 x) x
text_document {x = x} g spaces a =
    let u = spread g 0 x in
    let here = text_spelled g spaces a.spelled in
    let value = spelled_value here in
    let start = value_starts value in
    let later = after_space_later u (length u) in
    let within = after_space_within u (length u) (omega arith) in
    record {
      start = 0;
      end = length u;
      alone = record { start = start; root = rw start value; end = omega arith };
      spelled = here;
    }

-- a document that is the text of one spelling has no other one
pub one_again : {t : List ℕ} {x y : Spelling} (g : Gaps) → AreSpace g → IsDocumentSpelled t x → IsDocumentSpelled (spread g 0 x) y → y ≡ x
one_again {x = x} {y} g spaces a b =
    let u = spread g 0 x in
    let here = text_spelled g spaces a.spelled in
    let start : b.start ≡ 0 = sym b.alone.start ∙ value_starts (spelled_value here) in
    let there : IsSpelled u 0 b.end y = rw start at b.spelled in
    spelled_one there here

-- no gaps at all are white space, and so are lines
pub tight_spaces : AreSpace tight
tight_spaces = record { line = λ d k e l. absurd (omega arith); colon = λ k e l. absurd (omega arith) }

pub lines_spaces : (width : ℕ) → AreSpace (wide_gaps width)
lines_spaces width = record {
  line = λ d. All-cons (λ b. is_space b ≡ true) 10 (replicate (width * d) 32) refl (All-replicate (λ b. is_space b ≡ true) (width * d) 32 refl);
  colon = All-replicate (λ b. is_space b ≡ true) 1 32 refl;
}
