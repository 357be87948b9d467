-- A value that isn't there because the text ends is completed by some more bytes.
use Rattle.std.proofs.Common.{◌≡◌, ◌≢◌, ◌∙◌, ℕ, ◌+◌, ◌≤◌, Bool, List, [], ◌∷◌, ◌++◌, length, append-nil, arith, refl}
use Rattle.std.proofs.lemmas.List.Sums.{prefix_len-drop_all}
use Rattle.std.specs.Prelude.{Option}
use Rattle.sonic_error.specs.declared.code.ErrorCode.{ErrorCode}
use Rattle.sonic_error.specs.declared.code.ErrorCode.TheVariants.{EofWhileParsing}
use Rattle.sonic_text.specs.declared.kind.Kind.{Kind}
use Rattle.sonic_text.specs.declared.kind.Kind.TheVariants.{Object}
use Rattle.sonic_text.specs.declared.stop.Stop.{Stop}
use Rattle.sonic_text.specs.Places.{byte, after_space, stop_at, is_space}
use Rattle.sonic_text.specs.Strings.{IsString}
use Rattle.sonic_text.specs.Values.{closing, IsKey, ItemHead, IsValue, ItemsFit}
use Rattle.sonic_text.specs.Values.ItemHead.{key_head}
use Rattle.sonic_text.specs.Values.IsValue.{null_literal, true_literal, false_literal, number, string, filled}
use Rattle.sonic_text.specs.Faults.{IsKeyFault, IsFault}
use Rattle.sonic_text.specs.Faults.IsKeyFault.{no_quote, key_fault, no_colon}
use Rattle.sonic_text.specs.Faults.IsFault.{no_value, null_fault, true_fault, false_fault, number_fault, string_fault, in_key, in_value, after_item}
use Rattle.sonic_text.proofs.Items.{closing_no_space}
use Rattle.sonic_text.proofs.Places.{after_space_later}
use Rattle.sonic_text.proofs.Stops.{stop_at_end, after_known}
use Rattle.sonic_text.proofs.Values.{value-longer, value_never_both}
use Rattle.sonic_text.proofs.Within.{after_space_within, value_within, items_within, head_within}
use Rattle.sonic_text.proofs.Same.{same_less, same_longer, same_whole, closing_ends, agree_at, agree_other, up_to, space_same}
use Rattle.sonic_text.proofs.SameStrings.{string_same}
use Rattle.sonic_text.proofs.SameValues.{value_starts_item, value_same, items_same, item_same}
use Rattle.sonic_text.proofs.Completions.{Completes, complete_more, complete_as, pushed, pushed_length, StringFrom, quotes, string_completes, number_completes, literal_completes}

-- at the end no white space follows
end_space : (t : List ℕ) → length t ≡ after_space t (length t)
end_space t = omega (arith, prefix_len-drop_all is_space t (length t) (omega arith))

-- a value from i on
abbrev pub ValueFrom : Bool → ℕ → List ℕ → ℕ → Type 0
ValueFrom m i t j = IsValue m t i j

-- a key from k on, whose value is expected at the end
abbrev KeyFrom : Bool → ℕ → List ℕ → ℕ → Type 0
KeyFrom m k t v = (b : List ℕ) × IsKey m t k v b

-- after an item's value, and white space that ends the text, the closing bracket completes the container
close_item : {m : Bool} {t : List ℕ} {kind : Kind} {i n h v e : ℕ} {l : Option (List ℕ)} → ItemsFit m t kind i n h → ItemHead m t kind h v l
    → IsValue m t v e → length t ≡ after_space t e → Completes (ValueFrom m i) t
close_item {m} {t} {kind} {v = v} {e} is y x q =
    let bracket = closing kind in
    let u = t ++ bracket ∷ [] in
    let n = length t in
    let s = same_whole t (bracket ∷ []) in
    let b : byte u n ≡ bracket = pushed t bracket n refl in
    let l = value-longer x in
    let o = after_space_later t e in
    let w : IsValue m u v e = value_same (up_to (agree_other s (rw b (closing_ends kind))) e e (omega arith) (omega arith)) (omega arith) x in
    let (fs, z) = item_same (agree_at s v v (omega arith) (omega arith)) is y in
    let f : n ≡ after_space u e = space_same e e (omega arith) (agree_other s (rw b (closing_no_space kind))) q in
    let g : byte u (after_space u e) ≡ bracket = rw f at b in
    record { missing = bracket ∷ []; complete = filled fs z w g (pushed_length t bracket ∙ rw f refl) }

-- where an item's value is completed, so is the container
item_completes : {m : Bool} {t : List ℕ} {kind : Kind} {i n h v : ℕ} {l : Option (List ℕ)} → ItemsFit m t kind i n h → ItemHead m t kind h v l
    → Completes (ValueFrom m v) t → Completes (ValueFrom m i) t
item_completes {m} {t} {i = i} {v = v} is y x =
    let u = t ++ x.missing in
    let w : IsValue m u v (length u) = x.complete in
    let (fs, z) = item_same (agree_other (same_longer t x.missing v (head_within y (items_within is))) (value_starts_item w)) is y in
    complete_more (ValueFrom m i) t x.missing (close_item fs z w (end_space u))

-- two quotes are a value
quotes_value : (m : Bool) (t : List ℕ) → Completes (ValueFrom m (length t)) t
quotes_value m t = complete_as (λ u j x. string x.1) (quotes m t)

-- a colon completes a key
close_key : {m : Bool} {t : List ℕ} {k e : ℕ} {b : List ℕ} → IsString m t k e b → length t ≡ after_space t e → Completes (KeyFrom m k) t
close_key {m} {t} {k} {e} {b} x q =
    let u = t ++ 58 ∷ [] in
    let n = length t in
    let h = same_whole t (58 ∷ []) in
    let c : byte u n ≡ 58 = pushed t 58 n refl in
    let o = after_space_later t e in
    let s : n ≡ after_space u e = space_same e e (omega arith) (agree_other h (rw c refl)) q in
    let p : length u ≡ after_space u e + 1 = pushed_length t 58 ∙ rw s refl in
    let y : IsKey m u k (length u) b = record {
      end = e;
      string = string_same (same_less e h (omega arith)) (omega arith) (omega arith) x;
      colon = rw s at c;
      value_start = end_space u ∙ rw p refl;
    } in
    record { missing = 58 ∷ []; complete = (b, y) }

-- a string that is completed is a key, with a colon
string_key : (m : Bool) (t : List ℕ) (k : ℕ) → Completes (StringFrom m k) t → Completes (KeyFrom m k) t
string_key m t k x = complete_more (KeyFrom m k) t x.missing (close_key x.complete.1 (end_space (t ++ x.missing)))

-- where what is expected after white space is missing, the white space ends the text
space_ends : (t : List ℕ) (e : ℕ) (code : ErrorCode) (s : Stop) → e ≤ length t → s ≡ stop_at t (after_space t e) code → s.code ≡ EofWhileParsing
    → code ≢ EofWhileParsing → length t ≡ after_space t e
space_ends t e code s l q c d = omega (arith, stop_at_end t (after_space t e) code s q c d, after_space_within t e l)

-- a key that ends too early is completed
key_completes : {m : Bool} {t : List ℕ} {k : ℕ} {s : Stop} → k ≤ length t → IsKeyFault m t k s → s.code ≡ EofWhileParsing → Completes (KeyFrom m k) t
key_completes {m} {t} {k} {s} l (no_quote d e) c =
    let q : length t ≡ k = omega (arith, stop_at_end t k _ s e c (λ z. cc)) in
    rw q at (string_key m t (length t) (quotes m t))
key_completes {m} {t} {k} l (key_fault o f) c = string_key m t k (string_completes o f c)
key_completes {t = t} {s = s} l (no_colon {e} x d q) c = close_key x (space_ends t e _ s (value_within (string x)) q c (λ z. cc))

-- where a key is completed, so is the object
object_completes : {m : Bool} {t : List ℕ} {i n k : ℕ} → ItemsFit m t Object i n k → Completes (KeyFrom m k) t → Completes (ValueFrom m i) t
object_completes {m} {t} {i} {k = k} is x =
    let u = t ++ x.missing in
    let y = x.complete.1 in
    let fs = items_same (agree_other (same_longer t x.missing k (items_within is)) (value_starts_item (string y.string))) (omega arith) is in
    complete_more (ValueFrom m i) t x.missing (item_completes fs (key_head y) (quotes_value m u))

-- a value that ends too early is completed
pub value_completes : {m : Bool} {t : List ℕ} {i : ℕ} {s : Stop} → i ≤ length t → IsFault m t i s → s.code ≡ EofWhileParsing → Completes (ValueFrom m i) t
value_completes {m} {t} {i} {s} l (no_value b e) c =
    let q : length t ≡ i = omega (arith, stop_at_end t i _ s e c (λ z. cc)) in
    rw q at (quotes_value m t)
value_completes l (null_fault b f) c = complete_as (λ u j. null_literal) (literal_completes f c)
value_completes l (true_fault b f) c = complete_as (λ u j. true_literal) (literal_completes f c)
value_completes l (false_fault b f) c = complete_as (λ u j. false_literal) (literal_completes f c)
value_completes l (number_fault b f) c = complete_as (λ u j. number) (number_completes b f c)
value_completes l (string_fault b f) c = complete_as (λ u j x. string x.1) (string_completes b f c)
value_completes l (in_key is f) c = object_completes is (key_completes (items_within is) f c)
value_completes l (in_value is y f) c = item_completes is y (value_completes (head_within y (items_within is)) f c)
value_completes {t = t} {s = s} l (after_item {kind} {e = e} is y x f q) c =
    close_item is y x (space_ends t e _ s (value_within x) q c (after_known kind).1)

-- a value in a longer text begins after the same white space
same_start : {m : Bool} {j : ℕ} (t w : List ℕ) (p i : ℕ) → i ≡ after_space t p → i ≤ length t → IsValue m (t ++ w) i j → IsValue m (t ++ w) (after_space (t ++ w) p) j
same_start t w p i e l x =
    let q : i ≡ after_space (t ++ w) p = space_same p p (omega arith) (agree_other (same_longer t w i l) (value_starts_item x).0) e in
    rw q at x

-- a text that ends too early begins a longer one that is a value from a place on
pub may_go_on : {m : Bool} {t : List ℕ} {p : ℕ} {s : Stop} → p ≤ length t → IsFault m t (after_space t p) s → s.code ≡ EofWhileParsing
    → (w : List ℕ) × (w ≢ []) × IsValue m (t ++ w) (after_space (t ++ w) p) (length (t ++ w))
may_go_on {t = t} {p} l f c =
    let within = after_space_within t p l in
    let h = value_completes within f c in (
      h.missing,
      (λ z. value_never_both (rw (z, append-nil) at h.complete) f),
      same_start t h.missing p (after_space t p) refl within h.complete,
    )
