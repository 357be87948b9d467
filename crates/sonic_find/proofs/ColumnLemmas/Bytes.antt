-- Sixteen bytes compared with sixteen others.
use Rattle.std.proofs.Common.{◌≡◌, ◌∙◌, inl, inr, ap, sym, ℕ, ◌+◌, ◌-◌, ◌<◌, ◌≤◌, ◌%◌, ◌^◌, List, length, map, Bool, true, false, not, eqb, cond, get_or, take, drop, arith, refl, subst, w8}
use lib.Lanes.{zip2, mask_l, top}
use Rattle.std.specs.Int.Count.{count_trailing_zeros, trailing_of_zero}
use Rattle.std.specs.List.{prefix_len}
use Rattle.std.proofs.lemmas.Bool.{cases_eq, cases_lt, eqb-true}
use Rattle.std.proofs.lemmas.List.{get_or-take, get_or-drop, length-take-le, length-drop, map-id}
use Rattle.std.proofs.lemmas.List.Sums.{prefix_len_passes, prefix_len-le-length}
use Rattle.std.proofs.lemmas.Simd.{tops_compared, mask_l-lt, mask_l-mod, leading_from_mask_l, trailing_mask_l, get_or-zip2, length-zip2}
use Rattle.sonic_text.specs.Places.{byte}

-- two bytes differ
abbrev pub differ : ℕ → ℕ → Bool
differ a b = not (eqb a b)

-- the sixteen bytes from a place on
abbrev pub sixteen : List ℕ → ℕ → List ℕ
sixteen t i = take 16 (drop i t)

sixteen_long : (t : List ℕ) (i : ℕ) → i + 16 ≤ length t → length (sixteen t i) ≡ 16
sixteen_long t i l = length-take-le 16 (drop i t) (let long = length-drop i t in omega (arith, long))

-- the lanes that differ
abbrev pub others : List ℕ → ℕ → ℕ → List Bool
others t i j = zip2 differ (sixteen t i) (sixteen t j)

others_long : (t : List ℕ) (i j : ℕ) → i + 16 ≤ length t → j + 16 ≤ length t → length (others t i j) ≡ 16
others_long t i j l m = length-zip2 differ (sixteen t i) (sixteen t j) (sixteen_long t i l ∙ sym (sixteen_long t j m)) ∙ sixteen_long t i l

-- as a mask
abbrev pub mask : List ℕ → ℕ → ℕ → ℕ
mask t i j = mask_l (map (top 7) (zip2 (λ a b. cond (differ a b) (2 ^ 8 - 1) 0) (sixteen t i) (sixteen t j))) % 2 ^ 64

pub mask_is : (t : List ℕ) (i j : ℕ) → i + 16 ≤ length t → j + 16 ≤ length t → mask t i j ≡ mask_l (others t i j)
mask_is t i j l m =
    let long = others_long t i j l m in
    ap (λ ms. mask_l ms % 2 ^ 64) (tops_compared w8 differ (sixteen t i) (sixteen t j)) ∙ mask_l-mod (others t i j) 64 (omega (arith, long))

pub mask_small : (t : List ℕ) (i j : ℕ) → i + 16 ≤ length t → j + 16 ≤ length t → mask t i j < 2 ^ 16
mask_small t i j l m =
    let long = others_long t i j l m in
    let small = subst (λ n. mask_l (others t i j) < 2 ^ n) long (mask_l-lt (others t i j)) in
    subst (λ n. n < 2 ^ 16) (sym (mask_is t i j l m)) small

-- so many bytes come before the first that differs
count_is : (ms : List Bool) → length ms ≡ 16 → count_trailing_zeros 16 (mask_l ms) ≡ prefix_len (λ x. not x) ms
count_is ms long =
    let same : map (λ x. x) ms ≡ ms = map-id ms in
    elim (cases_eq (mask_l ms) 0) [
      | inl none ↦
          let all = leading_from_mask_l (λ x. x) ms (ap mask_l same ∙ none) in
          ap (count_trailing_zeros 16) none ∙ trailing_of_zero 16 ∙ sym (all ∙ long)
      | inr some ↦
          let there : 0 < mask_l (map (λ x. x) ms) = rw same (omega (arith, some)) in
          sym (ap (λ xs. count_trailing_zeros 16 (mask_l xs)) same) ∙ trailing_mask_l (λ x. x) 16 ms (omega (arith, long)) there
    ]

agree : (a b : ℕ) → not (differ a b) ≡ true → a ≡ b
agree a b h = eqb-true a b (same (eqb a b) h)
  where
    same : (x : Bool) → not (not x) ≡ true → x ≡ true
    same true h = refl
    same false h = h

-- the byte in a lane
at : (t : List ℕ) (i k : ℕ) → k < 16 → get_or (sixteen t i) k 0 ≡ byte t (i + k)
at t i k l = get_or-take 16 (drop i t) k 0 l ∙ get_or-drop i t k 0

-- and those are the same
pub same_before : (t : List ℕ) (i j : ℕ) → i + 16 ≤ length t → j + 16 ≤ length t → (k : ℕ) → k < count_trailing_zeros 16 (mask t i j)
    → byte t (i + k) ≡ byte t (j + k)
same_before t i j l m k less =
    let long = others_long t i j l m in
    let counted : count_trailing_zeros 16 (mask t i j) ≡ prefix_len (λ x. not x) (others t i j) = ap (count_trailing_zeros 16) (mask_is t i j l m) ∙ count_is (others t i j) long in
    let before : k < prefix_len (λ x. not x) (others t i j) = rw (← counted) less in
    let within : k < 16 = (let short = prefix_len-le-length (λ x. not x) (others t i j) in omega (arith, before, short, long)) in
    let lane : get_or (others t i j) k false ≡ differ (get_or (sixteen t i) k 0) (get_or (sixteen t j) k 0) =
    get_or-zip2 differ (sixteen t i) (sixteen t j) k 0 0 false (omega (arith, within, sixteen_long t i l)) (omega (arith, within, sixteen_long t j m)) in
    let agreed = agree (get_or (sixteen t i) k 0) (get_or (sixteen t j) k 0) (sym (ap not lane) ∙ prefix_len_passes (λ x. not x) (others t i j) k false before) in
    sym (at t i k within) ∙ agreed ∙ at t j k within

-- sixteen bytes that are the same, and those behind them
pub both_same : (t : List ℕ) (i j n a b : ℕ) → 16 ≤ a → ((k : ℕ) → k < a → byte t (i + k) ≡ byte t (j + k))
    → ((k : ℕ) → k < b → byte t (i + 16 + k) ≡ byte t (j + 16 + k)) → n ≤ 16 + b → (k : ℕ) → k < n → byte t (i + k) ≡ byte t (j + k)
both_same t i j n a b all first then few k less = elim (cases_lt k 16) [
  | inl early ↦ first k (omega (arith, early, all))
  | inr late ↦
      let here : i + 16 + (k - 16) ≡ i + k = omega (arith, late) in
      let there : j + 16 + (k - 16) ≡ j + k = omega (arith, late) in
      sym (ap (byte t) here) ∙ then (k - 16) (omega (arith, late, less, few)) ∙ ap (byte t) there
]
