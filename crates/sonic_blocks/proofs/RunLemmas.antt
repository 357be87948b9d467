-- A run of bytes that pass a test, through the masks of those that don't.
use Rattle.std.proofs.Common.{◌≡◌, ℕ, zero, suc, ◌+◌, ◌-◌, ◌^◌, ◌<◌, ◌≤◌, Bool, true, false, not, inl, inr, List, map, length, drop, get_or, sym, ap, ◌∙◌, arith, w64}
use Rattle.std.specs.List.{prefix_len}
use Rattle.std.specs.Int.{trailing_zeros}
use Rattle.std.proofs.Math.Nat.{eq-zero-or-pos}
use Rattle.std.proofs.lemmas.Bool.{cases_lt, false≢true}
use Rattle.std.proofs.lemmas.List.{get_or-drop, get_or_past, length-drop, length-map}
use Rattle.std.proofs.lemmas.List.Sums.{prefix_len-le-length, prefix_len-drop_yes, prefix_len-drop_no, prefix_len_passes, prefix_len_stops}
use Rattle.std.proofs.lemmas.Simd.{length-chunk, trailing_mask_l, run_in_chunk_fails, run_in_chunk_stops, none_from_empty_mask}
use lib.Lanes.{chunk, mask_l}
use Rattle.sonic_blocks.specs.Bits.{is_set}
use Rattle.sonic_blocks.proofs.BoolLemmas.{not_true, not_false}
use Rattle.sonic_blocks.proofs.BitLemmas.{set_mask}
use Rattle.sonic_blocks.proofs.LowestLemmas.{lowest_set}

module _ (test : ℕ → Bool) (t : List ℕ) where
  -- where the run from i on ends
  abbrev pub end_of_run : ℕ → ℕ
  end_of_run i = i + prefix_len test (drop i t)

  pub run_within : (i : ℕ) → i ≤ length t → end_of_run i ≤ length t
  run_within i h = omega (arith, prefix_len-le-length test (drop i t), length-drop i t)

  -- each byte of a run passes
  pub run_passes : (i k : ℕ) → i ≤ k → k < end_of_run i → test (get_or t k 0) ≡ true
  run_passes i k from to =
      let back : i + (k - i) ≡ k = omega arith in
      ap test (sym (get_or-drop i t (k - i) 0 ∙ ap (λ j. get_or t j 0) back)) ∙ prefix_len_passes test (drop i t) (k - i) 0 (omega arith)

  -- and the byte after it doesn't
  pub run_fails : (i e : ℕ) → i ≤ length t → e ≡ end_of_run i → e < length t → test (get_or t e 0) ≡ false
  run_fails i e within is inside =
      ap test (ap (λ j. get_or t j 0) is ∙ sym (get_or-drop i t (prefix_len test (drop i t)) 0)) ∙ prefix_len_stops test (drop i t) 0 (omega (arith, within, is, inside, length-drop i t))

  -- a run goes on through bytes that pass
  goes_through : (n i : ℕ) → i + n ≤ length t → ((k : ℕ) → i ≤ k → k < i + n → test (get_or t k 0) ≡ true) → end_of_run i ≡ end_of_run (i + n)
  goes_through zero i room all = ap end_of_run (omega arith)
  goes_through (suc n) i room all =
      let one = prefix_len-drop_yes test t i 0 (omega arith) (all i (omega arith) (omega arith)) in
      let rest = goes_through n (i + 1) (omega arith) (λ k from to. all k (omega arith) (omega arith)) in
      let same : i + 1 + n ≡ i + suc n = omega arith in
      omega (arith, one, rest, ap end_of_run same)

  -- n bytes that pass are passed
  pub goes_past : (n i : ℕ) → i + n ≤ length t → n ≤ prefix_len test (drop i t) → end_of_run i ≡ end_of_run (i + n)
  goes_past n i room all = goes_through n i room (λ k from to. run_passes i k from (omega (arith, all, to)))

  module _ (i n x : ℕ) (room : i + n ≤ length t) (short : n ≤ 64) (mask : x ≡ mask_l (map (λ b. not (test b)) (chunk i n t))) where
    abbrev lanes : List ℕ
    lanes = chunk i n t

    -- lanes that all pass
    pub run_through : x ≡ 0 → end_of_run i ≡ end_of_run (i + n)
    run_through none = goes_through n i room (λ k from to. not_false _ (none_from_empty_mask (λ b. not (test b)) t i n 0 room (sym mask ∙ none) k from to))

    -- the lowest bit is that of a lane
    pub lane_of_bit : 0 < x → x < 2 ^ 64 → trailing_zeros w64 x < n
    lane_of_bit some small =
        let r = trailing_zeros w64 x in
        elim (cases_lt r n) [
          | inl l ↦ l
          | inr past ↦
              absurd (false≢true (sym (get_or_past (map (λ b. not (test b)) lanes) r false (omega (arith, past, length-chunk i n t room, length-map lanes (λ b. not (test b))))) ∙ sym (set_mask (map (λ b. not (test b)) lanes) r)
              ∙ ap (λ m. is_set m r) (sym mask) ∙ lowest_set w64 x some small))
        ]

    -- the first that doesn't pass
    pub run_stops : 0 < x → x < 2 ^ 64 → end_of_run i ≡ i + trailing_zeros w64 x
    run_stops some small =
        let r = trailing_zeros w64 x in
        let counted : r ≡ prefix_len (λ b. not (not (test b))) lanes = ap (trailing_zeros w64) mask ∙ trailing_mask_l (λ b. not (test b)) 64 lanes (omega (arith, length-chunk i n t room)) (omega (arith, mask, some)) in
        let within = lane_of_bit some small in
        goes_through r i (omega (arith, room, within)) (λ k from to. not_false _ (run_in_chunk_fails (λ b. not (test b)) t i n r 0 room counted k from to))
        ∙ stop (prefix_len-drop_no test t (i + r) 0 (omega (arith, room, within)) (not_true _ (run_in_chunk_stops (λ b. not (test b)) t i n r 0 room counted within)))
      where
        stop : {p : ℕ} → prefix_len test (drop p t) ≡ 0 → end_of_run p ≡ p
        stop none = omega (arith, none)

    -- lanes of a run that is no shorter all pass
    pub none_misses : x < 2 ^ 64 → n ≤ prefix_len test (drop i t) → x ≡ 0
    none_misses small all =
        elim (eq-zero-or-pos x) [
          | inl none ↦ none
          | inr some ↦ absurd (omega (arith, all, run_stops some small, lane_of_bit some small))
        ]
