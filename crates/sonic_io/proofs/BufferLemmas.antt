-- What a sink took of bytes that went through a buffer.
use Rattle.std.proofs.Common.{◌≡◌, ℕ, ◌+◌, ◌<◌, List, [], ◌∷◌, ◌++◌, length, get_or, take, drop, sym, ap, ◌∙◌, append_assoc, append-nil, take-append-drop}
use Rattle.std.specs.List.{flat_map}
use Rattle.std.specs.declared.option.Option.{Option}
use Rattle.std.proofs.lemmas.Grind.{flat_map-append}
use Rattle.std.proofs.lemmas.List.{at_drop_more, take_more}
use Rattle.std.specs.Prelude.{OnErr, OnOk, Result, Ok, Err}
use Rattle.sonic_io.specs.declared.buffer.Buffer.{Buffer}
use Rattle.sonic_io.specs.declared.sink.Sink.{Ghosts}
use Rattle.sonic_io.specs.Buffers.{held, IsCutOff, IsHandedOn, IsWritten, TookBut}
use Rattle.sonic_io.specs.Outside.{Rose, Took, TookPrefix}
use Rattle.sonic_io.proofs.OutsideLemmas.{took_both, prefix_of_first, prefix_of_both}

-- what was held was written, and then a piece was, or a prefix of it
pub written_over : {K V E : Type 0} (g : Ghosts K) (before between after : K × Buffer) (piece : List ℕ) (result : Result V E)
    → Took (g.written before.0) (g.written between.0) (held before.1) → g.faults between.0 ≡ g.faults before.0 → held after.1 ≡ []
    → OnOk result (Took (g.written between.0) (g.written after.0) piece) → OnErr result (TookPrefix (g.written between.0) (g.written after.0) piece)
    → OnOk result (g.faults after.0 ≡ g.faults between.0) → OnErr result (Rose (g.faults between.0) (g.faults after.0)) → IsWritten g before after piece result
written_over g before between after piece (Ok value) first calm none all prefix same cause = record {
  taken = record {
    prefix = held before.1 ++ piece;
    parts = sym (append-nil (held before.1 ++ piece)) ∙ ap (λ rest. (held before.1 ++ piece) ++ rest) (sym none);
    taken = took_both (g.written before.0) (g.written between.0) (g.written after.0) (held before.1) piece first all;
  };
  calm = same ∙ calm;
}
written_over g before between after piece (Err error) first calm none all prefix same cause = record {
  prefix = prefix_of_both (g.written before.0) (g.written between.0) (g.written after.0) (held before.1) piece first prefix;
  cause = rw calm at cause;
}

module _ {before between after : Option (List ℕ)} {middle : List ℕ} where
  -- after bytes, more of them
  but_more : {new : List ℕ} (old xs ys : List ℕ) → TookBut before between middle (old ++ xs) → TookBut between after new (middle ++ ys)
      → TookBut before after new (old ++ (xs ++ ys))
  but_more {new = new} old xs ys first second = record {
    prefix = first.prefix ++ second.prefix;
    parts = sym (append_assoc old xs ys)
        ∙ ap (λ all. all ++ ys) first.parts
        ∙ append_assoc first.prefix middle ys
        ∙ ap (λ rest. first.prefix ++ rest) second.parts
        ∙ sym (append_assoc first.prefix second.prefix new);
    taken = took_both before between after first.prefix second.prefix first.taken second.taken;
  }

  -- after bytes, a prefix of what was held and of more of them
  but_prefix : (old xs ys : List ℕ) → TookBut before between middle (old ++ xs) → TookPrefix between after (middle ++ ys)
      → TookPrefix before after (old ++ (xs ++ ys))
  but_prefix old xs ys first second =
      rw (← append_assoc old xs ys, first.parts, append_assoc first.prefix middle ys)
      (prefix_of_both before between after first.prefix (middle ++ ys) first.taken second)

  -- after bytes, what was held
  pub but_rest : {all : List ℕ} → TookBut before between middle all → Took between after middle → Took before after all
  but_rest first second = rw first.parts (took_both before between after first.prefix middle first.taken second)

  -- after bytes, a prefix of what was held
  pub but_rest_prefix : {all : List ℕ} → TookBut before between middle all → TookPrefix between after middle → TookPrefix before after all
  but_rest_prefix first second = rw first.parts (prefix_of_both before between after first.prefix middle first.taken second)

module _ {K : Type 0} {g : Ghosts K} {before after : K × Buffer} where
  -- what was cut off is so with more bytes
  pub cut_first : (xs ys : List ℕ) → IsCutOff g before after xs → IsCutOff g before after (xs ++ ys)
  cut_first xs ys cut = record { prefix = rw (← append_assoc (held before.1) xs ys) (prefix_of_first (g.written before.0) (g.written after.0) (held before.1 ++ xs) ys cut.prefix); cause = cut.cause }

  module _ {between : K × Buffer} (xs ys : List ℕ) (first : IsHandedOn g before between xs) where
    -- more bytes were passed
    pub passed_more : IsHandedOn g between after ys → IsHandedOn g before after (xs ++ ys)
    passed_more passed = record { taken = but_more (held before.1) xs ys first.taken passed.taken; calm = passed.calm ∙ first.calm }

    -- or cut off
    pub cut_later : IsCutOff g between after ys → IsCutOff g before after (xs ++ ys)
    cut_later cut = record { prefix = but_prefix (held before.1) xs ys first.taken cut.prefix; cause = rw first.calm at cut.cause }

-- more bytes were passed or cut off, as the result says
pub then_written : {K V E : Type 0} {g : Ghosts K} {before between : K × Buffer} (after : K × Buffer) (xs ys : List ℕ) → IsHandedOn g before between xs → (result : Result V E)
    → IsWritten g between after ys result → IsWritten g before after (xs ++ ys) result
then_written after xs ys first (Ok value) passed = passed_more xs ys first passed
then_written after xs ys first (Err error) cut = cut_later xs ys first cut

-- the texts below an index, the text there, and those after it
split_texts : {P : Type 0} (text : P → List ℕ) (all : List P) (i : ℕ) (d : P)
    → i < length all
    → flat_map text all
    ≡ (flat_map text (take i all) ++ text (get_or all i d)) ++ flat_map text (drop (i + 1) all)
split_texts text all i d below =
    ap (flat_map text) (sym (take-append-drop i all))
    ∙ flat_map-append text (take i all) (drop i all)
    ∙ ap (λ rest. flat_map text (take i all) ++ rest) (at_drop_more (flat_map text) all i d below)
    ∙ sym (append_assoc (flat_map text (take i all)) (text (get_or all i d)) (flat_map text (drop (i + 1) all)))

-- the texts below an index, and the text there
more_texts : {P : Type 0} (text : P → List ℕ) (all : List P) (i : ℕ) (d : P)
    → i < length all
    → flat_map text (take (i + 1) all) ≡ flat_map text (take i all) ++ text (get_or all i d)
more_texts text all i d below =
    ap (flat_map text) (take_more all i d below)
    ∙ flat_map-append text (take i all) (get_or all i d ∷ [])
    ∙ ap (λ rest. flat_map text (take i all) ++ rest) (append-nil (text (get_or all i d)))

module _ {P : Type 0} (text : P → List ℕ) (all : List P) (i : ℕ) (d : P) {K : Type 0} {g : Ghosts K} {before between after : K × Buffer} where
  -- after the texts below an index, the text there
  pub texts_passed : i < length all → IsHandedOn g before between (flat_map text (take i all)) → IsHandedOn g between after (text (get_or all i d))
      → IsHandedOn g before after (flat_map text (take (i + 1) all))
  texts_passed below first second = rw (more_texts text all i d below) (passed_more (flat_map text (take i all)) (text (get_or all i d)) first second)

  -- after them, the text there was cut off
  pub texts_cut : i < length all → IsHandedOn g before between (flat_map text (take i all)) → IsCutOff g between after (text (get_or all i d)) → IsCutOff g before after (flat_map text all)
  texts_cut below first second =
      rw (split_texts text all i d below)
      (cut_first _ (flat_map text (drop (i + 1) all)) (cut_later (flat_map text (take i all)) (text (get_or all i d)) first second))
