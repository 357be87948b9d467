-- A value means the same in each text that has its bytes, if no number goes on after them there.
use Rattle.std.proofs.Common.{◌≡◌, ◌∙◌, ℕ, ◌+◌, ◌-◌, ◌<◌, ◌≤◌, List, ◌++◌, length, arith, refl, sym, codes}
use Rattle.std.specs.Prelude.{slice_range}
use Rattle.sonic_text.specs.declared.kind.Kind.{Kind}
use Rattle.sonic_text.specs.Places.{byte, after_space}
use Rattle.sonic_text.specs.Values.{closing}
use Rattle.sonic_text.specs.Trees.{Tree, Items, Means, ItemsMean}
use Rattle.sonic_text.specs.Trees.Means.{means_null, means_true, means_false, means_number, means_string, means_empty, means_filled}
use Rattle.sonic_text.specs.Trees.ItemsMean.{last_item, more_items}
use Rattle.sonic_text.proofs.Numbers.{number_longer}
use Rattle.sonic_text.proofs.Parts.{IsPart, byte_behind, part_between, part_is, part_length, part_text}
use Rattle.sonic_text.proofs.Places.{after_space_later}
use Rattle.sonic_text.proofs.Same.{Shared, Agrees, EndsNumber, shared_back, agree_at, agree_end, up_to, space_there, after_same, literal_same, number_same}
use Rattle.sonic_text.proofs.SameStrings.{string_same}
use Rattle.sonic_text.proofs.SameValues.{head_same}
use Rattle.sonic_text.proofs.TreeLemmas.{value_of}
use Rattle.sonic_text.proofs.ValueParts.{number_agrees}
use Rattle.sonic_text.proofs.Values.{head-later, value-longer}
use Rattle.sonic_text.proofs.Within.{value_within}

-- items that mean some lead on
items_longer : {t : List ℕ} {kind : Kind} {h j : ℕ} {xs : Items} → ItemsMean t kind h j xs → h < j
items_longer {t} (last_item {e = e} y x c q) = omega (arith, head-later y, value-longer (value_of x), after_space_later t e)
items_longer {t} (more_items {e = e} y x c q xs) =
    omega (arith, head-later y, value-longer (value_of x), after_space_later t e, after_space_later t (after_space t e + 1), items_longer xs)

-- what is from i to j in t is the same text in u
text_same : {t u : List ℕ} {d added : ℕ} (i x j k : ℕ) → Shared t u d added k → i + added ≡ d + x → j + added ≡ d + k → i ≤ j → slice_range t i j ≡ slice_range u x k
text_same {t} {u} i x j k h e f l =
    let a = h.reach_t in
    let b = h.reach_u in
    let n = part_length t i j l (omega arith) in
    let from = part_is t i j l (omega arith) in
    let there : IsPart u (slice_range t i j) x = record {
      reach_t = omega arith;
      reach_u = omega arith;
      bytes = λ p q z o. from.bytes (i + q) q (omega arith) o ∙ sym (h.bytes (i + q) p (omega arith) (omega arith));
    } in
    part_text there (omega arith)

mutual
  -- a value
  pub means_same : {t u : List ℕ} {d added i x j k : ℕ} {v : Tree} → Agrees EndsNumber t u d added j k → i + added ≡ d + x → Means t i j v → Means u x k v
  means_same {i = i} {x} h f (means_null g) = means_null (literal_same i x f (codes "null") h.place h.before g)
  means_same {i = i} {x} h f (means_true g) = means_true (literal_same i x f (codes "true") h.place h.before g)
  means_same {i = i} {x} h f (means_false g) = means_false (literal_same i x f (codes "false") h.place h.before g)
  means_same {i = i} {x} {j} {k} h f (means_number g is) =
      let l = number_longer g in
      means_number (number_same i x f h g) (is ∙ text_same i x j k h.before f h.place (omega arith))
  means_same h f (means_string g) = means_string (string_same h.before f h.place g)
  means_same {t} {i = i} {x} h f (means_empty {kind} b c q) =
      let p = h.place in
      let l = after_space_later t (i + 1) in
      let (s, z) = after_same (i + 1) (x + 1) (omega arith) (closing kind) h.before (omega arith) c in
      means_empty (h.before.bytes i x f (omega arith) ∙ b) z (omega arith)
  means_same {t} {u} {i = i} {x} h f (means_filled {kind} {h = n} b q o xs) =
      let p = h.place in
      let l = after_space_later t (i + 1) in
      let r = items_longer xs in
      let w = after_space u (x + 1) in
      let s = space_there (i + 1) (x + 1) (omega arith) h.before (omega arith) in
      let c : byte u w ≡ byte t n = h.before.bytes n w (omega arith) (omega arith) in
      means_filled (h.before.bytes i x f (omega arith) ∙ b) refl (rw c o) (items_mean_same h (omega arith) xs)

  -- items
  items_mean_same : {t u : List ℕ} {kind : Kind} {d added i x j k : ℕ} {xs : Items} → Agrees EndsNumber t u d added j k → i + added ≡ d + x → ItemsMean t kind i j xs
      → ItemsMean u kind x k xs
  items_mean_same {t} {u} {kind} {d} {added} h f (last_item {v = v} {e = e} y g c q) =
      let p = h.place in
      let r = head-later y in
      let o = value-longer (value_of g) in
      let a = after_space_later t e in
      let (s, z) = after_same e (e + added - d) (omega arith) (closing kind) h.before (omega arith) c in
      let head = head_same (agree_at h.before v (v + added - d) (omega arith) (omega arith)) f y in
      last_item head (means_same (agree_at h.before e (e + added - d) (omega arith) (omega arith)) (omega arith) g) z (omega arith)
  items_mean_same {t} {u} {kind} {d} {added} h f (more_items {v = v} {e = e} y g c q xs) =
      let p = h.place in
      let r = head-later y in
      let o = value-longer (value_of g) in
      let a = after_space_later t e in
      let b = after_space_later t (after_space t e + 1) in
      let l = items_longer xs in
      let (s, z) = after_same e (e + added - d) (omega arith) 44 h.before (omega arith) c in
      let n = space_there (after_space t e + 1) (after_space u (e + added - d) + 1) (omega arith) h.before (omega arith) in
      let head = head_same (agree_at h.before v (v + added - d) (omega arith) (omega arith)) f y in
      let value = means_same (agree_at h.before e (e + added - d) (omega arith) (omega arith)) (omega arith) g in
      more_items head value z refl (items_mean_same h (omega arith) xs)

-- a value of a part means the same in the text, where no number goes on after the part
pub part_means : {t u : List ℕ} {d x y : ℕ} {v : Tree} → IsPart t u d → EndsNumber (byte t (d + length u)) → Means u x y v → Means t (d + x) (d + y) v
part_means {u = u} {d} {x} {y} part end h =
    let l = value_within (value_of h) in
    let back = shared_back (d + length u) (omega arith) part in
    means_same (up_to (agree_end (length u) (omega arith) back end) y (d + y) (omega arith) l) (omega arith) h

-- so it is with a text that is written between two others
pub value_placed : (front u back : List ℕ) {x y : ℕ} {v : Tree} → Means u x y v → EndsNumber (byte back 0)
    → Means (front ++ (u ++ back)) (length front + x) (length front + y) v
value_placed front u back h end = part_means (part_between front u back) (rw (byte_behind front u back) end) h

-- a value means the same in its own text
pub slice_means : {t : List ℕ} {i j : ℕ} {v : Tree} → Means t i j v → j ≤ length t → Means (slice_range t i j) 0 (length (slice_range t i j)) v
slice_means {t} {i} {j} h l =
    let n = value-longer (value_of h) in
    let e = part_length t i j (omega arith) l in
    means_same (number_agrees (part_is t i j (omega arith) l) (omega arith) (omega arith)) (omega arith) h
