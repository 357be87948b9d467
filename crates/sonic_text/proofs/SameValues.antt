-- A text that holds bytes of another one: values, items and keys that end there are in both.
use Rattle.std.proofs.Common.{◌≡◌, ◌≢◌, ◌∙◌, ℕ, ◌+◌, ◌-◌, ◌<◌, Bool, List, arith, refl, codes}
use Rattle.std.specs.Prelude.{Option}
use Rattle.sonic_text.specs.declared.kind.Kind.{Kind}
use Rattle.sonic_text.specs.Faults.{no_value}
use Rattle.sonic_text.specs.Places.{byte, after_space}
use Rattle.sonic_text.specs.Values.{closing, IsKey, ItemHead, IsValue, ItemsFit}
use Rattle.sonic_text.specs.Values.ItemHead.{no_head, key_head}
use Rattle.sonic_text.specs.Values.IsValue.{null_literal, true_literal, false_literal, number, string, empty, filled}
use Rattle.sonic_text.specs.Values.ItemsFit.{first_item, next_item}
use Rattle.sonic_text.proofs.Items.{closing_begins_none}
use Rattle.sonic_text.proofs.Places.{after_space_later}
use Rattle.sonic_text.proofs.Strings.{string_longer}
use Rattle.sonic_text.proofs.Values.{head-later, value-longer, items-later, value_never_both, value_no_space}
use Rattle.sonic_text.proofs.Same.{Agrees, NoSpace, EndsNumber, agree_at, up_to, keeps, weaker, same_less, after_same, space_same, number_same, literal_same}
use Rattle.sonic_text.proofs.SameStrings.{string_same}

-- a byte that may begin an item: no white space, and no bracket that closes a container
abbrev pub StartsItem : ℕ → Type 0
StartsItem b = NoSpace b × ((kind : Kind) → b ≢ closing kind)

-- a value begins as an item may
pub value_starts_item : {m : Bool} {t : List ℕ} {i j : ℕ} → IsValue m t i j → StartsItem (byte t i)
value_starts_item x = (value_no_space x, λ kind e. (let none = closing_begins_none kind in value_never_both x (no_value (rw e none) refl)))

module _ {t u : List ℕ} {d added v y : ℕ} (h : Agrees StartsItem t u d added v y) where
  -- what is expected after a byte and white space
  next_same : (e z : ℕ) → e + added ≡ d + z → v ≡ after_space t (e + 1) → y ≡ after_space u (z + 1)
  next_same e z f q = space_same (e + 1) (z + 1) (omega arith) (weaker h (λ b o. o.0)) q

  -- a key
  pub key_same : {m : Bool} {k x : ℕ} {b : List ℕ} → k + added ≡ d + x → IsKey m t k v b → IsKey m u x y b
  key_same {k = k} f g =
      let n : k < g.end = string_longer g.string in
      let l = after_space_later t g.end in
      let o = after_space_later t (after_space t g.end + 1) in
      let p = h.place in
      let q = g.value_start in
      let z = g.end + added - d in
      let e : g.end + added ≡ d + z = omega arith in
      let c = after_same g.end z e 58 h.before (omega arith) g.colon in
      record {
        end = z;
        string = string_same (same_less z h.before (omega arith)) f e g.string;
        colon = c.1;
        value_start = next_same (after_space t g.end) (after_space u z) c.0 q;
      }

  -- what comes before an item's value
  pub head_same : {m : Bool} {kind : Kind} {k x : ℕ} {l : Option (List ℕ)} → k + added ≡ d + x → ItemHead m t kind k v l → ItemHead m u kind x y l
  head_same e (no_head f) = let p = h.place in no_head (omega arith)
  head_same e (key_head g) = key_head (key_same e g)

mutual
  -- a value
  pub value_same : {m : Bool} {t u : List ℕ} {d added i x j k : ℕ} → Agrees EndsNumber t u d added j k → i + added ≡ d + x → IsValue m t i j → IsValue m u x k
  value_same {i = i} {x} h f (null_literal g) = null_literal (literal_same i x f (codes "null") h.place h.before g)
  value_same {i = i} {x} h f (true_literal g) = true_literal (literal_same i x f (codes "true") h.place h.before g)
  value_same {i = i} {x} h f (false_literal g) = false_literal (literal_same i x f (codes "false") h.place h.before g)
  value_same {i = i} {x} h f (number g) = number (number_same i x f h g)
  value_same h f (string g) = string (string_same h.before f h.place g)
  value_same {t = t} {i = i} {x} h f (empty kind b c q) =
      let p = h.place in
      let l = after_space_later t (i + 1) in
      let (s, z) = after_same (i + 1) (x + 1) (omega arith) (closing kind) h.before (omega arith) c in
      empty kind (h.before.bytes i x f (omega arith) ∙ b) z (omega arith)
  value_same {m} {t} {u} {d} {added} h f (filled {kind} {h = n} {v = v} {e = e} {l = b} is y g c q) =
      let p = h.place in
      let l = items-later is in
      let r = head-later y in
      let o = value-longer g in
      let a = after_space_later t e in
      let (s, z) = after_same e (e + added - d) (omega arith) (closing kind) h.before (omega arith) c in
      let fs = items_same (agree_at h.before n (n + added - d) (omega arith) (omega arith)) f is in
      let w : ItemHead m u kind (n + added - d) (v + added - d) b = head_same (agree_at h.before v (v + added - d) (omega arith) (omega arith)) (omega arith) y in
      filled fs w (value_same (agree_at h.before e (e + added - d) (omega arith) (omega arith)) (omega arith) g) z (omega arith)

  -- items
  pub items_same : {m : Bool} {t u : List ℕ} {kind : Kind} {d added i x n j k : ℕ} → Agrees StartsItem t u d added j k → i + added ≡ d + x → ItemsFit m t kind i n j
      → ItemsFit m u kind x n k
  items_same {t = t} {kind = kind} {i = i} {x} {j = j} h f (first_item b q o s) =
      let p = h.place in
      let l = after_space_later t (i + 1) in
      let a : byte t j ≢ closing kind = o in
      first_item (h.before.bytes i x f (omega arith) ∙ b) (next_same h i x f q) (keeps h (λ z y. y.1 kind) a) s
  items_same {m} {t} {u} {kind} {d} {added} h f (next_item {u = w} {v = v} {e = e} {l = k} is y g c q s) =
      let p = h.place in
      let l = items-later is in
      let r = head-later y in
      let o = value-longer g in
      let a = after_space_later t e in
      let b = after_space_later t (after_space t e + 1) in
      let (n, z) = after_same e (e + added - d) (omega arith) 44 h.before (omega arith) c in
      let fs = items_same (agree_at h.before w (w + added - d) (omega arith) (omega arith)) f is in
      let head : ItemHead m u kind (w + added - d) (v + added - d) k = head_same (agree_at h.before v (v + added - d) (omega arith) (omega arith)) (omega arith) y in
      next_item fs head (value_same (agree_at h.before e (e + added - d) (omega arith) (omega arith)) (omega arith) g) z (next_same h (after_space t e) _ n q) s

-- in texts that begin alike, items and what comes before the value of the next one
pub item_same : {m : Bool} {t u : List ℕ} {kind : Kind} {i n h v : ℕ} {l : Option (List ℕ)} → Agrees StartsItem t u 0 0 v v → ItemsFit m t kind i n h
    → ItemHead m t kind h v l → ItemsFit m u kind i n h × ItemHead m u kind h v l
item_same {h = k} h is y = let l = head-later y in (items_same (up_to h k k (omega arith) l) (omega arith) is, head_same h (omega arith) y)
