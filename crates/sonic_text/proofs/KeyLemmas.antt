-- Keys compared with texts, piece by piece.
use Rattle.std.proofs.Common.{◌≡◌, ◌≢◌, ℕ, ◌+◌, ◌-◌, ◌<◌, ◌≤◌, List, [], ◌∷◌, ◌++◌, length, take, drop, drop-cons, nat_cmp, Ordering, Less, Equal, Greater, refl, sym, ap, ◌∙◌, inl, inr, arith, append_assoc, append-nil, take-append-drop, take-add}
use Rattle.std.specs.Cmp.{nat_cmp_is}
use Rattle.std.specs.Cmp.Lexicographic.{slice_cmp}
use Rattle.std.specs.FinMap.{nat_cmp-IsAntisymmetric}
use Rattle.std.specs.Ordering.{ordering_then}
use Rattle.std.proofs.lemmas.Bool.{cases_eq}
use Rattle.std.proofs.lemmas.Cmp.{nat_cmp_total, tied_itself}
use Rattle.std.proofs.lemmas.List.{drop_more, drop_all, take_rest, take-take}
use Rattle.std.proofs.lemmas.List.Edits.{get_or-between, length-between}
use Rattle.std.specs.List.{slice_range}
use Rattle.sonic_text.specs.Places.{byte}
use Rattle.sonic_text.specs.Strings.{strict}
use Rattle.sonic_text.proofs.StringReadingLemmas.{IsReached, reached_plain}

-- one more piece of k bytes is done
pub key_more : {t : List ℕ} {start end p : ℕ} {b : List ℕ} (key d : List ℕ) (n k : ℕ) → length d ≡ k → take (n + length d) key ≡ take n key ++ d
    → IsReached strict t start end p b (take n key ++ d) → IsReached strict t start end p b (take (n + k) key)
key_more key d n k l e r =
    let a : take (n + k) key ≡ take n key ++ d = rw (← l) e in
    rw a r

-- from p in the text and after n bytes of the key k bytes are the same, up to a backslash, the closing quote or a difference
pub record Agree (t : List ℕ) (p end : ℕ) (key : List ℕ) (n k : ℕ) : Type 0 where
  pub before : (p + k < end) × (n + k ≤ length key)
  pub same : take (n + k) key ≡ take n key ++ slice_range t p (p + k)
  pub plain : (i : ℕ) → p ≤ i → i < p + k → byte t i ≢ 92
  pub differs : p + k + 1 ≢ end → byte t (p + k) ≢ 92 → n + k < length key → byte key (n + k) ≢ byte t (p + k)

-- where the parts that are left have k bytes in common
pub agree : (t : List ℕ) (p end : ℕ) (key : List ℕ) (n k : ℕ) → (p < end) × (end ≤ length t) × (n ≤ length key)
    → (k ≤ length (slice_range t p (end - 1))) × (k ≤ length (slice_range key n (length key)))
    → take k (slice_range key n (length key)) ≡ take k (slice_range t p (end - 1)) → ((i : ℕ) → i < k → byte (slice_range t p (end - 1)) i ≢ 92)
    → (k < length (slice_range t p (end - 1)) → byte (slice_range t p (end - 1)) k ≢ 92 → k < length (slice_range key n (length key))
    → byte (slice_range key n (length key)) k ≢ byte (slice_range t p (end - 1)) k) → Agree t p end key n k
agree t p end key n k inside few same plain differs =
    let l : length (slice_range t p (end - 1)) ≡ end - 1 - p = length-between t p (end - 1) (omega (arith, inside)) in
    let m : length (slice_range key n (length key)) ≡ length key - n = length-between key n (length key) (omega arith) in
    let e : p + k - p ≡ k = omega arith in
    record {
      before = (omega (arith, inside, few, l), omega (arith, inside, few, m));
      same = take-add n k key ∙ ap (λ x. take n key ++ x) (rw e (sym (ap (take k) (take_rest key n)) ∙ (same ∙ take-take k (end - 1 - p) (drop p t) (omega (arith, few, l)))));
      plain = λ i f g h.
          let q : p + (i - p) ≡ i = omega arith in
          plain (i - p) (omega arith) (get_or-between t p (end - 1) (i - p) 0 (omega (arith, few, l)) ∙ (rw q h));
      differs = λ f g h x.
          let u = get_or-between t p (end - 1) k 0 (omega (arith, few, l, f)) in
          let v = get_or-between key n (length key) k 0 (omega arith) in
          differs (omega (arith, few, l, f, inside)) (λ y. g (sym u ∙ y)) (omega (arith, m)) (v ∙ (x ∙ sym u));
    }

-- they are read
pub key_read : {t key : List ℕ} {start end p n k : ℕ} {b : List ℕ} → Agree t p end key n k → IsReached strict t start end p b (take n key)
    → IsReached strict t start end (p + k) b (take (n + k) key)
key_read {p = p} {k = k} a r = rw a.same (reached_plain (p + k) (omega arith, a.before.0) a.plain r)

-- a common prefix decides nothing
cmp_common : (c u v : List ℕ) → slice_cmp nat_cmp (c ++ u) (c ++ v) ≡ slice_cmp nat_cmp u v
cmp_common [] u v = refl
cmp_common (x ∷ c) u v = ap (λ o. ordering_then o (slice_cmp nat_cmp (c ++ u) (c ++ v))) (tied_itself nat_cmp_total x) ∙ cmp_common c u v

-- where the key doesn't begin with a piece, what follows the piece decides nothing
cmp_decided : (piece left more : List ℕ) → ((rest : List ℕ) → left ≢ piece ++ rest) → slice_cmp nat_cmp (piece ++ more) left ≡ slice_cmp nat_cmp piece left
cmp_decided [] left more differs = absurd (differs left refl)
cmp_decided (x ∷ piece) [] more differs = refl
cmp_decided (x ∷ piece) (y ∷ left) more differs =
    elim (nat_cmp x y) as (λ o. nat_cmp x y ≡ o → ordering_then o (slice_cmp nat_cmp (piece ++ more) left) ≡ ordering_then o (slice_cmp nat_cmp piece left)) [
      | Less ↦ λ _. refl
      | Equal ↦ λ e. cmp_decided piece left more (λ rest w. let same : x ≡ y = nat_cmp-IsAntisymmetric x y e in differs rest (cc))
      | Greater ↦ λ _. refl
    ] refl

-- after the first n bytes of the key the rest of it decides
cmp_after : (key u : List ℕ) (n : ℕ) → slice_cmp nat_cmp (take n key ++ u) key ≡ slice_cmp nat_cmp u (drop n key)
cmp_after key u n = ap (slice_cmp nat_cmp (take n key ++ u)) (sym (take-append-drop n key)) ∙ cmp_common (take n key) u (drop n key)

pub cmp_piece : (key piece rest : List ℕ) (n : ℕ) → ((more : List ℕ) → key ≢ take n key ++ piece ++ more)
    → slice_cmp nat_cmp (take n key ++ piece ++ rest) key ≡ slice_cmp nat_cmp piece (drop n key)
cmp_piece key piece rest n differs =
    let other : (more : List ℕ) → drop n key ≢ piece ++ more = λ more e.
    differs more (sym (take-append-drop n key) ∙ (ap (λ l. take n key ++ l) e ∙ sym (append_assoc (take n key) piece more))) in
    ap (λ l. slice_cmp nat_cmp l key) (append_assoc (take n key) piece rest) ∙ (cmp_after key (piece ++ rest) n ∙ cmp_decided piece (drop n key) rest other)

-- of two bytes that differ what follows decides nothing
unequal : (x y : ℕ) (o : Ordering) → y ≢ x → ordering_then (nat_cmp x y) o ≡ nat_cmp x y
unequal x y o differs = elim (nat_cmp x y) as (λ v. nat_cmp x y ≡ v → ordering_then v o ≡ v) [
  | Less ↦ λ _. refl
  | Equal ↦ λ e. absurd (differs (sym (nat_cmp-IsAntisymmetric x y e)))
  | Greater ↦ λ _. refl
] refl

-- so a byte that isn't the key's decides
pub cmp_byte : (key rest : List ℕ) (n x : ℕ) → n < length key → byte key n ≢ x → slice_cmp nat_cmp (take n key ++ x ∷ rest) key ≡ nat_cmp x (byte key n)
cmp_byte key rest n x l differs =
    cmp_after key (x ∷ rest) n ∙ (ap (slice_cmp nat_cmp (x ∷ rest)) (drop-cons key n 0 l) ∙ unequal x (byte key n) _ differs)

-- what goes on after the whole key is greater
pub cmp_longer : (key rest : List ℕ) (n x : ℕ) → length key ≤ n → slice_cmp nat_cmp (take n key ++ x ∷ rest) key ≡ Greater
cmp_longer key rest n x l = cmp_after key (x ∷ rest) n ∙ ap (slice_cmp nat_cmp (x ∷ rest)) (drop_all n key l)

-- a prefix of the key is equal to it, or less
pub cmp_prefix : (key : List ℕ) (n : ℕ) → n ≤ length key → nat_cmp n (length key) ≡ slice_cmp nat_cmp (take n key) key
cmp_prefix key n l =
    let parts : slice_cmp nat_cmp (take n key) key ≡ slice_cmp nat_cmp [] (drop n key) =
    ap (λ u. slice_cmp nat_cmp u key) (sym (append-nil (take n key))) ∙ cmp_after key [] n in
    elim (cases_eq n (length key)) [
      | inl e ↦ sym (nat_cmp_is n (length key) Equal e) ∙ (sym (ap (slice_cmp nat_cmp []) (drop_all n key (omega arith))) ∙ sym parts)
      | inr e ↦ sym (nat_cmp_is n (length key) Less (omega arith)) ∙ (sym (ap (slice_cmp nat_cmp []) (drop_more key n 0 (omega arith))) ∙ sym parts)
    ]
