-- A valid document has a list of entries: of the values that begin at each place, one place after the other.
use Rattle.std.proofs.Common.{◌≡◌, ◌∙◌, ◌⊎◌, inl, inr, ℕ, zero, suc, ◌+◌, ◌<◌, ◌≤◌, List, [], ◌∷◌, ◌++◌, length, arith, refl, sym, ap}
use Rattle.std.proofs.lemmas.Bool.{cases_order}
use Rattle.std.proofs.lemmas.List.{append-nil, length-append}
use Rattle.std.specs.Prelude.{Option, Some, slice_get}
use Rattle.sonic_text.specs.declared.kind.Kind.{Kind}
use Rattle.sonic_text.specs.Strings.{strict}
use Rattle.sonic_text.specs.Values.{ItemHead, no_head, key_head, type_at}
use Rattle.sonic_text.proofs.Values.{value-longer}
use Rattle.sonic_text.proofs.Within.{value_within}
use Rattle.sonic_find.specs.Documents.{IsAlone, IsValidDocument}
use Rattle.sonic_find.specs.Laws.{ExactlyOne}
use Rattle.sonic_index.specs.declared.entry.Entry.{Entry}
use Rattle.sonic_index.specs.declared.entry.Label.{Label}
use Rattle.sonic_index.specs.declared.entry.Label.TheVariants.{Root, Key, At}
use Rattle.sonic_index.specs.Entries.{IsLabelled, IsEntry, of_root, of_part, AreEntries}
use Rattle.sonic_index.specs.Nodes.{IsPartAt, IsNode, root, part}
use Rattle.sonic_index.proofs.EntryLemmas.{element_at, entries_one, read_element}
use Rattle.sonic_index.proofs.NodeLemmas.{node_one, node_value}
use Rattle.sonic_index.proofs.SearchLemmas.{Begins, begins_or_not}

-- what is read of a list is read of a longer one
get_before : (xs ys : List Entry) (a : ℕ) (x : Entry) → slice_get xs a ≡ Some x → slice_get (xs ++ ys) a ≡ Some x
get_before [] ys a x e = absurd cc
get_before (y ∷ xs) ys zero x e = e
get_before (y ∷ xs) ys (suc a) x e = get_before xs ys a x e

-- the last element
get_seam : (xs : List Entry) (y : Entry) → slice_get (xs ++ y ∷ []) (length xs) ≡ Some y
get_seam [] y = refl
get_seam (x ∷ xs) y = get_seam xs y

-- and what else is read
get_split : (xs : List Entry) (y : Entry) (a : ℕ) (x : Entry) → slice_get (xs ++ y ∷ []) a ≡ Some x → (slice_get xs a ≡ Some x) ⊎ ((a ≡ length xs) × (y ≡ x))
get_split [] y zero x e = inr (refl, cc)
get_split [] y (suc a) x e = absurd cc
get_split (z ∷ xs) y zero x e = inl e
get_split (z ∷ xs) y (suc a) x e = elim (get_split xs y a x e) [ inl f ↦ inl f | inr (n, f) ↦ inr (ap suc n, f) ]

-- for each place a value that begins there, or that none does
abbrev Search : List ℕ → Type 0
Search t = (p : ℕ) → Begins t p ⊎ (Begins t p → ⊥)

-- how many begin before a place
abbrev weight : {t : List ℕ} {p : ℕ} → Begins t p ⊎ (Begins t p → ⊥) → ℕ
weight (inl y) = 1
weight (inr none) = 0

count : {t : List ℕ} → Search t → ℕ → ℕ
count d zero = 0
count d (suc p) = count d p + weight (d p)

count_grows : {t : List ℕ} (d : Search t) (a b : ℕ) → a ≤ b → count d a ≤ count d b
unfolding count
count_grows d a zero l = let e : a ≡ 0 = omega arith in rw e (omega arith)
count_grows d a (suc b) l = elim (cases_order a (suc b)) [
  | inl e ↦ rw e (omega arith)
  | inr (inl less) ↦ (let g = count_grows d a b (omega arith) in omega arith)
  | inr (inr more) ↦ absurd (omega arith)
]

-- the label of the item with this head
abbrev label_of : {t : List ℕ} {kind : Kind} {h v : ℕ} {l : Option (List ℕ)} → ℕ → ItemHead strict t kind h v l → Label
label_of n (no_head e) = At n
label_of {h = h} n (key_head y) = Key h y.end

label_is : {t : List ℕ} {kind : Kind} {h v : ℕ} {l : Option (List ℕ)} (n : ℕ) (y : ItemHead strict t kind h v l) → IsLabelled t kind n h (label_of n y)
label_is n (no_head e) = refl
label_is n (key_head {b} y) = (y.end, b, y.string, refl)

-- the entry of a value
abbrev entry_of : {t : List ℕ} → Search t → {p q : ℕ} → IsNode t p q → Entry
entry_of {t} d (root {i} {j} a) = record { start = i; end = j; parent = 0; label = Root; kind = type_at t i }
entry_of {t} d (part {i = o} {n} {x} w y) = record { start = x.start; end = x.end; parent = count d o; label = label_of n y.head; kind = type_at t x.start }

entry_spans : {t : List ℕ} (d : Search t) {p q : ℕ} (w : IsNode t p q) → ((entry_of d w).start ≡ p) × ((entry_of d w).end ≡ q)
entry_spans d (root a) = (refl, refl)
entry_spans d (part w y) = (refl, refl)

-- the entries of the values that begin before a place
abbrev piece : {t : List ℕ} → Search t → {p : ℕ} → Begins t p ⊎ (Begins t p → ⊥) → List Entry
piece d (inl y) = entry_of d y.1 ∷ []
piece d (inr none) = []

listing : {t : List ℕ} → Search t → ℕ → List Entry
listing d zero = []
listing d (suc p) = listing d p ++ piece d (d p)

length-piece : {t : List ℕ} (d : Search t) {p : ℕ} (r : Begins t p ⊎ (Begins t p → ⊥)) → length (piece d r) ≡ weight r
length-piece d (inl y) = refl
length-piece d (inr none) = refl

length-listing : {t : List ℕ} (d : Search t) (k : ℕ) → length (listing d k) ≡ count d k
unfolding count listing
length-listing d zero = refl
length-listing d (suc k) = length-append (listing d k) (piece d (d k)) ∙ rw (length-listing d k, length-piece d (d k)) refl

-- the entry with this number is that of a value that begins before k
record IsListed {t : List ℕ} (d : Search t) (k a : ℕ) (x : Entry) : Type 0 where
  pub p : ℕ
  pub q : ℕ
  pub node : IsNode t p q
  pub before : p < k
  pub number : a ≡ count d p
  pub entry : x ≡ entry_of d node

more_places : {t : List ℕ} (d : Search t) (k a : ℕ) (x : Entry) → IsListed d k a x → IsListed d (suc k) a x
more_places d k a x y = let l = y.before in record { p = y.p; q = y.q; node = y.node; before = omega arith; number = y.number; entry = y.entry }

in_piece : {t : List ℕ} (d : Search t) (k a : ℕ) (x : Entry) (r : Begins t k ⊎ (Begins t k → ⊥)) → (slice_get (listing d k) a ≡ Some x → IsListed d k a x)
    → slice_get (listing d k ++ piece d r) a ≡ Some x → IsListed d (suc k) a x
in_piece d k a x (inr none) go e = more_places d k a x (go (rw (append-nil (listing d k)) at e))
in_piece d k a x (inl y) go e = elim (get_split (listing d k) (entry_of d y.1) a x e) [
  | inl f ↦ more_places d k a x (go f)
  | inr (n, f) ↦ record { p = k; q = y.0; node = y.1; before = omega arith; number = n ∙ length-listing d k; entry = sym f }
]

listed : {t : List ℕ} (d : Search t) (k a : ℕ) (x : Entry) → slice_get (listing d k) a ≡ Some x → IsListed d k a x
unfolding listing
listed d zero a x e = absurd cc
listed d (suc k) a x e = in_piece d k a x (d k) (listed d k a x) e

-- the value from p to q has the entry with this number
abbrev HasEntry : List Entry → ℕ → ℕ → ℕ → Type 0
HasEntry es a p q = (x : Entry) × (slice_get es a ≡ Some x) × (x.start ≡ p) × (x.end ≡ q)

at_last : {t : List ℕ} (d : Search t) (k q : ℕ) (r : Begins t k ⊎ (Begins t k → ⊥)) → IsNode t k q → HasEntry (listing d k ++ piece d r) (count d k) k q
at_last d k q (inr none) w = absurd (none (q, w))
at_last d k q (inl y) w =
    let s = entry_spans d y.1 in
    (entry_of d y.1, rw (← length-listing d k) (get_seam (listing d k) (entry_of d y.1)), s.0, s.1 ∙ node_one y.1 w)

at_place : {t : List ℕ} (d : Search t) (k p q : ℕ) → p < k → IsNode t p q → HasEntry (listing d k) (count d p) p q
unfolding listing
at_place d zero p q l w = absurd (omega arith)
at_place {t} d (suc k) p q l w = elim (cases_order p k) [
  | inl same ↦ (let z : IsNode t k q = rw same at w in rw same (at_last d k q (d k) z))
  | inr (inl less) ↦ (let y = at_place d k p q less w in (y.0, get_before (listing d k) (piece d (d k)) (count d p) y.0 y.1, y.2, y.3))
  | inr (inr more) ↦ absurd (omega arith)
]

-- a value begins in the text
node_starts : {t : List ℕ} {p q : ℕ} → IsNode t p q → p < length t
node_starts w = let v = node_value w in omega (arith, value-longer v, value_within v)

-- the entry of a value is right
entry_sound : {t : List ℕ} (d : Search t) {p q : ℕ} (w : IsNode t p q) → IsEntry t (listing d (length t)) (entry_of d w)
entry_sound d (root a) = of_root a refl refl refl
entry_sound {t} d (part {i = o} {j} {n} {x} w y) =
    let g = at_place d (length t) o j (node_starts w) w in
    let z : IsPartAt t g.0.start n x = rw g.2 y in
    of_part g.0 g.1 z (record { start = refl; end = refl; label = label_is n y.head; kind = refl })

-- the entries of two numbers lie in their order
in_order : {t : List ℕ} (d : Search t) (k a b : ℕ) (x y : Entry) → a < b → IsListed d k a x → IsListed d k b y → x.start < y.start
in_order d k a b x y l u w =
    let s : x.start ≡ u.p = ap (λ (o : Entry). o.start) u.entry ∙ (entry_spans d u.node).0 in
    let f : y.start ≡ w.p = ap (λ (o : Entry). o.start) w.entry ∙ (entry_spans d w.node).0 in
    elim (cases_order u.p w.p) [
      | inl same ↦ absurd (omega (arith, u.number, w.number, ap (count d) same))
      | inr (inl less) ↦ omega arith
      | inr (inr more) ↦ absurd (omega (arith, u.number, w.number, count_grows d w.p u.p (omega arith)))
    ]

are_listed : {t : List ℕ} (d : Search t) → AreEntries t (listing d (length t))
are_listed {t} d = record {
  rising = λ a b x y l e f. in_order d (length t) a b x y l (listed d (length t) a x e) (listed d (length t) b y f);
  sound = λ x c. let e = element_at (listing d (length t)) c in let u = listed d (length t) e.0 x e.1 in rw u.entry (entry_sound d u.node);
  complete = λ i j w. let g = at_place d (length t) i j (node_starts w) w in (g.0, read_element (listing d (length t)) (count d i) g.1, g.2, g.3);
}

-- so a valid document has exactly one list of entries
pub index_one : (t : List ℕ) → IsValidDocument t → ExactlyOne (AreEntries t)
index_one t valid =
    let alone : IsAlone t _ _ = record { start = refl; root = valid.alone.root; end = valid.alone.place } in
    record { some = (listing (begins_or_not alone) (length t), are_listed (begins_or_not alone)); one = λ es fs. entries_one es fs }
