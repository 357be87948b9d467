-- The prefixes of kept vertices, and what stays of them when vertices follow.
use Rattle.std.proofs.Common.{◌≡◌, ℕ, zero, suc, ◌<◌, ◌≤◌, List, [], ◌∷◌, ◌++◌, length, map, All, refl, ap, ◌∙◌, arith}
use Rattle.std.proofs.lemmas.List.{map-append}
use Rattle.std.proofs.lemmas.List.FromFn.{length-map-range_with_len, get_or-map-range_with_len}
use Rattle.sonic_text.specs.Paths.{Path}
use Rattle.sonic_pointer.specs.Internal.Tries.{Entry, entry_at, way, prefix_of, spot_of, spots_of, spot_at, paths_of, AreBelow}

-- the vertices that were there keep their parents and nodes
pub record Holds (E E' : List Entry) : Type 0 where
  pub more : length E ≤ length E'
  pub parents : (k : ℕ) → k < length E → (entry_at E' k).parent ≡ (entry_at E k).parent
  pub nodes : (k : ℕ) → k < length E → (entry_at E' k).node ≡ (entry_at E k).node

way_same : (E E' : List Entry) → Holds E E' → AreBelow E → (f n : ℕ) → n < length E → way E' f n ≡ way E f n
way_same E E' h below zero n l = refl
way_same E E' h below (suc f) zero l = refl
way_same E E' h below (suc f) (suc n) l =
    let b = below (suc n) (omega arith) l in
    let p = h.parents (suc n) l in
    let m = h.nodes (suc n) l in
    ap (λ k. way E' f k ++ (entry_at E' (suc n)).node ∷ []) p
    ∙ (ap (λ x. way E' f (entry_at E (suc n)).parent ++ x ∷ []) m ∙ ap (λ w. w ++ (entry_at E (suc n)).node ∷ []) (way_same E E' h below f (entry_at E (suc n)).parent (omega arith)))

way_enough : (E : List Entry) → AreBelow E → (f g n : ℕ) → n ≤ f → n ≤ g → n < length E → way E f n ≡ way E g n
way_enough E below zero zero n a b l = refl
way_enough E below zero (suc g) zero a b l = refl
way_enough E below zero (suc g) (suc n) a b l = absurd (omega arith)
way_enough E below (suc f) zero zero a b l = refl
way_enough E below (suc f) zero (suc n) a b l = absurd (omega arith)
way_enough E below (suc f) (suc g) zero a b l = refl
way_enough E below (suc f) (suc g) (suc n) a b l =
    let k = below (suc n) (omega arith) l in
    ap (λ w. w ++ (entry_at E (suc n)).node ∷ []) (way_enough E below f g (entry_at E (suc n)).parent (omega arith) (omega arith) (omega arith))

-- the prefix of a vertex is that of its parent and one node more
pub prefix_step : (E : List Entry) → AreBelow E → (n : ℕ) → 0 < n → n < length E → prefix_of E n ≡ prefix_of E (entry_at E n).parent ++ (entry_at E n).node ∷ []
prefix_step E below zero some l = absurd (omega arith)
prefix_step E below (suc n) some l =
    let k = below (suc n) (omega arith) l in
    let p = (entry_at E (suc n)).parent in
    ap (λ w. w ++ (entry_at E (suc n)).node ∷ []) (way_enough E below n p p (omega arith) (omega arith) (omega arith))

-- a vertex that was there keeps its prefix
pub prefix_same : (E E' : List Entry) → Holds E E' → AreBelow E → (n : ℕ) → n < length E → prefix_of E' n ≡ prefix_of E n
prefix_same E E' h below n l = way_same E E' h below n n l

pub spot_at-of : (E : List Entry) (k : ℕ) → k < length E → spot_at (spots_of E) k ≡ spot_of E k
spot_at-of E k l = get_or-map-range_with_len (spot_of E) 0 (length E) k k (record { prefix = []; orders = []; children = [] }) l (omega arith)

pub length-spots_of : (E : List Entry) → length (spots_of E) ≡ length E
length-spots_of E = length-map-range_with_len (spot_of E) 0 (length E)

map_inside : (f g : ℕ → Path) (bound : ℕ) (xs : List ℕ) → ((k : ℕ) → k < bound → f k ≡ g k) → All (λ (k : ℕ). k < bound) xs → map f xs ≡ map g xs
map_inside f g bound [] h all = refl
map_inside f g bound (x ∷ xs) h all =
    let here : f x ≡ g x = h x (all 0 0 (omega arith)) in
    let later : map f xs ≡ map g xs = map_inside f g bound xs h (λ k d l. all (suc k) d (omega arith)) in
    cc

-- the paths once one more ends
pub paths_more : (E E' : List Entry) (ends : List ℕ) (at : ℕ) (p : Path) → Holds E E' → AreBelow E → All (λ (k : ℕ). k < length E) ends → prefix_of E' at ≡ p
    → paths_of E' (ends ++ at ∷ []) ≡ paths_of E ends ++ p ∷ []
paths_more E E' ends at p h below inside own =
    map-append (prefix_of E') ends (at ∷ [])
    ∙ (ap (λ l. l ++ prefix_of E' at ∷ []) (map_inside (prefix_of E') (prefix_of E) (length E) ends (prefix_same E E' h below) inside) ∙ ap (λ x. paths_of E ends ++ x ∷ []) own)
