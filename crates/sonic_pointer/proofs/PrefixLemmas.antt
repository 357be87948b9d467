-- The prefixes of a tree by their numbers.
use Rattle.std.proofs.Common.{◌≡◌, ◌∙◌, ◌⊎◌, inl, inr, sym, ap, subst, ℕ, ◌<◌, List, [], ◌∷◌, ◌++◌, Some, Contains, length, get_or, slice_get, arith, append_assoc, append-nil}
use Rattle.std.specs.Prelude.{◌↔◌}
use Rattle.std.proofs.lemmas.Bool.{cases_eq}
use Rattle.std.proofs.lemmas.List.{length-map}
use Rattle.std.proofs.lemmas.Option.{same_Some, slice_get-get_or, slice_get-map, slice_get_within}
use Rattle.std.specs.Prelude.{option_map}
use Rattle.sonic_text.specs.Paths.{Path}
use Rattle.sonic_pointer.specs.Paths.{HasPrefix, HasNextNode}
use Rattle.sonic_pointer.specs.Internal.Tries.{Entry, Spot, entry_at, spots_of, prefix_at, label_at, prefixes_of, IsTrie, IsTree}
use Rattle.sonic_pointer.specs.Views.{HaveOneNumber}
use Rattle.sonic_pointer.proofs.PathLemmas.{next_of_prefix, path_of_number}
use Rattle.sonic_pointer.proofs.VertexLemmas.{spot_here, step_at, length-labels, label_here}
use Rattle.sonic_pointer.proofs.WayLemmas.{length-spots_of, spot_at-of}

-- the prefix of a vertex
abbrev pub prefix_in : Spot → Path
prefix_in spot = spot.prefix

-- stands at its number
pub prefix_there : (spots : List Spot) (n : ℕ) → n < length spots → slice_get (prefixes_of spots) n ≡ Some (prefix_at spots n)
prefix_there spots n l =
    slice_get-map prefix_in spots n ∙ ap (option_map prefix_in) (slice_get-get_or spots n (record { prefix = []; orders = []; children = [] }) l)

-- a number at which a prefix stands is that of a vertex
within : (spots : List Spot) (n : ℕ) (prefix : Path) → slice_get (prefixes_of spots) n ≡ Some prefix → (n < length spots) × (prefix_at spots n ≡ prefix)
within spots n prefix h =
    let l : n < length spots = omega (arith, slice_get_within (prefixes_of spots) n prefix h, length-map spots prefix_in) in
    (l, same_Some (prefix_at spots n) prefix (sym (prefix_there spots n l) ∙ h))

-- and of no other
pub one_number : {paths : List Path} (spots : List Spot) → IsTrie paths spots → HaveOneNumber (prefixes_of spots)
one_number spots trie = λ i j prefix a b.
    let x = within spots i prefix a in
    let y = within spots j prefix b in
    trie.distinct i j x.0 y.0 (x.1 ∙ sym y.1)

module _ (P : List Path) (E : List Entry) (tree : IsTree P E) where
  -- below a vertex there is one for each longer prefix
  longer : (rest f : Path) (k : ℕ) → k < length E → prefix_at (spots_of E) k ≡ f → HasPrefix P (f ++ rest) → Contains (prefixes_of (spots_of E)) (f ++ rest)
  longer [] f k l e h =
      let many = length-spots_of E in
      path_of_number (prefixes_of (spots_of E)) (f ++ []) k (prefix_there (spots_of E) k (omega arith) ∙ ap Some (e ∙ sym (append-nil f)))
  longer (n ∷ rest) f k l e h =
      let S = spots_of E in
      let all = length-spots_of E in
      let x = (spot_here P E tree k l).complete n (subst (λ g. HasNextNode P g n) (sym e) (next_of_prefix rest h)) in
      let w : x.0 < length (entry_at E k).children = let many = length-labels P E tree k l in let i = x.1 in omega arith in
      let c = get_or (entry_at E k).children x.0 0 in
      let step = step_at P E tree k l x.0 w in
      let own : label_at S c ≡ n = sym (label_here P E tree k l x.0 n w) ∙ x.2 in
      let at : prefix_at S c ≡ f ++ n ∷ [] = step.is ∙ (ap (λ m. prefix_at S k ++ m ∷ []) own ∙ ap (λ g. g ++ n ∷ []) e) in
      let shift : (f ++ n ∷ []) ++ rest ≡ f ++ n ∷ rest = append_assoc f (n ∷ []) rest in
      let there : c < length E = let b = step.below in omega arith in
      subst (Contains (prefixes_of S)) shift (longer rest (f ++ n ∷ []) c there at (subst (HasPrefix P) (sym shift) h))

  -- the prefixes are the empty one and those of the paths
  pub all_prefixes : (p : Path) → Contains (prefixes_of (spots_of E)) p ↔ ((p ≡ []) ⊎ HasPrefix P p)
  all_prefixes p =
      let S = spots_of E in
      let many = length-spots_of E in
      let some = tree.trie.some in (
        λ h.
            let k = h.0 in
            let x = within S k p (slice_get-get_or (prefixes_of S) k p h.1 ∙ ap Some h.2) in
            let l : k < length E = let i = x.0 in omega arith in
            elim (cases_eq k 0) [
              | inl z ↦ inl (sym x.1 ∙ (ap (prefix_at S) z ∙ tree.trie.root))
              | inr other ↦ inr (subst (HasPrefix P) (sym (ap (λ (s : Spot). s.prefix) (spot_at-of E k l)) ∙ x.1) (tree.used k (omega arith) l))
            ],
        λ o. elim o [
          | inl z ↦ subst (Contains (prefixes_of S)) (sym z) (path_of_number (prefixes_of S) [] 0 (prefix_there S 0 some ∙ ap Some tree.trie.root))
          | inr h ↦ longer p [] 0 (omega arith) tree.trie.root h
        ],
      )
