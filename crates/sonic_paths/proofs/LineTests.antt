-- A line says a path, or it says none.
use Rattle.std.proofs.Common.{◌≡◌, ◌⊎◌, inl, inr, ℕ, suc, ◌+◌, Bool, true, false, List, [], ◌∷◌, length, refl}
use Rattle.std.specs.Str.{IsUtf8, is_utf8}
use Rattle.std.specs.Str.Parse.{digits_value}
use Rattle.std.specs.Prelude.{◌^◌}
use Rattle.std.proofs.lemmas.Bool.{cases_eq}
use Rattle.std.proofs.lemmas.Str.{IsUtf8-from_is_utf8, is_utf8-from_IsUtf8}
use Rattle.sonic_text.specs.declared.kind.Kind.TheVariants.{Array}
use Rattle.sonic_text.specs.Numbers.{IsInt, after_minus}
use Rattle.sonic_text.specs.Paths.{Node, key, index, Path}
use Rattle.sonic_text.specs.Places.{byte, after_space, digits_end}
use Rattle.sonic_text.specs.Strings.{strict}
use Rattle.sonic_text.specs.Trees.{Tree, numeral, text, container, Items, no_item, item}
use Rattle.sonic_text.proofs.TreeLemmas.{tree_of, value_of, means_one}
use Rattle.sonic_text.proofs.Numbers.{digit_or_not}
use Rattle.sonic_text.proofs.Outcomes.{value_some_outcome}
use Rattle.sonic_text.proofs.Values.{value_never_both}
use Rattle.sonic_paths.specs.Lines.{IsIndex, SaysNode, says_key, says_index, SayNodes, no_node, one_more_node, IsNodeArray, IsNodeLine}
use Rattle.sonic_paths.proofs.Deciding.{all_three, one_of_two, denied, at_most}
use Rattle.sonic_paths.proofs.LineNodes.{said_index, array_one}

-- an integer is from i to j or not
int_or_not : (t : List ℕ) (i j : ℕ) → IsInt t i j ⊎ ¬ IsInt t i j
int_or_not t i j =
    one_of_two
    (all_three (cases_eq (byte t i) 48) (denied (digit_or_not (byte t (i + 1)))) (cases_eq j (i + 1)))
    (all_three (at_most 49 (byte t i)) (at_most (byte t i) 57) (cases_eq j (digits_end t i)))

-- the text of a number is an index or not
index_or_not : (b : List ℕ) → IsIndex b ⊎ ¬ IsIndex b
index_or_not b = all_three (int_or_not b (after_minus b 0) (length b)) (denied (cases_eq (byte b 0) 45)) (at_most (suc (digits_value 10 b)) (2 ^ 64))

-- some node that a tree says, and some path that items say
abbrev SomeNode : Tree → Type 0
SomeNode x = (node : Node) × SaysNode x node

abbrev SomeNodes : Items → Type 0
SomeNodes xs = (path : Path) × SayNodes xs path

-- a tree says a node, or none
node_or_none : (x : Tree) → SomeNode x ⊎ ¬ SomeNode x
node_or_none (text b) = inl (key b, says_key)
node_or_none (numeral b) = elim (index_or_not b) [
  | inl k ↦ inl (index (digits_value 10 b), says_index k refl)
  | inr other ↦ inr (λ s. other (said_index s.1))
]
node_or_none x = inr (λ s. elim s.1 [ ])

-- the items after the first, and what they say
later_nodes : {l : _} {x : Tree} {xs : Items} → SomeNodes (item l x xs) → SomeNode x × SomeNodes xs
later_nodes (_, one_more_node s r) = ((_, s), (_, r))

-- items say a path, or none
nodes_or_none : (xs : Items) → SomeNodes xs ⊎ ¬ SomeNodes xs
nodes_or_none no_item = inl ([], no_node)
nodes_or_none (item l x xs) = elim (node_or_none x) [
  | inr never ↦ inr (λ s. never (later_nodes s).0)
  | inl a ↦ elim (nodes_or_none xs) [
    | inr never ↦ inr (λ s. never (later_nodes s).1)
    | inl r ↦ inl (a.0 ∷ r.0, one_more_node a.1 r.1)
  ]
]

-- some path that a tree says: that of its items, if it is an array
abbrev SomeArray : Tree → Type 0
SomeArray x = (xs : Items) × (x ≡ container Array xs) × SomeNodes xs

-- a tree says a path, or none
array_or_none : (x : Tree) → SomeArray x ⊎ ¬ SomeArray x
array_or_none (container Array xs) = elim (nodes_or_none xs) [
  | inl r ↦ inl (xs, refl, r)
  | inr never ↦ inr (λ s. let same : s.0 ≡ xs = cc (s.1) in never (rw same at s.2))
]
array_or_none x = inr (λ s. absurd (cc (s.1)))

-- a line says some path
abbrev SomePath : List ℕ → Type 0
SomePath line = (path : Path) × IsNodeLine line path

-- a line in UTF-8 that begins with an array of nodes says its path or none
array_line : (line : List ℕ) (end : ℕ) (path : Path) → IsUtf8 line → IsNodeArray line (after_space line 0) end path → SomePath line ⊎ ¬ SomePath line
array_line line end path utf8 a = elim (cases_eq (after_space line end) (length line)) [
  | inr more ↦ inr (λ p. more (rw (array_one p.1.array a).0 at p.1.alone))
  | inl alone ↦ elim (at_most (length path) 255) [
    | inr many ↦ inr (λ p. many (rw (array_one p.1.array a).1 at p.1.few))
    | inl few ↦ inl (path, record { utf8 = utf8; end = end; array = a; alone = alone; few = few })
  ]
]

-- a line in UTF-8 says a path or none
text_line : (line : List ℕ) → IsUtf8 line → SomePath line ⊎ ¬ SomePath line
text_line line utf8 = elim (value_some_outcome strict line (after_space line 0)) [
  | inr f ↦ inr (λ p. value_never_both (value_of p.1.array.1) f.1)
  | inl v ↦
      let x = tree_of v.1 in
      elim (array_or_none x.0) [
        | inl s ↦ array_line line v.0 s.2.0 utf8 (s.0, rw s.1 at x.1, s.2.1)
        | inr never ↦ inr (λ p. never (p.1.array.0, means_one x.1 p.1.array.1, (p.0, p.1.array.2)))
      ]
]

-- as the test of UTF-8 says
line_by_test : (line : List ℕ) (b : Bool) → is_utf8 line ≡ b → SomePath line ⊎ ¬ SomePath line
line_by_test line true e = text_line line (IsUtf8-from_is_utf8 line e)
line_by_test line false e = inr (λ p. let t = is_utf8-from_IsUtf8 line p.1.utf8 in absurd cc)

-- a line says a path, or says none
pub node_line_or_none : (line : List ℕ) → SomePath line ⊎ ¬ SomePath line
node_line_or_none line = line_by_test line (is_utf8 line) refl
