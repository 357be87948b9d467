-- What a reader of a path line learns from what it reads.
use Rattle.std.proofs.Common.{◌≡◌, ◌≢◌, ◌⊎◌, inl, inr, ℕ, ◌+◌, ◌-◌, ◌<◌, ◌≤◌, List, [], ◌∷◌, ◌++◌, length, length-append, append_assoc, arith, refl, ap}
use Rattle.std.proofs.lemmas.Bool.Decides.{nat_tests}
use Rattle.std.proofs.lemmas.List.Sums.{prefix_len-drop_no}
use Rattle.std.specs.Prelude.{false, Option, slice_range}
use Rattle.std.specs.Str.Parse.{digits_value}
use Rattle.sonic_text.specs.declared.kind.Kind.TheVariants.{Array}
use Rattle.sonic_text.specs.declared.stop.Stop.{Stop}
use Rattle.sonic_text.specs.Faults.{IsFault, string_fault, NothingFits}
use Rattle.sonic_text.specs.Numbers.{IsNumber}
use Rattle.sonic_text.specs.Paths.{Node, key, index, Path}
use Rattle.sonic_text.specs.Places.{byte, is_space, after_space, IsDigit}
use Rattle.sonic_text.specs.Strings.{strict, IsString}
use Rattle.sonic_text.specs.Trees.{Tree, numeral, text, container, Items, Means, means_number, means_string, means_empty, means_filled, last_item, more_items}
use Rattle.sonic_text.specs.Values.{ItemHead, no_head, IsValue, string}
use Rattle.sonic_text.proofs.Items.{head_one}
use Rattle.sonic_text.proofs.TreeLemmas.{value_of, means_one}
use Rattle.sonic_text.proofs.Numbers.{number_begins}
use Rattle.sonic_text.proofs.ValueParts.{number_of_part}
use Rattle.sonic_text.proofs.Places.{byte_within}
use Rattle.sonic_text.proofs.Strings.{string_some}
use Rattle.sonic_text.proofs.Values.{value_end_one, value_never_both}
use Rattle.sonic_paths.specs.Lines.{SaysNode, says_key, says_index, SayNodes, no_node, one_more_node, IsIndex, IsNodeArray, IsNodeLine}
use Rattle.sonic_paths.specs.Internal.Reading.{IsNodeAt, AreNodesAt, IsPathSoFar}

-- a tree says one node
tree_says_one : {x : Tree} {a b : Node} → SaysNode x a → SaysNode x b → a ≡ b
tree_says_one says_key says_key = refl
tree_says_one (says_index i e) (says_index k f) = cc (e, f)

-- items say one path
items_say_one : {xs : Items} {p q : Path} → SayNodes xs p → SayNodes xs q → p ≡ q
items_say_one no_node no_node = refl
items_say_one (one_more_node a p) (one_more_node b q) = cc (tree_says_one a b, items_say_one p q)

-- an array begins with its bracket
array_opens : {t : List ℕ} {i j : ℕ} {xs : Items} → Means t i j (container Array xs) → byte t i ≡ 91
array_opens (means_empty b c q) = b
array_opens (means_filled b q d is) = b

-- an array has one end, and says one path
pub array_one : {t : List ℕ} {i j k : ℕ} {p q : Path} → IsNodeArray t i j p → IsNodeArray t i k q → (j ≡ k) × (p ≡ q)
array_one {p = p} (xs, m, s) (ys, n, r) =
    let same : xs ≡ ys = cc (means_one m n) in
    let moved : SayNodes ys p = rw same at s in
    (value_end_one (value_of m) (value_of n), items_say_one moved r)

-- a line says at most one path
pub node_line_one : {line : List ℕ} {p q : Path} → IsNodeLine line p → IsNodeLine line q → p ≡ q
node_line_one a b = (array_one a.array b.array).1

-- a value has one end, and says one node
pub node_at_one : {t : List ℕ} {i j k : ℕ} {a b : Node} → IsNodeAt t i j a → IsNodeAt t i k b → (j ≡ k) × (a ≡ b)
node_at_one {b = b} (x, m, s) (y, n, r) =
    let moved : SaysNode x b = rw (means_one m n) r in
    (value_end_one (value_of m) (value_of n), tree_says_one s moved)

-- the first node of some, and what follows it: the bracket, or a comma and more nodes
record First (t : List ℕ) (h j : ℕ) (path : Path) : Type 0 where
  pub end : ℕ
  pub node : Node
  pub at : IsNodeAt t h end node
  pub rest : Path
  pub is : path ≡ node ∷ rest
  pub follows : (byte t (after_space t end) ≡ 93) ⊎ (byte t (after_space t end) ≡ 44) × AreNodesAt t (after_space t (after_space t end + 1)) j rest

-- an element begins where it is expected
element_at : {t : List ℕ} {h v e : ℕ} {l : Option (List ℕ)} {x : Tree} → ItemHead strict t Array h v l → Means t v e x → Means t h e x
element_at {t} {h} {e = e} {x = x} y m = let same = (head_one y (no_head refl)).0 in rw (← same) m

-- where nodes are there is a first one
first_of : {t : List ℕ} {h j : ℕ} {path : Path} → AreNodesAt t h j path → First t h j path
first_of (_, last_item y m c q, one_more_node s no_node) = record { end = _; node = _; at = (_, element_at y m, s); rest = []; is = refl; follows = inl c }
first_of (_, more_items y m c q is, one_more_node s says) =
    record { end = _; node = _; at = (_, element_at y m, s); rest = _; is = refl; follows = inr (c, (_, rw q at is, says)) }

-- an array with an item says what its items say
inside_array : {t : List ℕ} {i j : ℕ} {path : Path} → byte t (after_space t (i + 1)) ≢ 93 → IsNodeArray t i j path → AreNodesAt t (after_space t (i + 1)) j path
inside_array some (_, means_empty b c q, s) = absurd (some c)
inside_array some (xs, means_filled b q d is, s) = (xs, rw q at is, s)

-- after the bracket of such an array there is no path yet
pub leads_first : {t : List ℕ} {i h : ℕ} {path : Path} → byte t i ≡ 91 → h ≡ after_space t (i + 1) → byte t h ≢ 93 → path ≡ [] → IsPathSoFar t i h path
leads_first {t} {i} {h} b q d e = rw e (record {
  more = λ j rest r. (r.0, means_filled b q d r.1, r.2);
  only = λ j whole r. (whole, refl, rw q (inside_array (rw q at d) r));
})

-- an array of no item says the empty path
pub empty_array : {t : List ℕ} {i j : ℕ} {path : Path} → byte t i ≡ 91 → byte t (after_space t (i + 1)) ≡ 93 → j ≡ after_space t (i + 1) + 1 → path ≡ []
    → IsNodeArray t i j path
empty_array b c q e = rw e (_, means_empty b c q, no_node)

module _ {t : List ℕ} {i h e : ℕ} {node : Node} {path : Path} (s : IsPathSoFar t i h path) (x : IsNodeAt t h e node) where
  -- at a comma the path has one node more
  pub leads_comma : {g : ℕ} {all : Path} → all ≡ path ++ node ∷ [] → byte t (after_space t e) ≡ 44 → g ≡ after_space t (after_space t e + 1) → IsPathSoFar t i g all
  leads_comma is comma q = rw (is, q) (record {
    more = λ j rest r. rw append_assoc (s.more j (node ∷ rest) (_, more_items (no_head refl) x.1 comma refl r.1, one_more_node x.2 r.2));
    only = λ j whole r.
        let o = s.only j whole r in
        let f = first_of o.2 in
        let one = node_at_one f.at x in
        let all : whole ≡ path ++ node ∷ [] ++ f.rest = rw append_assoc (rw (f.is, one.1) at o.1) in
        (f.rest, all, elim f.follows [ inl d ↦ absurd (omega (arith, comma, rw one.0 at d)) | inr d ↦ rw one.0 at d.1 ]);
  })

  -- at the bracket it has its last node
  pub leads_bracket : {j : ℕ} {all : Path} → all ≡ path ++ node ∷ [] → byte t (after_space t e) ≡ 93 → j ≡ after_space t e + 1 → IsNodeArray t i j all
  leads_bracket {j} is d q = rw is (s.more j (node ∷ []) (_, last_item (no_head refl) x.1 d q, one_more_node x.2 no_node))

  -- where neither follows the array says no path
  pub none_after : {j : ℕ} {whole : Path} → NothingFits t e 93 → ¬ IsNodeArray t i j whole
  none_after {j} {whole} misfit r =
      let f = first_of (s.only j whole r).2 in
      let one = node_at_one f.at x in
      elim f.follows [ inl d ↦ misfit.1 (rw one.0 at d) | inr d ↦ misfit.0 (rw one.0 at d.0) ]

-- nor where there is no node
pub none_here : {t : List ℕ} {i h j : ℕ} {path whole : Path} → IsPathSoFar t i h path → ((e : ℕ) (node : Node) → ¬ IsNodeAt t h e node) → ¬ IsNodeArray t i j whole
none_here {j = j} {whole = whole} s never r = let f = first_of (s.only j whole r).2 in never f.end f.node f.at

-- and it says none that has no more nodes than were read
pub none_shorter : {t : List ℕ} {i h j : ℕ} {path whole : Path} → IsPathSoFar t i h path → length whole ≤ length path → ¬ IsNodeArray t i j whole
none_shorter {j = j} {path} {whole} s few r =
    let o = s.only j whole r in
    let f = first_of o.2 in
    omega (arith, ap length o.1, ap length f.is, length-append path o.0)

-- a string says its key
pub string_node : {t : List ℕ} {i j : ℕ} {b : List ℕ} → IsString strict t i j b → IsNodeAt t i j (key b)
string_node s = (_, means_string s, says_key)

-- a value that begins with a quote is a string
pub quoted : {t : List ℕ} {i j : ℕ} → byte t i ≡ 34 → IsValue strict t i j → (b : List ℕ) × IsString strict t i j b
quoted {t} {i} {j} quote v = elim (string_some strict t i quote) [
  | inl (k, (b, s)) ↦ (b, let e : k ≡ j = value_end_one (string s) v in rw (← e) s)
  | inr (_, f) ↦ absurd (value_never_both v (string_fault quote f))
]

-- where a value has a fault there is no node
pub fault_no_node : {t : List ℕ} {i j : ℕ} {node : Node} {s : Stop} → IsFault strict t i s → ¬ IsNodeAt t i j node
fault_no_node f (_, m, _) = value_never_both (value_of m) f

-- a string begins with a quote, and a number with a minus sign or a digit
text_begins : {t : List ℕ} {i j : ℕ} {b : List ℕ} → Means t i j (text b) → byte t i ≡ 34
text_begins (means_string s) = s.opens

numeral_begins : {t : List ℕ} {i j : ℕ} {b : List ℕ} → Means t i j (numeral b) → (byte t i ≡ 45) ⊎ IsDigit (byte t i)
numeral_begins (means_number n e) = number_begins n

-- so there is no node at another byte
pub other_no_node : {t : List ℕ} {i j : ℕ} {node : Node} → byte t i ≢ 34 → byte t i ≢ 45 → ¬ IsDigit (byte t i) → ¬ IsNodeAt t i j node
other_no_node quote minus digit (_, m, says_key) = quote (text_begins m)
other_no_node quote minus digit (_, m, says_index k v) = elim (numeral_begins m) [ inl e ↦ minus e | inr d ↦ digit d ]

-- where a number begins no white space is passed, and the byte before the cursor is its first
pub number_here : (t : List ℕ) (i : ℕ) → (byte t i ≡ 45) ⊎ IsDigit (byte t i) → after_space t i + 1 - 1 ≡ i
number_here t i begins =
    let within : i < length t = byte_within t i (λ e. grind arith) in
    let none : is_space (byte t i) ≡ false = grind (arith, nat_tests) in
    omega (arith, prefix_len-drop_no is_space t i 0 within none)

-- a number cut out of its text is a number
pub cut_number : {t word : List ℕ} {i j : ℕ} → IsNumber t i j → word ≡ slice_range t i j → IsNumber word 0 (length word)
cut_number n e = rw e (number_of_part n)

-- a number that is an index says it
pub index_node : {t word : List ℕ} {i j n : ℕ} → IsNumber t i j → word ≡ slice_range t i j → IsIndex word → n ≡ digits_value 10 word → IsNodeAt t i j (index n)
index_node h e k v = (_, means_number h e, says_index k v)

-- a number says only an index
pub said_index : {b : List ℕ} {node : Node} → SaysNode (numeral b) node → IsIndex b
said_index (says_index k v) = k

-- and says no node where it is none
pub no_index_node : {t word : List ℕ} {i j k : ℕ} {node : Node} → IsNumber t i j → word ≡ slice_range t i j → ¬ IsIndex word → ¬ IsNodeAt t i k node
no_index_node {node = node} h e misfit (x, m, s) = misfit (said_index (rw (means_one m (means_number h e)) at s))

-- a line begins with the bracket of its array
pub line_opens : {line : List ℕ} {path : Path} → byte line (after_space line 0) ≢ 91 → ¬ IsNodeLine line path
line_opens other p = other (array_opens p.array.1)

-- and nothing but white space is after it
pub line_ends : {line : List ℕ} {end : ℕ} {path whole : Path} → IsNodeArray line (after_space line 0) end path → after_space line end < length line → ¬ IsNodeLine line whole
line_ends a more p = let alone = rw (array_one p.array a).0 at p.alone in omega arith

pub ruleset nodes = (leads_first, none_after, none_here, none_shorter, empty_array)

pub ruleset node_kinds = (other_no_node, fault_no_node)
