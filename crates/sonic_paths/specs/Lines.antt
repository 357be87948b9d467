-- Path lines, and what a head of such lines says.
use Rattle.std.specs.Prelude.{◌≡◌, ◌≢◌, ℕ, ◌^◌, ◌<◌, ◌≤◌, List, [], ◌∷◌, ◌++◌, Option, length}
use Rattle.std.specs.Str.{IsUtf8}
use Rattle.std.specs.Str.Parse.{digits_value}
use Rattle.sonic_text.specs.declared.kind.Kind.TheVariants.{Array}
use Rattle.sonic_text.specs.Numbers.{IsWholeText}
use Rattle.sonic_text.specs.Places.{byte, after_space}
use Rattle.sonic_text.specs.Paths.{Node, key, index, Path}
use Rattle.sonic_text.specs.Trees.{Tree, numeral, text, container, Items, no_item, item, Means}
use Rattle.sonic_pointer.specs.Paths.{IsMixed}
use Rattle.sonic_paths.specs.declared.lines.Head.{Head}
use Rattle.sonic_paths.specs.declared.lines.Head.TheVariants.{Paths, Bad}
use Rattle.sonic_paths.specs.Heads.{IsHead, AreSaid, IsFirstBad}

-- the text of a number is an integer, without a minus sign, that fits in 64 bits
abbrev pub IsIndex : List ℕ → Type 0
IsIndex word = IsWholeText word × (byte word 0 ≢ 45) × (digits_value 10 word < 2 ^ 64)

-- the tree says this node: a string the key that it denotes, and such a number its value
pub data SaysNode : Tree → Node → Type 0 where
  says_key : {b : List ℕ} → SaysNode (text b) (key b)
  says_index : {b : List ℕ} {n : ℕ} → IsIndex b → n ≡ digits_value 10 b → SaysNode (numeral b) (index n)

-- the items say these nodes, each its own
pub data SayNodes : Items → Path → Type 0 where
  no_node : SayNodes no_item []
  one_more_node : {l : Option (List ℕ)} {x : Tree} {xs : Items} {node : Node} {path : Path} → SaysNode x node → SayNodes xs path → SayNodes (item l x xs) (node ∷ path)

-- from i to j is an array whose items say this path
abbrev pub IsNodeArray : List ℕ → ℕ → ℕ → Path → Type 0
IsNodeArray t i j path = (items : Items) × Means t i j (container Array items) × SayNodes items path

-- the line is a document in UTF-8, one value with nothing but white space around it, and that is an array which says this path, of at most 255 nodes
pub record IsNodeLine (line : List ℕ) (path : Path) : Type 0 where
  pub utf8 : IsUtf8 line
  pub end : ℕ
  pub array : IsNodeArray line (after_space line 0) end path
  pub alone : after_space line end ≡ length line
  pub few : length path ≤ 255

-- after the earlier paths the line says one more, which mixes with none of them
pub record SaysPath (earlier : List Path) (line : List ℕ) (paths : List Path) : Type 0 where
  pub path : Path
  pub says : IsNodeLine line path
  pub unmixed : ¬ IsMixed earlier path
  pub is : paths ≡ earlier ++ path ∷ []

-- each line in order says its path, and no path mixes with an earlier one
abbrev pub AreLines : List (List ℕ) → List Path → Type 0
AreLines lines paths = AreSaid SaysPath [] lines paths

-- line n, counted from 1, is the first that says no path, or whose path mixes with an earlier one
abbrev pub IsFirstBadLine : List (List ℕ) → ℕ → Type 0
IsFirstBadLine lines n = IsFirstBad SaysPath [] lines n

-- what the head of an input says: a path on each line, and where the document begins, or which line is the first that is bad
abbrev pub SaysPaths : List ℕ → Head → Type 0
SaysPaths t (Paths tree d) = (lines : List (List ℕ)) × (d ≤ length t) × IsHead t 0 lines d × AreLines lines tree
SaysPaths t (Bad n) = (lines : List (List ℕ)) × (d : ℕ) × IsHead t 0 lines d × IsFirstBadLine lines n
