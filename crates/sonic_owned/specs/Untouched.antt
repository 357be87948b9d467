-- What an edit leaves as it was.
use Rattle.std.specs.Prelude.{◌≢◌, ◌<◌, ◌≤◌, ℕ, ◌+◌, List, ◌∷◌}
use Rattle.sonic_owned.specs.Forms.{Form}
use Rattle.sonic_owned.specs.TreeEdits.{Change, push, pair, insert, remove}
use Rattle.sonic_text.specs.Paths.{Node, key, index, Path}

-- one path parts from another: they go on by different nodes somewhere
pub data PartsFrom : Path → Path → Type 0 where
  parts_here : {node other : Node} {path rest : Path} → node ≢ other → PartsFrom (node ∷ path) (other ∷ rest)
  parts_later : {node : Node} {path rest : Path} → PartsFrom path rest → PartsFrom (node ∷ path) (node ∷ rest)

-- the item of a container that the first node names is named by the second one after the change: elements behind one that is inserted or removed move by one
pub data IsNamedAfter : Change Form → (before after : Node) → Type 0 where
  beside_pushed : {w : Form} {node : Node} → IsNamedAfter (push w) node node
  beside_paired : {k : List ℕ} {w : Form} {node : Node} → IsNamedAfter (pair k w) node node
  before_inserted : {n i : ℕ} {w : Form} → i < n → IsNamedAfter (insert n w) (index i) (index i)
  behind_inserted : {n i : ℕ} {w : Form} → n ≤ i → IsNamedAfter (insert n w) (index i) (index (i + 1))
  before_removed : {n i : ℕ} → i < n → IsNamedAfter (remove (index n)) (index i) (index i)
  behind_removed : {n i : ℕ} → n ≤ i → IsNamedAfter (remove (index n)) (index (i + 1)) (index i)
  beside_removed : {k l : List ℕ} → l ≢ k → IsNamedAfter (remove (key k)) (key l) (key l)
