-- Where a path leads in a value, however far it is opened (compare RFC 6901, section 4).
use Rattle.std.specs.Prelude.{◌≡◌, ℕ, zero, suc, List, [], ◌∷◌, ◌++◌, Option, Some, None, slice_range, nat_eq, if◌then◌else◌}
use Rattle.std.specs.Cmp.Lexicographic.{pointwise}
use Rattle.sonic_find.specs.Paths.{found, Leads}
use Rattle.sonic_owned.specs.Forms.{Form, raw, level, Members, no_member, member}
use Rattle.sonic_text.specs.Paths.{Node, key, index, Path}
use Rattle.sonic_text.specs.declared.kind.Kind.TheVariants.{Array, Object}

-- the item at a position, and the first with a key
abbrev pub item_at : ℕ → Members → Option Form
item_at n no_member = None
item_at zero (member l f ms) = Some f
item_at (suc n) (member l f ms) = item_at n ms

abbrev pub item_of : List ℕ → Members → Option Form
item_of k no_member = None
item_of k (member None f ms) = item_of k ms
item_of k (member (Some l) f ms) = if pointwise nat_eq l k then Some f else item_of k ms

-- the item of a level that a node names: the element of an array with the index, the first member of an object with the key
abbrev pub item_in : Node → Form → Option Form
item_in node (raw b) = None
item_in (index n) (level Array ms) = item_at n ms
item_in (index n) (level Object ms) = None
item_in (key k) (level Array ms) = None
item_in (key k) (level Object ms) = item_of k ms

-- the path leads from the first form to the second: through levels item by item, and in a text that isn't opened as it leads there
pub data LeadsTo : Path → Form → Form → Type 0 where
  leads_here : {f : Form} → LeadsTo [] f f
  leads_on : {node : Node} {rest : Path} {f h g : Form} → item_in node f ≡ Some h → LeadsTo rest h g → LeadsTo (node ∷ rest) f g
  leads_in_text : {path : Path} {b : List ℕ} {i j : ℕ} → Leads b path (found i j) → LeadsTo path (raw b) (raw (slice_range b i j))

-- these bytes stand in the text
abbrev pub StandsIn : List ℕ → List ℕ → Type 0
StandsIn u t = (front : List ℕ) × (back : List ℕ) × (t ≡ front ++ (u ++ back))
