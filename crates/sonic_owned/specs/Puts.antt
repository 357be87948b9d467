-- A value with one part put in the place of another.
use Rattle.std.specs.Prelude.{◌≡◌, ℕ, zero, suc, List, [], ◌∷◌, Some, None, nat_eq, if◌then◌else◌}
use Rattle.std.specs.Cmp.Lexicographic.{pointwise}
use Rattle.sonic_owned.specs.Forms.{Form, raw, level, Members, no_member, member}
use Rattle.sonic_owned.specs.Leading.{item_in}
use Rattle.sonic_owned.specs.Opened.{IsOpened}
use Rattle.sonic_text.specs.Paths.{Node, key, index, Path}
use Rattle.sonic_text.specs.declared.kind.Kind.TheVariants.{Array, Object}

-- the item at a position changed, and the first with a key
abbrev pub put_at : ℕ → Form → Members → Members
put_at n g no_member = no_member
put_at zero g (member l f ms) = member l g ms
put_at (suc n) g (member l f ms) = member l f (put_at n g ms)

abbrev pub put_of : List ℕ → Form → Members → Members
put_of k g no_member = no_member
put_of k g (member None f ms) = member None f (put_of k g ms)
put_of k g (member (Some l) f ms) = if pointwise nat_eq l k then member (Some l) g ms else member (Some l) f (put_of k g ms)

-- the item of a level that a node names
abbrev pub put_in : Node → Form → Form → Form
put_in node g (raw b) = raw b
put_in (index n) g (level Array ms) = level Array (put_at n g ms)
put_in (index n) g (level Object ms) = level Object ms
put_in (key k) g (level Array ms) = level Array ms
put_in (key k) g (level Object ms) = level Object (put_of k g ms)

-- the path leads to m in the form f, with each level on the way opened, and h is f with g put in its place
pub data IsPut : Path → (f m g h : Form) → Type 0 where
  put_here : {f g : Form} → IsPut [] f f g g
  put_on : {node : Node} {rest : Path} {f o i m g j h : Form} → IsOpened f o → item_in node o ≡ Some i → IsPut rest i m g j → h ≡ put_in node j o
      → IsPut (node ∷ rest) f m g h

-- the path leads to m in the form f, with each level on the way opened
abbrev pub IsPartOf : Path → Form → Form → Type 0
IsPartOf path f m = (h : Form) × IsPut path f m m h

-- members with another value at a position, whose key stays
abbrev pub with_value : ℕ → Form → List (List ℕ × Form) → List (List ℕ × Form)
with_value n g [] = []
with_value zero g (m ∷ ms) = (m.0, g) ∷ ms
with_value (suc n) g (m ∷ ms) = m ∷ with_value n g ms
