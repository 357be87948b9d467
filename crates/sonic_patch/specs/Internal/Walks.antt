-- Where a walk through a value has come to, and what it tells then.
use Rattle.std.specs.Prelude.{◌≡◌, ℕ, ◌+◌, List, [], ◌∷◌, ◌++◌, Option, Some, None, MatchBool, length}
use Rattle.sonic_text.specs.declared.kind.Kind.{Kind}
use Rattle.sonic_text.specs.Places.{byte, after_space}
use Rattle.sonic_text.specs.Strings.{IsString, strict}
use Rattle.sonic_text.specs.Trees.{Tree, Items, Means, ItemsMean}
use Rattle.sonic_text.specs.Trees.Items.{no_item, item}
use Rattle.sonic_text.specs.Trees.Tree.{null, truth, numeral, text, container}
use Rattle.sonic_text.specs.Values.{closing}
use Rattle.sonic_parser.specs.Descents.{DescentState}
use Rattle.sonic_patch.specs.Internal.Tags.{Tag, Frame, leaf_tag, begin_tag, end_tag, frame, tags, item_tags, tags_after}
use Rattle.std.specs.Borrow.{Bor}
use Rattle.sonic_patch.specs.declared.walk.Leaf.{Leaf}
use Rattle.sonic_patch.specs.declared.walk.Leaf.TheVariants.{Null, Truth, Number, Text, Empty}
use Rattle.sonic_patch.specs.declared.walk.Event.{Event}
use Rattle.sonic_patch.specs.declared.walk.Event.TheVariants.{Leaf as LeafEvent, Begin, End}
use Rattle.sonic_patch.specs.declared.walk.Walk.{Walk}

-- after a value that ends at e comes what is still to come in these containers, the innermost first
pub data Follows (t : List ℕ) : ℕ → List Frame → Type 0 where
  nothing_follows : {e : ℕ} → Follows t e []
  bracket_follows : {e : ℕ} {kind : Kind} {frames : List Frame} → byte t (after_space t e) ≡ closing kind → Follows t (after_space t e + 1) frames
      → Follows t e (frame kind no_item ∷ frames)
  items_follow : {e g j : ℕ} {kind : Kind} {xs : Items} {frames : List Frame} → byte t (after_space t e) ≡ 44 → g ≡ after_space t (after_space t e + 1)
      → ItemsMean t kind g j xs → Follows t j frames → Follows t e (frame kind xs ∷ frames)

-- the kinds of the containers, the outermost first
abbrev pub kinds_of : List Frame → List Kind
kinds_of [] = []
kinds_of (frame kind xs ∷ frames) = kinds_of frames ++ kind ∷ []

-- the walk has come to the root, or to an item, and these tags are to come
pub data RemainsFromItem (walk : DescentState) (rest : List Tag) : Type 0 where
  root_expected : {e : ℕ} {x : Tree} → walk.opened ≡ [] → Means walk.text walk.place e x → rest ≡ tags None x [] → RemainsFromItem walk rest
  item_expected : {j : ℕ} {kind : Kind} {xs : Items} {frames : List Frame} → walk.opened ≡ kinds_of frames ++ kind ∷ [] → ItemsMean walk.text kind walk.place j xs
      → Follows walk.text j frames → rest ≡ item_tags xs (end_tag kind ∷ tags_after frames) → RemainsFromItem walk rest

-- or to the value with this label
pub record RemainsFromValue (walk : DescentState) (label : Option (List ℕ)) (rest : List Tag) : Type 0 where
  pub end : ℕ
  pub tree : Tree
  pub frames : List Frame
  pub opened : walk.opened ≡ kinds_of frames
  pub means : Means walk.text walk.place end tree
  pub follows : Follows walk.text end frames
  pub are : rest ≡ tags label tree (tags_after frames)

-- or to the end of a value
pub record RemainsAfterItem (walk : DescentState) (rest : List Tag) : Type 0 where
  pub frames : List Frame
  pub opened : walk.opened ≡ kinds_of frames
  pub follows : Follows walk.text walk.place frames
  pub are : rest ≡ tags_after frames

-- these tags are to come
abbrev pub Remains : Walk → List Tag → Type 0
Remains walk rest = (walk.inner.lossy ≡ strict) × MatchBool walk.ended (RemainsAfterItem walk.inner rest) (RemainsFromItem walk.inner rest)

-- the whole text is a string, and denotes these bytes
abbrev pub IsWord : List ℕ → List ℕ → Type 0
IsWord t b = IsString strict t 0 (length t) b

-- it is the key of the label, or there is none
abbrev pub IsKeyLabel : Option (Bor (List ℕ)) → Option (List ℕ) → Type 0
IsKeyLabel None None = Unit {0}
IsKeyLabel (Some key) (Some b) = IsWord key.now b
IsKeyLabel None (Some b) = ⊥
IsKeyLabel (Some key) None = ⊥

-- a tree without parts
abbrev pub IsBare : Tree → Type 0
IsBare (container kind (item l x xs)) = ⊥
IsBare x = Unit {0}

-- it is what the leaf says
abbrev pub IsLeaf : Leaf → Tree → Type 0
IsLeaf Null x = x ≡ null
IsLeaf (Truth b) x = x ≡ truth b
IsLeaf (Number number) x = x ≡ numeral number.now
IsLeaf (Text word) x = (b : List ℕ) × IsWord word.now b × (x ≡ text b)
IsLeaf (Empty kind) x = x ≡ container kind no_item

-- the event tells the tag
abbrev pub TellsTag : Event → Tag → Type 0
TellsTag (LeafEvent key leaf) (leaf_tag l x) = IsKeyLabel key l × IsLeaf leaf x
TellsTag (Begin key kind) (begin_tag l k) = IsKeyLabel key l × (kind ≡ k)
TellsTag (End kind) (end_tag k) = kind ≡ k
TellsTag event tag = ⊥

-- the event tells the next of the tags, and the others remain; or there is none
pub record TellsFirst (now : Walk) (event : Event) (rest : List Tag) : Type 0 where
  pub tag : Tag
  pub others : List Tag
  pub are : rest ≡ tag ∷ others
  pub tells : TellsTag event tag
  pub remain : Remains now others

abbrev pub TellsNext : Walk → Option Event → List Tag → Type 0
TellsNext now None rest = rest ≡ []
TellsNext now (Some event) rest = TellsFirst now event rest
