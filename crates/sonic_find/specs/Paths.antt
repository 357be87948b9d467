-- Where a path of keys and indexes leads in a text (compare RFC 6901, section 4).
use Rattle.std.specs.Prelude.{◌≡◌, ℕ, ◌+◌, ◌-◌, ◌<◌, ◌==◌, ◌&&◌, List, [], ◌∷◌, Option, Some, None, if◌then◌else◌}
use Rattle.sonic_error.specs.declared.code.ErrorCode.{ErrorCode}
use Rattle.sonic_error.specs.declared.code.ErrorCode.TheVariants.{Message, GetInEmptyArray, GetInEmptyObject, GetIndexOutOfArray, DuplicateKey}
use Rattle.sonic_error.specs.declared.json_type.Note.TheVariants.{Mismatch}
use Rattle.sonic_error.specs.declared.json_type.Wanted.{Wanted}
use Rattle.sonic_error.specs.declared.json_type.Wanted.TheVariants.{Array as WantedArray, Object as WantedObject}
use Rattle.sonic_text.specs.declared.kind.Kind.{Kind}
use Rattle.sonic_text.specs.declared.kind.Kind.TheVariants.{Array, Object}
use Rattle.sonic_text.specs.declared.stop.Stop.{Stop}
use Rattle.sonic_pointer.specs.declared.rule.KeyRule.{KeyRule}
use Rattle.sonic_pointer.specs.declared.rule.KeyRule.TheVariants.{First, Last, Refuse}
use Rattle.sonic_text.specs.Places.{byte, after_space}
use Rattle.sonic_text.specs.Strings.{strict}
use Rattle.sonic_text.specs.Paths.{Node, key, index, Path}
use Rattle.sonic_text.specs.Values.{opening, closing, type_at, ItemHead, IsValue, ItemsFit}
use Rattle.sonic_text.specs.Faults.{IsFault}

-- where a path leads: to the span of a value; nowhere, as an object that isn't empty lacks the key, at its closing brace;
-- nowhere, though the text fits up to a place; or nowhere, as the text's fault comes first
pub data Outcome : Type 0 where
  found : ℕ → ℕ → Outcome
  lacks : ℕ → Outcome
  fails : Stop → Outcome
  cut : Stop → Outcome

-- the kind of container that a node asks for
abbrev pub kind_of : Node → Kind
kind_of (key k) = Object
kind_of (index n) = Array

-- what names the n-th item of a container: an element its index, a member its key
abbrev pub name_of : ℕ → Option (List ℕ) → Node
name_of n None = index n
name_of n (Some k) = key k

-- the n-th item of a container of this kind, which is expected at h, has its value expected at v, and the node names it
pub record IsNamed (t : List ℕ) (kind : Kind) (n h v : ℕ) (node : Node) : Type 0 where
  pub label : Option (List ℕ)
  pub head : ItemHead strict t kind h v label
  pub name : name_of n label ≡ node

-- in the container at i the first n items fit, the next is expected at h, and the node names none of the n
pub record NoneNamed (t : List ℕ) (i : ℕ) (kind : Kind) (n h : ℕ) (node : Node) : Type 0 where
  pub fit : ItemsFit strict t kind i n h
  pub none : (p g v : ℕ) → p < n → ItemsFit strict t kind i p g → ¬ IsNamed t kind p g v node

-- the node leads on to the first item of the container at i that it names, and the item's value is expected at v
pub record LeadsOn (t : List ℕ) (i : ℕ) (node : Node) (v : ℕ) : Type 0 where
  pub n : ℕ
  pub h : ℕ
  pub before : NoneNamed t i (kind_of node) n h node
  pub item : IsNamed t (kind_of node) n h v node

-- of the items of the container at i that come after the first n and the next the node names none
abbrev pub NoneAfter : List ℕ → ℕ → ℕ → Node → Type 0
NoneAfter t i n node = (p g v : ℕ) → n < p → ItemsFit strict t (kind_of node) i p g → ¬ IsNamed t (kind_of node) p g v node

-- the node leads to the last item of the whole container at i that it names, and the item's value is expected at v
pub record LeadsToLast (t : List ℕ) (i : ℕ) (node : Node) (v : ℕ) : Type 0 where
  pub end : ℕ
  pub whole : IsValue strict t i end
  pub n : ℕ
  pub h : ℕ
  pub fit : ItemsFit strict t (kind_of node) i n h
  pub item : IsNamed t (kind_of node) n h v node
  pub after : NoneAfter t i n node

-- the node leads to the only item of it that it names: the first, which is the last
pub record LeadsToOnly (t : List ℕ) (i : ℕ) (node : Node) (v : ℕ) : Type 0 where
  pub first : LeadsOn t i node v
  pub last : LeadsToLast t i node v

-- of the whole container at i the node names a second item, which is expected at q
pub record Repeats (t : List ℕ) (i : ℕ) (node : Node) (q : ℕ) : Type 0 where
  pub end : ℕ
  pub whole : IsValue strict t i end
  pub v : ℕ
  pub first : LeadsOn t i node v
  pub n : ℕ
  pub w : ℕ
  pub later : first.n < n
  pub fit : ItemsFit strict t (kind_of node) i n q
  pub item : IsNamed t (kind_of node) n q w node
  pub between : (p g u : ℕ) → first.n < p → p < n → ItemsFit strict t (kind_of node) i p g → ¬ IsNamed t (kind_of node) p g u node

-- under a rule the node leads on to v: an index to its element, and a key to the member that counts
abbrev pub LeadsBy : KeyRule → List ℕ → ℕ → Node → ℕ → Type 0
LeadsBy First t i node v = LeadsOn t i node v
LeadsBy Last t i (key k) v = LeadsToLast t i (key k) v
LeadsBy Last t i (index n) v = LeadsOn t i (index n) v
LeadsBy Refuse t i (key k) v = LeadsToOnly t i (key k) v
LeadsBy Refuse t i (index n) v = LeadsOn t i (index n) v

-- the path fails at q, for this reason
abbrev pub fails_at : ℕ → ErrorCode → Outcome
fails_at q code = fails (record { place = q; code = code })

-- the code for an empty container of this kind
abbrev pub empty_code : Kind → ErrorCode
empty_code Array = GetInEmptyArray
empty_code Object = GetInEmptyObject

-- what is expected where a node asks for this kind
abbrev pub wanted_of : Kind → Wanted
wanted_of Array = WantedArray
wanted_of Object = WantedObject

-- what comes of a node that names none of the items of a container of its kind, whose closing bracket is at q
abbrev pub past_end : Kind → ℕ → Outcome
past_end Array q = fails_at q GetIndexOutOfArray
past_end Object q = lacks q

-- what comes of a node that asks for this kind and leads nowhere in the whole value at i, whose last byte is at q
abbrev pub nowhere : List ℕ → ℕ → ℕ → Kind → Outcome
nowhere t i q kind =
    if byte t i == opening kind && byte t (after_space t (i + 1)) == closing kind then fails_at q (empty_code kind)
    else if byte t i == opening kind then past_end kind q
    else fails_at q (Message (Mismatch (type_at t i) (wanted_of kind)))

-- where the path leads under a rule from the place i, at which a value is expected
pub data EvaluatesBy : KeyRule → List ℕ → ℕ → Path → Outcome → Type 0 where
  -- the path is used up, and a value is here
  found_here : {r : KeyRule} {t : List ℕ} {i j : ℕ} → IsValue strict t i j → EvaluatesBy r t i [] (found i j)
  -- the first node leads on, and the rest of the path goes on there
  goes_on : {r : KeyRule} {t : List ℕ} {i v : ℕ} {node : Node} {rest : Path} {o : Outcome} → LeadsBy r t i node v → EvaluatesBy r t v rest o
      → EvaluatesBy r t i (node ∷ rest) o
  -- its key comes twice, and that is refused at the second one
  repeats : {t : List ℕ} {i q : ℕ} {k : List ℕ} {rest : Path} → Repeats t i (key k) q → EvaluatesBy Refuse t i (key k ∷ rest) (fails_at q DuplicateKey)
  -- it leads on to nothing, and the value is whole: that is reported at the value's last byte
  leads_nowhere : {r : KeyRule} {t : List ℕ} {i j : ℕ} {node : Node} {rest : Path} {o : Outcome} → IsValue strict t i j → ((v : ℕ) → ¬ LeadsOn t i node v)
      → o ≡ nowhere t i (j - 1) (kind_of node) → EvaluatesBy r t i (node ∷ rest) o
  -- the path is used up, and the value that is expected here has a fault
  cut_here : {r : KeyRule} {t : List ℕ} {i : ℕ} {s : Stop} → IsFault strict t i s → EvaluatesBy r t i [] (cut s)
  -- the value that is expected here has a fault, and before that the first node doesn't lead on
  cut_before : {r : KeyRule} {t : List ℕ} {i : ℕ} {node : Node} {rest : Path} {s : Stop} → IsFault strict t i s → ((v : ℕ) → ¬ LeadsBy r t i node v)
      → EvaluatesBy r t i (node ∷ rest) (cut s)

-- and where it leads by first equal keys
abbrev pub Evaluates : List ℕ → ℕ → Path → Outcome → Type 0
Evaluates t i path o = EvaluatesBy First t i path o

-- where the path leads under a rule from the first byte that is no white space
abbrev pub LeadsUnder : KeyRule → List ℕ → Path → Outcome → Type 0
LeadsUnder r t path o = EvaluatesBy r t (after_space t 0) path o

-- where the path leads from the first byte that is no white space
abbrev pub Leads : List ℕ → Path → Outcome → Type 0
Leads t path o = Evaluates t (after_space t 0) path o
