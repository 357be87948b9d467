-- What the tags of a value make of cells, and what slots represent.
use Rattle.std.proofs.Common.{Bor, ◌≡◌, ◌∙◌, sym, subst, ap, ℕ, Bool, true, false, cond, List, [], ◌∷◌, ◌++◌, length, arith, refl}
use Rattle.std.proofs.lemmas.Cmp.{eq_by_cmp_equiv}
use Rattle.std.proofs.lemmas.List.{length-append, same_from_push}
use Rattle.std.proofs.lemmas.List.Folds.{list_any-append}
use Rattle.std.specs.BTreeMap.{BTreeMap, is_at}
use Rattle.std.specs.BTreeSet as sorted
use Rattle.std.specs.BTreeSet.{BTreeSet}
use Rattle.std.specs.List.{list_any}
use Rattle.std.specs.Ordering.{eq_by_cmp}
use Rattle.std.specs.Prelude.{◌||◌, Option, None}
use Rattle.sonic_text.specs.declared.kind.Kind.{Kind}
use Rattle.sonic_text.specs.declared.kind.Kind.TheVariants.{Array, Object}
use Rattle.sonic_text.specs.Trees.{Tree, Items}
use Rattle.sonic_text.specs.Trees.Items.{no_item, item}
use Rattle.sonic_text.specs.Trees.Tree.{null, truth, numeral, text, container}
use Rattle.sonic_patch.specs.declared.marks.Slot.{Slot}
use Rattle.sonic_patch.specs.declared.marks.Slot.TheVariants.{Done, Begun}
use Rattle.sonic_patch.specs.declared.shape.Shape.{Shape}
use Rattle.sonic_patch.specs.declared.walk.Event.{Event}
use Rattle.sonic_patch.specs.declared.walk.Event.TheVariants.{Leaf as LeafEvent, Begin, End}
use Rattle.sonic_patch.specs.declared.walk.Leaf.{Leaf}
use Rattle.sonic_patch.specs.declared.walk.Walk.{Walk}
use Rattle.sonic_patch.specs.Internal.Marks.{Pair, Signature, signature_of, label_signature, pair_cmp, IsSetOf, IsSignature, elements_are, members_are, AreMarks, no_mark, more_marks, Names, IsTreeMark}
use Rattle.sonic_patch.specs.Internal.Stacks.{Cell, done_cell, begun_cell, close_up, step, run, Represents, nothing_represents, done_represents, begun_represents, IsShapeOf, AreTaken, IsTaken, IsUnderWay}
use Rattle.sonic_patch.specs.Internal.Tags.{Tag, leaf_tag, begin_tag, end_tag, tags, item_tags}
use Rattle.sonic_patch.specs.Internal.Walks.{IsKeyLabel, IsLeaf, Remains, TellsTag, TellsFirst}
use Rattle.sonic_patch.proofs.MarkLemmas.{pair_total, signature_still, marks_still}

-- items before others
abbrev joined : Items → Items → Items
joined no_item zs = zs
joined (item l x xs) zs = item l x (joined xs zs)

joined_none : (xs : Items) → joined xs no_item ≡ xs
joined_none no_item = refl
joined_none (item l x xs) = ap (item l x) (joined_none xs)

-- the cells after items
abbrev pushed : Items → List Cell → List Cell
pushed no_item cells = cells
pushed (item l x xs) cells = pushed xs (done_cell l x ∷ cells)

close_pushed : (kind : Kind) (xs zs : Items) (cells : List Cell) → close_up kind zs (pushed xs cells) ≡ close_up kind (joined xs zs) cells
close_pushed kind no_item zs cells = refl
close_pushed kind (item l x xs) zs cells = close_pushed kind xs zs (done_cell l x ∷ cells)

mutual
  -- the tags of a value leave one cell with it
  pub run_value : (l : Option (List ℕ)) (x : Tree) (rest : List Tag) (cells : List Cell) → run (tags l x rest) cells ≡ run rest (done_cell l x ∷ cells)
  run_value l (container kind (item k y ys)) rest cells =
      let opened : List Cell = begun_cell l kind ∷ cells in
      let closing : List Tag = end_tag kind ∷ rest in
      run_value k y (item_tags ys closing) opened
      ∙ run_items ys closing (done_cell k y ∷ opened)
      ∙ ap (run rest) (close_pushed kind ys no_item (done_cell k y ∷ opened))
      ∙ ap (λ (zs : Items). run rest (done_cell l (container kind (item k y zs)) ∷ cells)) (joined_none ys)
  run_value l null rest cells = refl
  run_value l (truth t) rest cells = refl
  run_value l (numeral t) rest cells = refl
  run_value l (text t) rest cells = refl
  run_value l (container kind no_item) rest cells = refl

  run_items : (xs : Items) (rest : List Tag) (cells : List Cell) → run (item_tags xs rest) cells ≡ run rest (pushed xs cells)
  run_items no_item rest cells = refl
  run_items (item l x xs) rest cells = run_value l x (item_tags xs rest) cells ∙ run_items xs rest (done_cell l x ∷ cells)

-- slots represent the same where more signatures have numbers
pub represents_still : {m n : BTreeMap Shape ℕ} {cells : List Cell} {slots : List Slot} → ((f : Signature) (i : ℕ) → Names m f i → Names n f i) → Represents m cells slots
    → Represents n cells slots
represents_still more nothing_represents = nothing_represents
represents_still more (done_represents {l} {f = f} {n} {m} nl is nm rest) = done_represents (more (label_signature l) n nl) (signature_still more is) (more f m nm) (represents_still more rest)
represents_still more (begun_represents {l} {n = n} nl rest) = begun_represents (more (label_signature l) n nl) (represents_still more rest)

-- what the last slot represents
pub data LastRepresents (numbers : BTreeMap Shape ℕ) (cells : List Cell) (slots : List Slot) (slot : Slot) : Type 0 where
  last_done : {l : Option (List ℕ)} {x : Tree} {f : Signature} {n m : ℕ} {rest : List Cell} → cells ≡ done_cell l x ∷ rest → slot ≡ Done n m
      → Names numbers (label_signature l) n → IsSignature (Names numbers) x f → Names numbers f m → Represents numbers rest slots → LastRepresents numbers cells slots slot
  last_begun : {l : Option (List ℕ)} {kind : Kind} {n : ℕ} {rest : List Cell} → cells ≡ begun_cell l kind ∷ rest → slot ≡ Begun n → Names numbers (label_signature l) n
      → Represents numbers rest slots → LastRepresents numbers cells slots slot

pub last_represents : {numbers : BTreeMap Shape ℕ} {cells : List Cell} {all : List Slot} (slots : List Slot) (slot : Slot) → Represents numbers cells all
    → all ≡ slots ++ slot ∷ [] → LastRepresents numbers cells slots slot
last_represents slots slot nothing_represents e = absurd (omega (arith, ap length e, length-append slots (slot ∷ [])))
last_represents {numbers} slots slot (done_represents {n = n} {m} {cells} {slots = under} nl is nm rest) e =
    let same = same_from_push under slots (Done n m) slot e in
    last_done refl (sym same.1) nl is nm (subst (λ (s : List Slot). Represents numbers cells s) same.0 rest)
last_represents {numbers} slots slot (begun_represents {n = n} {cells} {slots = under} nl rest) e =
    let same = same_from_push under slots (Begun n) slot e in
    last_begun refl (sym same.1) nl (subst (λ (s : List Slot). Represents numbers cells s) same.0 rest)

-- the mark of the one value that was passed
pub root_mark : {numbers : BTreeMap Shape ℕ} {x : Tree} {all : List Slot} {n m : ℕ} (slots : List Slot) (slot : Slot) → slot ≡ Done n m
    → Represents numbers (done_cell None x ∷ []) all → all ≡ slots ++ slot ∷ [] → IsTreeMark (Names numbers) x m
root_mark {numbers} {x} {n = n} {m} slots slot is s e = elim (last_represents slots slot s e) [
  | last_done {x = y} {f} {m = k} cells same nl signature nm rest ↦ (
      let tree : x ≡ y = cc in
      let mark : k ≡ m = cc in
      record { signature = f; is = subst (λ (z : Tree). IsSignature (Names numbers) z f) (sym tree) signature; number = subst (λ (i : ℕ). Names numbers f i) mark nm })
  | last_begun cells same nl rest ↦ absurd cc
]

-- nothing was taken yet
pub none_taken : {numbers : BTreeMap Shape ℕ} {cells : List Cell} {slots : List Slot} → Represents numbers cells slots → AreTaken numbers cells slots []
none_taken {cells = cells} s = record { items = no_item; rest = cells; marks = no_mark; represented = s; same = λ kind. refl }

-- one more item
pub one_taken : {numbers : BTreeMap Shape ℕ} {cells : List Cell} {all : List Slot} {pairs : List Pair} {n m : ℕ} (slots : List Slot) (slot : Slot) → slot ≡ Done n m
    → all ≡ slots ++ slot ∷ [] → AreTaken numbers cells all pairs → AreTaken numbers cells slots (pairs ++ (n, m) ∷ [])
one_taken {numbers} {cells} {pairs = pairs} {n} {m} slots slot is e t = elim (last_represents slots slot t.represented e) [
  | last_done {l} {x} {f} {n = i} {m = k} {rest} cell same nl signature nm represented ↦ (
      let label : i ≡ n = cc in
      let mark : k ≡ m = cc in
      record {
        items = item l x t.items;
        rest = rest;
        marks = more_marks (subst (λ (o : ℕ). Names numbers (label_signature l) o) label nl) signature (subst (λ (o : ℕ). Names numbers f o) mark nm) t.marks;
        represented = represented;
        same = λ kind. t.same kind ∙ ap (close_up kind t.items) cell;
      })
  | last_begun cell same nl rest ↦ absurd cc
]

-- the container itself
pub all_taken : {numbers : BTreeMap Shape ℕ} {cells : List Cell} {all : List Slot} {pairs : List Pair} {n : ℕ} (slots : List Slot) (slot : Slot) → slot ≡ Begun n
    → all ≡ slots ++ slot ∷ [] → AreTaken numbers cells all pairs → IsTaken numbers cells slots pairs n
all_taken {numbers} {cells} {n = n} slots slot is e t = elim (last_represents slots slot t.represented e) [
  | last_done cell same nl signature nm represented ↦ absurd cc
  | last_begun {l} {n = i} {rest} cell same nl represented ↦ (
      let label : i ≡ n = cc in
      record {
        label = l;
        items = t.items;
        rest = rest;
        marks = t.marks;
        number = subst (λ (o : ℕ). Names numbers (label_signature l) o) label nl;
        represented = represented;
        same = λ kind. t.same kind ∙ ap (close_up kind t.items) cell;
      })
]

-- the signature of a container
pub container_signature : {N : Signature → ℕ → Type 0} {xs : Items} {pairs : List Pair} (kind : Kind) (shape : Shape) → AreMarks N xs pairs → IsShapeOf kind pairs shape
    → IsSignature N (container kind xs) (signature_of shape)
container_signature Array shape a e = rw e (elements_are a)
container_signature Object shape a e = rw e.2 (members_are a e.1)

-- a container that has ended
pub ended : {m n : BTreeMap Shape ℕ} {cells : List Cell} {slots : List Slot} {pairs : List Pair} {label mark : ℕ} (kind : Kind) (shape : Shape)
    → ((f : Signature) (i : ℕ) → Names m f i → Names n f i) → IsTaken m cells slots pairs label → IsShapeOf kind pairs shape → Names n (signature_of shape) mark
    → Represents n (close_up kind no_item cells) (slots ++ Done label mark ∷ [])
ended {n = n} {cells} {slots} {label = label} {mark} kind shape more t is number =
    let done : Represents n (done_cell t.label (container kind t.items) ∷ t.rest) (slots ++ Done label mark ∷ []) =
    done_represents (more (label_signature t.label) label t.number) (container_signature kind shape (marks_still more t.marks) is) number (represents_still more t.represented) in
    rw (t.same kind) done

-- one pair more in a set
or_same : (a b : Bool) → cond a true b ≡ (b || (a || false))
or_same true true = refl
or_same true false = refl
or_same false true = refl
or_same false false = refl

pair_more : {a b : Bool} (pairs : List Pair) (p q : Pair) → a ≡ cond (is_at (pair_cmp p) q) true b → b ≡ list_any (eq_by_cmp pair_cmp q) pairs
    → a ≡ list_any (eq_by_cmp pair_cmp q) (pairs ++ p ∷ [])
pair_more {a} {b} pairs p q e f =
    let rest : Bool = list_any (eq_by_cmp pair_cmp q) pairs in
    let other : eq_by_cmp pair_cmp q p ≡ is_at (pair_cmp p) q = (eq_by_cmp_equiv pair_total).symm q p in
    let first : a ≡ cond (is_at (pair_cmp p) q) true rest = e ∙ ap (λ (o : Bool). cond (is_at (pair_cmp p) q) true o) f in
    let second : cond (is_at (pair_cmp p) q) true rest ≡ (rest || (is_at (pair_cmp p) q || false)) = or_same (is_at (pair_cmp p) q) rest in
    let third : (rest || (is_at (pair_cmp p) q || false)) ≡ (rest || (eq_by_cmp pair_cmp q p || false)) = ap (λ (o : Bool). rest || (o || false)) (sym other) in
    first ∙ second ∙ third ∙ sym (list_any-append (eq_by_cmp pair_cmp q) pairs (p ∷ []))

pub set_more : {set now : BTreeSet Pair} {pairs : List Pair} (p : Pair) → sorted.IsOrdered pair_cmp now
    → ((q : Pair) → sorted.contains pair_cmp now q ≡ cond (is_at (pair_cmp p) q) true (sorted.contains pair_cmp set q)) → IsSetOf pairs set
    → IsSetOf (pairs ++ p ∷ []) now
set_more {set} {now} {pairs} p ordered updates s = record { ordered = ordered; has = λ q. pair_more pairs p q (updates q) (s.has q) }

-- a walk that begins, and one that goes on
pub begun_way : {m : BTreeMap Shape ℕ} {walk : Walk} (x : Tree) → Remains walk (tags None x []) → IsUnderWay m walk [] x
begun_way x r = record { rest = tags None x []; cells = []; remain = r; runs = run_value None x [] []; represented = nothing_represents }

pub next_way : {m n : BTreeMap Shape ℕ} {walk now : Walk} {slots others : List Slot} {x : Tree} {event : Event} → (u : IsUnderWay m walk slots x)
    → TellsFirst now event u.rest → ((tag : Tag) → TellsTag event tag → (cells : List Cell) → Represents m cells slots → Represents n (step tag cells) others)
    → IsUnderWay n now others x
next_way u t took = record {
  rest = t.others;
  cells = step t.tag u.cells;
  remain = t.remain;
  runs = ap (λ (rest : List Tag). run rest u.cells) (sym t.are) ∙ u.runs;
  represented = took t.tag t.tells u.cells u.represented;
}

pub whole_way : {m : BTreeMap Shape ℕ} {walk : Walk} {slots : List Slot} {x : Tree} → (u : IsUnderWay m walk slots x) → u.rest ≡ []
    → Represents m (done_cell None x ∷ []) slots
whole_way {m} {slots = slots} u none =
    let are = ap (λ (rest : List Tag). run rest u.cells) (sym none) ∙ u.runs in
    subst (λ (cells : List Cell). Represents m cells slots) are u.represented

-- a value without parts was taken in
pub leaf_taken : {m k n : BTreeMap Shape ℕ} {event : Event} {key : Option (Bor (List ℕ))} {leaf : Leaf} {cells : List Cell} {slots : List Slot} {label mark : ℕ} (shape : Shape)
    → event ≡ LeafEvent key leaf → ((f : Signature) (i : ℕ) → Names m f i → Names k f i) → ((f : Signature) (i : ℕ) → Names k f i → Names n f i)
    → ((l : Option (List ℕ)) → IsKeyLabel key l → Names k (label_signature l) label)
    → ((x : Tree) → IsLeaf leaf x → (numbers : BTreeMap Shape ℕ) → IsSignature (Names numbers) x (signature_of shape)) → Names n (signature_of shape) mark → Represents m cells slots
    → (tag : Tag) → TellsTag event tag → Represents n (step tag cells) (slots ++ Done label mark ∷ [])
leaf_taken {n = n} {key = key} {leaf} {label = label} shape is first more named signed number s (leaf_tag l x) t =
    let told : IsKeyLabel key l × IsLeaf leaf x = rw is at t in
    done_represents (more (label_signature l) label (named l told.0)) (signed x told.1 n) number (represents_still (λ f i h. more f i (first f i h)) s)
leaf_taken shape is first more named signed number s (begin_tag l kind) t = absurd (rw is at t)
leaf_taken shape is first more named signed number s (end_tag kind) t = absurd (rw is at t)

-- a container that begins
pub begin_taken : {m n : BTreeMap Shape ℕ} {event : Event} {key : Option (Bor (List ℕ))} {kind : Kind} {cells : List Cell} {slots : List Slot} {label : ℕ} → event ≡ Begin key kind
    → ((f : Signature) (i : ℕ) → Names m f i → Names n f i) → ((l : Option (List ℕ)) → IsKeyLabel key l → Names n (label_signature l) label) → Represents m cells slots
    → (tag : Tag) → TellsTag event tag → Represents n (step tag cells) (slots ++ Begun label ∷ [])
begin_taken {key = key} {kind} is more named s (begin_tag l other) t =
    let told : IsKeyLabel key l × (kind ≡ other) = rw is at t in
    begun_represents (named l told.0) (represents_still more s)
begin_taken is more named s (leaf_tag l x) t = absurd (rw is at t)
begin_taken is more named s (end_tag other) t = absurd (rw is at t)

-- and one that ends
pub end_taken : {m n : BTreeMap Shape ℕ} {event : Event} {kind : Kind} {slots others : List Slot} → event ≡ End kind
    → ((cells : List Cell) → Represents m cells slots → Represents n (close_up kind no_item cells) others) → (tag : Tag) → TellsTag event tag → (cells : List Cell)
    → Represents m cells slots → Represents n (step tag cells) others
end_taken {n = n} {kind = kind} {others = others} is ended (end_tag other) t cells s =
    let told : kind ≡ other = rw is at t in
    subst (λ (k : Kind). Represents n (close_up k no_item cells) others) told (ended cells s)
end_taken is ended (leaf_tag l x) t cells s = absurd (rw is at t)
end_taken is ended (begin_tag l other) t cells s = absurd (rw is at t)
