-- What is decided for a form, by the container to which all tokens but the last lead.
use Rattle.std.proofs.Common.{◌≡◌, sym, refl, ap, inl, inr, ℕ, true, false, List, [], ◌∷◌, ◌++◌, nat_eq, Option, Some, None, option_map, codes, Result, Ok, Err, IfOk}
use Rattle.std.proofs.lemmas.List.{append-nil, map-append}
use Rattle.std.proofs.lemmas.Option.{same_Some}
use Rattle.std.specs.Cmp.Lexicographic.{pointwise}
use Rattle.std.specs.Option.{option_and_then}
use Rattle.sonic_owned.proofs.MeantPathLemmas.{leads_meant}
use Rattle.sonic_owned.specs.Forms.{Form, FormMeans, scalar_of_form}
use Rattle.sonic_owned.specs.Leading.{LeadsTo}
use Rattle.sonic_owned.specs.TreeEdits.{Change, Edit, edit_at, set, push, pair, insert}
use Rattle.sonic_owned.proofs.MeaningLemmas.{form_scalar}
use Rattle.sonic_patch.proofs.PatchLemmas.{some_or_none}
use Rattle.sonic_patch.proofs.ResolveLemmas.{object_meant, array_meant, led_child, unled_child}
use Rattle.std.specs.declared.alloc.Global.{Global}
use Rattle.std.specs.declared.vec.Vec.{Vec}
use Rattle.sonic_owned.specs.Changes.{change_of}
use Rattle.sonic_owned.specs.Seen.{view_form}
use Rattle.sonic_owned.specs.declared.edit.Change as declared
use Rattle.sonic_patch.specs.Internal.Plans.{after, edit_here, edit_of}
use Rattle.sonic_patch.specs.Internal.Resolved.{IsLed, LeadNowhere}
use Rattle.sonic_patch.specs.declared.plan.Plan.{Plan}
use Rattle.sonic_patch.specs.declared.resolve.Led.{Led}
use Rattle.sonic_patch.specs.Patching.{below, at_last, into_object, into_array, into, out_of, addition, removal}
use Rattle.sonic_patch.specs.Pointers.{Token}
use Rattle.sonic_patch.specs.Resolution.{index_of, node_in, path_in}
use Rattle.sonic_pointer.specs.Nodes.{node_of, path_of}
use Rattle.sonic_pointer.specs.declared.node.PointerNode.{PointerNode}
use Rattle.sonic_error.specs.declared.json_type.JsonType.TheVariants.{Object as AnObject, Array as AnArray}
use Rattle.sonic_lazy.specs.Scalars.{type_of, scalar_of_tree}
use Rattle.sonic_text.specs.Paths.{Node, key, index, Path}
use Rattle.sonic_text.specs.TreePaths.{child, member_of, leads}
use Rattle.sonic_text.specs.Trees.{Tree, Items, container}
use Rattle.sonic_text.specs.declared.kind.Kind.TheVariants.{Array, Object}

-- an edit of the part itself
pub after_here : (path : Path) (c : Change Form) → after path (edit_at [] c) ≡ edit_at path c
after_here path c = ap (λ (p : Path). edit_at p c) (append-nil path)

-- how a value comes into an array
pub array_end : (path : Path) (w : Form) (t : Token) → pointwise nat_eq t (codes "-") ≡ true → option_map (after path) (into_array w t) ≡ Some (edit_at path (push w))
array_end path w t is = rw is (ap Some (after_here path (push w)))

pub array_before : (path : Path) (w : Form) (t : Token) {n : ℕ} → pointwise nat_eq t (codes "-") ≡ false → Some n ≡ index_of t
    → option_map (after path) (into_array w t) ≡ Some (edit_at path (insert n w))
array_before path w t {n} other is = rw (other, sym is) (ap Some (after_here path (insert n w)))

pub array_nowhere : (path : Path) (w : Form) (t : Token) → pointwise nat_eq t (codes "-") ≡ false → None ≡ index_of t → option_map (after path) (into_array w t) ≡ None
array_nowhere path w t other is = rw (other, sym is) refl

-- how it comes into an object
pub object_there : (path : Path) (w : Form) (t : Token) {g h : Form} → LeadsTo (key t ∷ []) g h → (xs : Items) → FormMeans g (container Object xs)
    → after path (into_object w (member_of t xs) t) ≡ edit_at (path ++ key t ∷ []) (set w)
object_there path w t lead xs means =
    let (y, there, at) = leads_meant lead means in
    let is : child (key t) (container Object xs) ≡ Some y = led_child means lead there in
    rw is refl

pub object_absent : (path : Path) (w : Form) (t : Token) {g : Form} → ((h : Form) → ¬ LeadsTo (key t ∷ []) g h) → (xs : Items) → FormMeans g (container Object xs)
    → after path (into_object w (member_of t xs) t) ≡ edit_at path (pair t w)
object_absent path w t none xs means =
    let is : child (key t) (container Object xs) ≡ None = unled_child means none in
    rw is (after_here path (pair t w))

-- the path with one more node
pub one_more_node : (nodes : List PointerNode) (node : PointerNode) → path_of (nodes ++ node ∷ []) ≡ path_of nodes ++ node_of node ∷ []
one_more_node nodes node = map-append node_of nodes (node ∷ [])

-- so it is with the nodes of the program
pub object_set : (nodes more : List PointerNode) (w : Form) (t : Token) (node : PointerNode) {g h : Form} → node_of node ≡ key t → more ≡ nodes ++ node ∷ []
    → LeadsTo (node_of node ∷ []) g h → (xs : Items) → FormMeans g (container Object xs)
    → after (path_of nodes) (into_object w (member_of t xs) t) ≡ edit_at (path_of more) (set w)
object_set nodes more w t node {g} {h} e d lead xs means =
    let own : LeadsTo (key t ∷ []) g h = rw e at lead in
    rw (d, one_more_node nodes node, e) (object_there (path_of nodes) w t own xs means)

pub object_paired : (nodes : List PointerNode) (w : Form) (t k : Token) (node : PointerNode) {g : Form} → node_of node ≡ key t → k ≡ t
    → ((h : Form) → ¬ LeadsTo (node_of node ∷ []) g h) → (xs : Items) → FormMeans g (container Object xs)
    → after (path_of nodes) (into_object w (member_of t xs) t) ≡ edit_at (path_of nodes) (pair k w)
object_paired nodes w t k node {g} e d none xs means =
    let own : (h : Form) → ¬ LeadsTo (key t ∷ []) g h = rw e at none in
    rw d (object_absent (path_of nodes) w t own xs means)

-- into what is no container nothing comes
pub into_other : {g : Form} (w : Form) (t : Token) → ¬ (type_of (scalar_of_form g) ≡ AnObject) → ¬ (type_of (scalar_of_form g) ≡ AnArray)
    → (v : Tree) → FormMeans g v → into w v t ≡ None
into_other w t object array v means = cases v (rw (form_scalar means) at object) (rw (form_scalar means) at array)
  where
    cases : (v : Tree) → ¬ (type_of (scalar_of_tree v) ≡ AnObject) → ¬ (type_of (scalar_of_tree v) ≡ AnArray) → into w v t ≡ None
    cases (container Object xs) o a = absurd (o refl)
    cases (container Array xs) o a = absurd (a refl)
    cases v o a = refl

-- into a container it comes as its kind says
pub into_object_meant : (path : Path) (w : Form) (t : Token) {g : Form} {e : Edit Form} → type_of (scalar_of_form g) ≡ AnObject
    → ((xs : Items) → FormMeans g (container Object xs) → after path (into_object w (member_of t xs) t) ≡ e)
    → (u : Tree) → FormMeans g u → option_map (after path) (into w u t) ≡ Some e
into_object_meant path w t {g} is comes u means =
    let (xs, same) = object_meant means is in
    let own : FormMeans g (container Object xs) = rw same at means in
    rw same (ap Some (comes xs own))

pub into_array_meant : (path : Path) (w : Form) (t : Token) {g : Form} {o : Option (Edit Form)} → type_of (scalar_of_form g) ≡ AnArray
    → option_map (after path) (into_array w t) ≡ o → (u : Tree) → FormMeans g u → option_map (after path) (into w u t) ≡ o
into_array_meant path w t is comes u means = let (xs, same) = array_meant means is in rw same comes

-- the key that a token is, is the token
pub token_key : (u : Tree) (t k : Token) → Some (key k) ≡ node_in u t → k ≡ t
token_key (container Object xs) t k e = cc
token_key (container Array xs) t k e = absurd (clash (index_of t) e)
  where
    clash : (o : Option ℕ) → Some (key k) ≡ option_map index o → ⊥
    clash None e = cc
    clash (Some n) e = cc
token_key u t k e = absurd cc

-- the parts of a path by tokens
record PathParts (t : Token) (front : List Token) (v : Tree) (path : Path) : Type 0 where
  node : Node
  item : Tree
  rest : Path
  is : node_in v t ≡ Some node
  leads : child node v ≡ Some item
  below : path_in front item ≡ Some rest
  whole : path ≡ node ∷ rest

path_parts : (t : Token) (front : List Token) (v : Tree) (path : Path) → path_in (t ∷ front) v ≡ Some path → PathParts t front v path
path_parts t front v path e = elim (some_or_none (node_in v t)) [
  | inl lost ↦ (let clash : ◌≡◌ {A = Option Path} None (Some path) = rw lost at e in absurd cc)
  | inr (node, is) ↦ elim (some_or_none (child node v)) [
    | inl lost ↦ (let clash : ◌≡◌ {A = Option Path} None (Some path) = rw (is, lost) at e in absurd cc)
    | inr (x, leads) ↦ elim (some_or_none (path_in front x)) [
      | inl lost ↦ (let clash : ◌≡◌ {A = Option Path} None (Some path) = rw (is, leads, lost) at e in absurd cc)
      | inr (rest, below) ↦
          let own : ◌≡◌ {A = Option Path} (Some (node ∷ rest)) (Some path) = rw (is, leads, below) at e in
          record { node = node; item = x; rest = rest; is = is; leads = leads; below = below; whole = sym (same_Some _ _ own) }
    ]
  ]
]

-- what a path leads to is what its rest leads to in an item
leads_rest : (v item u : Tree) (node : Node) (path rest : Path) → leads v path ≡ Some u → path ≡ node ∷ rest → child node v ≡ Some item → leads item rest ≡ Some u
leads_rest v item u node path rest lead whole there =
    let own : leads v (node ∷ rest) ≡ Some u = rw whole at lead in
    rw there at own

-- what is decided by the last token
module _ (decide : Tree → Token → Option (Edit Form)) (last : Token) where
  below_after : (node : Node) (path : Path) (o : Option (Edit Form)) → option_map (below node) (option_map (after path) o) ≡ option_map (after (node ∷ path)) o
  below_after node path None = refl
  below_after node path (Some e) = refl

  after_nothing : (o : Option (Edit Form)) → o ≡ option_map (after []) o
  after_nothing None = refl
  after_nothing (Some e) = refl

  last_more : (t : Token) (front : List Token) (v : Tree) → at_last decide (t ∷ (front ++ last ∷ [])) v
      ≡ option_and_then (λ node. option_and_then (λ x. option_map (below node) (at_last decide (front ++ last ∷ []) x)) (child node v)) (node_in v t)
  last_more t [] v = refl
  last_more t (u ∷ us) v = refl

  last_on : (t : Token) (front : List Token) (v item u : Tree) (node : Node) (path rest : Path) → node_in v t ≡ Some node → child node v ≡ Some item
      → at_last decide (front ++ last ∷ []) item ≡ option_map (after rest) (decide u last) → path ≡ node ∷ rest
      → at_last decide (t ∷ (front ++ last ∷ [])) v ≡ option_map (after path) (decide u last)
  last_on t front v item u node path rest is there led whole = rw (last_more t front v, is, there, led, whole) (below_after node rest (decide u last))

  pub last_led : (front : List Token) (v u : Tree) (path : Path) → path_in front v ≡ Some path → leads v path ≡ Some u
      → at_last decide (front ++ last ∷ []) v ≡ option_map (after path) (decide u last)
  last_led [] v u path is lead =
      let here : [] ≡ path = same_Some _ _ is in
      let own : ◌≡◌ {A = Option Tree} (Some v) (Some u) = rw (sym here) at lead in
      let same : v ≡ u = same_Some _ _ own in
      rw (sym here, sym same) (after_nothing (decide v last))
  last_led (t ∷ front) v u path is lead =
      let parts = path_parts t front v path is in
      let there = leads_rest v parts.item u parts.node path parts.rest lead parts.whole parts.leads in
      last_on t front v parts.item u parts.node path parts.rest parts.is parts.leads (last_led front parts.item u parts.rest parts.below there) parts.whole

  pub last_lost : (front : List Token) (v : Tree) → path_in front v ≡ None → at_last decide (front ++ last ∷ []) v ≡ None
  last_lost [] v none = absurd cc
  last_lost (t ∷ front) v none = elim (some_or_none (node_in v t)) [
    | inl lost ↦ rw (last_more t front v, lost) refl
    | inr (node, is) ↦ elim (some_or_none (child node v)) [
      | inl lost ↦ rw (last_more t front v, is, lost) refl
      | inr (x, there) ↦ elim (some_or_none (path_in front x)) [
        | inl lost ↦ rw (last_more t front v, is, there, last_lost front x lost) refl
        | inr (rest, found) ↦ (let clash : ◌≡◌ {A = Option Path} (Some (node ∷ rest)) None = rw (is, there, found) at none in absurd cc)
      ]
    ]
  ]

-- so a plan is what is decided where all tokens but the last lead
removal_last : (front : List Token) (last : Token) (v : Tree) → removal {Value = Form} (front ++ last ∷ []) v ≡ at_last out_of (front ++ last ∷ []) v
removal_last [] last v = refl
removal_last (t ∷ front) last v = refl

addition_last : (front : List Token) (last : Token) (w : Form) (v : Tree) → addition (front ++ last ∷ []) w v ≡ at_last (into w) (front ++ last ∷ []) v
addition_last [] last w v = refl
addition_last (t ∷ front) last w v = refl

planned_here : (nodes : Vec PointerNode Global) (change : Option declared.Change) → option_map (after (path_of nodes.items)) (option_map edit_here change)
    ≡ option_map (λ c. edit_of (record { nodes = nodes; change = c })) change
planned_here nodes None = refl
planned_here nodes (Some c) = ap Some (after_here (path_of nodes.items) (change_of c))

module _ {ts : List Token} (front : List Token) (last : Token) {f : Form} (ends : ts ≡ front ++ last ∷ []) where
  pub removal_lost : LeadNowhere front f → (v : Tree) → FormMeans f v → removal {Value = Form} ts v ≡ None
  removal_lost lost v means = rw (ends, removal_last front last v) (last_lost out_of last front v (lost v means))

  pub addition_lost : (w : Form) → LeadNowhere front f → (v : Tree) → FormMeans f v → addition ts w v ≡ None
  addition_lost w lost v means = rw (ends, addition_last front last w v) (last_lost (into w) last front v (lost v means))

  pub removal_planned : (led : Led) (change : Option declared.Change) → IsLed front f led
      → ((u : Tree) → FormMeans (view_form led.part) u → out_of u last ≡ option_map edit_here change)
      → (v : Tree) → FormMeans f v → removal ts v ≡ option_map (λ c. edit_of (record { nodes = led.nodes; change = c })) change
  removal_planned led change is out v means =
      let (u, there, lead) = leads_meant is.leads means in
      rw (ends, removal_last front last v, last_led out_of last front v u (path_of led.nodes.items) (is.path v means) lead, out u there) (planned_here led.nodes change)

  pub addition_planned : (w : Form) (led : Led) (plan : Option Plan) → IsLed front f led
      → ((u : Tree) → FormMeans (view_form led.part) u → option_map (after (path_of led.nodes.items)) (into w u last) ≡ option_map edit_of plan)
      → (v : Tree) → FormMeans f v → addition ts w v ≡ option_map edit_of plan
  addition_planned w led plan is comes v means =
      let (u, there, lead) = leads_meant is.leads means in
      rw (ends, addition_last front last w v, last_led (into w) last front v u (path_of led.nodes.items) (is.path v means) lead) (comes u there)

-- what follows from what holds where a call is Ok
pub if_ok_then : {T E : Type 0} (r : Result T E) {P Q : T → Type 0} → ((x : T) → P x → Q x) → IfOk r P → IfOk r Q
if_ok_then (Ok x) step p = step x p
if_ok_then (Err e) step p = tt
