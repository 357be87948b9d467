-- What a walk has come to after a step, and which tags remain.
use Rattle.std.proofs.Common.{Bor, ◌≡◌, ◌≢◌, ◌∙◌, sym, subst, ap, ℕ, ◌+◌, ◌-◌, ◌<◌, ◌≤◌, List, [], ◌∷◌, ◌++◌, true, false, length, take, get_or, arith, refl}
use Rattle.std.proofs.Math.Seq.{get_or-append_seam, take-append_seam}
use Rattle.std.proofs.lemmas.List.{length-append}
use Rattle.std.specs.Prelude.{Option, Some, None, slice_range}
use Rattle.sonic_text.specs.declared.kind.Kind.{Kind}
use Rattle.sonic_text.specs.declared.kind.Kind.TheVariants.{Array, Object}
use Rattle.sonic_parser.specs.declared.value_span.ValueSpan.{ValueSpan}
use Rattle.sonic_text.specs.Places.{byte, after_space}
use Rattle.sonic_text.specs.Strings.{IsString, strict}
use Rattle.sonic_text.specs.Trees.{Tree, Items, Means, ItemsMean, type_of_tree}
use Rattle.sonic_text.specs.Trees.Items.{no_item, item}
use Rattle.sonic_text.specs.Trees.Tree.{text, container}
use Rattle.sonic_text.specs.Trees.Means.{means_null, means_true, means_false, means_number, means_string, means_empty, means_filled}
use Rattle.sonic_text.specs.Trees.ItemsMean.{last_item, more_items}
use Rattle.sonic_text.specs.Values.IsValue.{string}
use Rattle.sonic_text.specs.Values.{opening, closing, type_of, IsKey, ItemHead, no_head, key_head, IsValue, ItemsFit, first_item, next_item}
use Rattle.sonic_text.proofs.Items.{head_one, closing_no_comma}
use Rattle.sonic_text.proofs.PlacedLemmas.{slice_means}
use Rattle.sonic_text.proofs.Strings.{string_longer}
use Rattle.sonic_text.proofs.TreeLemmas.{type_means, value_of}
use Rattle.sonic_text.proofs.Values.{key-longer, value_end_one}
use Rattle.sonic_text.proofs.Within.{value_within}
use Rattle.sonic_parser.specs.declared.descent.Step.TheVariants.{Passed, Entered}
use Rattle.sonic_parser.specs.Descents.{DescentState, IsMoved, IsDescentStep, IsHeadPassed, IsNextOrClosed}
use Rattle.sonic_parser.specs.OpenContainers.{IsTop}
use Rattle.sonic_parser.specs.Parsers.{IsFilledContainer}
use Rattle.sonic_patch.specs.Internal.Tags.{Tag, Frame, leaf_tag, begin_tag, end_tag, frame, tags, item_tags, tags_after}
use Rattle.sonic_patch.specs.Internal.Walks.{Follows, nothing_follows, bracket_follows, items_follow, kinds_of, RemainsFromItem, root_expected, item_expected, RemainsFromValue, RemainsAfterItem, IsKeyLabel, IsWord, IsBare}
use Rattle.sonic_patch.proofs.TagLemmas.{bare_tag}

-- a string is one by itself too
pub text_string : {t : List ℕ} {i j : ℕ} {b : List ℕ} → Means t i j (text b) → IsString strict t i j b
text_string (means_string h) = h

pub word_of : {t : List ℕ} {i j : ℕ} {b : List ℕ} → IsString strict t i j b → IsWord (slice_range t i j) b
word_of {t} {i} {j} h = text_string (slice_means (means_string h) (value_within (string h)))

-- the last of some kinds
top_is : (kinds : List Kind) (kind k : Kind) → IsTop (kinds ++ kind ∷ []) k → kind ≡ k
top_is kinds kind k e =
    let n : length (kinds ++ kind ∷ []) - 1 ≡ length kinds = omega (arith, length-append kinds (kind ∷ [])) in
    let last : get_or (kinds ++ kind ∷ []) (length kinds) k ≡ kind = get_or-append_seam kinds kind [] k in
    sym last ∙ rw n at e

-- and those before it
before_top : (kinds : List Kind) (kind : Kind) → take (length (kinds ++ kind ∷ []) - 1) (kinds ++ kind ∷ []) ≡ kinds
before_top kinds kind =
    let n : length (kinds ++ kind ∷ []) - 1 ≡ length kinds = omega (arith, length-append kinds (kind ∷ [])) in
    rw n (take-append_seam kinds (kind ∷ []))

some_open : (kinds : List Kind) (kind : Kind) → 0 < length (kinds ++ kind ∷ [])
some_open kinds kind = omega (arith, length-append kinds (kind ∷ []))

-- at the root
pub rooted : {w : DescentState} {rest : List Tag} → length w.opened ≡ 0 → RemainsFromItem w rest → RemainsFromValue w None rest
rooted {w} z (root_expected {e} {x} o m r) = record { end = e; tree = x; frames = []; opened = o; means = m; follows = nothing_follows; are = r }
rooted {w} z (item_expected {kind} {frames = frames} o is f r) = absurd (omega (arith, some_open (kinds_of frames) kind, ap length o))

-- the first of the items that are to come in a container
record FirstItem (t : List ℕ) (kind : Kind) (h : ℕ) (xs : Items) (frames : List Frame) : Type 0 where
  label : Option (List ℕ)
  place : ℕ
  end : ℕ
  tree : Tree
  others : Items
  head : ItemHead strict t kind h place label
  means : Means t place end tree
  are : xs ≡ item label tree others
  follows : Follows t end (frame kind others ∷ frames)

first_of_items : {t : List ℕ} {kind : Kind} {h j : ℕ} {xs : Items} {frames : List Frame} → ItemsMean t kind h j xs → Follows t j frames → FirstItem t kind h xs frames
first_of_items {t} {kind} {frames = frames} (last_item {v} {e} {l} {x} y m c q) f =
    let after : Follows t (after_space t e + 1) frames = subst (λ (k : ℕ). Follows t k frames) q f in
    record { label = l; place = v; end = e; tree = x; others = no_item; head = y; means = m; are = refl; follows = bracket_follows c after }
first_of_items (more_items {v} {e} {l} {x} {xs} y m c q is) f =
    record { label = l; place = v; end = e; tree = x; others = xs; head = y; means = m; are = refl; follows = items_follow c q is f }

-- the key is this part of the text, if there is one
abbrev pub IsKeyOf : List ℕ → ℕ → Option ValueSpan → Option (Bor (List ℕ)) → Type 0
IsKeyOf t start None None = Unit {0}
IsKeyOf t start (Some key) (Some part) = part.now ≡ slice_range t start key.end
IsKeyOf t start None (Some part) = ⊥
IsKeyOf t start (Some key) None = ⊥

-- what was passed before an item's value
record PassedHead (w : DescentState) (kind : Kind) (place : ℕ) (part : Option (Bor (List ℕ))) : Type 0 where
  label : Option (List ℕ)
  head : ItemHead strict w.text kind w.place place label
  is : IsKeyLabel part label

head_of : (w now : DescentState) (kind : Kind) (key : Option ValueSpan) (part : Option (Bor (List ℕ))) → w.lossy ≡ strict → IsHeadPassed kind w now key
    → IsKeyOf w.text w.place key part → PassedHead w kind now.place part
head_of w now Array None None s p k = record { label = None; head = no_head p; is = tt }
head_of w now Array None (Some part) s p k = absurd k
head_of w now Array (Some key) part s p k = absurd p
head_of w now Object None part s p k = absurd p
head_of w now Object (Some key) None s p k = absurd k
head_of w now Object (Some key) (Some part) s p k =
    let y : IsKey strict w.text w.place now.place p.bytes = rw s at p.key in
    let string : IsString strict w.text w.place key.end p.bytes = rw s at p.string in
    record { label = Some p.bytes; head = key_head y; is = rw k (word_of string) }

-- what comes before the value of an item was passed
pub headed : {w now : DescentState} {rest : List Tag} (kind : Kind) (key : Option ValueSpan) (part : Option (Bor (List ℕ))) → w.lossy ≡ strict → 0 < length w.opened → IsTop w.opened kind
    → now ≡ record w { place = now.place } → IsHeadPassed kind w now key → IsKeyOf w.text w.place key part → RemainsFromItem w rest
    → (l : Option (List ℕ)) × IsKeyLabel part l × RemainsFromValue now l rest
headed {w} kind key part s some top moved passed cut (root_expected o m r) = absurd (omega (arith, some, ap length o))
headed {w} {now} {rest} kind key part s some top moved passed cut (item_expected {j} {kind = k} {xs} {frames} o is f r) =
    let named : k ≡ kind = top_is (kinds_of frames) k kind (rw o at top) in
    let there : IsHeadPassed k w now key = rw named passed in
    let first = first_of_items is f in
    let head = head_of w now k key part s there cut in
    let same = head_one first.head head.head in
    let means : Means w.text now.place first.end first.tree = subst (λ (p : ℕ). Means w.text p first.end first.tree) same.0 first.means in
    let after : List Tag = item_tags first.others (end_tag k ∷ tags_after frames) in
    let are : rest ≡ tags first.label first.tree after = r ∙ ap (λ (ys : Items). item_tags ys (end_tag k ∷ tags_after frames)) first.are in
    let value : RemainsFromValue (record w { place = now.place }) head.label rest = record {
      end = first.end;
      tree = first.tree;
      frames = frame k first.others ∷ frames;
      opened = o;
      means = means;
      follows = first.follows;
      are = are ∙ ap (λ (l : Option (List ℕ)). tags l first.tree after) same.1;
    } in
    (head.label, head.is, subst (λ (o : DescentState). RemainsFromValue o head.label rest) (sym moved) value)

-- a value that isn't a filled container is one tag
bare : {t : List ℕ} {i j : ℕ} {x : Tree} → Means t i j x → ¬ IsFilledContainer t i → IsBare x
bare (means_null h) none = tt
bare (means_true h) none = tt
bare (means_false h) none = tt
bare (means_number h e) none = tt
bare (means_string h) none = tt
bare (means_empty b c q) none = tt
bare {t} {i} (means_filled {kind} b q d is) none = absurd (let e : byte t (after_space t (i + 1)) ≢ closing kind = rw q at d in none (kind, b, e))

-- what is left once a value without parts was passed
pub record HasPassed (w now : DescentState) (l : Option (List ℕ)) (rest : List Tag) : Type 0 where
  pub tree : Tree
  pub others : List Tag
  pub are : rest ≡ leaf_tag l tree ∷ others
  pub means : Means w.text w.place now.place tree
  pub is_bare : IsBare tree
  pub remain : RemainsAfterItem now others

pub value_passed : {w now : DescentState} {l : Option (List ℕ)} {rest : List Tag} → w.lossy ≡ strict → RemainsFromValue w l rest → IsMoved w now → IsDescentStep w now Passed
    → ¬ IsFilledContainer w.text w.place → HasPassed w now l rest
value_passed {w} {now} {l} {rest} s x e step none =
    let same : now.text ≡ w.text = ap (λ o. o.text) e in
    let value : IsValue strict w.text w.place now.place = rw s at step.1 in
    let end : x.end ≡ now.place = value_end_one (value_of x.means) value in
    let is_bare = bare x.means none in
    let follows : Follows now.text now.place x.frames = rw (same, ← end) x.follows in
    record {
      tree = x.tree;
      others = tags_after x.frames;
      are = x.are ∙ bare_tag l x.tree (tags_after x.frames) is_bare;
      means = subst (λ (p : ℕ). Means w.text w.place p x.tree) end x.means;
      is_bare = is_bare;
      remain = record { frames = x.frames; opened = step.0 ∙ x.opened; follows = follows; are = refl };
    }

-- a value that begins with a bracket is a container
bracket_type : (kind : Kind) (b : ℕ) → b ≡ opening kind → type_of b ≡ type_of_tree (container kind no_item)
bracket_type Array b e = rw e refl
bracket_type Object b e = rw e refl

typed_container : (kind : Kind) (x : Tree) → type_of_tree x ≡ type_of_tree (container kind no_item) → (xs : Items) × (x ≡ container kind xs)
typed_container Array (container Array xs) e = (xs, refl)
typed_container Object (container Object xs) e = (xs, refl)
typed_container Array x e = absurd cc
typed_container Object x e = absurd cc

-- where it isn't empty, its items follow
filled_items : {t : List ℕ} {kind : Kind} {i j : ℕ} {xs : Items} → byte t (after_space t (i + 1)) ≢ closing kind → Means t i j (container kind xs)
    → ItemsMean t kind (after_space t (i + 1)) j xs
filled_items d (means_empty b c q) = absurd (d c)
filled_items {t} {i = i} d (means_filled b q e is) = rw (← q) is

items_tags : {t : List ℕ} {kind : Kind} {h j : ℕ} {xs : Items} → ItemsMean t kind h j xs → (l : Option (List ℕ)) (rest : List Tag)
    → tags l (container kind xs) rest ≡ begin_tag l kind ∷ item_tags xs (end_tag kind ∷ rest)
items_tags (last_item y m c q) l rest = refl
items_tags (more_items y m c q is) l rest = refl

-- what is left once a container was entered
pub record HasEntered (now : DescentState) (kind : Kind) (l : Option (List ℕ)) (rest : List Tag) : Type 0 where
  pub others : List Tag
  pub are : rest ≡ begin_tag l kind ∷ others
  pub remain : RemainsFromItem now others

entered_at : {w now : DescentState} {kind : Kind} {l : Option (List ℕ)} {rest : List Tag} {h : ℕ} → RemainsFromValue w l rest → now.text ≡ w.text → now.opened ≡ w.opened ++ kind ∷ []
    → now.place ≡ h → h ≡ after_space w.text (w.place + 1) → byte w.text w.place ≡ opening kind → byte w.text h ≢ closing kind → HasEntered now kind l rest
entered_at {w} {now} {kind} {l} {rest} {h} x same opened at q b d =
    let typed = sym (type_means x.means) ∙ bracket_type kind (byte w.text w.place) b in
    let is = typed_container kind x.tree typed in
    let means : Means w.text w.place x.end (container kind is.0) = subst (λ (y : Tree). Means w.text w.place x.end y) is.1 x.means in
    let none : byte w.text (after_space w.text (w.place + 1)) ≢ closing kind = rw q at d in
    let items = filled_items none means in
    let place : now.place ≡ after_space w.text (w.place + 1) = at ∙ q in
    let there : ItemsMean now.text kind now.place x.end is.0 = rw (same, place) items in
    let follows : Follows now.text x.end x.frames = rw same x.follows in
    let kinds : now.opened ≡ kinds_of x.frames ++ kind ∷ [] = opened ∙ rw x.opened refl in
    record {
      others = item_tags is.0 (end_tag kind ∷ tags_after x.frames);
      are = x.are ∙ ap (λ (y : Tree). tags l y (tags_after x.frames)) is.1 ∙ items_tags items l (tags_after x.frames);
      remain = item_expected kinds there follows refl;
    }

fit_start : {t : List ℕ} {kind : Kind} {i n h : ℕ} → ItemsFit strict t kind i n h → n ≡ 0
    → (byte t i ≡ opening kind) × (h ≡ after_space t (i + 1)) × (byte t h ≢ closing kind)
fit_start (first_item b q d z) e = (b, q, d)
fit_start (next_item is y x c q o) e = absurd (omega arith)

pub value_entered : {w now : DescentState} {kind : Kind} {l : Option (List ℕ)} {rest : List Tag} → w.lossy ≡ strict → RemainsFromValue w l rest → IsMoved w now
    → IsDescentStep w now (Entered kind) → HasEntered now kind l rest
value_entered {w} {now} {kind} s x e step =
    let same : now.text ≡ w.text = ap (λ o. o.text) e in
    let fit : ItemsFit strict w.text kind w.place 0 now.place = rw s at step.1 in
    let start = fit_start fit refl in
    entered_at x same step.0 refl start.1 start.0 start.2

-- no container is open
finished_at : {rest : List Tag} (frames : List Frame) → length (kinds_of frames) ≡ 0 → rest ≡ tags_after frames → rest ≡ []
finished_at [] z e = e
finished_at (frame kind xs ∷ frames) z e = absurd (omega (arith, some_open (kinds_of frames) kind))

pub finished : {w : DescentState} {rest : List Tag} → length w.opened ≡ 0 → RemainsAfterItem w rest → rest ≡ []
finished {w} {rest} z h = finished_at h.frames (omega (arith, ap length h.opened, z)) h.are

-- what is left once a container has ended
pub record HasLeft (now : DescentState) (kind : Kind) (rest : List Tag) : Type 0 where
  pub others : List Tag
  pub are : rest ≡ end_tag kind ∷ others
  pub remain : RemainsAfterItem now others

left_at : {t : List ℕ} {now : DescentState} {kind : Kind} {rest : List Tag} (w : DescentState) (e : ℕ) (frames : List Frame) → 0 < length w.opened → IsTop w.opened kind → now.text ≡ t
    → now.opened ≡ take (length w.opened - 1) w.opened → byte t (after_space t e) ≡ closing kind → now.place ≡ after_space t e + 1
    → w.opened ≡ kinds_of frames → rest ≡ tags_after frames → Follows t e frames → HasLeft now kind rest
left_at w e [] some top same opened c q o r f = absurd (omega (arith, some, ap length o))
left_at {t} {now} {kind} w e (frame k xs ∷ frames) some top same opened c q o r (bracket_follows d f) =
    let named : k ≡ kind = top_is (kinds_of frames) k kind (rw o at top) in
    let kinds : now.opened ≡ kinds_of frames = opened ∙ rw o (before_top (kinds_of frames) k) in
    let follows : Follows now.text now.place frames = rw (same, q) f in
    record { others = tags_after frames; are = r ∙ rw named refl; remain = record { frames = frames; opened = kinds; follows = follows; are = refl } }
left_at {kind = kind} w e (frame k xs ∷ frames) some top same opened c q o r (items_follow d g is f) = absurd (closing_no_comma kind (sym c ∙ d))

pub container_left : {w now : DescentState} {kind : Kind} {rest : List Tag} → 0 < length w.opened → IsTop w.opened kind → RemainsAfterItem w rest → IsMoved w now
    → IsNextOrClosed kind w now false → HasLeft now kind rest
container_left {w} some top h e step = left_at w w.place h.frames some top (ap (λ o. o.text) e) step.0 step.1.0 step.1.1 h.opened h.are h.follows

-- after a comma
next_at : {t : List ℕ} {now : DescentState} {rest : List Tag} (e : ℕ) (frames : List Frame) → now.text ≡ t → now.opened ≡ kinds_of frames → 0 < length (kinds_of frames)
    → byte t (after_space t e) ≡ 44 → now.place ≡ after_space t (after_space t e + 1) → rest ≡ tags_after frames → Follows t e frames → RemainsFromItem now rest
next_at e [] same o some c q r f = absurd (omega (arith, some))
next_at e (frame k xs ∷ frames) same o some c q r (bracket_follows d f) = absurd (closing_no_comma k (sym d ∙ c))
next_at {now = now} e (frame k xs ∷ frames) same o some c q r (items_follow {j = j} d g is f) =
    let there : ItemsMean now.text k now.place j xs = rw (same, q, ← g) is in
    let follows : Follows now.text j frames = rw same f in
    item_expected o there follows r

pub item_next : {w now : DescentState} {rest : List Tag} (kind : Kind) → 0 < length w.opened → RemainsAfterItem w rest → IsMoved w now → IsNextOrClosed kind w now true → RemainsFromItem now rest
item_next {w} kind some h e step =
    next_at w.place h.frames (ap (λ o. o.text) e) (step.0 ∙ h.opened) (omega (arith, some, ap length h.opened)) step.1.0 step.1.1 h.are h.follows

-- the cursor moves on
pub head_later : (w now : DescentState) (kind : Kind) (key : Option ValueSpan) → IsHeadPassed kind w now key → w.place ≤ now.place
head_later w now Array None p = omega (arith, p)
head_later w now Array (Some key) p = absurd p
head_later w now Object None p = absurd p
head_later w now Object (Some key) p = let l = key-longer p.key in omega arith

-- at the beginning
pub started : {w : DescentState} {t : List ℕ} {e : ℕ} {x : Tree} → w.text ≡ t → w.place ≡ 0 → w.opened ≡ [] → Means t 0 e x → RemainsFromItem w (tags None x [])
started {w} {e = e} {x = x} same place opened m = let there : Means w.text w.place e x = rw (same, place) m in root_expected opened there refl

-- what a text means, by other names of it and of the places
pub means_renamed : {t u : List ℕ} {i j k l : ℕ} {x : Tree} → t ≡ u → i ≡ k → j ≡ l → Means u k l x → Means t i j x
means_renamed e f g m = rw (e, f, g) m

-- a key that was passed begins where the walk was
pub key_begins : (w now : DescentState) (kind : Kind) (key : ValueSpan) → IsHeadPassed kind w now (Some key) → key.start ≡ w.place
key_begins w now Array key p = absurd p
key_begins w now Object key p = p.start

-- and is a part of the text
pub key_bounds : (w now : DescentState) (kind : Kind) (key : ValueSpan) → IsHeadPassed kind w now (Some key) → (w.place ≤ key.end) × (key.end ≤ length w.text)
key_bounds w now Array key p = absurd p
key_bounds w now Object key p = let l = string_longer p.string in (omega arith, value_within (string p.string))
