-- What a path leads to stands in the text of the form where it begins.
use Rattle.std.proofs.Common.{◌≡◌, ◌∙◌, ℕ, zero, suc, ◌-◌, inl, inr, List, [], ◌∷◌, ◌++◌, take, drop, Option, Some, None, nat_eq, refl, sym, ap, append_assoc}
use Rattle.std.proofs.lemmas.Bool.{cases_Bool}
use Rattle.std.proofs.lemmas.List.{append-nil, take-append-drop}
use Rattle.std.specs.Cmp.Lexicographic.{pointwise}
use Rattle.std.specs.Prelude.{slice_range}
use Rattle.sonic_owned.proofs.Lists.{none_not_some}
use Rattle.sonic_owned.specs.Forms.{Form, raw, level, Members, no_member, member, text, label_text, members_text}
use Rattle.sonic_owned.specs.Leading.{item_at, item_of, item_in, LeadsTo, leads_here, leads_on, leads_in_text, StandsIn}
use Rattle.sonic_text.specs.Paths.{Node, key, index, Path}
use Rattle.sonic_text.specs.Values.{opening, closing}
use Rattle.sonic_text.specs.declared.kind.Kind.{Kind}
use Rattle.sonic_text.specs.declared.kind.Kind.TheVariants.{Array, Object}

-- each text stands in itself
stands_whole : (t : List ℕ) → StandsIn t t
stands_whole t = ([], [], sym (append-nil t))

-- and in what it stands in stands all that stands in it
stands_deeper : (u t s : List ℕ) → StandsIn u t → StandsIn t s → StandsIn u s
stands_deeper u t s a b = (b.0 ++ a.0, a.1 ++ b.1, b.2 ∙ rw (a.2) (simp append_assoc refl))

-- a part that is cut out
slice_stands : (t : List ℕ) (i j : ℕ) → StandsIn (slice_range t i j) t
slice_stands t i j = (
  take i t,
  drop (j - i) (drop i t),
  sym (take-append-drop i t) ∙ ap (λ l. take i t ++ l) (sym (take-append-drop (j - i) (drop i t))),
)

-- in the items' texts stands that of the first item, and those of the other ones
first_stands : (before : List ℕ) (l : Option (List ℕ)) (f : Form) (ms : Members) → StandsIn (text f) (members_text before (member l f ms))
first_stands before l f ms = (before ++ label_text l, members_text (44 ∷ []) ms, simp append_assoc refl)

others_stand : (before : List ℕ) (l : Option (List ℕ)) (f : Form) (ms : Members)
    → StandsIn (members_text (44 ∷ []) ms) (members_text before (member l f ms))
others_stand before l f ms = (before ++ (label_text l ++ text f), [], rw (append-nil (members_text (44 ∷ []) ms)) (simp append_assoc refl))

-- the items' texts stand in that of their level
items_stand : (kind : Kind) (ms : Members) → StandsIn (members_text [] ms) (text (level kind ms))
items_stand kind ms = (opening kind ∷ [], closing kind ∷ [], refl)

-- an element's text stands in those of the items
element_stands : (before : List ℕ) (n : ℕ) (ms : Members) {h : Form} → item_at n ms ≡ Some h → StandsIn (text h) (members_text before ms)
element_stands before n no_member e = absurd (none_not_some e)
element_stands before zero (member l f ms) {h} e = let same : f ≡ h = cc in rw (← same) (first_stands before l f ms)
element_stands before (suc n) (member l f ms) e = stands_deeper _ _ _ (element_stands (44 ∷ []) n ms e) (others_stand before l f ms)

-- so does a member's
member_stands : (before k : List ℕ) (ms : Members) {h : Form} → item_of k ms ≡ Some h → StandsIn (text h) (members_text before ms)
member_stands before k no_member e = absurd (none_not_some e)
member_stands before k (member None f ms) e = stands_deeper _ _ _ (member_stands (44 ∷ []) k ms e) (others_stand before None f ms)
member_stands before k (member (Some l) f ms) {h} e = elim (cases_Bool (pointwise nat_eq l k)) [
  | inl same ↦ (let one : f ≡ h = cc (rw same at e) in rw (← one) (first_stands before (Some l) f ms))
  | inr other ↦ stands_deeper _ _ _ (member_stands (44 ∷ []) k ms (rw other at e)) (others_stand before (Some l) f ms)
]

-- the text of the item that a node names stands in that of the form
item_stands : (node : Node) (f : Form) {h : Form} → item_in node f ≡ Some h → StandsIn (text h) (text f)
item_stands node (raw b) e = absurd (none_not_some e)
item_stands (index n) (level Array ms) e = stands_deeper _ _ _ (element_stands [] n ms e) (items_stand Array ms)
item_stands (index n) (level Object ms) e = absurd (none_not_some e)
item_stands (key k) (level Array ms) e = absurd (none_not_some e)
item_stands (key k) (level Object ms) e = stands_deeper _ _ _ (member_stands [] k ms e) (items_stand Object ms)

-- the text of what a path leads to stands in the text of the form where it begins
pub text_of_part : {p : Path} {f g : Form} → LeadsTo p f g → StandsIn (text g) (text f)
text_of_part {f = f} leads_here = stands_whole (text f)
text_of_part {f = f} (leads_on {node = node} e l) = stands_deeper _ _ _ (text_of_part l) (item_stands node f e)
text_of_part (leads_in_text {b = b} {i} {j} l) = slice_stands b i j
