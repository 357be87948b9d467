-- What an edit leaves as it was.
use Rattle.std.proofs.Common.{◌≡◌, ◌≢◌, ◌∙◌, sym, ap, refl, ℕ, zero, suc, ◌<◌, ◌≤◌, ◌+◌, List, ◌∷◌, ◌++◌, Option, Some, None, option_map, inl, inr, nat_eq, true, arith}
use Rattle.std.proofs.lemmas.Bool.{cases_Bool}
use Rattle.std.proofs.lemmas.Option.{same_Some}
use Rattle.std.specs.Cmp.Lexicographic.{pointwise}
use Rattle.sonic_owned.proofs.KeptTextLemmas.{opened_alike}
use Rattle.sonic_owned.proofs.LeadingLemmas.{goes_in, LeadsAlike}
use Rattle.sonic_owned.proofs.Lists.{none_not_some, texts_equal}
use Rattle.sonic_owned.specs.Edits.{append_member, insert_member, members_without_at, members_without_of, IsChange, is_set, is_pushed, is_paired, is_taken, is_inserted, is_removed, IsEdit}
use Rattle.sonic_owned.specs.Forms.{Form, raw, level, Members, no_member, member}
use Rattle.sonic_owned.specs.Leading.{item_at, item_of, item_in, LeadsTo, leads_on, leads_in_text}
use Rattle.sonic_owned.specs.Opened.{IsOpened}
use Rattle.sonic_owned.specs.Puts.{put_at, put_of, put_in, IsPut, put_here, put_on}
use Rattle.sonic_owned.specs.TreeEdits.{Change, Edit}
use Rattle.sonic_owned.specs.Untouched.{PartsFrom, parts_here, parts_later, IsNamedAfter, beside_pushed, beside_paired, before_inserted, behind_inserted, before_removed, behind_removed, beside_removed}
use Rattle.sonic_text.specs.Paths.{Node, key, index, Path}
use Rattle.sonic_text.specs.declared.kind.Kind.{Kind}
use Rattle.sonic_text.specs.declared.kind.Kind.TheVariants.{Array, Object}

-- what is put in an element's place is there, and the other elements stay
element_put : (n : ℕ) (g : Form) (ms : Members) {i : Form} → item_at n ms ≡ Some i → item_at n (put_at n g ms) ≡ Some g
element_put n g no_member e = absurd (none_not_some e)
element_put zero g (member l f ms) e = refl
element_put (suc n) g (member l f ms) e = element_put n g ms e

element_beside : (i n : ℕ) (g : Form) (ms : Members) → i ≢ n → item_at i (put_at n g ms) ≡ item_at i ms
element_beside i n g no_member other = refl
element_beside zero zero g (member l f ms) other = absurd (other refl)
element_beside zero (suc n) g (member l f ms) other = refl
element_beside (suc i) zero g (member l f ms) other = refl
element_beside (suc i) (suc n) g (member l f ms) other = element_beside i n g ms (λ e. other (ap suc e))

-- so with a member
member_put : (k : List ℕ) (g : Form) (ms : Members) {i : Form} → item_of k ms ≡ Some i → item_of k (put_of k g ms) ≡ Some g
member_put k g no_member e = absurd (none_not_some e)
member_put k g (member None f ms) e = member_put k g ms e
member_put k g (member (Some l) f ms) e = elim (cases_Bool (pointwise nat_eq l k)) [
  | inl same ↦ rw (same, same) refl
  | inr other ↦ rw (other, other) (member_put k g ms (rw other at e))
]

-- a key that is one of two isn't the other
other_key : (l k name : List ℕ) {X : Type 0} → k ≢ name → pointwise nat_eq l name ≡ true → pointwise nat_eq l k ≡ true → X
other_key l k name other one same = absurd (other (sym (texts_equal l k same) ∙ texts_equal l name one))

member_beside : (k name : List ℕ) (g : Form) (ms : Members) → k ≢ name → item_of k (put_of name g ms) ≡ item_of k ms
member_beside k name g no_member other = refl
member_beside k name g (member None f ms) other = member_beside k name g ms other
member_beside k name g (member (Some l) f ms) other = elim (cases_Bool (pointwise nat_eq l name)) [
  | inl one ↦ elim (cases_Bool (pointwise nat_eq l k)) [
    | inl same ↦ other_key l k name other one same
    | inr differs ↦ rw (one, differs) refl
  ]
  | inr differs ↦ elim (cases_Bool (pointwise nat_eq l k)) [
    | inl same ↦ rw (differs, same) refl
    | inr others ↦ rw (differs, others) (member_beside k name g ms other)
  ]
]

-- so with the item that a node names
item_put : (node : Node) (g o : Form) {i : Form} → item_in node o ≡ Some i → item_in node (put_in node g o) ≡ Some g
item_put node g (raw b) e = absurd (none_not_some e)
item_put (index n) g (level Array ms) e = element_put n g ms e
item_put (index n) g (level Object ms) e = absurd (none_not_some e)
item_put (key k) g (level Array ms) e = absurd (none_not_some e)
item_put (key k) g (level Object ms) e = member_put k g ms e

item_beside : (node other : Node) (g o : Form) → node ≢ other → item_in node (put_in other g o) ≡ item_in node o
item_beside node other g (raw b) differ = refl
item_beside (index i) (index n) g (level Array ms) differ = element_beside i n g ms (λ e. differ (ap index e))
item_beside (index i) (index n) g (level Object ms) differ = refl
item_beside (index i) (key k) g (level Array ms) differ = refl
item_beside (index i) (key k) g (level Object ms) differ = refl
item_beside (key k) (index n) g (level Array ms) differ = refl
item_beside (key k) (index n) g (level Object ms) differ = refl
item_beside (key k) (key name) g (level Array ms) differ = refl
item_beside (key k) (key name) g (level Object ms) differ = member_beside k name g ms (λ e. differ (ap key e))

-- a path leads on from a level by an item of it
next_item : (other : Node) {node : Node} {rest : Path} {o i g : Form} → item_in other o ≡ Some i → LeadsTo (node ∷ rest) o g
    → (x : Form) × (item_in node o ≡ Some x) × LeadsTo rest x g
next_item other e (leads_on d l) = (_, d, l)
next_item other e (leads_in_text l) = absurd (none_not_some e)

-- so a path that parts from the one along which something is put leads where it led
pub put_beside : {path way : Path} {f m g h : Form} → IsPut way f m g h → PartsFrom path way → LeadsAlike path f path h
put_beside put_here parts = elim parts [ ]
put_beside (put_on {node = other} {o = o} {i} {j = j} opened e p is) (parts_here {node} {path = rest} differ) =
    let alike = opened_alike opened in
    let stays = item_beside node other j o differ in
    record {
      on = λ k l. let (x, d, more) = next_item other e (alike.on k l) in rw is (leads_on (stays ∙ d) more);
      back = λ k l. let (x, d, more) = next_item other (item_put other j o e) (rw is at l) in alike.back k (leads_on (sym stays ∙ d) more);
    }
put_beside (put_on {node} {o = o} {i} {j = j} opened e p is) (parts_later parts) =
    let alike = opened_alike opened in
    let below = put_beside p parts in
    let there = item_put node j o e in
    record {
      on = λ k l. rw is (leads_on there (below.on k (goes_in e (alike.on k l))));
      back = λ k l. alike.back k (leads_on e (below.back k (goes_in there (rw is at l))));
    }

-- and one that goes on behind it leads in the whole as in what is put
pub put_behind : {way one two : Path} {f m g h k : Form} → IsPut way f m g h → (LeadsTo one m k → LeadsTo two g k)
    → LeadsTo (way ++ one) f k → LeadsTo (way ++ two) h k
put_behind put_here step l = step l
put_behind (put_on {node} {o = o} {j = j} opened e p is) step l =
    rw is (leads_on (item_put node j o e) (put_behind p step (goes_in e ((opened_alike opened).on _ l))))

-- an element more, or one less
element_pushed : (i : ℕ) (ms : Members) (l : Option (List ℕ)) (w : Form) {x : Form} → item_at i ms ≡ Some x → item_at i (append_member ms l w) ≡ Some x
element_pushed i no_member l w e = absurd (none_not_some e)
element_pushed zero (member k f ms) l w e = e
element_pushed (suc i) (member k f ms) l w e = element_pushed i ms l w e

member_paired : (k : List ℕ) (ms : Members) (l : Option (List ℕ)) (w : Form) {x : Form} → item_of k ms ≡ Some x → item_of k (append_member ms l w) ≡ Some x
member_paired k no_member l w e = absurd (none_not_some e)
member_paired k (member None f ms) l w e = member_paired k ms l w e
member_paired k (member (Some name) f ms) l w e = elim (cases_Bool (pointwise nat_eq name k)) [
  | inl same ↦ rw same (rw same at e)
  | inr other ↦ rw other (member_paired k ms l w (rw other at e))
]

-- the level of the items behind the first
behind_first : {l : Option (List ℕ)} {f : Form} {ns : Members} (o : Option Members) → option_map (member l f) o ≡ Some ns → (ks : Members) × (o ≡ Some ks) × (ns ≡ member l f ks)
behind_first None e = absurd (none_not_some e)
behind_first (Some ks) e = (ks, refl, sym (same_Some _ _ e))

element_before : (i n : ℕ) (w : Form) (ms : Members) {ns : Members} → insert_member n w ms ≡ Some ns → i < n → item_at i ns ≡ item_at i ms
element_before i zero w ms e less = absurd (omega (arith, less))
element_before i (suc n) w no_member e less = absurd (none_not_some e)
element_before zero (suc n) w (member l f ms) e less = let (ks, is, made) = behind_first (insert_member n w ms) e in rw made refl
element_before (suc i) (suc n) w (member l f ms) e less = let (ks, is, made) = behind_first (insert_member n w ms) e in rw made (element_before i n w ms is (omega (arith, less)))

element_behind : (i n : ℕ) (w : Form) (ms : Members) {ns : Members} → insert_member n w ms ≡ Some ns → n ≤ i → item_at (suc i) ns ≡ item_at i ms
element_behind i zero w ms e less = rw (sym (same_Some _ _ e)) refl
element_behind i (suc n) w no_member e less = absurd (none_not_some e)
element_behind zero (suc n) w (member l f ms) e less = absurd (omega (arith, less))
element_behind (suc i) (suc n) w (member l f ms) e less = let (ks, is, made) = behind_first (insert_member n w ms) e in rw made (element_behind i n w ms is (omega (arith, less)))

kept_before : (i n : ℕ) (ms : Members) {ns : Members} → members_without_at n ms ≡ Some ns → i < n → item_at i ns ≡ item_at i ms
kept_before i n no_member e less = absurd (none_not_some e)
kept_before i zero (member l f ms) e less = absurd (omega (arith, less))
kept_before zero (suc n) (member l f ms) e less = let (ks, is, made) = behind_first (members_without_at n ms) e in rw made refl
kept_before (suc i) (suc n) (member l f ms) e less = let (ks, is, made) = behind_first (members_without_at n ms) e in rw made (kept_before i n ms is (omega (arith, less)))

kept_behind : (i n : ℕ) (ms : Members) {ns : Members} → members_without_at n ms ≡ Some ns → n ≤ i → item_at i ns ≡ item_at (suc i) ms
kept_behind i n no_member e less = absurd (none_not_some e)
kept_behind i zero (member l f ms) e less = rw (sym (same_Some _ _ e)) refl
kept_behind zero (suc n) (member l f ms) e less = absurd (omega (arith, less))
kept_behind (suc i) (suc n) (member l f ms) e less = let (ks, is, made) = behind_first (members_without_at n ms) e in rw made (kept_behind i n ms is (omega (arith, less)))

kept_beside : (l k : List ℕ) (ms : Members) {ns : Members} → members_without_of k ms ≡ Some ns → l ≢ k → item_of l ns ≡ item_of l ms
kept_beside l k no_member e other = absurd (none_not_some e)
kept_beside l k (member None f ms) e other = let (ks, is, made) = behind_first (members_without_of k ms) e in rw made (kept_beside l k ms is other)
kept_beside l k (member (Some name) f ms) e other = elim (cases_Bool (pointwise nat_eq name k)) [
  | inl one ↦ elim (cases_Bool (pointwise nat_eq name l)) [
    | inl same ↦ other_key name l k other one same
    | inr differs ↦ rw (sym (same_Some _ _ (rw one at e)), differs) refl
  ]
  | inr differs ↦
      let (ks, is, made) = behind_first (members_without_of k ms) (rw differs at e) in
      elim (cases_Bool (pointwise nat_eq name l)) [
        | inl same ↦ rw (made, same) refl
        | inr others ↦ rw (made, others) (kept_beside l k ms is other)
      ]
]

-- so the item that a node names before a change is named by the other one after it
abbrev Stays : (before after : Node) → (o g : Form) → Type 0
Stays before after o g = (x : Form) → item_in before o ≡ Some x → item_in after g ≡ Some x

pushed_stays : (node : Node) (ms : Members) (w : Form) → Stays node node (level Array ms) (level Array (append_member ms None w))
pushed_stays (index i) ms w = λ x e. element_pushed i ms None w e
pushed_stays (key k) ms w = λ x e. absurd (none_not_some e)

paired_stays : (node : Node) (ms : Members) (k : List ℕ) (w : Form) → Stays node node (level Object ms) (level Object (append_member ms (Some k) w))
paired_stays (index i) ms k w = λ x e. absurd (none_not_some e)
paired_stays (key l) ms k w = λ x e. member_paired l ms (Some k) w e

-- what a change leaves
abbrev Leads : (before after : Node) → (f g : Form) → Type 0
Leads before after f g = (rest : Path) (k : Form) → LeadsTo (before ∷ rest) f k → LeadsTo (after ∷ rest) g k

level_next : {node : Node} {kind : Kind} {ms : Members} {rest : Path} {k : Form} → LeadsTo (node ∷ rest) (level kind ms) k
    → (x : Form) × (item_in node (level kind ms) ≡ Some x) × LeadsTo rest x k
level_next (leads_on e l) = (_, e, l)

stays_leads : {before after : Node} {f g o : Form} {kind : Kind} {ms : Members} → IsOpened f (level kind ms) → g ≡ o → Stays before after (level kind ms) o → Leads before after f g
stays_leads opened is stays = λ rest k l.
    let (x, e, more) = level_next ((opened_alike opened).on k l) in
    rw is (leads_on (stays x e) more)

pub change_stays : {c : Change Form} {before after : Node} {f g : Form} → IsChange f g c → IsNamedAfter c before after → Leads before after f g
change_stays (is_set e) named = elim named [ ]
change_stays (is_taken e) named = elim named [ ]
change_stays (is_pushed {w} {ms} o is) (beside_pushed {node = node}) = stays_leads o is (pushed_stays node ms w)
change_stays (is_paired {k} {w} {ms} o is) (beside_paired {node = node}) = stays_leads o is (paired_stays node ms k w)
change_stays (is_inserted {w = w} {ms} o made is) (before_inserted {n} {i} less) = stays_leads o is (λ x e. element_before i n w ms made less ∙ e)
change_stays (is_inserted {w = w} {ms} o made is) (behind_inserted {n} {i} less) =
    let more : i + 1 ≡ suc i = omega arith in
    stays_leads o is (λ x e. rw more (element_behind i n w ms made less ∙ e))
change_stays (is_removed {kind = Array} {ms} o made is) (before_removed {n} {i} less) = stays_leads o is (λ x e. kept_before i n ms made less ∙ e)
change_stays (is_removed {kind = Object} {ms} o made is) (before_removed {n} {i} less) = absurd (none_not_some made)
change_stays (is_removed {kind = Array} {ms} o made is) (behind_removed {n} {i} less) =
    let more : i + 1 ≡ suc i = omega arith in
    stays_leads o is (λ x e. kept_behind i n ms made less ∙ rw more at e)
change_stays (is_removed {kind = Object} {ms} o made is) (behind_removed {n} {i} less) = absurd (none_not_some made)
change_stays (is_removed {kind = Array} {ms} o made is) (beside_removed {k} {l} other) = absurd (none_not_some made)
change_stays (is_removed {kind = Object} {ms} o made is) (beside_removed {k} {l} other) = stays_leads o is (λ x e. kept_beside l k ms made other ∙ e)

-- and so is what an edit leaves
pub edit_beside : {e : Edit Form} {path : Path} {f h : Form} → IsEdit e f h → PartsFrom path e.path → LeadsAlike path f path h
edit_beside x parts = put_beside x.put parts

pub edit_behind : {e : Edit Form} {before after : Node} (rest : Path) {f h k : Form} → IsEdit e f h → IsNamedAfter e.change before after
    → LeadsTo (e.path ++ (before ∷ rest)) f k → LeadsTo (e.path ++ (after ∷ rest)) h k
edit_behind rest {k = k} x named l = put_behind x.put (change_stays x.change named rest k) l
