-- The text of a form is one value, and means the tree that the form means.
use Rattle.std.proofs.Common.{◌≡◌, ◌≢◌, ◌∙◌, ℕ, ◌+◌, false, List, [], ◌∷◌, ◌++◌, length, Option, Some, None, arith, refl, sym, append_assoc, length-append}
use Rattle.std.proofs.Math.Seq.{get_or-append_seam}
use Rattle.sonic_text.proofs.Items.{closing_no_space, closing_not_end}
use Rattle.sonic_text.proofs.PlacedLemmas.{value_placed}
use Rattle.sonic_text.proofs.Same.{EndsNumber, closing_ends, ends_number}
use Rattle.sonic_text.proofs.SameValues.{value_starts_item}
use Rattle.sonic_owned.specs.Forms.{Form, level, Members, no_member, member, text, label_text, members_text, FormMeans, raw_means, level_means, MembersMean, no_member_means, member_means, IsSound, raw_sound, level_sound, AreSound, none_sound, item_sound, IsLabel}
use Rattle.sonic_text.proofs.Places.{byte_within, space_stays}
use Rattle.sonic_text.proofs.TreeLemmas.{value_of}
use Rattle.sonic_text.proofs.Values.{value_starts}
use Rattle.sonic_text.proofs.WrittenLemmas.{string_stands}
use Rattle.sonic_text.specs.Places.{byte, is_space, after_space}
use Rattle.sonic_text.specs.Quoting.{quoted}
use Rattle.sonic_text.specs.Strings.{IsString, strict}
use Rattle.sonic_text.specs.Trees.{Tree, Items, Means, ItemsMean}
use Rattle.sonic_text.specs.Trees.Means.{means_empty, means_filled}
use Rattle.sonic_text.specs.Trees.ItemsMean.{last_item, more_items}
use Rattle.sonic_text.specs.Values.{opening, closing, ItemHead}
use Rattle.sonic_text.specs.Values.ItemHead.{no_head, key_head}
use Rattle.sonic_text.specs.declared.kind.Kind.{Kind}
use Rattle.sonic_text.specs.declared.kind.Kind.TheVariants.{Array, Object}

-- these bytes are all that is in t from p on
record At (t : List ℕ) (p : ℕ) (rest : List ℕ) : Type 0 where
  front : List ℕ
  whole : t ≡ front ++ rest
  place : p ≡ length front

-- the first of them
at_byte : {t : List ℕ} {p b : ℕ} {rest : List ℕ} → At t p (b ∷ rest) → byte t p ≡ b
at_byte {b = b} {rest} a = rw (a.whole, a.place) (get_or-append_seam a.front b rest 0)

-- those after some
at_next : {t : List ℕ} {p : ℕ} (x rest : List ℕ) → At t p (x ++ rest) → At t (p + length x) rest
at_next x rest a = record {
  front = a.front ++ x;
  whole = a.whole ∙ sym (append_assoc a.front x rest);
  place = omega (arith, a.place, length-append a.front x);
}

-- none, at the end
at_end : {t : List ℕ} {p : ℕ} → At t p [] → p ≡ length t
at_end a = rw (a.whole) (omega (arith, a.place, length-append a.front []))

-- a string that is written there
at_string : {t : List ℕ} {p : ℕ} (k rest : List ℕ) → At t p (quoted k ++ rest) → IsString strict t p (p + length (quoted k)) k
at_string k rest a = rw (a.whole, a.place, ← append_assoc a.front (quoted k) rest) (string_stands a.front k rest)

-- a value that stands there, before what ends a number
at_value : {t : List ℕ} {p : ℕ} (u rest : List ℕ) {v : Tree} → At t p (u ++ rest) → Means u 0 (length u) v → EndsNumber (byte rest 0)
    → Means t p (p + length u) v
at_value u rest a h end =
    let start : length a.front + 0 ≡ length a.front = omega arith in
    rw (a.whole, a.place) (rw start at (value_placed a.front u rest h end))

-- a byte that is neither white space nor past the end is where white space ends
no_space : (t : List ℕ) (p : ℕ) → is_space (byte t p) ≡ false → byte t p ≢ 0 → after_space t p ≡ p
no_space t p none some = space_stays t p (byte_within t p some) none

-- white space ends at a closing bracket
closing_starts : (t : List ℕ) (p : ℕ) (kind : Kind) → byte t p ≡ closing kind → after_space t p ≡ p
closing_starts t p kind e = no_space t p (rw e (closing_no_space kind)) (λ z. closing_not_end kind (sym e ∙ z))

-- neither a comma nor a closing bracket goes on with a number
more_ends : (kind : Kind) (ms : Members) → EndsNumber (byte (members_text (44 ∷ []) ms ++ closing kind ∷ []) 0)
more_ends kind no_member = closing_ends kind
more_ends kind (member l f ms) = ends_number 44 refl

-- where items begin there is neither white space nor the container's end
abbrev Starts : List ℕ → Kind → ℕ → Type 0
Starts t kind h = (after_space t h ≡ h) × (byte t h ≢ closing kind)

item_starts : {t : List ℕ} {kind : Kind} {h j v : ℕ} {l : Option (List ℕ)} {x : Tree} → ItemHead strict t kind h v l → Means t v j x → Starts t kind h
item_starts {t} {kind} {h} {v = v} (no_head e) x =
    let y = value_of x in
    let starts : Starts t Array v = (value_starts y, (value_starts_item y).1 Array) in
    rw e at starts
item_starts {t} {h = h} (key_head y) x = let o = y.string.opens in (no_space t h (rw o refl) (λ z. omega (arith, o, z)), λ z. omega (arith, o, z))

items_start : {t : List ℕ} {kind : Kind} {h j : ℕ} {xs : Items} → ItemsMean t kind h j xs → Starts t kind h
items_start (last_item y x c q) = item_starts y x
items_start (more_items y x c q xs) = item_starts y x

-- a label that is written before a value is the head of the value's item
head_stands : {t : List ℕ} {h : ℕ} (kind : Kind) (l : Option (List ℕ)) (rest : List ℕ) → IsLabel kind l → At t h (label_text l ++ rest)
    → after_space t (h + length (label_text l)) ≡ h + length (label_text l) → ItemHead strict t kind h (h + length (label_text l)) l
head_stands Array None rest fits a starts = no_head (omega arith)
head_stands Array (Some k) rest fits a starts = absurd cc
head_stands Object None rest fits a starts = absurd cc
head_stands {t} {h} Object (Some k) rest fits a starts =
    let key : At t h (quoted k ++ (58 ∷ rest)) = rw (append_assoc (quoted k) (58 ∷ []) rest) at a in
    let end = h + length (quoted k) in
    let colon : byte t end ≡ 58 = at_byte (at_next (quoted k) (58 ∷ rest) key) in
    let here : after_space t end ≡ end = no_space t end (rw colon refl) (λ z. omega (arith, colon, z)) in
    let next : h + length (quoted k ++ 58 ∷ []) ≡ end + 1 = omega (arith, length-append (quoted k) (58 ∷ [])) in
    key_head (record {
      end = end;
      string = at_string k (58 ∷ rest) key;
      colon = rw here colon;
      value_start = rw (here, ← next) (sym starts);
    })

-- an item is at h, and these bytes are after it
record ItemStands (t : List ℕ) (kind : Kind) (h : ℕ) (l : Option (List ℕ)) (v : Tree) (rest : List ℕ) : Type 0 where
  start : ℕ
  end : ℕ
  head : ItemHead strict t kind h start l
  value : Means t start end v
  after : At t end rest

-- so it is with a label and the text of a value that are written there
item_stands : {t : List ℕ} {kind : Kind} {h : ℕ} (l : Option (List ℕ)) {v : Tree} (u rest : List ℕ) → IsLabel kind l → At t h (label_text l ++ (u ++ rest))
    → Means u 0 (length u) v → EndsNumber (byte rest 0) → ItemStands t kind h l v rest
item_stands {t} {kind} {h} l {v} u rest fits a x end =
    let b = at_next (label_text l) (u ++ rest) a in
    let value = at_value u rest b x end in
    record {
      start = h + length (label_text l);
      end = h + length (label_text l) + length u;
      head = head_stands kind l (u ++ rest) fits a (value_starts (value_of value));
      value = value;
      after = at_next u rest b;
    }

-- an item's text, parted into its pieces
joined : (label value more rest : List ℕ) → (label ++ (value ++ more)) ++ rest ≡ label ++ (value ++ (more ++ rest))
joined label value more rest = simp append_assoc refl

mutual
  -- the text of a form means what the form means
  pub text_means : {f : Form} {v : Tree} → IsSound f → FormMeans f v → Means (text f) 0 (length (text f)) v
  text_means (raw_sound is utf8) (raw_means h) = h
  text_means (level_sound {kind} none_sound) (level_means no_member_means) =
      let starts = closing_starts (opening kind ∷ closing kind ∷ []) 1 kind refl in
      means_empty refl (rw starts refl) (rw starts refl)
  text_means (level_sound {kind} {ms = member l f ms} fit) (level_means {xs = xs} means) =
      let all = text (level kind (member l f ms)) in
      let items : ItemsMean all kind 1 (length all) xs = items_stand fit means (record { front = opening kind ∷ []; whole = refl; place = refl }) in
      let starts = items_start items in
      means_filled refl (sym starts.0) starts.1 items

  -- the items' texts are items, before the closing bracket at the end
  items_stand : {t : List ℕ} {kind : Kind} {h : ℕ} {l : Option (List ℕ)} {f : Form} {ms : Members} {xs : Items} → AreSound kind (member l f ms)
      → MembersMean (member l f ms) xs → At t h (members_text [] (member l f ms) ++ closing kind ∷ []) → ItemsMean t kind h (length t) xs
  items_stand {t} {kind} {h} {l} {f} {ms = no_member} (item_sound fits well rest) (member_means x no_member_means) a =
      let whole : At t h (label_text l ++ (text f ++ closing kind ∷ [])) = rw (joined (label_text l) (text f) [] (closing kind ∷ [])) at a in
      let i = item_stands l (text f) (closing kind ∷ []) fits whole (text_means well x) (more_ends kind no_member) in
      let closes : byte t i.end ≡ closing kind = at_byte i.after in
      let here = closing_starts t i.end kind closes in
      last_item i.head i.value (rw here closes) (omega (arith, here, at_end (at_next (closing kind ∷ []) [] i.after)))
  items_stand {t} {kind} {h} {l} {f} {ms = member k g ms} (item_sound fits well rest) (member_means {xs = xs} x means) a =
      let more = members_text [] (member k g ms) ++ closing kind ∷ [] in
      let whole : At t h (label_text l ++ (text f ++ 44 ∷ more)) =
      rw (joined (label_text l) (text f) (members_text (44 ∷ []) (member k g ms)) (closing kind ∷ [])) at a in
      let i = item_stands l (text f) (44 ∷ more) fits whole (text_means well x) (more_ends kind (member k g ms)) in
      let comma : byte t i.end ≡ 44 = at_byte i.after in
      let here = no_space t i.end (rw comma refl) (λ z. omega (arith, comma, z)) in
      let items : ItemsMean t kind (i.end + 1) (length t) xs = items_stand rest means (at_next (44 ∷ []) more i.after) in
      more_items i.head i.value (rw here comma) (rw here (sym (items_start items).0)) items
