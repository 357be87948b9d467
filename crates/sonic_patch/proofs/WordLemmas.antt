-- What is told of two values, and what it says of their trees.
use Rattle.std.proofs.Common.{◌≡◌, ◌∙◌, sym, ap, ℕ, List, [], refl, Bor}
use Rattle.std.specs.Prelude.{Option, Some, None, is_none, true}
use Rattle.sonic_text.specs.declared.kind.Kind.{Kind}
use Rattle.sonic_text.specs.Trees.{Tree}
use Rattle.sonic_text.specs.Trees.Tree.{text}
use Rattle.sonic_text.proofs.Strings.{string_one}
use Rattle.sonic_patch.specs.declared.walk.Leaf.{Leaf}
use Rattle.sonic_patch.specs.declared.walk.Leaf.TheVariants.{Text}
use Rattle.sonic_patch.specs.declared.walk.Event.{Event}
use Rattle.sonic_patch.specs.declared.walk.Event.TheVariants.{Leaf as LeafEvent, Begin}
use Rattle.sonic_patch.specs.declared.walk.Walk.{Walk}
use Rattle.sonic_patch.specs.Internal.Steps.{AreInStep}
use Rattle.sonic_patch.specs.Internal.Tags.{Tag, leaf_tag, begin_tag, end_tag, tags}
use Rattle.sonic_patch.specs.Internal.Walks.{IsKeyLabel, IsLeaf, IsWord, Remains, TellsTag, TellsFirst, TellsNext}
use Rattle.sonic_patch.proofs.TagLemmas.{tags_one}

-- a string denotes one list of bytes
pub word_one : {t u b d : List ℕ} → t ≡ u → IsWord t b → IsWord u d → b ≡ d
word_one {t} {u} {b} {d} e x y = let z : IsWord t d = rw e y in (string_one x z).1

-- keys that denote the same are one label
pub labels_one : {one other : Option (Bor (List ℕ))} {a b : Bor (List ℕ)} → one ≡ Some a → other ≡ Some b
    → ((x y : List ℕ) → IsWord a.now x → IsWord b.now y → x ≡ y) → (l k : Option (List ℕ)) → IsKeyLabel one l → IsKeyLabel other k → l ≡ k
labels_one {a = a} {b} e f h (Some x) (Some y) p q =
    let p' : IsWord a.now x = rw e at p in
    let q' : IsWord b.now y = rw f at q in
    ap Some (h x y p' q')
labels_one e f h None k p q = absurd (rw e at p)
labels_one e f h (Some x) None p q = absurd (rw f at q)

-- and strings that do are one tree
pub texts_one : {one other : Leaf} {a b : Bor (List ℕ)} → one ≡ Text a → other ≡ Text b → ((x y : List ℕ) → IsWord a.now x → IsWord b.now y → x ≡ y)
    → (x y : Tree) → IsLeaf one x → IsLeaf other y → x ≡ y
texts_one {a = a} {b} e f h x y p q =
    let p' : (d : List ℕ) × IsWord a.now d × (x ≡ text d) = rw e at p in
    let q' : (d : List ℕ) × IsWord b.now d × (y ≡ text d) = rw f at q in
    p'.2 ∙ ap text (h p'.0 q'.0 p'.1 q'.1) ∙ sym q'.2

-- events with one label and one tree
pub leaves_told : {one other : Event} {key k : Option (Bor (List ℕ))} {leaf f : Leaf} → one ≡ LeafEvent key leaf → other ≡ LeafEvent k f
    → ((l j : Option (List ℕ)) → IsKeyLabel key l → IsKeyLabel k j → l ≡ j) → ((x y : Tree) → IsLeaf leaf x → IsLeaf f y → x ≡ y)
    → (a b : Tag) → TellsTag one a → TellsTag other b → a ≡ b
leaves_told {key = key} {k} {leaf} {f} d e g h (leaf_tag l x) (leaf_tag j y) p q =
    let p' : IsKeyLabel key l × IsLeaf leaf x = rw d at p in
    let q' : IsKeyLabel k j × IsLeaf f y = rw e at q in
    rw (g l j p'.0 q'.0, h x y p'.1 q'.1) refl
leaves_told d e g h (leaf_tag l x) (begin_tag j kind) p q = absurd (rw e at q)
leaves_told d e g h (leaf_tag l x) (end_tag kind) p q = absurd (rw e at q)
leaves_told d e g h (begin_tag l kind) b p q = absurd (rw d at p)
leaves_told d e g h (end_tag kind) b p q = absurd (rw d at p)

-- or one kind
pub begins_told : {one other : Event} {key k : Option (Bor (List ℕ))} {kind f : Kind} → one ≡ Begin key kind → other ≡ Begin k f → kind ≡ f
    → ((l j : Option (List ℕ)) → IsKeyLabel key l → IsKeyLabel k j → l ≡ j) → (a b : Tag) → TellsTag one a → TellsTag other b → a ≡ b
begins_told {key = key} {k} {kind} {f} d e same g (begin_tag l x) (begin_tag j y) p q =
    let p' : IsKeyLabel key l × (kind ≡ x) = rw d at p in
    let q' : IsKeyLabel k j × (f ≡ y) = rw e at q in
    rw (g l j p'.0 q'.0, sym p'.1 ∙ same ∙ q'.1) refl
begins_told d e same g (begin_tag l x) (leaf_tag j y) p q = absurd (rw e at q)
begins_told d e same g (begin_tag l x) (end_tag kind) p q = absurd (rw e at q)
begins_told d e same g (leaf_tag l kind) b p q = absurd (rw d at p)
begins_told d e same g (end_tag kind) b p q = absurd (rw d at p)

-- two walks that begin
pub begun_in_step : (x y : Tree) {one other : Walk} → Remains one (tags None x []) → Remains other (tags None y []) → AreInStep x y one other
begun_in_step x y r s = record {
  rest = tags None x [];
  others = tags None y [];
  remain = r;
  others_remain = s;
  same = λ e. (tags_one x y None None [] [] e).1;
}

-- and that tell the same next
pub still_in_step : {x y : Tree} {one other now now_other : Walk} {event counterpart : Event} → (s : AreInStep x y one other) → TellsFirst now event s.rest
    → TellsFirst now_other counterpart s.others → ((a b : Tag) → TellsTag event a → TellsTag counterpart b → a ≡ b) → AreInStep x y now now_other
still_in_step s p q same =
    let tag = same p.tag q.tag p.tells q.tells in
    record {
      rest = p.others;
      others = q.others;
      remain = p.remain;
      others_remain = q.remain;
      same = λ e. s.same (p.are ∙ rw (tag, e) (sym q.are));
    }

-- nothing is told where none is to come
pub none_told : (now : Walk) (event : Option Event) {rest : List Tag} → is_none event ≡ true → TellsNext now event rest → rest ≡ []
none_told now None e t = t
none_told now (Some event) e t = absurd cc
