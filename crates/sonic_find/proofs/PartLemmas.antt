-- A path leads in the text of a value where it leads from the value in the whole text.
use Rattle.std.proofs.Common.{◌≡◌, ◌≢◌, ◌∙◌, sym, Ok, ℕ, ◌+◌, ◌-◌, inl, inr, List, [], ◌∷◌, ◌++◌, arith, refl, add-zero}
use Rattle.std.proofs.lemmas.Bool.{cases_eq}
use Rattle.std.specs.Prelude.{slice_range}
use Rattle.sonic_find.proofs.AnswerLemmas.Walk.{found_value}
use Rattle.sonic_find.proofs.PathLemmas.Outcome.{evaluates_one, evaluates_some, nowhere_ends, nowhere_empty, nowhere_past, nowhere_other}
use Rattle.sonic_find.specs.Answers.{Span, span_text}
use Rattle.sonic_find.specs.Laws.{Finds, LeadsInPart, outcome_in_whole}
use Rattle.sonic_find.specs.Paths.{Outcome, found, kind_of, past_end, nowhere, IsNamed, LeadsOn, Evaluates, Leads}
use Rattle.sonic_find.specs.Paths.EvaluatesBy.{found_here, goes_on, leads_nowhere, cut_here, cut_before}
use Rattle.sonic_text.proofs.PartItems.{IsInPart, value_down, first_byte, opens, empty_down, filled_down, item_in_part, items_down, head_down, items_up, head_up}
use Rattle.sonic_text.proofs.Parts.{part_is, part_length, part_of_part}
use Rattle.sonic_text.proofs.ValueParts.{value_of_part}
use Rattle.sonic_text.proofs.Values.{no_item, at_last, container_outcome, items_not_empty, value-longer, value_end_one, value_never_both, value_starts}
use Rattle.sonic_text.proofs.Within.{value_within}
use Rattle.sonic_text.specs.Paths.{Node, Path}
use Rattle.sonic_text.specs.Places.{byte, after_space}
use Rattle.sonic_text.specs.Strings.{strict}
use Rattle.sonic_text.specs.Values.{type_at, opening, IsValue, ItemsFit}
use Rattle.sonic_text.specs.declared.kind.Kind.{Kind}
use Rattle.sonic_text.specs.declared.kind.Kind.TheVariants.{Array, Object}

module _ {t u : List ℕ} {d x : ℕ} (has : IsInPart strict t u d x) where
  -- an item of the text that is named is so in the part
  named_down : {kind : Kind} {n h v : ℕ} {node : Node} → ItemsFit strict t kind (d + x) n h → IsNamed t kind n h v node
      → IsNamed u kind n (h - d) (v - d) node
  named_down is y = record { label = y.label; head = head_down has is y.head; name = y.name }

  -- and back
  named_up : {kind : Kind} {n h v : ℕ} {node : Node} → ItemsFit strict u kind x n h → IsNamed u kind n h v node → IsNamed t kind n (d + h) (d + v) node
  named_up is y = record { label = y.label; head = head_up has is y.head; name = y.name }

  -- a node that leads on in the text does so in the part
  on_down : {node : Node} {v : ℕ} → LeadsOn t (d + x) node v → LeadsOn u x node (v - d)
  on_down l = record {
    n = l.n;
    h = l.h - d;
    before = record {
      fit = items_down has l.before.fit l.item.head;
      none = λ p g w less is y. l.before.none p (d + g) (d + w) less (items_up has is) (named_up is y);
    };
    item = named_down l.before.fit l.item;
  }

  -- and back
  on_up : {node : Node} {v : ℕ} → LeadsOn u x node v → LeadsOn t (d + x) node (d + v)
  on_up l = record {
    n = l.n;
    h = d + l.h;
    before = record {
      fit = items_up has l.before.fit;
      none = λ p g w less is y. l.before.none p (g - d) (w - d) less (items_down has is y.head) (named_down is y);
    };
    item = named_up l.before.fit l.item;
  }

  -- and the value to which it leads is in the part
  next_in_part : {node : Node} {v : ℕ} → LeadsOn t (d + x) node v → (y : ℕ) → v ≡ d + y → IsInPart strict t u d y
  next_in_part l y e = item_in_part has y e l.before.fit l.item.head

-- the type of a value is by its first byte
type_same : (t u : List ℕ) (i x : ℕ) → byte u x ≡ byte t i → type_at t i ≡ type_at u x
type_same t u i x e = rw e refl

-- past the end of a container
past_moved : (d q : ℕ) (kind : Kind) → past_end kind (d + q) ≡ outcome_in_whole d (past_end kind q)
past_moved d q Array = refl
past_moved d q Object = refl

module _ {t u : List ℕ} {d x : ℕ} (has : IsInPart strict t u d x) where
  -- a node that leads nowhere in a container of the part leads nowhere so in the text
  nowhere_opened : (kind : Kind) (q : ℕ) → byte u x ≡ opening kind → nowhere t (d + x) (d + q) kind ≡ outcome_in_whole d (nowhere u x q kind)
  nowhere_opened kind q b = let o = opens has kind b in elim (container_outcome (Ok has.end) o has.value) [
    | no_item c e ↦ rw (nowhere_empty t (d + x) (d + q) kind o c, nowhere_empty u x q kind b (empty_down has kind o c)) refl
    | at_last is y ↦ rw (nowhere_past t (d + x) (d + q) kind o (items_not_empty is), nowhere_past u x q kind b (filled_down has is y)) (past_moved d q kind)
  ]

  -- and so it is in each value
  nowhere_moved : (kind : Kind) (q : ℕ) → nowhere t (d + x) (d + q) kind ≡ outcome_in_whole d (nowhere u x q kind)
  nowhere_moved kind q = elim (cases_eq (byte u x) (opening kind)) [
    | inl b ↦ nowhere_opened kind q b
    | inr other ↦
        let there : byte t (d + x) ≢ opening kind = λ e. other (first_byte has ∙ e) in
        rw (nowhere_other t (d + x) (d + q) kind there, nowhere_other u x q kind other, type_same t u (d + x) x (first_byte has)) refl
  ]

-- a path leads from the place of the value in the text where it leads from its place in the part
path_up : {t u : List ℕ} {d : ℕ} (path : Path) {x : ℕ} {o : Outcome} → IsInPart strict t u d x → Evaluates u x path o
    → Evaluates t (d + x) path (outcome_in_whole d o)
path_up {d = d} [] has (found_here {j = j} y) =
    let l = value-longer has.value in
    let same : d + j ≡ has.end = omega (arith, value_end_one y (value_down has)) in
    found_here (rw same has.value)
path_up [] has (cut_here f) = absurd (value_never_both (value_down has) f)
path_up (node ∷ rest) has (goes_on {v} l e) = let m = on_up has l in goes_on m (path_up rest (next_in_part has m v refl) e)
path_up {d = d} (node ∷ rest) {x} has (leads_nowhere {j = j} y none e) =
    let l = value-longer has.value in
    let last : has.end - 1 ≡ d + (j - 1) = omega (arith, value_end_one y (value_down has), value-longer y) in
    leads_nowhere has.value (λ v m. none (v - d) (on_down has m)) (rw (e, last) (sym (nowhere_moved has (kind_of node) (j - 1))))
path_up (node ∷ rest) has (cut_before f none) = absurd (value_never_both (value_down has) f)

-- where a path finds a value, a further path goes on there
joined : {t : List ℕ} {b : Path} {i j : ℕ} {o : Outcome} (a : Path) {k : ℕ} → Evaluates t k a (found i j) → Evaluates t i b o → Evaluates t k (a ++ b) o
joined [] (found_here y) e = e
joined (node ∷ rest) (goes_on l x) e = goes_on l (joined rest x e)
joined {t} (node ∷ rest) {k} (leads_nowhere {j = j} y none clash) e = absurd (rw (← clash) at (nowhere_ends t k (j - 1) (kind_of node)))

-- the text of a value is a part that has it
text_in_part : {t : List ℕ} {i j : ℕ} → IsValue strict t i j → IsInPart strict t (slice_range t i j) i 0
text_in_part {t} {i} {j} y =
    let l = value-longer y in
    let within = value_within y in
    let long = part_length t i j (omega arith) within in
    record { part = part_is t i j (omega arith) within; end = j; value = rw add-zero y; within = omega arith }

-- from its first byte on
text_starts : {t : List ℕ} {i j : ℕ} → IsValue strict t i j → after_space (slice_range t i j) 0 ≡ 0
text_starts y = value_starts (value_of_part y (value_within y))

-- where a path leads in that text, the joined path leads in the whole text
pub leads_in_whole : {t : List ℕ} {a b : Path} {part : Span} {o : Outcome} → LeadsInPart t a b part o → Leads t (a ++ b) (outcome_in_whole part.0 o)
leads_in_whole {t} {a} {b} {part} {o} x =
    let y = found_value a x.first in
    let next : Evaluates (span_text t part) 0 b o = rw (text_starts y) at x.next in
    let up : Evaluates t (part.0 + 0) b (outcome_in_whole part.0 o) = path_up b (text_in_part y) next in
    let there : Evaluates t part.0 b (outcome_in_whole part.0 o) = rw add-zero at up in
    joined a x.first there

-- and nowhere else
pub leads_in_part : {t : List ℕ} {b : Path} {part : Span} {w : Outcome} (a : Path) → Finds t a part → Leads t (a ++ b) w
    → (o : Outcome) × LeadsInPart t a b part o × (w ≡ outcome_in_whole part.0 o)
leads_in_part {t} {b} {part} a first both =
    let u = span_text t part in
    let o = evaluates_some u b (after_space u 0) in
    let x : LeadsInPart t a b part o.0 = record { first = first; next = o.1 } in
    (o.0, x, evaluates_one (a ++ b) both (leads_in_whole x))

-- and what it finds has the same bytes
pub same_text_in_part : {t : List ℕ} {a b : Path} {part : Span} {i j : ℕ} → LeadsInPart t a b part (found i j)
    → slice_range (span_text t part) i j ≡ slice_range t (part.0 + i) (part.0 + j)
same_text_in_part {t} {a} {b} {part} {i} {j} x =
    let outer = found_value a x.first in
    let inner = found_value b x.next in
    let l = value-longer outer in
    let long = part_length t part.0 part.1 (omega arith) (value_within outer) in
    part_of_part t part.0 part.1 i j (omega (arith, value-longer inner)) (omega (arith, value_within inner, long))
