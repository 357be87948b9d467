-- Edits that are made one after another.
use Rattle.std.proofs.Common.{Result, Ok, Err, OnErr, ◌⊎◌, inr, ap, ◌≡◌, ◌+◌, ◌≤◌, ℕ, zero, suc, List, [], ◌∷◌, ◌++◌, refl, length, map, drop, get_or, sym, ◌<◌, arith}
use Rattle.std.proofs.lemmas.List.{drop_more}
use Rattle.std.specs.declared.alloc.Global.{Global}
use Rattle.std.specs.declared.vec.Vec.{Vec}
use Rattle.sonic_owned.specs.Edits.{IsEdit, IsRefused, AreEdits, no_edit, one_more_edit, IsFirstRefused, refused_here, refused_later}
use Rattle.sonic_edits.specs.Edits.{edit_of, StopsAt, stops_here, stops_later, Fails, fails_here, fails_later}
use Rattle.sonic_edits.specs.Internal.Parted.{joined, kind_of_change, nodes_of, place_of, AreShort}
use Rattle.sonic_edits.specs.declared.edit.Edit as declared
use Rattle.sonic_owned.specs.Forms.{Form}
use Rattle.sonic_owned.specs.Reached.{IsKeptAlong, NeedsMemory, way_to_item}
use Rattle.sonic_owned.specs.TreeEdits.{Change, Edit}
use Rattle.sonic_text.specs.Paths.{Path}
use Rattle.sonic_pointer.specs.declared.node.PointerNode.{PointerNode}

-- all edits at f come to the rest of them at g, the first of which has this number
pub record ComesOfAll (all : List (Edit Form)) (f : Form) (number : ℕ) (rest : List (Edit Form)) (g : Form) : Type 0 where
  pub count : number + length rest ≡ length all + 1
  pub made : (h : Form) → AreEdits rest g h → AreEdits all f h
  pub refused : (n m : ℕ) → IsFirstRefused rest g n → number + n ≡ m + 1 → IsFirstRefused all f m
  pub stopped : (n m : ℕ) (h : Form) → StopsAt rest g h n → number + n ≡ m + 1 → StopsAt all f h m
  pub failed : (h : Form) → Fails rest g h → Fails all f h

-- so it is at first
pub comes_first : {all : List (Edit Form)} {f : Form} → ComesOfAll all f 1 all f
comes_first {all} = record {
  count = omega arith;
  made = λ h are. are;
  refused = λ n m first e. let same : n ≡ m = omega (arith, e) in rw (← same) first;
  stopped = λ n m h stop e. let same : n ≡ m = omega (arith, e) in rw (← same) stop;
  failed = λ h fails. fails;
}

-- and where one more is made
pub comes_next : {all rest : List (Edit Form)} {e : Edit Form} {f g h : Form} {number : ℕ} → ComesOfAll all f number (e ∷ rest) g → IsEdit e g h → ComesOfAll all f (number + 1) rest h
comes_next comes edit = record {
  count = omega (arith, comes.count);
  made = λ i are. comes.made i (one_more_edit edit are);
  refused = λ n m first is. comes.refused (n + 1) m (refused_later edit first refl) (omega (arith, is));
  stopped = λ n m h stop is. comes.stopped (n + 1) m h (stops_later edit stop refl) (omega (arith, is));
  failed = λ h fails. comes.failed h (fails_later edit fails);
}

-- where there is none left, all are made
pub comes_to_all : {all : List (Edit Form)} {f g : Form} {number : ℕ} → ComesOfAll all f number [] g → AreEdits all f g
comes_to_all comes = comes.made _ (no_edit refl)

-- and where the next one is refused, it is the first
pub comes_to_refusal : {all rest : List (Edit Form)} {e : Edit Form} {f g : Form} {number : ℕ} → ComesOfAll all f number (e ∷ rest) g → IsRefused e g → IsFirstRefused all f number
comes_to_refusal {number = number} comes refused = comes.refused 1 number (refused_here refused refl) refl

pub comes_to_stop : {all rest : List (Edit Form)} {e : Edit Form} {f g h : Form} {number : ℕ} → ComesOfAll all f number (e ∷ rest) g → IsRefused e g
    → IsKeptAlong e.path g h → StopsAt all f h number
comes_to_stop {h = h} {number} comes refused kept = comes.stopped 1 number h (stops_here refused kept refl) refl

-- where there is no memory for the next one, all fail there
pub comes_to_failure : {all rest : List (Edit Form)} {e : Edit Form} {f g h : Form} {number : ℕ} → ComesOfAll all f number (e ∷ rest) g
    → NeedsMemory e g → IsKeptAlong (e.path ++ way_to_item e.change) g h → Fails all f h
comes_to_failure {h = h} comes memory kept = comes.failed h (fails_here memory kept)

-- a list of no length
pub none_left : {X : Type 0} (xs : List X) → length xs ≡ 0 → xs ≡ []
none_left [] none = refl
none_left (x ∷ xs) none = absurd (omega (arith, none))

-- edits are joined of their paths and their changes
pub joined_of_parts : (es : List declared.Edit) → joined (map place_of es) (map kind_of_change es) ≡ map edit_of es
joined_of_parts [] = refl
joined_of_parts (e ∷ es) = ap (λ rest. edit_of e ∷ rest) (joined_of_parts es)

-- what is at a number in the lists is before the rest of them
pub next_path : (lists : List (Vec PointerNode Global)) (n : ℕ) (nodes : Vec PointerNode Global) (c : Change Form) (cs : List (Change Form))
    → n < length lists → nodes ≡ get_or lists n nodes
    → joined (map nodes_of (drop n lists)) (c ∷ cs) ≡ record { path = nodes_of nodes; change = c } ∷ joined (map nodes_of (drop (n + 1) lists)) cs
next_path lists n nodes c cs within there =
    rw (drop_more lists n nodes within) (ap (λ x. record { path = nodes_of x; change = c } ∷ joined (map nodes_of (drop (n + 1) lists)) cs) (sym there))

-- and it has at most 255 nodes where each of them has
pub short_at : (lists : List (Vec PointerNode Global)) (n : ℕ) (nodes : Vec PointerNode Global) → AreShort (map nodes_of lists) → n < length lists
    → nodes ≡ get_or lists n nodes → length (nodes_of nodes) ≤ 255
short_at [] n nodes short within there = absurd (omega (arith, within))
short_at (x ∷ xs) zero nodes short within there = rw there short.0
short_at (x ∷ xs) (suc n) nodes short within there = short_at xs n nodes short.1 (omega (arith, within)) there

-- as each path of an edit has
pub edits_short : (es : List declared.Edit) → AreShort (map place_of es)
edits_short [] = tt
edits_short (e ∷ es) = (e.short, edits_short es)

-- no edit is joined of no change
pub joined_of_none : (ps : List Path) → joined ps [] ≡ []
joined_of_none [] = refl
joined_of_none (p ∷ ps) = refl

-- what holds anyway holds after an error
pub on_err : {T E : Type 0} (r : Result T E) {P : Type 0} → P → OnErr r P
on_err (Ok x) p = tt
on_err (Err e) p = p

-- and after an error there is one of two, if there is the second
pub second_on_err : {T E : Type 0} (P Q : Type 0) (r : Result T E) → OnErr r Q → OnErr r (P ⊎ Q)
second_on_err P Q (Ok x) q = tt
second_on_err P Q (Err e) q = inr q
