-- What is appended to a level, and that a form of another kind is none.
use Rattle.std.proofs.Common.{Result, Ok, Err, Bool, true, false, length, ◌<◌, ◌≤◌, arith, ◌≡◌, ◌≢◌, ◌∙◌, sym, ap, refl, ℕ, List, [], ◌∷◌, ◌++◌, Some, None}
use Rattle.std.proofs.lemmas.List.{length-map}
use Rattle.std.specs.Prelude.{IfOk, IfErr, OnErr, IsErr, IsTrue}
use Rattle.sonic_error.specs.Errors.{IsPlainError}
use Rattle.sonic_error.specs.declared.code.ErrorCode.TheVariants.{NoMemory}
use Rattle.sonic_error.specs.declared.error.Error.{Error}
use Rattle.sonic_owned.proofs.MeantPathLemmas.{meant_leads}
use Rattle.sonic_owned.proofs.PutLawLemmas.{put_one}
use Rattle.sonic_owned.proofs.PutLemmas.{put_part}
use Rattle.sonic_owned.proofs.ReachLemmas.{kept_along, put_along, put_same}
use Rattle.sonic_owned.specs.Puts.{put_in, IsPartOf, IsPut, put_here, put_on}
use Rattle.sonic_owned.specs.Reached.{IsOpenedAlong, IsKeptAlong, way_to_item, LeadsNowhere, IsUnreached, out_of_memory, ChangeNeedsMemory, NeedsMemory, for_an_item}
use Rattle.sonic_owned.specs.Internal.Changed.{IsChanged, change_made, change_refused, change_failed}
use Rattle.sonic_pointer.specs.Nodes.{node_of, path_of}
use Rattle.sonic_pointer.specs.declared.node.PointerNode.{PointerNode}
use Rattle.sonic_text.specs.Paths.{Path}
use Rattle.sonic_text.specs.Trees.{Tree}
use Rattle.sonic_lazy.specs.Scalars.{container}
use Rattle.sonic_owned.specs.Edits.{append_member, IsEdit, IsRefused, IsChange, is_pushed, is_paired}
use Rattle.sonic_owned.specs.Forms.{Form, raw, level, Members, member, unnamed, named, FormMeans, scalar_of_form}
use Rattle.sonic_owned.specs.Opened.{IsOpened, as_it_was, level_opened}
use Rattle.sonic_owned.specs.TreeEdits.{Change, push, pair, edit_at}
use Rattle.sonic_text.specs.declared.kind.Kind.{Kind}
use Rattle.sonic_text.specs.declared.kind.Kind.TheVariants.{Array, Object}

unnamed_more : (fs : List Form) (g : Form) → unnamed (fs ++ g ∷ []) ≡ append_member (unnamed fs) None g
unnamed_more [] g = refl
unnamed_more (f ∷ fs) g = ap (λ ms. member None f ms) (unnamed_more fs g)

named_more : (ms : List (List ℕ × Form)) (k : List ℕ) (g : Form) → named (ms ++ (k, g) ∷ []) ≡ append_member (named ms) (Some k) g
named_more [] k g = refl
named_more (m ∷ ms) k g = ap (λ l. member (Some m.0) m.1 l) (named_more ms k g)

-- a form that is opened to a level is of its kind
pub opened_kind : {f : Form} {kind : Kind} {ms : Members} → IsOpened f (level kind ms) → scalar_of_form f ≡ container kind
opened_kind (as_it_was shut e) = rw (← e) refl
opened_kind {kind = kind} (level_opened {kind = other} e k all is) = rw e (let same : other ≡ kind = cc in k ∙ ap container same)

-- and one of a kind is opened to a level of it
pub kind_opened : {f o : Form} {kind : Kind} → IsOpened f o → scalar_of_form f ≡ container kind → (ms : Members) × (o ≡ level kind ms)
kind_opened {f = raw b} {kind = kind} (as_it_was shut e) k = absurd (shut (kind, k))
kind_opened {f = level other ms} {kind = kind} (as_it_was shut e) k = (ms, e ∙ ap (λ (z : Kind). level z ms) (let same : other ≡ kind = cc in same))
kind_opened {f = f} {kind = kind} (level_opened {kind = other} {ms = ms} e s all is) k =
    let same : other ≡ kind = (let l : container other ≡ container kind = sym s ∙ (rw e at k) in cc) in (ms, is ∙ ap (λ (z : Kind). level z ms) same)

-- what isn't an array has no element pushed to it, and what isn't an object no member appended
pub not_pushed : {f g w : Form} → scalar_of_form f ≢ container Array → ¬ IsChange f g (push w)
not_pushed other (is_pushed opened is) = other (opened_kind opened)

pub not_paired : {f g w : Form} {k : List ℕ} → scalar_of_form f ≢ container Object → ¬ IsChange f g (pair k w)
not_paired other (is_paired opened is) = other (opened_kind opened)

-- a level that is appended to
pub array_pushed : {f o h w : Form} (fs : List Form) {gs : List Form} → IsOpened f o → o ≡ level Array (unnamed fs) → gs ≡ fs ++ w ∷ []
    → h ≡ level Array (unnamed gs) → IsChange f h (push w)
array_pushed {w = w} fs opened is more all = is_pushed (rw is at opened) (all ∙ ap (λ l. level Array (unnamed l)) more ∙ ap (level Array) (unnamed_more fs w))

pub object_paired : {f o h w : Form} {k : List ℕ} (ms : List (List ℕ × Form)) {ns : List (List ℕ × Form)} → IsOpened f o → o ≡ level Object (named ms)
    → ns ≡ ms ++ (k, w) ∷ []
    → h ≡ level Object (named ns) → IsChange f h (pair k w)
object_paired {w = w} {k} ms opened is more all = is_paired (rw is at opened)
    (all ∙ ap (λ l. level Object (named l)) more ∙ ap (level Object) (named_more ms k w))

-- what comes of an edit, by what came of the change of the part
pub edit_made : {path : Path} {c : Change Form} {f m g h : Form} (r : Result Bool Error) → IsPut path f m g h → IsChanged c m g r
    → IfOk r (λ made. IsTrue made → IsEdit (edit_at path c) f h)
edit_made (Ok true) put (change_made change) = λ e. record { part = _; changed = _; change = change; put = put }
edit_made (Ok false) put (change_refused none same) = λ e. absurd cc
edit_made (Err e) put (change_failed plain appends along) = tt

pub edit_refused : {path : Path} {c : Change Form} {f m g h : Form} (r : Result Bool Error) → IsPut path f m g h → IsChanged c m g r
    → IfOk r (λ made. made ≡ false → IsRefused (edit_at path c) f)
edit_refused (Ok true) put (change_made change) = λ e. absurd cc
edit_refused (Ok false) put (change_refused none same) = λ e h edit. none edit.changed (rw (← (put_one put edit.put).0) at edit.change)
edit_refused (Err e) put (change_failed plain appends along) = tt

pub edit_same : {path : Path} {c : Change Form} {f m g h : Form} (r : Result Bool Error) → IsPut path f m g h → IsChanged c m g r
    → IfOk r (λ made. made ≡ false → IsKeptAlong path f h)
edit_same (Ok true) put (change_made change) = λ e. absurd cc
edit_same (Ok false) put (change_refused none same) = λ e. kept_along (put_same put same)
edit_same (Err e) put (change_failed plain appends along) = tt

pub edit_failed : {path : Path} {c : Change Form} {f m g h : Form} (r : Result Bool Error) → IsPut path f m g h → IsChanged c m g r
    → IfErr r (λ e. IsPlainError e NoMemory) × OnErr r (IsKeptAlong (path ++ way_to_item c) f h)
edit_failed (Ok true) put (change_made change) = (tt, tt)
edit_failed (Ok false) put (change_refused none same) = (tt, tt)
edit_failed (Err e) put (change_failed plain appends along) = (plain, kept_along (put_along put along))

-- which takes memory
part_of : {path : Path} {f m g h : Form} → IsPut path f m g h → IsPartOf path f m
part_of put_here = (_, put_here)
part_of (put_on {node} {o = o} opened item p is) = let (j, q) = part_of p in (put_in node j o, put_on opened item q refl)

pub edit_takes : {path : Path} {c : Change Form} {f m g h : Form} (P : Type 0) (r : Result Bool Error) → IsPut path f m g h → IsChanged c m g r
    → OnErr r (P → NeedsMemory (edit_at path c) f)
edit_takes P (Ok true) put (change_made change) = tt
edit_takes P (Ok false) put (change_refused none same) = tt
edit_takes P (Err e) put (change_failed plain appends along) = λ _. for_an_item (part_of put) appends

-- where the path leads nowhere, there is nothing to edit
pub edit_nowhere : {path : Path} {c : Change Form} {f : Form} {x : Tree} → FormMeans f x → LeadsNowhere path f → IsRefused (edit_at path c) f
edit_nowhere m none h edit =
    let (u, there, means, rest) = put_part edit.put m in
    let (g, leads, same) = meant_leads m there in
    none g leads

-- an error for want of memory is that of a change that failed
pub change_stopped : {c : Change Form} {f g : Form} (r : Result Bool Error) → IsErr r → IfErr r (λ e. IsPlainError e NoMemory)
    → ChangeNeedsMemory c f → IsOpenedAlong (way_to_item c) f g → IsChanged c f g r
change_stopped (Ok b) is plain appends along = absurd cc
change_stopped (Err e) is plain appends along = change_failed plain appends along

-- so it is with an edit whose path is within the limit
pub edit_unreached : (path : List PointerNode) (r : Result Bool Error) → ¬ (255 < length path) → IfErr r (λ e. IsPlainError e NoMemory)
    → IfErr r (IsUnreached (path_of path))
edit_unreached path (Ok b) short plain = tt
edit_unreached path (Err e) short plain =
    let few : length path ≤ 255 = by_order short in
    out_of_memory (rw (length-map path node_of) few) plain
  where
    by_order : ¬ (255 < length path) → length path ≤ 255
    by_order not_more = omega (arith, not_more)
