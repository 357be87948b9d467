-- The answer of a schema that is filled, from what is known when the walk ends.
use Rattle.std.proofs.Common.{◌≡◌, ◌⊎◌, ◌∙◌, inl, inr, refl, sym, arith, ℕ, ◌+◌, ◌<◌, ◌≤◌, List, Bool, true, false, not, length, take}
use Rattle.std.proofs.Math.Seq.{take-length}
use Rattle.std.specs.Prelude.{slice_range}
use Rattle.std.specs.Str.{IsUtf8}
use Rattle.sonic_error.specs.Texts.{valid_up_to}
use Rattle.sonic_error.specs.declared.code.ErrorCode.TheVariants.{InvalidUTF8}
use Rattle.sonic_error.specs.declared.error.Error.{Error}
use Rattle.sonic_find.proofs.Utf8Lemmas.{utf8_of_span, utf8_up_to}
use Rattle.sonic_lazy.specs.Scalars.{scalar_of_tree, container as a_container}
use Rattle.sonic_text.proofs.PlacedLemmas.{slice_means}
use Rattle.sonic_parser.specs.Faults.{IsStopFor, IsErrorOf}
use Rattle.sonic_parser.specs.declared.fault.Fault.{Fault}
use Rattle.sonic_parser.specs.declared.fault.Fault.TheVariants.{OutOfMemory, At}
use Rattle.sonic_text.proofs.Items.{opening_not_end}
use Rattle.sonic_text.proofs.Parts.{part_length}
use Rattle.sonic_text.proofs.Places.{byte_within}
use Rattle.sonic_text.proofs.Stops.{fault_within}
use Rattle.sonic_text.proofs.TreeLemmas.{value_of, means_one}
use Rattle.sonic_text.proofs.Values.{head-later, items-later, value-longer, value_never_both}
use Rattle.sonic_text.proofs.Within.{value_within}
use Rattle.sonic_text.specs.Trees.{Tree}
use Rattle.sonic_text.specs.Trees.Tree.{null, truth, numeral, text, container}
use Rattle.sonic_text.specs.Strings.{strict}
use Rattle.sonic_text.specs.Values.{IsValue}
use Rattle.sonic_text.specs.declared.kind.Kind.TheVariants.{Array, Object}
use Rattle.sonic_text.specs.declared.stop.Stop.{Stop}
use Rattle.sonic_value.proofs.KeepingLemmas.{kept_same}
use Rattle.sonic_value.proofs.SchemaLemmas.{deep_nested}
use Rattle.sonic_value.specs.Depths.{IsInside, at_the_value, inside_an_item}
use Rattle.sonic_value.specs.Internal.Fillers.{IsFillRead, IsFillStopped, IsUnfillable, is_too_deep, has_fault}
use Rattle.sonic_value.specs.Filling.{fill}
use Rattle.sonic_value.specs.Internal.Keeping.{kept}
use Rattle.sonic_value.specs.Schemas.{IsObject, IsFilledBy, IsFilledAt, IsUnfilled, no_object, too_deep, fault, broken_text, IsFillErrorFrom, out_of_memory, stopped, IsTooDeepIn}

-- a tree is an object exactly where its first level says so
pub scalar_object : (x : Tree) → scalar_of_tree x ≡ a_container Object → IsObject x
scalar_object null e = absurd cc
scalar_object (truth b) e = absurd cc
scalar_object (numeral b) e = absurd cc
scalar_object (text b) e = absurd cc
scalar_object (container Array xs) e = absurd cc
scalar_object (container Object xs) e = tt

pub object_scalar : (x : Tree) → IsObject x → scalar_of_tree x ≡ a_container Object
object_scalar null o = absurd o
object_scalar (truth b) o = absurd o
object_scalar (numeral b) o = absurd o
object_scalar (text b) o = absurd o
object_scalar (container Array xs) o = absurd o
object_scalar (container Object xs) o = refl

pub object_or_none : (x : Tree) → IsObject x ⊎ ¬ IsObject x
object_or_none null = inr (λ o. o)
object_or_none (truth b) = inr (λ o. o)
object_or_none (numeral b) = inr (λ o. o)
object_or_none (text b) = inr (λ o. o)
object_or_none (container Array xs) = inr (λ o. o)
object_or_none (container Object xs) = inl tt

-- up to the end of a value a text is UTF-8 where all is
utf8_front : {t : List ℕ} {i j : ℕ} → IsUtf8 t → IsValue strict t i j → IsUtf8 (take j t)
utf8_front {t} utf8 value =
    let whole : IsUtf8 (take (length t) t) = rw (take-length t) utf8 in
    utf8_up_to (length t) whole value (value_within value)

-- a text in UTF-8 fills a schema
filled_same : {t : List ℕ} {n : ℕ} {s x : Tree} {i j : ℕ} → IsFillRead (record { text = t; is_utf8 = true }) n s x i j → IsFilledBy t n s x i j
filled_same {s = s} {x} read =
    let f = read.fills s (sym (kept_same s)) in
    let same : f.0 ≡ x = sym (kept_same f.0) ∙ sym f.1 in
    rw same at f.2

pub filled_at : {t : List ℕ} {s x : Tree} {i j : ℕ} → IsObject s → IsUtf8 t → IsFillRead (record { text = t; is_utf8 = true }) 255 s x i j → IsFilledAt t s x i
filled_at {j = j} o utf8 read =
    let by = filled_same read in
    record { end = j; from = record { object = o; by = by; utf8 = utf8_front utf8 (value_of by.means) } }

-- or doesn't
pub unfillable_at : {t : List ℕ} {s : Tree} {i : ℕ} (stop : Stop) → IsObject s → IsUnfillable t 255 s i stop → IsUnfilled t true s i stop
unfillable_at stop o (is_too_deep x e) = too_deep o x e
unfillable_at stop o (has_fault shallow f) = fault o shallow f

pub stopped_at : {t : List ℕ} {s : Tree} {i : ℕ} (stop : Stop) → IsObject s → IsFillStopped (record { text = t; is_utf8 = true }) 255 s i stop
    → IsUnfilled t true s i stop
stopped_at {s = s} stop o f = unfillable_at stop o (f s (sym (kept_same s)))

deep_within : {t : List ℕ} {n : ℕ} {s : Tree} {i p : ℕ} → IsTooDeepIn t n s i p → p < length t
deep_within {t} {p = p} x = let y = (deep_nested x.deep).1 in byte_within t p (λ z. opening_not_end y.kind (sym y.bracket ∙ z))

pub unfillable_within : {t : List ℕ} {n : ℕ} {s : Tree} {i : ℕ} (stop : Stop) → IsUnfillable t n s i stop → stop.place ≤ length t
unfillable_within {t} stop (is_too_deep {p = p} x e) = let within = deep_within x in rw e (omega (arith, within))
unfillable_within stop (has_fault shallow f) = fault_within f

pub stopped_within : {t : List ℕ} {s : Tree} {i : ℕ} (stop : Stop) → IsFillStopped (record { text = t; is_utf8 = true }) 255 s i stop → stop.place ≤ length t
stopped_within {s = s} stop f = unfillable_within stop (f s (sym (kept_same s)))

-- a place inside so many others comes so much later
inside_deep : {t : List ℕ} {i p n : ℕ} → IsInside t i p n → i + n ≤ p
inside_deep (at_the_value e z) = omega (arith, e, z)
inside_deep (inside_an_item is y inside e) = omega (arith, e, items-later is, head-later y, inside_deep inside)

-- a value before whose end a text is UTF-8
pub part_utf8 : {t : List ℕ} {i j : ℕ} → IsValue strict t i j → IsUtf8 (take j t) → IsUtf8 (slice_range t i j)
part_utf8 {j = j} value utf8 = utf8_of_span j utf8 value (omega arith) (value_within value)

-- bytes were read with their strings spelled out, as far as a schema is filled with them
module _ {t : List ℕ} {s y : Tree} {i j : ℕ} (o : IsObject s) (read : IsFillRead (record { text = t; is_utf8 = false }) 255 (kept false s) y i j) where
  -- they aren't UTF-8
  pub broken_at : ¬ IsUtf8 (take j t) → IsUnfilled t true s i (record { place = valid_up_to (take j t); code = InvalidUTF8 })
  broken_at broken = broken_text o (read.fills s refl).2 refl broken refl

  -- or the value is read again, and gives the same
  pub filled_again : {x : Tree} {k : ℕ} → IsUtf8 (take j t) → IsFillRead (record { text = slice_range t i j; is_utf8 = true }) j s x 0 k → IsFilledAt t s x i
  filled_again {x} utf8 again =
      let by = (read.fills s refl).2 in
      let own = filled_same again in
      let trees : by.data_tree ≡ own.data_tree = means_one (slice_means by.means (value_within read.value)) own.means in
      let filled : x ≡ fill s by.data_tree = rw trees own.filled in
      record {
        end = j;
        from = record {
          object = o;
          by = record { data_tree = by.data_tree; means = by.means; filled = filled; shallow = by.shallow };
          utf8 = utf8;
        };
      }

  never_unfillable : {stop : Stop} → IsUnfillable (slice_range t i j) j s 0 stop → ⊥
  never_unfillable (is_too_deep x e) =
      let longer = value-longer read.value in
      let within = value_within read.value in
      let long = part_length t i j (omega (arith, longer)) within in
      let y = deep_nested x.deep in
      let deep = inside_deep y.1.inside in
      omega (arith, deep, long, deep_within x)
  never_unfillable (has_fault shallow g) =
      let means = slice_means (read.fills s refl).2.means (value_within read.value) in
      value_never_both (value_of means) g

  pub never_stopped : (stop : Stop) → IsFillStopped (record { text = slice_range t i j; is_utf8 = true }) j s 0 stop → ⊥
  never_stopped stop f = never_unfillable (f s (sym (kept_same s)))

-- a text has nothing that is broken
pub unfilled_for : {t : List ℕ} {s : Tree} {i : ℕ} (stop : Stop) (is_bytes : Bool) → (is_bytes ≡ false → IsUtf8 t) → IsUnfilled t true s i stop
    → IsUnfilled t is_bytes s i stop
unfilled_for stop true utf8 x = x
unfilled_for stop false utf8 (no_object n e) = no_object n e
unfilled_for stop false utf8 (too_deep o x e) = too_deep o x e
unfilled_for stop false utf8 (fault o shallow f) = fault o shallow f
unfilled_for stop false utf8 (broken_text o f e broken q) = absurd (broken (utf8_front (utf8 refl) (value_of f.means)))

-- the error of a fault says why it wasn't
pub fill_error : {t : List ℕ} {is_bytes : Bool} {s : Tree} {i : ℕ} {e : Error} (found : Fault) → IsStopFor (IsUnfilled t is_bytes s i) found → IsErrorOf t found e
    → IsFillErrorFrom t is_bytes s i e
fill_error OutOfMemory h e = out_of_memory e
fill_error (At s) h e = stopped s h e

-- what isn't down is up
pub down_of : (b : Bool) → not b ≡ true → b ≡ false
down_of true e = absurd cc
down_of false e = refl
