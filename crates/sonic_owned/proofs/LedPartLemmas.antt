-- What a path leads to is one part, of a sound form a sound one, and a path leads on from there.
use Rattle.std.proofs.Common.{◌≡◌, ◌∙◌, refl, sym, ap, ℕ, ◌-◌, List, [], ◌++◌, length, arith}
use Rattle.std.proofs.lemmas.List.{append-nil, take_all}
use Rattle.std.proofs.lemmas.Option.{same_Some}
use Rattle.std.specs.Prelude.{slice_range}
use Rattle.std.specs.Str.{IsUtf8}
use Rattle.sonic_find.proofs.PartLemmas.{leads_in_whole, same_text_in_part}
use Rattle.sonic_find.proofs.PathLemmas.Outcome.{evaluates_one}
use Rattle.sonic_find.specs.Laws.{LeadsInPart}
use Rattle.sonic_find.specs.Paths.{found, found_here, Leads}
use Rattle.sonic_owned.proofs.MeantPathLemmas.{text_leads}
use Rattle.sonic_owned.proofs.OpenedLemmas.{span_sound}
use Rattle.sonic_owned.proofs.PutLawLemmas.{item_stays}
use Rattle.sonic_owned.specs.Forms.{Form, raw, IsSound, raw_sound}
use Rattle.sonic_owned.specs.Leading.{LeadsTo, leads_here, leads_on, leads_in_text}
use Rattle.sonic_text.proofs.TreeLemmas.{tree_of, value_of}
use Rattle.sonic_text.proofs.Values.{value_end_one, value_starts}
use Rattle.sonic_text.specs.Paths.{Path}
use Rattle.sonic_text.specs.Places.{after_space}
use Rattle.sonic_text.specs.Strings.{strict}
use Rattle.sonic_text.specs.Values.{IsValue}

-- where a path leads to a part, another one leads from there on
pub leads_further : {p q : Path} {f g h : Form} → LeadsTo p f g → LeadsTo q g h → LeadsTo (p ++ q) f h
leads_further leads_here m = m
leads_further (leads_on e l) m = leads_on e (leads_further l m)
leads_further {p} (leads_in_text e) leads_here = rw (append-nil p) (leads_in_text e)
leads_further (leads_in_text e) (leads_on d l) = absurd cc
leads_further {p} {q} (leads_in_text {b = b} {i} {j} e) (leads_in_text {i = k} {j = l} d) =
    let both : LeadsInPart b p q (i, j) (found k l) = record { first = e; next = d } in
    rw (same_text_in_part both) (leads_in_text (leads_in_whole both))

-- the value of a text that is one value is that text
whole_slice : {b : List ℕ} {i j : ℕ} → IsValue strict b 0 (length b) → Leads b [] (found i j) → slice_range b i j ≡ b
whole_slice {b} value (found_here y) =
    let own : IsValue strict b (after_space b 0) (length b) = rw (value_starts value) value in
    let long : length b - 0 ≡ length b = omega arith in
    rw (value_end_one y own, value_starts value, long) (take_all (length b) b (omega arith))

-- a path leads from a sound form to one part
pub leads_one : {p : Path} {f g h : Form} → IsSound f → LeadsTo p f g → LeadsTo p f h → g ≡ h
leads_one s leads_here leads_here = refl
leads_one (raw_sound value utf8) leads_here (leads_in_text e) = sym (ap raw (whole_slice value e))
leads_one (raw_sound value utf8) (leads_in_text e) leads_here = ap raw (whole_slice value e)
leads_one {h = h} s (leads_on {node} {rest = rest} {h = i} e l) (leads_on {h = k} d m) =
    let own : LeadsTo rest i h = rw (same_Some _ _ (sym d ∙ e)) at m in
    leads_one (item_stays node s e).item l own
leads_one s (leads_on e l) (leads_in_text d) = absurd cc
leads_one s (leads_in_text e) (leads_on d l) = absurd cc
leads_one {p} s (leads_in_text {i = i} {j} e) (leads_in_text {i = k} {j = l} d) =
    let same : found i j ≡ found k l = evaluates_one p e d in
    let start : i ≡ k = cc in
    let end : j ≡ l = cc in
    rw (start, end) refl

-- what is found in a sound text is sound
text_sound : {p : Path} {b : List ℕ} {i j : ℕ} → IsValue strict b 0 (length b) → IsUtf8 b → Leads b p (found i j) → IsSound (raw (slice_range b i j))
text_sound {p} value utf8 e = let (w, there, lead) = text_leads p (tree_of value).1 (rw (value_starts value) at e) in span_sound utf8 (value_of there)

-- a part of a sound form is sound
pub leads_sound : {p : Path} {f g : Form} → LeadsTo p f g → IsSound f → IsSound g
leads_sound leads_here s = s
leads_sound (leads_on {node} e l) s = leads_sound l (item_stays node s e).item
leads_sound (leads_in_text e) (raw_sound value utf8) = text_sound value utf8 e
