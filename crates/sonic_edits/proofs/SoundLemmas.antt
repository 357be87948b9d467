-- The edits that lines say are sound.
use Rattle.std.proofs.Common.{ℕ, List, [], ◌∷◌, length, take, arith}
use Rattle.std.proofs.Math.Seq.{take-length}
use Rattle.std.proofs.lemmas.List.Elements.{All-append, All-map, All-nil, All-cons}
use Rattle.std.specs.List.{All}
use Rattle.std.specs.Str.{IsUtf8}
use Rattle.sonic_edits.proofs.ElementLemmas.{each_item, elements_one, items_elements}
use Rattle.sonic_edits.specs.Heads.{SaysNextEdit, AreEditLines}
use Rattle.sonic_edits.specs.Lines.{AreElementTexts, IsEditLine, SaysEdit, says_set, says_push, says_pair, says_take}
use Rattle.sonic_find.proofs.DocumentLemmas.{alone_part}
use Rattle.sonic_find.proofs.Utf8Lemmas.{utf8_of_span}
use Rattle.sonic_lazy.specs.Items.{Item, IsItemAt}
use Rattle.sonic_find.specs.Answers.{span_text}
use Rattle.sonic_owned.specs.Edits.{IsSoundChange, AreSoundEdits}
use Rattle.sonic_owned.specs.Forms.{Form, raw, IsSound, raw_sound}
use Rattle.sonic_owned.specs.TreeEdits.{Edit}
use Rattle.sonic_paths.specs.Heads.{AreSaid, no_more_lines, next_line}
use Rattle.sonic_text.proofs.StringTexts.{string_utf8}
use Rattle.sonic_text.proofs.ValueParts.{value_of_part}
use Rattle.sonic_text.proofs.Within.{value_within}
use Rattle.sonic_text.specs.declared.kind.Kind.TheVariants.{Array}

-- the text is one value in UTF-8
abbrev IsSoundText : List ℕ → Type 0
IsSoundText b = IsSound (raw b)

sound_utf8 : {b : List ℕ} → IsSoundText b → IsUtf8 b
sound_utf8 (raw_sound value utf8) = utf8

-- that of an element is
element_sound : {t : List ℕ} → IsUtf8 t → (n : ℕ) (x : Item) → IsItemAt t Array n x → IsSoundText (span_text t x.span)
element_sound {t} utf8 n x is =
    let within = value_within is.value in
    let whole : IsUtf8 (take (length t) t) = rw (take-length t) utf8 in
    raw_sound (value_of_part is.value within) (utf8_of_span (length t) whole is.value within within)

elements_sound : {t : List ℕ} (texts : List (List ℕ)) → IsUtf8 t → AreElementTexts t texts → All IsSoundText texts
elements_sound {t} texts utf8 all =
    let text = λ (x : Item). span_text t x.span in
    let each = each_item (λ x. IsSoundText (text x)) (element_sound utf8) all.are in
    rw (elements_one all (items_elements all.are all.closed)) (All-map IsSoundText text all.items each)

-- so is what texts that are say
says_sound : {texts : List (List ℕ)} {e : Edit Form} → SaysEdit texts e → All IsSoundText texts → IsSoundChange e.change
says_sound (says_set {value = value} w p is) all = rw is (all 2 value (omega arith))
says_sound (says_push {value = value} w p is) all = rw is (all 2 value (omega arith))
says_sound (says_pair {key = key} {value} w p k is) all = rw is (string_utf8 (sound_utf8 (all 2 key (omega arith))) k, all 3 value (omega arith))
says_sound (says_take w p is) all = rw is tt

-- and what a line says
pub edit_line_sound : {line : List ℕ} {e : Edit Form} → IsEditLine line e → IsSoundChange e.change
edit_line_sound x =
    let utf8 : IsUtf8 x.text = rw x.value.is (alone_part x.utf8 x.value.alone).utf8 in
    says_sound x.says (elements_sound x.elements utf8 x.array)

-- and what each of many says
lines_sound : {earlier es : List (Edit Form)} {lines : List (List ℕ)} → AreSaid SaysNextEdit earlier lines es → AreSoundEdits earlier → AreSoundEdits es
lines_sound no_more_lines sound = sound
lines_sound {earlier} {es} (next_line {between = more} {lines = lines} x xs) sound =
    let Sound = λ (e : Edit Form). IsSoundChange e.change in
    let first : All Sound (x.edit ∷ []) = All-cons Sound x.edit [] (edit_line_sound x.says) (All-nil Sound) in
    let all : AreSoundEdits more = rw x.is (All-append Sound earlier (x.edit ∷ []) sound first) in
    lines_sound xs all

pub edit_lines_sound : {lines : List (List ℕ)} {es : List (Edit Form)} → AreEditLines lines es → AreSoundEdits es
edit_lines_sound said = lines_sound said (All-nil _)
