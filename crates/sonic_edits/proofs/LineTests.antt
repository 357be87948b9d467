-- A line says an edit, or it says none.
use Rattle.std.proofs.Common.{◌≡◌, ◌⊎◌, inl, inr, ap, refl, ℕ, List, [], ◌∷◌, false, codes, length, arith}
use Rattle.std.proofs.lemmas.Bool.{cases_eq}
use Rattle.std.specs.Prelude.{slice_range}
use Rattle.std.specs.Str.{IsUtf8}
use Rattle.sonic_edits.proofs.ElementLemmas.{never_bytes, items_elements, elements_one, own_elements, texts_of}
use Rattle.sonic_edits.proofs.SayingLemmas.{line_elements, pair_key, parts_of, says_change, denotes_one, says_two}
use Rattle.sonic_edits.specs.Lines.{AreElementTexts, Denotes, IsEditLine, SaysEdit}
use Rattle.sonic_edits.specs.Internal.Reading.{SaysChange, sets, pushes, pairs, takes}
use Rattle.sonic_find.proofs.AnswerLemmas.One.{utf8_or_not}
use Rattle.sonic_find.proofs.DocumentLemmas.{alone_never_invalid, document_one}
use Rattle.sonic_lazy.proofs.ListingLemmas.{listing_one}
use Rattle.sonic_find.specs.Documents.{IsDocumentValue}
use Rattle.sonic_lazy.specs.Items.{closed, Listing, Ending, EndsItems, at_broken_text, at_bracket, at_stop, IsListing}
use Rattle.sonic_owned.specs.Forms.{Form, raw}
use Rattle.sonic_owned.specs.TreeEdits.{Change, set, push, pair, take, Edit}
use Rattle.sonic_paths.proofs.LineTests.{node_line_or_none}
use Rattle.sonic_paths.proofs.MixedPaths.{text_or_other}
use Rattle.sonic_text.proofs.Strings.{string_some, string_one, string_never_both}
use Rattle.sonic_text.specs.Places.{byte, after_space}
use Rattle.sonic_text.specs.Strings.{strict}
use Rattle.sonic_text.specs.declared.kind.Kind.TheVariants.{Array}

-- some text that a text denotes
abbrev SomeText : List ℕ → Type 0
SomeText t = (b : List ℕ) × Denotes t b

-- a text denotes one, or none
text_or_none : (t : List ℕ) → SomeText t ⊎ ¬ SomeText t
text_or_none t = elim (cases_eq (byte t 0) 34) [
  | inr other ↦ inr (λ x. other x.1.opens)
  | inl quote ↦ elim (string_some strict t 0 quote) [
    | inr f ↦ inr (λ x. string_never_both x.1 f.1)
    | inl (k, (b, s)) ↦ elim (cases_eq k (length t)) [
      | inl e ↦ inl (b, rw e at s)
      | inr d ↦ inr (λ x. d (string_one s x.1).0)
    ]
  ]
]

-- some change that a word asks for
abbrev SomeChange : List ℕ → List (List ℕ) → Type 0
SomeChange word operands = (c : Change Form) × SaysChange word operands c

takes_alone : {word : List ℕ} {c : Change Form} → SaysChange word [] c → word ≡ codes "take"
takes_alone (takes e is) = e

sets_or_pushes : {word value : List ℕ} {c : Change Form} → SaysChange word (value ∷ []) c → (word ≡ codes "set") ⊎ (word ≡ codes "push")
sets_or_pushes (sets e is) = inl e
sets_or_pushes (pushes e is) = inr e

pairs_alone : {word key value : List ℕ} {c : Change Form} → SaysChange word (key ∷ value ∷ []) c → word ≡ codes "pair"
pairs_alone (pairs e k is) = e

-- a word asks for a change, or for none
change_or_none : (word : List ℕ) (operands : List (List ℕ)) → SomeChange word operands ⊎ ¬ SomeChange word operands
change_or_none word [] = elim (text_or_other word (codes "take")) [
  | inl e ↦ inl (take, takes e refl)
  | inr d ↦ inr (λ x. d (takes_alone x.1))
]
change_or_none word (value ∷ []) = elim (text_or_other word (codes "set")) [
  | inl e ↦ inl (set (raw value), sets e refl)
  | inr d ↦ elim (text_or_other word (codes "push")) [
    | inl e ↦ inl (push (raw value), pushes e refl)
    | inr f ↦ inr (λ x. elim (sets_or_pushes x.1) [ inl e ↦ d e | inr e ↦ f e ])
  ]
]
change_or_none word (key ∷ value ∷ []) = elim (text_or_other word (codes "pair")) [
  | inr d ↦ inr (λ x. d (pairs_alone x.1))
  | inl e ↦ elim (text_or_none key) [
    | inl k ↦ inl (pair k.0 (raw value), pairs e k.1 refl)
    | inr none ↦ inr (λ x. none (pair_key x.1))
  ]
]
change_or_none word (a ∷ b ∷ c ∷ operands) = inr (λ x. elim x.1 [ ])

-- some edit that texts say
abbrev SomeEdit : List (List ℕ) → Type 0
SomeEdit texts = (e : Edit Form) × SaysEdit texts e

-- texts say an edit, or none
edit_or_none : (texts : List (List ℕ)) → SomeEdit texts ⊎ ¬ SomeEdit texts
edit_or_none [] = inr (λ x. let two = says_two x.1 in omega arith)
edit_or_none (word ∷ []) = inr (λ x. let two = says_two x.1 in omega arith)
edit_or_none (word ∷ path ∷ operands) = elim (text_or_none word) [
  | inr none ↦ inr (λ x. let parts = parts_of x.1 in none (parts.denoted, parts.word))
  | inl b ↦ elim (node_line_or_none path) [
    | inr none ↦ inr (λ x. let parts = parts_of x.1 in none (x.0.path, parts.path))
    | inl p ↦ elim (change_or_none b.0 operands) [
      | inl c ↦ inl (record { path = p.0; change = c.0 }, says_change b.1 p.1 c.1)
      | inr none ↦ inr (λ x.
          let parts = parts_of x.1 in
          let change : SaysChange b.0 operands x.0.change = rw (denotes_one parts.word b.1) at parts.change in
          none (x.0.change, change))
    ]
  ]
]

-- some texts of the elements of an array
abbrev SomeElements : List ℕ → Type 0
SomeElements t = (texts : List (List ℕ)) × AreElementTexts t texts

-- elements end with the bracket alone
elements_end : {t : List ℕ} {listing : Listing} → SomeElements t → IsListing t false Array listing → listing.ending ≡ closed
elements_end {t} {listing} x l =
    let all = x.1 in
    let own : Listing = record { items = all.items; ending = closed } in
    let is : IsListing t false Array own = record { count = all.count; items = all.are; ending = at_bracket (λ e. absurd (never_bytes e)) all.closed refl } in
    ap (λ (l : Listing). l.ending) ((listing_one t false Array).one listing own l is)

-- a text begins with an array, or doesn't
by_ending : {t : List ℕ} {listing : Listing} (l : IsListing t false Array listing) {e : Ending} → EndsItems t false Array l.count e → (listing.ending ≡ e) → SomeElements t ⊎ ¬ SomeElements t
by_ending l (at_broken_text b broken z is) e = absurd (never_bytes b)
by_ending {t} {listing} l (at_bracket u closes is) e = inl (texts_of t listing.items, items_elements l.items closes)
by_ending l (at_stop u s is) e = inr (λ x. let shut = elements_end x l in absurd cc)

elements_or_none : (t : List ℕ) → SomeElements t ⊎ ¬ SomeElements t
elements_or_none t = let some = (listing_one t false Array).some in by_ending some.1 some.1.ending refl

-- some edit that a line says
abbrev pub SomeLine : List ℕ → Type 0
SomeLine line = (e : Edit Form) × IsEditLine line e

-- a valid document says one, or none
document_line : (line text : List ℕ) → IsUtf8 line → IsDocumentValue line text → SomeLine line ⊎ ¬ SomeLine line
document_line line text utf8 value = elim (elements_or_none text) [
  | inr none ↦ inr (λ x. none (x.1.elements, own_elements value (line_elements x.1)))
  | inl a ↦ elim (edit_or_none a.0) [
    | inl s ↦ inl (s.0, record { utf8 = utf8; text = text; value = value; elements = a.0; array = a.1; says = s.1 })
    | inr none ↦ inr (λ x.
        let says : SaysEdit a.0 x.0 = rw (elements_one (own_elements value (line_elements x.1)) a.1) at x.1.says in
        none (x.0, says))
  ]
]

-- and so does each line
pub edit_line_or_none : (line : List ℕ) → SomeLine line ⊎ ¬ SomeLine line
edit_line_or_none line = elim (utf8_or_not line) [
  | inr broken ↦ inr (λ x. broken x.1.utf8)
  | inl utf8 ↦ elim ((document_one line false (λ e. utf8)).some_reason) [
    | inr f ↦ inr (λ x. alone_never_invalid x.1.value.alone f.1)
    | inl v ↦
        let value : IsDocumentValue line (slice_range line (after_space line 0) v.alone.end) =
        record { start = after_space line 0; end = v.alone.end; alone = record { start = refl; root = v.alone.root; end = v.alone.place }; is = refl } in
        document_line line (slice_range line (after_space line 0) v.alone.end) utf8 value
  ]
]
