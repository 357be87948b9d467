-- A text says a patch, or it says none for a reason.
use Rattle.std.proofs.Common.{◌≡◌, ◌≢◌, ◌⊎◌, ◌∙◌, ◌+◌, inl, inr, ap, sym, refl, ℕ, Bool, true, false, Decides, List, [], ◌∷◌, codes, length, slice_range, arith}
use Rattle.std.proofs.lemmas.Bool.{cases_eq, cases_lt}
use Rattle.std.proofs.lemmas.Slice.Eq.{bytes_eq-Decides}
use Rattle.std.specs.Str.{bytes_eq, IsUtf8}
use Rattle.sonic_find.proofs.DocumentLemmas.{document_one}
use Rattle.sonic_find.proofs.PathLemmas.Outcome.{evaluates_one, evaluates_some}
use Rattle.sonic_find.specs.Documents.{IsDocumentValue}
use Rattle.sonic_find.specs.Paths.{Outcome, found, lacks, fails, cut, Leads}
use Rattle.sonic_lazy.proofs.ListingLemmas.{listing_one}
use Rattle.sonic_lazy.specs.Items.{Listing, Ending, closed, stopped, IsListing}
use Rattle.sonic_owned.specs.Forms.{Form}
use Rattle.sonic_patch.proofs.ElementLemmas.{texts_of, closed_again}
use Rattle.sonic_patch.proofs.OperationLemmas.{member_one, text_one, word_back, word_again, word_one, word_of, path_of, has_word, has_path, to_texts, some_of, read_of, lacks_value, lacks_from}
use Rattle.sonic_patch.proofs.PieceLemmas.{are_head, behind_slash, other_start, tokens_one}
use Rattle.sonic_patch.proofs.EscapeLemmas.{byte_said, escape_said, behind_said, other_follows}
use Rattle.sonic_patch.specs.Internal.Pieces.{IsTokenText, IsReadBy}
use Rattle.sonic_patch.specs.Internal.Texts.{word_text, Texts, of_remove, of_valued, of_paired, HasTexts, AreRead}
use Rattle.sonic_patch.specs.Operations.{Operation}
use Rattle.sonic_patch.specs.Pointers.{pieces, Token, no_byte, a_slash, a_tilde, a_byte, AreTokens, no_more_tokens, one_more_token, SaysTokens, no_token, some_tokens, SaysFewTokens}
use Rattle.sonic_patch.specs.Reading.{HasMember, SaysText, AnyText, IsSomeOperation, Fault, bad_shape, bad_pointer, long_pointer, HasFault, no_shape, no_pointers, long_pointers, AreOperations, no_operation, one_more_operation, IsFirstFault, fault_here, fault_later, AreItemTexts, IsArrayOf, SaysPatch, Reason, no_json, no_array, no_operation_at, HasReason, is_invalid, is_other, has_first_fault}
use Rattle.sonic_patch.specs.declared.parts.Word.{Word}
use Rattle.sonic_patch.specs.declared.parts.Word.TheVariants as word
use Rattle.sonic_text.proofs.Strings.{string_some, string_one, string_never_both}
use Rattle.sonic_text.specs.Paths.{key}
use Rattle.sonic_text.specs.Places.{byte, after_space}
use Rattle.sonic_text.specs.Strings.{strict, IsString}
use Rattle.sonic_text.specs.declared.kind.Kind.TheVariants.{Array}

-- two texts are the same or not
same_by_test : (a b : List ℕ) (r : Bool) → Decides r (a ≡ b) → (a ≡ b) ⊎ (a ≢ b)
same_by_test a b true d = inl (d.0 refl)
same_by_test a b false d = inr (λ e. let h = d.1 e in absurd cc)

same_or_other : (a b : List ℕ) → (a ≡ b) ⊎ (a ≢ b)
same_or_other a b = same_by_test a b (bytes_eq a b) (bytes_eq-Decides a b)

-- so or not
abbrev OrNot : Type 0 → Type 0
OrNot P = P ⊎ ¬ P

-- a piece that begins with a tilde, or with any byte, is a token or not, where that is known of its rest
tilde_or_none : (d : ℕ) (t : List ℕ) → OrNot (IsTokenText t) → OrNot (IsTokenText (126 ∷ d ∷ t))
tilde_or_none d t rest = elim rest [
  | inr none ↦ inr (λ x. none (behind_said refl (escape_said x.1 refl)))
  | inl x ↦ elim (cases_eq d 49) [
    | inl e ↦ inl (47 ∷ x.0, rw e (a_slash x.1))
    | inr one ↦ elim (cases_eq d 48) [
      | inl e ↦ inl (126 ∷ x.0, rw e (a_tilde x.1))
      | inr other ↦ inr (λ y. other_follows (λ more e. one cc) (λ more e. other cc) (escape_said y.1 refl))
    ]
  ]
]

byte_or_none : (b : ℕ) (t : List ℕ) → OrNot (IsTokenText t) → OrNot (IsTokenText (126 ∷ t)) → OrNot (IsTokenText (b ∷ t))
byte_or_none b t plain escaped = elim (cases_eq b 126) [
  | inl e ↦ rw e escaped
  | inr other ↦ elim plain [
    | inl x ↦ inl (b ∷ x.0, a_byte other x.1)
    | inr none ↦ inr (λ x. none (byte_said x.1 refl other))
  ]
]

token_or_none : (t : List ℕ) → OrNot (IsTokenText t) × OrNot (IsTokenText (126 ∷ t))
token_or_none [] = (inl ([], no_byte), inr (λ x. other_follows (λ more e. absurd cc) (λ more e. absurd cc) (escape_said x.1 refl)))
token_or_none (b ∷ t) = let rest = token_or_none t in (byte_or_none b t rest.0 rest.1, tilde_or_none b t rest.0)

-- pieces say tokens or not, and so does a pointer
tokens_or_none : (ps : List (List ℕ)) → OrNot ((tokens : List Token) × AreTokens ps tokens)
tokens_or_none [] = inl ([], no_more_tokens)
tokens_or_none (p ∷ ps) = elim (token_or_none p).0 [
  | inr none ↦ inr (λ x. none (are_head x.1 refl).0)
  | inl x ↦ elim (tokens_or_none ps) [
    | inl xs ↦ inl (x.0 ∷ xs.0, one_more_token x.1 xs.1)
    | inr none ↦ inr (λ y. let parts = are_head y.1 refl in none (parts.1, parts.2))
  ]
]

pointer_or_none : (t : List ℕ) → OrNot (IsReadBy SaysTokens t)
pointer_or_none [] = inl ([], no_token)
pointer_or_none (b ∷ t) = elim (cases_eq b 47) [
  | inr other ↦ inr (λ x. other_start (λ e. omega (arith, e)) (λ behind e. other cc) x.1)
  | inl e ↦ elim (tokens_or_none (pieces t)) [
    | inl x ↦ inl (x.0, rw e (some_tokens x.1))
    | inr none ↦ inr (λ x. none (x.0, behind_slash x.1 (ap (λ b. b ∷ t) e)))
  ]
]

few_or_none : (t : List ℕ) → OrNot (IsReadBy SaysFewTokens t)
few_or_none t = elim (pointer_or_none t) [
  | inr none ↦ inr (λ x. none (x.0, x.1.0))
  | inl x ↦ elim (cases_lt 255 (length x.0)) [
    | inl more ↦ inr (λ y. omega (arith, ap length (tokens_one x.1 y.1.0 refl), y.1.1, more))
    | inr few ↦ inl (x.0, (x.1, few))
  ]
]

-- an object has a member with a key or not
abbrev SomeMember : List ℕ → List ℕ → Type 0
SomeMember o k = (v : List ℕ) × HasMember o k v

member_by : {o k : List ℕ} (x : Outcome) → Leads o (key k ∷ []) x → OrNot (SomeMember o k)
member_by {o} (found i j) l = inl (slice_range o i j, record { start = i; end = j; leads = l; is = refl })
member_by {k = k} (lacks q) l = inr (λ m. let clash = evaluates_one (key k ∷ []) l m.1.leads in absurd cc)
member_by {k = k} (fails s) l = inr (λ m. let clash = evaluates_one (key k ∷ []) l m.1.leads in absurd cc)
member_by {k = k} (cut s) l = inr (λ m. let clash = evaluates_one (key k ∷ []) l m.1.leads in absurd cc)

member_or_none : (o k : List ℕ) → OrNot (SomeMember o k)
member_or_none o k = let x = evaluates_some o (key k ∷ []) (after_space o 0) in member_by x.0 x.1

-- a text is a string or not
abbrev SomeString : List ℕ → Type 0
SomeString t = (b : List ℕ) × IsString strict t 0 (length t) b

string_or_none : (t : List ℕ) → OrNot (SomeString t)
string_or_none t = elim (cases_eq (byte t 0) 34) [
  | inr other ↦ inr (λ x. other x.1.opens)
  | inl quote ↦ elim (string_some strict t 0 quote) [
    | inr f ↦ inr (λ x. string_never_both x.1 f.1)
    | inl (k, (b, s)) ↦ elim (cases_eq k (length t)) [
      | inl e ↦ inl (b, rw e at s)
      | inr d ↦ inr (λ x. d (string_one s x.1).0)
    ]
  ]
]

-- so an object says a text by a key or not
abbrev SomeText : List ℕ → List ℕ → Type 0
SomeText o k = (b : List ℕ) × SaysText o k b

text_of_member : {o k v : List ℕ} → HasMember o k v → OrNot (SomeText o k)
text_of_member {v = v} m = elim (string_or_none v) [
  | inl s ↦ inl (s.0, record { value = v; member = m; string = s.1 })
  | inr none ↦ inr (λ x.
      let own : IsString strict v 0 (length v) x.0 = rw (member_one x.1.member m) at x.1.string in
      none (x.0, own))
]

text_or_none : (o k : List ℕ) → OrNot (SomeText o k)
text_or_none o k = elim (member_or_none o k) [
  | inr none ↦ inr (λ x. none (x.1.value, x.1.member))
  | inl m ↦ text_of_member m.1
]

-- a text is a word or not
word_or_none : (b : List ℕ) → ((w : Word) × (b ≡ word_text w)) ⊎ ((w : Word) → b ≢ word_text w)
word_or_none b = elim (same_or_other b (word_text (word_back b))) [
  | inl e ↦ inl (word_back b, e)
  | inr other ↦ inr (λ w e. other (e ∙ sym (ap word_text (ap word_back e ∙ word_again w))))
]

-- an object has the texts of an operation or not
abbrev SomeTexts : List ℕ → Type 0
SomeTexts o = (texts : Texts) × HasTexts o texts

texts_by_word : {o path : List ℕ} (w : Word) → SaysText o (codes "op") (word_text w) → SaysText o (codes "path") path → OrNot (SomeTexts o)
texts_by_word {path = p} word.Remove op path = inl (of_remove p, (op, path))
texts_by_word {o} {path = p} (word.Valued w) op path = elim (member_or_none o (codes "value")) [
  | inl v ↦ inl (of_valued w p v.0, (op, path, v.1))
  | inr none ↦ inr (λ x. lacks_value x.0 x.1 (word_one (word_of x.0) (word.Valued w) (text_one (has_word x.0 x.1) op)) (λ v m. none (v, m)))
]
texts_by_word {o} {path = p} (word.Paired w) op path = elim (text_or_none o (codes "from")) [
  | inl f ↦ inl (of_paired w f.0 p, (op, path, f.1))
  | inr none ↦ inr (λ x. lacks_from x.0 x.1 (word_one (word_of x.0) (word.Paired w) (text_one (has_word x.0 x.1) op)) (λ b f. none (b, f)))
]

texts_with_op : {o b : List ℕ} (w : Word) → b ≡ word_text w → SaysText o (codes "op") b → OrNot (SomeTexts o)
texts_with_op {o} w e op = elim (text_or_none o (codes "path")) [
  | inr none ↦ inr (λ x. none (path_of x.0, has_path x.0 x.1))
  | inl p ↦ texts_by_word w (rw e at op) p.1
]

texts_or_none : (o : List ℕ) → OrNot (SomeTexts o)
texts_or_none o = elim (text_or_none o (codes "op")) [
  | inr none ↦ inr (λ x. none (word_text (word_of x.0), has_word x.0 x.1))
  | inl b ↦ elim (word_or_none b.0) [
    | inr none ↦ inr (λ x. none (word_of x.0) (text_one b.1 (has_word x.0 x.1)))
    | inl w ↦ texts_with_op w.0 w.1 b.1
  ]
]

-- so an object is an operation or not, where its pointers are read or not
read_or_none : (Reads : List ℕ → List Token → Type 0) → ((t : List ℕ) → OrNot (IsReadBy Reads t)) → (texts : Texts) → OrNot (AreRead Reads texts)
read_or_none Reads test (of_remove p) = test p
read_or_none Reads test (of_valued w p v) = test p
read_or_none Reads test (of_paired w f p) = elim (test f) [
  | inr none ↦ inr (λ x. none x.0)
  | inl a ↦ elim (test p) [ inl b ↦ inl (a, b) | inr none ↦ inr (λ x. none x.1) ]
]

some_or_none : (Reads : List ℕ → List Token → Type 0) → ((t : List ℕ) → OrNot (IsReadBy Reads t)) → (o : List ℕ) → OrNot (IsSomeOperation Reads o)
some_or_none Reads test o = elim (texts_or_none o) [
  | inr none ↦ inr (λ x. let t = to_texts x.1 in none (t.texts, t.has))
  | inl t ↦ elim (read_or_none Reads test t.0) [
    | inl r ↦ inl (some_of t.0 t.1 r)
    | inr none ↦ inr (λ x. none (read_of t.0 t.1 x))
  ]
]

operation_or_fault : (o : List ℕ) → IsSomeOperation SaysFewTokens o ⊎ ((fault : Fault) × HasFault o fault)
operation_or_fault o = elim (some_or_none SaysFewTokens few_or_none o) [
  | inl x ↦ inl x
  | inr few ↦ elim (some_or_none SaysTokens pointer_or_none o) [
    | inl x ↦ inr (long_pointer, long_pointers x few)
    | inr none ↦ elim (some_or_none AnyText (λ t. inl ([], tt)) o) [
      | inl x ↦ inr (bad_pointer, no_pointers x none)
      | inr never ↦ inr (bad_shape, no_shape never)
    ]
  ]
]

-- elements are operations, or one is the first that is none
operations_or_fault : (es : List (List ℕ)) → ((ops : List (Operation Form)) × AreOperations es ops) ⊎ ((n : ℕ) × (fault : Fault) × IsFirstFault es n fault)
operations_or_fault [] = inl ([], no_operation)
operations_or_fault (e ∷ es) = elim (operation_or_fault e) [
  | inr f ↦ inr (0, f.0, fault_here f.1 refl)
  | inl op ↦ elim (operations_or_fault es) [
    | inl ops ↦ inl (op.0 ∷ ops.0, one_more_operation op.1 ops.1)
    | inr f ↦ inr (f.0 + 1, f.1, fault_later op.1 f.2 refl)
  ]
]

-- a text is an array or not
elements_by : {t : List ℕ} (l : Listing) → IsListing t false Array l → (e : Ending) → l.ending ≡ e
    → ((texts : List (List ℕ)) × AreItemTexts t texts) ⊎ ((texts : List (List ℕ)) → ¬ AreItemTexts t texts)
elements_by {t} l is closed e = inl (texts_of t l.items, record { items = l.items; listing = closed_again l e is; are = refl })
elements_by {t} l is (stopped s) e = inr (λ texts all.
    let own : Listing = record { items = all.items; ending = closed } in
    let same = ap (λ (l : Listing). l.ending) ((listing_one t false Array).one l own is all.listing) in
    let clash = sym e ∙ same in
    absurd cc)

elements_or_none : (t : List ℕ) → ((texts : List (List ℕ)) × AreItemTexts t texts) ⊎ ((texts : List (List ℕ)) → ¬ AreItemTexts t texts)
elements_or_none t = let some = (listing_one t false Array).some in elements_by some.0 some.1 some.0.ending refl

-- a text says a patch, or has a reason why it says none
abbrev pub SaysSomething : List ℕ → Type 0
SaysSomething t = ((ops : List (Operation Form)) × SaysPatch t ops) ⊎ ((reason : Reason) × HasReason t reason)

array_says : {t : List ℕ} (es : List (List ℕ)) → IsArrayOf t es → SaysSomething t
array_says es array = elim (operations_or_fault es) [
  | inl ops ↦ inl (ops.0, record { elements = es; array = array; are = ops.1 })
  | inr f ↦ inr (no_operation_at f.0 f.1, has_first_fault array f.2)
]

document_says : {t b : List ℕ} → IsDocumentValue t b → SaysSomething t
document_says {b = b} value = elim (elements_or_none b) [
  | inr none ↦ inr (no_array, is_other value none)
  | inl es ↦ array_says es.0 (record { array = b; value = value; elements = es.1 })
]

pub text_says : (t : List ℕ) → IsUtf8 t → SaysSomething t
text_says t utf8 = elim ((document_one t false (λ e. utf8)).some_reason) [
  | inr f ↦ inr (no_json f.0, is_invalid f.1)
  | inl v ↦
      let value : IsDocumentValue t (slice_range t (after_space t 0) v.alone.end) =
      record { start = after_space t 0; end = v.alone.end; alone = record { start = refl; root = v.alone.root; end = v.alone.place }; is = refl } in
      document_says value
]
