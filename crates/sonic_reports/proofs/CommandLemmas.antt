-- Words ask for a command, or for none.
use Rattle.std.proofs.Common.{◌≡◌, ◌≢◌, ◌⊎◌, inl, inr, ℕ, ◌<◌, ◌≤◌, Bool, true, false, List, [], ◌∷◌, length, map, get_or, codes, arith, refl, sym, ap, ◌∙◌}
use Rattle.std.proofs.lemmas.Bool.{cases_lt}
use Rattle.std.proofs.lemmas.Fmt.{decimal_is_IsNumeral, parse-decimal}
use Rattle.std.specs.Prelude.{◌^◌, Ok, not}
use Rattle.std.specs.declared.result.Result.{Result}
use Rattle.std.specs.Fmt.{decimal}
use Rattle.std.specs.Str.Parse.{digits_value, ParsesUnsigned}
use Rattle.sonic_pointer.specs.declared.rule.KeyRule.{KeyRule}
use Rattle.sonic_pointer.specs.declared.rule.KeyRule.TheVariants.{First, Last, Refuse}
use Rattle.sonic_reports.specs.declared.commands.Command.{Command}
use Rattle.std.proofs.lemmas.Slice.Eq.{bytes_eq-Decides}
use Rattle.std.specs.Bool.{Decides}
use Rattle.std.specs.Str.{bytes_eq}
use Rattle.sonic_reports.specs.declared.commands.Command.TheVariants.{Get, List as Items, Edit, Fill, Fast, Indent, Index, Lines, Min, Patch, Gen}
use Rattle.sonic_reports.specs.Commands.{Asks, IsListed, Reads, rule_word, most_objects, most_blanks}
use Rattle.sonic_reports.specs.Commands.Asks.{no_word, get_word, list_word, edit_word, fill_word, fast_word, indent_words, index_word, lines_word, min_word, patch_word, gen_words, keys_words}

-- no words are none
pub no_words : {A : Type 0} (f : A → List ℕ) (words : List A) → length words < 1 → map f words ≡ []
no_words f [] low = refl
no_words f (w ∷ ws) low = absurd (omega arith)

-- one word is that word
pub one_word : {A : Type 0} (f : A → List ℕ) (words : List A) (word : A) → 1 ≤ length words → length words < 2 → word ≡ get_or words 0 word
    → map f words ≡ f word ∷ []
one_word f [] word low high e = absurd (omega arith)
one_word f (w ∷ []) word low high e = rw e refl
one_word f (w ∷ v ∷ ws) word low high e = absurd (omega arith)

-- two words are these words
pub two_words : {A : Type 0} (f : A → List ℕ) (words : List A) (word next : A) → 2 ≤ length words → length words < 3 → word ≡ get_or words 0 word
    → next ≡ get_or words 1 next → map f words ≡ f word ∷ f next ∷ []
two_words f [] word next low high e d = absurd (omega arith)
two_words f (w ∷ []) word next low high e d = absurd (omega arith)
two_words f (w ∷ v ∷ []) word next low high e d = rw (e, d) refl
two_words f (w ∷ v ∷ u ∷ ws) word next low high e d = absurd (omega arith)

-- three words are these words
pub three_words : {A : Type 0} (f : A → List ℕ) (words : List A) (word next last : A) → 3 ≤ length words → length words < 4 → word ≡ get_or words 0 word
    → next ≡ get_or words 1 next → last ≡ get_or words 2 last → map f words ≡ f word ∷ f next ∷ f last ∷ []
three_words f [] word next last low high e d c = absurd (omega arith)
three_words f (w ∷ []) word next last low high e d c = absurd (omega arith)
three_words f (w ∷ v ∷ []) word next last low high e d c = absurd (omega arith)
three_words f (w ∷ v ∷ u ∷ []) word next last low high e d c = rw (e, d, c) refl
three_words f (w ∷ v ∷ u ∷ t ∷ ws) word next last low high e d c = absurd (omega arith)

-- one word that asks for a command is its name
pub only_named : {word : List ℕ} → IsListed (word ∷ []) → (word ≡ codes "get") ⊎ (word ≡ codes "list") ⊎ (word ≡ codes "edit") ⊎ (word ≡ codes "fill") ⊎ (word ≡ codes "fast") ⊎ (word ≡ codes "index") ⊎ (word ≡ codes "lines") ⊎ (word ≡ codes "min")
    ⊎ (word ≡ codes "patch")
only_named (_, no_word e) = absurd cc
only_named (_, get_word e) = inl cc
only_named (_, keys_words e) = absurd cc
only_named (_, list_word e) = inr (inl cc)
only_named (_, edit_word e) = inr (inr (inl cc))
only_named (_, fill_word e) = inr (inr (inr (inl cc)))
only_named (_, fast_word e) = inr (inr (inr (inr (inl cc))))
only_named (_, index_word e) = inr (inr (inr (inr (inr (inl cc)))))
only_named (_, lines_word e) = inr (inr (inr (inr (inr (inr (inl cc))))))
only_named (_, min_word e) = inr (inr (inr (inr (inr (inr (inr (inl cc)))))))
only_named (_, patch_word e) = inr (inr (inr (inr (inr (inr (inr (inr cc)))))))
only_named (_, indent_words e h) = absurd cc
only_named (_, gen_words e l h) = absurd cc

-- a text is the decimal of this number, which is in a range
record IsDecimalIn (least most : ℕ) (text : List ℕ) (n : ℕ) : Type 0 where
  is : text ≡ decimal n
  from : least ≤ n
  to : n ≤ most

-- the range of `gen`, and of `indent`
abbrev IsCount : List ℕ → ℕ → Type 0
IsCount = IsDecimalIn 1 most_objects

abbrev IsWidth : List ℕ → ℕ → Type 0
IsWidth = IsDecimalIn 0 most_blanks

-- two words that ask for a command are `gen` or `indent` and such a text
only_counted : {word next : List ℕ} → IsListed (word ∷ next ∷ [])
    → ((word ≡ codes "gen") × ((n : ℕ) × IsCount next n)) ⊎ ((word ≡ codes "indent") × ((n : ℕ) × IsWidth next n))
only_counted (_, no_word e) = absurd cc
only_counted (_, get_word e) = absurd cc
only_counted (_, keys_words e) = absurd cc
only_counted (_, list_word e) = absurd cc
only_counted (_, edit_word e) = absurd cc
only_counted (_, fill_word e) = absurd cc
only_counted (_, fast_word e) = absurd cc
only_counted (_, index_word e) = absurd cc
only_counted (_, lines_word e) = absurd cc
only_counted (_, min_word e) = absurd cc
only_counted (_, patch_word e) = absurd cc
only_counted (_, indent_words {n} e h) = inr (cc, (n, record { is = cc; from = omega arith; to = h }))
only_counted (_, gen_words {n} e l h) = inl (cc, (n, record { is = cc; from = l; to = h }))

-- three words that ask for a command are `get`, `--keys` and the name of a rule
only_ruled : {word next last : List ℕ} → IsListed (word ∷ next ∷ last ∷ [])
    → (word ≡ codes "get") × (next ≡ codes "--keys") × ((rule : KeyRule) × (last ≡ rule_word rule))
only_ruled (_, no_word e) = absurd cc
only_ruled (_, get_word e) = absurd cc
only_ruled (_, keys_words {r} e) = (cc, cc, (r, cc))
only_ruled (_, list_word e) = absurd cc
only_ruled (_, edit_word e) = absurd cc
only_ruled (_, fill_word e) = absurd cc
only_ruled (_, fast_word e) = absurd cc
only_ruled (_, index_word e) = absurd cc
only_ruled (_, lines_word e) = absurd cc
only_ruled (_, min_word e) = absurd cc
only_ruled (_, patch_word e) = absurd cc
only_ruled (_, indent_words e h) = absurd cc
only_ruled (_, gen_words e l h) = absurd cc

-- so they ask for none by another word
pub not_get : {word next last : List ℕ} → word ≢ codes "get" → ¬ IsListed (word ∷ next ∷ last ∷ [])
not_get other l = other (only_ruled l).0

pub not_keys : {word next last : List ℕ} → next ≢ codes "--keys" → ¬ IsListed (word ∷ next ∷ last ∷ [])
not_keys other l = other (only_ruled l).1

pub no_rule : {word next last : List ℕ} → ((rule : KeyRule) → last ≢ rule_word rule) → ¬ IsListed (word ∷ next ∷ last ∷ [])
no_rule none l = let named = (only_ruled l).2 in none named.0 named.1

-- a word that is none of the three names no rule
pub unnamed_rule : {word : List ℕ} → word ≢ codes "first" → word ≢ codes "last" → word ≢ codes "refuse" → (rule : KeyRule) → word ≢ rule_word rule
unnamed_rule first last refuse First = first
unnamed_rule first last refuse Last = last
unnamed_rule first last refuse Refuse = refuse

-- four words and more ask for none
four_unlisted : (word next last more : List ℕ) (words : List (List ℕ)) → ¬ IsListed (word ∷ next ∷ last ∷ more ∷ words)
four_unlisted word next last more words (_, no_word e) = absurd cc
four_unlisted word next last more words (_, get_word e) = absurd cc
four_unlisted word next last more words (_, keys_words e) = absurd cc
four_unlisted word next last more words (_, list_word e) = absurd cc
four_unlisted word next last more words (_, edit_word e) = absurd cc
four_unlisted word next last more words (_, fill_word e) = absurd cc
four_unlisted word next last more words (_, fast_word e) = absurd cc
four_unlisted word next last more words (_, index_word e) = absurd cc
four_unlisted word next last more words (_, lines_word e) = absurd cc
four_unlisted word next last more words (_, min_word e) = absurd cc
four_unlisted word next last more words (_, patch_word e) = absurd cc
four_unlisted word next last more words (_, indent_words e h) = absurd cc
four_unlisted word next last more words (_, gen_words e l h) = absurd cc

-- so do words of such a number
pub more_unlisted : {A : Type 0} (f : A → List ℕ) (words : List A) → 4 ≤ length words → ¬ IsListed (map f words)
more_unlisted f [] many listed = omega arith
more_unlisted f (w ∷ []) many listed = omega arith
more_unlisted f (w ∷ v ∷ []) many listed = omega arith
more_unlisted f (w ∷ v ∷ u ∷ []) many listed = omega arith
more_unlisted f (w ∷ v ∷ u ∷ t ∷ ws) many listed = four_unlisted (f w) (f v) (f u) (f t) (map f ws) listed

-- a test says so
by_test : {P : Type 0} (b : Bool) → Decides b P → P ⊎ ¬ P
by_test true d = inl (d.0 refl)
by_test false d = inr (λ p. let e = d.1 p in absurd cc)

-- a word is a name or not
is_name : (word name : List ℕ) → (word ≡ name) ⊎ (word ≢ name)
is_name word name = by_test (bytes_eq word name) (bytes_eq-Decides word name)

-- texts that a test finds the same are, and those that it finds apart aren't
is_true : (b : Bool) → false ≡ not b → b ≡ true
is_true true e = refl
is_true false e = absurd cc

pub texts_same : {a b : List ℕ} → false ≡ not (bytes_eq a b) → a ≡ b
texts_same {a} {b} e = (bytes_eq-Decides a b).0 (is_true (bytes_eq a b) e)

pub texts_apart : {a b : List ℕ} → true ≡ not (bytes_eq a b) → a ≢ b
texts_apart {a} {b} e same = let found = (bytes_eq-Decides a b).1 same in absurd cc

-- a word is this name, which asks for a command, or asks for what it asks for otherwise
or_name : {word : List ℕ} (name : List ℕ) (asked : Command) → (word ∷ [] ≡ name ∷ [] → Asks (word ∷ []) asked)
    → (word ≢ name → IsListed (word ∷ []) ⊎ ¬ IsListed (word ∷ [])) → IsListed (word ∷ []) ⊎ ¬ IsListed (word ∷ [])
or_name {word} name asked asks others = elim (is_name word name) [ inl e ↦ inl (asked, asks (ap (λ w. w ∷ []) e)) | inr other ↦ others other ]

-- one word asks for a command or not
word_listed : (word : List ℕ) → IsListed (word ∷ []) ⊎ ¬ IsListed (word ∷ [])
word_listed word =
    or_name (codes "get") (Get First) get_word (λ get.
    or_name (codes "list") Items list_word (λ list.
    or_name (codes "edit") Edit edit_word (λ edit.
    or_name (codes "fill") Fill fill_word (λ fill.
    or_name (codes "fast") Fast fast_word (λ fast.
    or_name (codes "index") Index index_word (λ index.
    or_name (codes "lines") Lines lines_word (λ lines.
    or_name (codes "min") Min min_word (λ min.
    or_name (codes "patch") Patch patch_word (λ patch.
    inr (λ l. elim (only_named l) [
      | inl e ↦ get e
      | inr (inl e) ↦ list e
      | inr (inr (inl e)) ↦ edit e
      | inr (inr (inr (inl e))) ↦ fill e
      | inr (inr (inr (inr (inl e)))) ↦ fast e
      | inr (inr (inr (inr (inr (inl e))))) ↦ index e
      | inr (inr (inr (inr (inr (inr (inl e)))))) ↦ lines e
      | inr (inr (inr (inr (inr (inr (inr (inl e))))))) ↦ min e
      | inr (inr (inr (inr (inr (inr (inr (inr e))))))) ↦ patch e
    ]))))))))))

-- the words of `indent` ask for no more blanks than it takes
pub width_within : {words : List (List ℕ)} {n : ℕ} → Asks words (Indent n) → n ≤ most_blanks
width_within (indent_words e most) = most

-- the number that digits write is the one whose decimal they are
pub value_of_decimal : (n : ℕ) → n < 2 ^ 32 → digits_value 10 (decimal n) ≡ n
value_of_decimal n small = (decimal_is_IsNumeral n (omega arith)).1

-- numbers with one decimal are the same
pub decimal_one : (m n : ℕ) → m < 2 ^ 32 → n < 2 ^ 32 → decimal m ≡ decimal n → m ≡ n
decimal_one m n small low e = sym (value_of_decimal m small) ∙ ap (digits_value 10) e ∙ value_of_decimal n low

-- such a text is parsed as the number
pub parsed_number : {E : Type 0} {text : List ℕ} {n : ℕ} (r : Result ℕ E) → text ≡ decimal n → n < 2 ^ 32 → ParsesUnsigned 32 10 text r → r ≡ Ok n
parsed_number {text = text} {n} r e small p = parse-decimal 32 n text r (omega arith) (omega arith) e p

-- a text is the decimal of a number in a range, or of none
decimal_or_not : (least most : ℕ) → most < 2 ^ 32 → (text : List ℕ) → ((n : ℕ) × IsDecimalIn least most text n) ⊎ ((n : ℕ) → ¬ IsDecimalIn least most text n)
decimal_or_not least most small text =
    let n = digits_value 10 text in
    let only : (m : ℕ) → IsDecimalIn least most text m → n ≡ m = λ m c. let to = c.to in ap (digits_value 10) c.is ∙ value_of_decimal m (omega (arith, to, small)) in
    elim (is_name text (decimal n)) [
      | inr other ↦ inr (λ m c. other (c.is ∙ sym (ap decimal (only m c))))
      | inl e ↦ elim (cases_lt n least) [
        | inl low ↦ inr (λ m c. let same = only m c in let l = c.from in omega (arith, same, l, low))
        | inr from ↦ elim (cases_lt most n) [
          | inl high ↦ inr (λ m c. let same = only m c in let h = c.to in omega (arith, same, h, high))
          | inr to ↦ inl (n, record { is = e; from = from; to = to })
        ]
      ]
    ]

-- `gen` and a text ask for a command or not
gen_listed : (next : List ℕ) → IsListed (codes "gen" ∷ next ∷ []) ⊎ ¬ IsListed (codes "gen" ∷ next ∷ [])
gen_listed next = elim (decimal_or_not 1 most_objects (omega arith) next) [
  | inl (n, c) ↦ inl (Gen n, gen_words (rw c.is refl) c.from c.to)
  | inr none ↦ inr (λ l. elim (only_counted l) [ inl (e, (n, c)) ↦ none n c | inr (e, other) ↦ absurd cc ])
]

-- and `indent` and a text
indent_listed : (next : List ℕ) → IsListed (codes "indent" ∷ next ∷ []) ⊎ ¬ IsListed (codes "indent" ∷ next ∷ [])
indent_listed next = elim (decimal_or_not 0 most_blanks (omega arith) next) [
  | inl (n, c) ↦ inl (Indent n, indent_words (rw c.is refl) c.to)
  | inr none ↦ inr (λ l. elim (only_counted l) [ inl (e, other) ↦ absurd cc | inr (e, (n, c)) ↦ none n c ])
]

-- two words ask for a command or not
counted_listed : (word next : List ℕ) → IsListed (word ∷ next ∷ []) ⊎ ¬ IsListed (word ∷ next ∷ [])
counted_listed word next = elim (is_name word (codes "gen")) [
  | inl e ↦ rw e (gen_listed next)
  | inr first ↦ elim (is_name word (codes "indent")) [
    | inl e ↦ rw e (indent_listed next)
    | inr second ↦ inr (λ l. elim (only_counted l) [ inl (e, n) ↦ first e | inr (e, n) ↦ second e ])
  ]
]

-- each command but `gen` reads
pub reads_or_gen : (asked : Command) → Reads asked ⊎ ((n : ℕ) × (asked ≡ Gen n))
reads_or_gen (Get rule) = inl (λ n e. absurd cc)
reads_or_gen Items = inl (λ n e. absurd cc)
reads_or_gen Edit = inl (λ n e. absurd cc)
reads_or_gen Fill = inl (λ n e. absurd cc)
reads_or_gen Fast = inl (λ n e. absurd cc)
reads_or_gen (Indent width) = inl (λ n e. absurd cc)
reads_or_gen Index = inl (λ n e. absurd cc)
reads_or_gen Lines = inl (λ n e. absurd cc)
reads_or_gen Min = inl (λ n e. absurd cc)
reads_or_gen Patch = inl (λ n e. absurd cc)
reads_or_gen (Gen n) = inr (n, refl)

-- a word names a rule or none
rule_or_not : (word : List ℕ) → ((rule : KeyRule) × (word ≡ rule_word rule)) ⊎ ((rule : KeyRule) → word ≢ rule_word rule)
rule_or_not word = elim (is_name word (codes "first")) [
  | inl e ↦ inl (First, e)
  | inr first ↦ elim (is_name word (codes "last")) [
    | inl e ↦ inl (Last, e)
    | inr last ↦ elim (is_name word (codes "refuse")) [ inl e ↦ inl (Refuse, e) | inr refuse ↦ inr (unnamed_rule first last refuse) ]
  ]
]

-- three words ask for a command or not
ruled_listed : (word next last : List ℕ) → IsListed (word ∷ next ∷ last ∷ []) ⊎ ¬ IsListed (word ∷ next ∷ last ∷ [])
ruled_listed word next last = elim (is_name word (codes "get")) [
  | inr other ↦ inr (not_get other)
  | inl e ↦ elim (is_name next (codes "--keys")) [
    | inr other ↦ inr (not_keys other)
    | inl d ↦ elim (rule_or_not last) [ inl (rule, c) ↦ inl (Get rule, keys_words (rw (e, d, c) refl)) | inr none ↦ inr (no_rule none) ]
  ]
]

-- words ask for a command or not
pub listed_or_not : (words : List (List ℕ)) → IsListed words ⊎ ¬ IsListed words
listed_or_not [] = inl (Get First, no_word refl)
listed_or_not (word ∷ []) = word_listed word
listed_or_not (word ∷ next ∷ []) = counted_listed word next
listed_or_not (word ∷ next ∷ last ∷ []) = ruled_listed word next last
listed_or_not (word ∷ next ∷ last ∷ more ∷ words) = inr (four_unlisted word next last more words)
