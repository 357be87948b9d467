-- What the members of an object say as an operation.
use Rattle.std.proofs.Common.{◌≡◌, ◌≢◌, ◌∙◌, ◌==◌, if◌then◌else◌, ap, ap₂, sym, refl, ℕ, List, [], ◌∷◌, codes, length, get_or, slice_range}
use Rattle.sonic_find.proofs.PathLemmas.Outcome.{evaluates_one}
use Rattle.sonic_owned.specs.Forms.{Form}
use Rattle.sonic_patch.specs.Internal.Texts.{valued_word, paired_word, word_text, Texts, of_remove, of_valued, of_paired, HasTexts, AreRead, Makes}
use Rattle.sonic_patch.specs.Operations.{Operation}
use Rattle.sonic_patch.specs.Pointers.{Token}
use Rattle.sonic_patch.specs.Reading.{HasMember, SaysText, SaysPointer, IsOperation, is_add, is_remove, is_replace, is_move, is_copy, is_test, IsSomeOperation, AnyText}
use Rattle.sonic_patch.specs.declared.parts.Paired.{Paired}
use Rattle.sonic_patch.specs.declared.parts.Paired.TheVariants.{Move, Copy}
use Rattle.sonic_patch.specs.declared.parts.Valued.{Valued}
use Rattle.sonic_patch.specs.declared.parts.Valued.TheVariants.{Add, Replace, Test}
use Rattle.sonic_patch.specs.declared.parts.Word.{Word}
use Rattle.sonic_patch.specs.declared.parts.Word.TheVariants as word
use Rattle.sonic_text.proofs.Strings.{string_one}
use Rattle.sonic_text.specs.Paths.{key}
use Rattle.sonic_text.specs.Strings.{strict, IsString}

-- a key has one first member
pub member_one : {o k v w : List ℕ} → HasMember o k v → HasMember o k w → v ≡ w
member_one {o} {k} x y =
    let same = evaluates_one (key k ∷ []) x.leads y.leads in
    let start : x.start ≡ y.start = cc in
    let end : x.end ≡ y.end = cc in
    x.is ∙ ap₂ (slice_range o) start end ∙ sym y.is

-- which denotes one text
pub text_one : {o k a b : List ℕ} → SaysText o k a → SaysText o k b → a ≡ b
text_one {a = a} x y =
    let own : IsString strict y.value 0 (length y.value) a = rw (member_one x.member y.member) at x.string in
    (string_one own y.string).1

-- the word that a text is, if it is one
pub word_back : List ℕ → Word
word_back t =
    if length t == 3 then word.Valued Add
    else if length t == 6 then word.Remove
    else if length t == 7 then word.Valued Replace
    else if get_or t 2 0 == 118 then word.Paired Move
    else if get_or t 2 0 == 112 then word.Paired Copy
    else word.Valued Test

pub word_again : (w : Word) → word_back (word_text w) ≡ w
unfolding word_back
word_again word.Remove = refl
word_again (word.Valued Add) = refl
word_again (word.Valued Replace) = refl
word_again (word.Valued Test) = refl
word_again (word.Paired Move) = refl
word_again (word.Paired Copy) = refl

-- so the words differ
pub word_one : (a b : Word) → word_text a ≡ word_text b → a ≡ b
word_one a b e = sym (word_again a) ∙ ap word_back e ∙ word_again b

-- the word and the path among texts
abbrev pub word_of : Texts → Word
word_of (of_remove path) = word.Remove
word_of (of_valued w path value) = word.Valued w
word_of (of_paired w from path) = word.Paired w

abbrev pub path_of : Texts → List ℕ
path_of (of_remove path) = path
path_of (of_valued w path value) = path
path_of (of_paired w from path) = path

pub has_word : {o : List ℕ} (texts : Texts) → HasTexts o texts → SaysText o (codes "op") (word_text (word_of texts))
has_word (of_remove path) has = has.0
has_word (of_valued w path value) has = has.0
has_word (of_paired w from path) has = has.0

pub has_path : {o : List ℕ} (texts : Texts) → HasTexts o texts → SaysText o (codes "path") (path_of texts)
has_path (of_remove path) has = has.1
has_path (of_valued w path value) has = has.1
has_path (of_paired w from path) has = has.1

-- an object has one list of texts
texts_same : (o : List ℕ) (a b : Texts) → HasTexts o a → HasTexts o b → word_of a ≡ word_of b → path_of a ≡ path_of b → a ≡ b
texts_same o (of_remove p) (of_remove q) x y e f = ap of_remove f
texts_same o (of_remove p) (of_valued w q v) x y e f = absurd cc
texts_same o (of_remove p) (of_paired w g q) x y e f = absurd cc
texts_same o (of_valued w p v) (of_remove q) x y e f = absurd cc
texts_same o (of_valued w p v) (of_valued u q r) x y e f =
    let words : w ≡ u = cc in
    rw (words, f, member_one x.2 y.2) refl
texts_same o (of_valued w p v) (of_paired u g q) x y e f = absurd cc
texts_same o (of_paired w h p) (of_remove q) x y e f = absurd cc
texts_same o (of_paired w h p) (of_valued u q r) x y e f = absurd cc
texts_same o (of_paired w h p) (of_paired u g q) x y e f =
    let words : w ≡ u = cc in
    rw (words, f, text_one x.2 y.2) refl

pub texts_one : (o : List ℕ) (a b : Texts) → HasTexts o a → HasTexts o b → a ≡ b
texts_one o a b x y = texts_same o a b x y (word_one (word_of a) (word_of b) (text_one (has_word a x) (has_word b y))) (text_one (has_path a x) (has_path b y))

-- an operation is what its texts make
pub record IsOfTexts (Reads : List ℕ → List Token → Type 0) (o : List ℕ) (op : Operation Form) : Type 0 where
  pub texts : Texts
  pub has : HasTexts o texts
  pub makes : Makes Reads texts op

pub to_texts : {Reads : List ℕ → List Token → Type 0} {o : List ℕ} {op : Operation Form} → IsOperation Reads o op → IsOfTexts Reads o op
to_texts (is_add {value = v} w p m) = record { texts = of_valued Add p.text v; has = (w, p.says, m); makes = (_, p.reads, refl) }
to_texts (is_remove w p) = record { texts = of_remove p.text; has = (w, p.says); makes = (_, p.reads, refl) }
to_texts (is_replace {value = v} w p m) = record { texts = of_valued Replace p.text v; has = (w, p.says, m); makes = (_, p.reads, refl) }
to_texts (is_move w f p) = record { texts = of_paired Move f.text p.text; has = (w, p.says, f.says); makes = (_, _, f.reads, p.reads, refl) }
to_texts (is_copy w f p) = record { texts = of_paired Copy f.text p.text; has = (w, p.says, f.says); makes = (_, _, f.reads, p.reads, refl) }
to_texts (is_test {value = v} w p m) = record { texts = of_valued Test p.text v; has = (w, p.says, m); makes = (_, p.reads, refl) }

-- a pointer by its text
pointer_of : {Reads : List ℕ → List Token → Type 0} {o k t : List ℕ} {tokens : List Token} → SaysText o k t → Reads t tokens → SaysPointer Reads o k tokens
pointer_of x r = record { text = _; says = x; reads = r }

pub of_texts : {Reads : List ℕ → List Token → Type 0} {o : List ℕ} {op : Operation Form} (texts : Texts) → HasTexts o texts → Makes Reads texts op → IsOperation Reads o op
of_texts (of_remove p) has makes = rw makes.2 (is_remove has.0 (pointer_of has.1 makes.1))
of_texts (of_valued Add p v) has makes = rw makes.2 (is_add has.0 (pointer_of has.1 makes.1) has.2)
of_texts (of_valued Replace p v) has makes = rw makes.2 (is_replace has.0 (pointer_of has.1 makes.1) has.2)
of_texts (of_valued Test p v) has makes = rw makes.2 (is_test has.0 (pointer_of has.1 makes.1) has.2)
of_texts (of_paired Move f p) has makes = rw makes.4 (is_move has.0 (pointer_of has.2 makes.2) (pointer_of has.1 makes.3))
of_texts (of_paired Copy f p) has makes = rw makes.4 (is_copy has.0 (pointer_of has.2 makes.2) (pointer_of has.1 makes.3))

-- any texts are read
pub any_read : (texts : Texts) → AreRead AnyText texts
any_read (of_remove p) = ([], tt)
any_read (of_valued w p v) = ([], tt)
any_read (of_paired w f p) = (([], tt), ([], tt))

-- some operation is made where the pointers are read
pub some_of : {Reads : List ℕ → List Token → Type 0} {o : List ℕ} (texts : Texts) → HasTexts o texts → AreRead Reads texts → IsSomeOperation Reads o
some_of (of_remove p) has read = (_, of_texts (of_remove p) has (read.0, read.1, refl))
some_of (of_valued w p v) has read = (_, of_texts (of_valued w p v) has (read.0, read.1, refl))
some_of (of_paired w f p) has read = (_, of_texts (of_paired w f p) has (read.0.0, read.1.0, read.0.1, read.1.1, refl))

pub made_read : (Reads : List ℕ → List Token → Type 0) (op : Operation Form) (texts : Texts) → Makes Reads texts op → AreRead Reads texts
made_read Reads op (of_remove p) makes = (makes.0, makes.1)
made_read Reads op (of_valued w p v) makes = (makes.0, makes.1)
made_read Reads op (of_paired w f p) makes = ((makes.0, makes.2), (makes.1, makes.3))

pub read_of : {Reads : List ℕ → List Token → Type 0} {o : List ℕ} (texts : Texts) → HasTexts o texts → IsSomeOperation Reads o → AreRead Reads texts
read_of {Reads} {o} texts has some =
    let x = to_texts some.1 in
    let own : Makes Reads texts some.0 = rw (texts_one o x.texts texts x.has has) at x.makes in
    made_read Reads some.0 texts own

-- an object whose `op` is no word, or that has no path, is no operation
pub no_op : {Reads : List ℕ → List Token → Type 0} {o : List ℕ} → ((b : List ℕ) → ¬ SaysText o (codes "op") b) → ¬ IsSomeOperation Reads o
no_op none some = let x = to_texts some.1 in none (word_text (word_of x.texts)) (has_word x.texts x.has)

pub no_word : {Reads : List ℕ → List Token → Type 0} {o b : List ℕ} → SaysText o (codes "op") b → ((w : Word) → b ≢ word_text w) → ¬ IsSomeOperation Reads o
no_word op none some = let x = to_texts some.1 in none (word_of x.texts) (text_one op (has_word x.texts x.has))

pub no_path : {Reads : List ℕ → List Token → Type 0} {o : List ℕ} → ((b : List ℕ) → ¬ SaysText o (codes "path") b) → ¬ IsSomeOperation Reads o
no_path none some = let x = to_texts some.1 in none (path_of x.texts) (has_path x.texts x.has)

-- or lacks what its word needs
pub lacks_value : {o : List ℕ} {w : Valued} (texts : Texts) → HasTexts o texts → word_of texts ≡ word.Valued w → ((v : List ℕ) → ¬ HasMember o (codes "value") v) → ⊥
lacks_value (of_remove p) has e none = absurd cc
lacks_value (of_valued u p v) has e none = none v has.2
lacks_value (of_paired u f p) has e none = absurd cc

pub no_value : {Reads : List ℕ → List Token → Type 0} {o : List ℕ} (w : Valued) → SaysText o (codes "op") (valued_word w)
    → ((v : List ℕ) → ¬ HasMember o (codes "value") v) → ¬ IsSomeOperation Reads o
no_value w op none some =
    let x = to_texts some.1 in
    lacks_value x.texts x.has (word_one (word_of x.texts) (word.Valued w) (text_one (has_word x.texts x.has) op)) none

pub lacks_from : {o : List ℕ} {w : Paired} (texts : Texts) → HasTexts o texts → word_of texts ≡ word.Paired w → ((b : List ℕ) → ¬ SaysText o (codes "from") b) → ⊥
lacks_from (of_remove p) has e none = absurd cc
lacks_from (of_valued u p v) has e none = absurd cc
lacks_from (of_paired u f p) has e none = none f has.2

pub no_from : {Reads : List ℕ → List Token → Type 0} {o : List ℕ} (w : Paired) → SaysText o (codes "op") (paired_word w)
    → ((b : List ℕ) → ¬ SaysText o (codes "from") b) → ¬ IsSomeOperation Reads o
no_from w op none some =
    let x = to_texts some.1 in
    lacks_from x.texts x.has (word_one (word_of x.texts) (word.Paired w) (text_one (has_word x.texts x.has) op)) none

-- where the member's value denotes nothing, the object says nothing by its key
pub none_denoted : {o k v : List ℕ} → HasMember o k v → ((b : List ℕ) → ¬ IsString strict v 0 (length v) b) → (b : List ℕ) → ¬ SaysText o k b
none_denoted {v = v} m none b x =
    let own : IsString strict v 0 (length v) b = rw (member_one x.member m) at x.string in
    none b own
