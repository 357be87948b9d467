-- A text says one list of operations, or has one reason.
use Rattle.std.proofs.Common.{◌≡◌, ◌∙◌, ◌+◌, ap, ap₂, sym, refl, ℕ, List, ◌∷◌}
use Rattle.std.specs.Str.{IsUtf8}
use Rattle.sonic_find.proofs.DocumentLemmas.{alone_never_invalid, reason_one}
use Rattle.sonic_find.specs.Documents.{IsDocumentValue}
use Rattle.sonic_owned.proofs.DocumentLemmas.{value_one}
use Rattle.sonic_owned.specs.Forms.{Form, raw}
use Rattle.sonic_patch.proofs.DecisionLemmas.{text_says}
use Rattle.sonic_patch.proofs.ElementLemmas.{elements_one}
use Rattle.sonic_patch.proofs.OperationLemmas.{texts_one, to_texts, some_of, made_read, any_read}
use Rattle.sonic_patch.proofs.PieceLemmas.{tokens_one}
use Rattle.sonic_patch.specs.Internal.Texts.{valued, paired, Texts, of_remove, of_valued, of_paired, AreRead, Makes}
use Rattle.sonic_patch.specs.Laws.{SaysOneThing}
use Rattle.sonic_patch.specs.Operations.{Operation, remove}
use Rattle.sonic_patch.specs.Pointers.{Token, SaysTokens, SaysFewTokens}
use Rattle.sonic_patch.specs.Reading.{IsOperation, AnyText, IsSomeOperation, Fault, HasFault, no_shape, no_pointers, long_pointers, AreOperations, no_operation, one_more_operation, IsFirstFault, fault_here, fault_later, AreItemTexts, IsArrayOf, SaysPatch, Reason, no_json, no_operation_at, HasReason, is_invalid, is_other, has_first_fault}

-- texts make one operation
makes_one : (texts : Texts) (a b : Operation Form) → Makes SaysFewTokens texts a → Makes SaysFewTokens texts b → a ≡ b
makes_one (of_remove p) a b x y = x.2 ∙ ap remove (tokens_one x.1.0 y.1.0 refl) ∙ sym y.2
makes_one (of_valued w p v) a b x y = x.2 ∙ ap (λ ts. valued w ts (raw v)) (tokens_one x.1.0 y.1.0 refl) ∙ sym y.2
makes_one (of_paired w f p) a b x y =
    x.4 ∙ ap₂ (λ fs ts. paired w fs ts) (tokens_one x.2.0 y.2.0 refl) (tokens_one x.3.0 y.3.0 refl) ∙ sym y.4

-- so an object is one operation
operation_one : {o : List ℕ} {a b : Operation Form} → IsOperation SaysFewTokens o a → IsOperation SaysFewTokens o b → a ≡ b
operation_one {o} {a} {b} x y =
    let first = to_texts x in
    let other = to_texts y in
    let own : Makes SaysFewTokens other.texts a = rw (texts_one o first.texts other.texts first.has other.has) at first.makes in
    makes_one other.texts a b own other.makes

-- what reads more pointers makes more operations
read_weaker : (R Q : List ℕ → List Token → Type 0) → ((t : List ℕ) (tokens : List Token) → R t tokens → Q t tokens) → (texts : Texts) → AreRead R texts → AreRead Q texts
read_weaker R Q f (of_remove p) x = (x.0, f p x.0 x.1)
read_weaker R Q f (of_valued w p v) x = (x.0, f p x.0 x.1)
read_weaker R Q f (of_paired w g p) x = ((x.0.0, f g x.0.0 x.0.1), (x.1.0, f p x.1.0 x.1.1))

any_some : {R : List ℕ → List Token → Type 0} {o : List ℕ} → IsSomeOperation R o → IsSomeOperation AnyText o
any_some some = let x = to_texts some.1 in some_of x.texts x.has (any_read x.texts)

few_some : {o : List ℕ} {op : Operation Form} → IsOperation SaysFewTokens o op → IsSomeOperation SaysTokens o
few_some {op = op} is =
    let x = to_texts is in
    some_of x.texts x.has (read_weaker SaysFewTokens SaysTokens (λ t tokens r. r.0) x.texts (made_read SaysFewTokens op x.texts x.makes))

-- an object has one fault, and an operation none
fault_one : {o : List ℕ} {f g : Fault} → HasFault o f → HasFault o g → f ≡ g
fault_one (no_shape n) (no_shape m) = refl
fault_one (no_shape n) (no_pointers s m) = absurd (n s)
fault_one (no_shape n) (long_pointers s m) = absurd (n (any_some s))
fault_one (no_pointers s n) (no_shape m) = absurd (m s)
fault_one (no_pointers s n) (no_pointers r m) = refl
fault_one (no_pointers s n) (long_pointers r m) = absurd (n r)
fault_one (long_pointers s n) (no_shape m) = absurd (m (any_some s))
fault_one (long_pointers s n) (no_pointers r m) = absurd (m s)
fault_one (long_pointers s n) (long_pointers r m) = refl

never_faulty : {o : List ℕ} {op : Operation Form} {f : Fault} → IsOperation SaysFewTokens o op → HasFault o f → ⊥
never_faulty {op = op} is (no_shape n) = n (any_some (op, is))
never_faulty is (no_pointers s n) = n (few_some is)
never_faulty {op = op} is (long_pointers s n) = n (op, is)

-- so with elements
operations_one : {es fs : List (List ℕ)} {a b : List (Operation Form)} → AreOperations es a → AreOperations fs b → es ≡ fs → a ≡ b
operations_one no_operation no_operation e = refl
operations_one no_operation (one_more_operation y ys) e = absurd cc
operations_one (one_more_operation x xs) no_operation e = absurd cc
operations_one (one_more_operation {element = o} {elements = es} {op = a} x xs) (one_more_operation {element = p} {elements = fs} {op = b} y ys) e =
    let first : o ≡ p = cc in
    let rest : es ≡ fs = cc in
    let own : IsOperation SaysFewTokens p a = rw first at x in
    ap₂ (λ op ops. op ∷ ops) (operation_one own y) (operations_one xs ys rest)

first_fault_one : {es fs : List (List ℕ)} {n m : ℕ} {f g : Fault} → IsFirstFault es n f → IsFirstFault fs m g → es ≡ fs → (n ≡ m) × (f ≡ g)
first_fault_one {f = f} (fault_here {element = o} x z) (fault_here {element = p} y w) e =
    let first : o ≡ p = cc in
    let own : HasFault p f = rw first at x in
    (z ∙ sym w, fault_one own y)
first_fault_one {f = f} (fault_here {element = o} x z) (fault_later {element = p} y ys w) e =
    let first : o ≡ p = cc in
    let own : HasFault p f = rw first at x in
    absurd (never_faulty y own)
first_fault_one {g = g} (fault_later {element = o} x xs z) (fault_here {element = p} y w) e =
    let first : p ≡ o = cc in
    let own : HasFault o g = rw first at y in
    absurd (never_faulty x own)
first_fault_one (fault_later {elements = es} x xs z) (fault_later {elements = fs} y ys w) e =
    let rest : es ≡ fs = cc in
    let same = first_fault_one xs ys rest in
    (z ∙ ap (λ n. n + 1) same.0 ∙ sym w, same.1)

never_at_fault : {es fs : List (List ℕ)} {ops : List (Operation Form)} {n : ℕ} {f : Fault} → AreOperations es ops → IsFirstFault fs n f → es ≡ fs → ⊥
never_at_fault no_operation (fault_here y w) e = absurd cc
never_at_fault no_operation (fault_later y ys w) e = absurd cc
never_at_fault (one_more_operation {element = o} {op = a} x xs) (fault_here {element = p} y w) e =
    let first : o ≡ p = cc in
    let own : IsOperation SaysFewTokens p a = rw first at x in
    never_faulty own y
never_at_fault (one_more_operation {elements = es} x xs) (fault_later {elements = fs} y ys w) e =
    let rest : es ≡ fs = cc in
    never_at_fault xs ys rest

-- a document is one array
array_one : {t : List ℕ} {xs ys : List (List ℕ)} → IsArrayOf t xs → IsArrayOf t ys → xs ≡ ys
array_one {xs = xs} x y =
    let own : AreItemTexts y.array xs = rw (value_one x.value y.value) at x.elements in
    elements_one own y.elements

array_or_other : {t b : List ℕ} {es : List (List ℕ)} → IsDocumentValue t b → ((texts : List (List ℕ)) → ¬ AreItemTexts b texts) → IsArrayOf t es → ⊥
array_or_other {b = b} {es} value none x =
    let own : AreItemTexts b es = rw (value_one x.value value) at x.elements in
    none es own

-- so a text has one reason
reason_same : {t : List ℕ} {a b : Reason} → HasReason t a → HasReason t b → a ≡ b
reason_same (is_invalid x) (is_invalid y) = ap no_json (reason_one x y)
reason_same (is_invalid x) (is_other v none) = absurd (alone_never_invalid v.alone x)
reason_same (is_invalid x) (has_first_fault y f) = absurd (alone_never_invalid y.value.alone x)
reason_same (is_other v none) (is_invalid y) = absurd (alone_never_invalid v.alone y)
reason_same (is_other v none) (is_other w never) = refl
reason_same (is_other v none) (has_first_fault y f) = absurd (array_or_other v none y)
reason_same (has_first_fault x f) (is_invalid y) = absurd (alone_never_invalid x.value.alone y)
reason_same (has_first_fault x f) (is_other v none) = absurd (array_or_other v none x)
reason_same (has_first_fault x f) (has_first_fault y g) = let same = first_fault_one f g (array_one x y) in ap₂ no_operation_at same.0 same.1

-- and says one patch
patch_one : {t : List ℕ} {a b : List (Operation Form)} → SaysPatch t a → SaysPatch t b → a ≡ b
patch_one x y = operations_one x.are y.are (array_one x.array y.array)

-- and never has both
never_both : {t : List ℕ} {ops : List (Operation Form)} {reason : Reason} → SaysPatch t ops → HasReason t reason → ⊥
never_both x (is_invalid y) = alone_never_invalid x.array.value.alone y
never_both x (is_other v none) = array_or_other v none x.array
never_both x (has_first_fault y f) = never_at_fault x.are f (array_one x.array y)

pub says_one_thing : (t : List ℕ) → IsUtf8 t → SaysOneThing t
says_one_thing t utf8 = record {
  some = text_says t utf8;
  one_list = λ a b x y. patch_one x y;
  one_reason = λ a b x y. reason_same x y;
  never_both = λ ops reason x y. never_both x y;
}
