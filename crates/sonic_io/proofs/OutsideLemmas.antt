-- What a source over memory gave, and what a sink took of several pieces.
use Rattle.std.proofs.Common.{◌≡◌, ℕ, ◌+◌, ◌-◌, ◌≤◌, List, [], ◌++◌, length, take, drop, refl, sym, ap, ◌∙◌, append_assoc, append-nil, arith, take-add, take-append-drop}
use Rattle.std.specs.Prelude.{Some, None, Ok, Err, OnOk, OnErr, replicate}
use Rattle.std.specs.declared.result.Result.{Result}
use Rattle.std.specs.declared.option.Option.{Option}
use Rattle.std.specs.Io.KnownBytes.{append_known}
use Rattle.std.proofs.lemmas.List.{take_rest, replicate-append-replicate}
use Rattle.sonic_io.specs.Outside.{Gave, Took, TookPrefix}

-- of one byte so many times, a first part of them and the rest are all
pub given_again : (byte times count : ℕ) (room : List ℕ) → count ≤ times → take count room ≡ replicate count byte
    → Gave (Some (replicate times byte)) (Some (replicate (times - count) byte)) (take count room)
given_again byte times count room within copied =
    let all : count + (times - count) ≡ times = omega arith in
    rw (copied, replicate-append-replicate count (times - count) byte, all) refl

-- what holds at all holds of a value
pub on_ok : {A E : Type 0} (result : Result A E) (P : Type 0) → P → OnOk result P
on_ok (Ok value) P holds = holds
on_ok (Err error) P holds = tt

-- what holds at all holds of an error
pub on_err : {A E : Type 0} (result : Result A E) (P : Type 0) → P → OnErr result P
on_err (Ok value) P holds = tt
on_err (Err error) P holds = holds

-- what follows from what holds of a value holds of it
pub if_ok : {A E : Type 0} (result : Result A E) {P Q : Type 0} → (P → Q) → OnOk result P → OnOk result Q
if_ok (Ok value) follows holds = follows holds
if_ok (Err error) follows holds = tt

-- what follows from what holds of an error holds of it
pub if_err : {A E : Type 0} (result : Result A E) {P Q : Type 0} → (P → Q) → OnErr result P → OnErr result Q
if_err (Ok value) follows holds = tt
if_err (Err error) follows holds = follows holds

-- a text, and then another, are both
pub took_both : (before between after : Option (List ℕ)) (xs ys : List ℕ) → Took before between xs → Took between after ys → Took before after (xs ++ ys)
took_both None between after xs ys first second = second ∙ ap (λ known. append_known known ys) first
took_both (Some bytes) between after xs ys first second = second ∙ ap (λ known. append_known known ys) first ∙ ap Some (append_assoc bytes xs ys)

-- a prefix, and then a prefix of the rest, is a longer prefix
pub took_more : (before between after : Option (List ℕ)) (bytes : List ℕ) (m n : ℕ)
    → Took before between (take m bytes)
    → Took between after (take n (take (length bytes - m) (drop m bytes)))
    → Took before after (take (m + n) bytes)
took_more before between after bytes m n first second =
    took_both before between after _ _ first (second ∙ ap (λ rest. append_known between (take n rest)) (take_rest bytes m))
    ∙ ap (append_known before) (sym (take-add m n bytes))

-- the first bytes are a prefix
pub took_first : (before after : Option (List ℕ)) (bytes : List ℕ) (count : ℕ) → Took before after (take count bytes) → TookPrefix before after bytes
took_first before after bytes count taken = (take count bytes, drop count bytes, sym (take-append-drop count bytes), taken)

-- the whole is a prefix of itself
pub took_whole : (before after : Option (List ℕ)) (bytes : List ℕ) → Took before after bytes → TookPrefix before after bytes
took_whole before after bytes taken = (bytes, [], sym (append-nil bytes), taken)

-- a prefix of the first is a prefix of both
pub prefix_of_first : (before after : Option (List ℕ)) (xs ys : List ℕ) → TookPrefix before after xs → TookPrefix before after (xs ++ ys)
prefix_of_first before after xs ys (part, rest, e, taken) = (part, rest ++ ys, ap (λ all. all ++ ys) e ∙ append_assoc part rest ys, taken)

-- so is the first and a prefix of the other
pub prefix_of_both : (before between after : Option (List ℕ)) (xs ys : List ℕ) → Took before between xs → TookPrefix between after ys
    → TookPrefix before after (xs ++ ys)
prefix_of_both before between after xs ys first (part, rest, e, taken) =
    (xs ++ part, rest, ap (λ all. xs ++ all) e ∙ sym (append_assoc xs part rest), took_both before between after xs part first taken)
