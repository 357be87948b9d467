-- What is written of a value, and what is left of it.
use Rattle.std.proofs.Common.{◌≡◌, ◌∙◌, ap, sym, refl, arith, ℕ, ◌+◌, ◌-◌, ◌<◌, List, [], ◌∷◌, ◌++◌, length, take, drop, get_or, Option, Some, None, append_assoc}
use Rattle.std.proofs.lemmas.List.{take_all, append-nil}
use Rattle.std.specs.Option.{option_to_list}
use Rattle.std.proofs.Output.{has_written_append, has_written_of_eq}
use Rattle.std.specs.Fmt.{HasWritten, IsPlainFormatter}
use Rattle.std.specs.declared.fmt.Formatter.{Formatter}
use Rattle.sonic_owned.proofs.Folds.{members_of}
use Rattle.sonic_owned.specs.Forms.{text, members_text, named}
use Rattle.sonic_owned.specs.Internal.Bulks.{members_bulk}
use Rattle.sonic_owned.specs.Internal.Unwritten.{all_bulk, all_left, items_left, left_text, opened_text, opened_bulk}
use Rattle.sonic_owned.specs.Writing.{IsWrittenUpTo}
use Rattle.sonic_owned.specs.declared.value.unwritten.Unwritten.{Unwritten}
use Rattle.sonic_owned.specs.Views.{form}
use Rattle.sonic_owned.specs.declared.made.MadeText.{MadeText}
use Rattle.sonic_owned.specs.declared.value.OwnedLazyValue.{OwnedLazyValue}
use Rattle.sonic_text.specs.Quoting.{quoted}

-- the bytes of a first member, up to its value
member_apart : (before key value more end : List ℕ) → (before ++ (key ++ 58 ∷ [])) ++ (value ++ (more ++ end)) ≡ (before ++ ((key ++ 58 ∷ []) ++ (value ++ more))) ++ end
member_apart before key value more end = simp append_assoc refl

pub member_begun : (before : List ℕ) (ms : List (MadeText × OwnedLazyValue)) (l m : MadeText × OwnedLazyValue) → 0 < length ms
    → (before ++ (quoted (get_or ms 0 l).0.text ++ 58 ∷ [])) ++ (text (form (get_or ms 0 m).1) ++ (members_text (44 ∷ []) (named (members_of (take (length ms - 1) (drop 1 ms)))) ++ 125 ∷ []))
    ≡ members_text before (named (members_of ms)) ++ 125 ∷ []
member_begun before [] l m some = absurd (omega arith)
member_begun before (o ∷ ms) l m some =
    let whole : take (length (o ∷ ms) - 1) ms ≡ ms = take_all (length (o ∷ ms) - 1) ms (omega arith) in
    rw whole (member_apart before (quoted o.0.text) (text (form o.1)) (members_text (44 ∷ []) (named (members_of ms))) (125 ∷ []))

module _ {W : Type 0} {took : W → List ℕ → W → Type 0} where
  -- what is written first is begun with
  pub up_to : {f g : Formatter W} {bs : List ℕ} {rest all : List ℕ} → HasWritten took f bs g → bs ++ rest ≡ all → IsWrittenUpTo took f all rest g
  up_to {bs = bs} has whole = record { done = bs; has = has; whole = whole }

  -- and at first it is nothing
  pub nothing_written : {f : Formatter W} {all : List ℕ} → IsPlainFormatter f → IsWrittenUpTo took f all all f
  nothing_written plain = up_to (record { wrote = record { parts = []; calls = refl; whole = refl }; plain = plain }) refl

  -- and then the rest up to another one
  pub up_to_more : {f g h : Formatter W} {all part rest : List ℕ} → IsWrittenUpTo took f all part g → IsWrittenUpTo took g part rest h → IsWrittenUpTo took f all rest h
  up_to_more {rest = rest} x y = record {
    done = x.done ++ y.done;
    has = has_written_append _ _ _ _ _ _ x.has y.has;
    whole = append_assoc x.done y.done rest ∙ ap (λ l. x.done ++ l) y.whole ∙ x.whole;
  }

  -- or the rest of a part of it
  pub up_to_within : {f g h : Formatter W} {all part rest : List ℕ} (others : List ℕ) → IsWrittenUpTo took f all (part ++ others) g → IsWrittenUpTo took g part rest h
      → IsWrittenUpTo took f all (rest ++ others) h
  up_to_within {rest = rest} others x y = record {
    done = x.done ++ y.done;
    has = has_written_append _ _ _ _ _ _ x.has y.has;
    whole = append_assoc x.done y.done (rest ++ others) ∙ ap (λ l. x.done ++ l) (sym (append_assoc y.done rest others) ∙ ap (λ l. l ++ others) y.whole) ∙ x.whole;
  }

  -- where a part of what is left is written, what follows it is left
  pub up_to_past : {f g h : Formatter W} {all : List ℕ} (part rest others : List ℕ) → IsWrittenUpTo took f all ((part ++ rest) ++ others) g → HasWritten took g part h
      → IsWrittenUpTo took f all (rest ++ others) h
  up_to_past part rest others x y = record {
    done = x.done ++ part;
    has = has_written_append _ _ _ _ _ _ x.has y;
    whole = append_assoc x.done part (rest ++ others) ∙ ap (λ l. x.done ++ l) (sym (append_assoc part rest others)) ∙ x.whole;
  }

  -- or all of it
  pub up_to_end : {f g h : Formatter W} {all rest : List ℕ} → IsWrittenUpTo took f all rest g → HasWritten took g rest h → HasWritten took f all h
  up_to_end x y = has_written_of_eq _ _ _ _ _ x.whole (has_written_append _ _ _ _ _ _ x.has y)

  -- where nothing is left all is written
  pub all_written : {f g : Formatter W} {all : List ℕ} → IsWrittenUpTo took f all [] g → HasWritten took f all g
  all_written x = has_written_of_eq _ _ _ _ _ (sym (append-nil x.done) ∙ x.whole) x.has

-- with one more level open
pub opened_more : (us : List Unwritten) (u : Unwritten) → opened_text (us ++ u ∷ []) ≡ left_text u ++ opened_text us
opened_more [] u = sym (append-nil (left_text u))
opened_more (o ∷ us) u = ap (λ l. l ++ left_text o) (opened_more us u) ∙ append_assoc (left_text u) (opened_text us) (left_text o)

pub opened_bulk_more : (us : List Unwritten) (u : Unwritten) → opened_bulk (us ++ u ∷ []) ≡ opened_bulk us + (1 + members_bulk (items_left u))
opened_bulk_more [] u = omega arith
opened_bulk_more (o ∷ us) u = omega (arith, opened_bulk_more us u)

-- with one level fewer open
pub popped_text : (us left : List Unwritten) (o : Option Unwritten) → us ≡ left ++ option_to_list o → (o ≡ None → length us ≡ 0) → opened_text us ≡ all_left o left
popped_text us left (Some u) items none = ap opened_text items ∙ opened_more left u
popped_text [] left None items none = refl
popped_text (u ∷ us) left None items none = absurd (omega (arith, none refl))

pub popped_bulk : (us left : List Unwritten) (o : Option Unwritten) → us ≡ left ++ option_to_list o → (o ≡ None → length us ≡ 0) → opened_bulk us ≡ all_bulk o left
popped_bulk us left (Some u) items none = omega (arith, ap opened_bulk items, opened_bulk_more left u)
popped_bulk [] left None items none = refl
popped_bulk (u ∷ us) left None items none = absurd (omega (arith, none refl))
