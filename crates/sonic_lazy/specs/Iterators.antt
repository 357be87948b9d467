-- Iterators over the items of a container, and what a call of `next` gives.
use Rattle.std.specs.Prelude.{◌≡◌, ◌↔◌, ◌⊎◌, ℕ, ◌+◌, ◌<◌, Bool, true, false, List, Some, Result, IfOk, IfErr, IfSome, IfNone, IsSome, length, IsTrue, IsFalse}
use Rattle.std.specs.Cow.{IsBorrowedStr, cow_str_bytes}
use Rattle.std.specs.Str.{IsUtf8}
use Rattle.std.specs.declared.borrow.CowStr.{CowStr}
use Rattle.std.specs.declared.option.Option.{Option}
use Rattle.sonic_error.specs.declared.code.ErrorCode.{ErrorCode}
use Rattle.sonic_error.specs.declared.code.ErrorCode.TheVariants.{NoMemory}
use Rattle.sonic_error.specs.declared.error.Error.{Error}
use Rattle.sonic_error.specs.Errors.{error_code, IsErrorAt, IsPlainError}
use Rattle.sonic_text.specs.declared.kind.Kind.{Kind}
use Rattle.sonic_text.specs.declared.kind.Kind.TheVariants.{Array, Object}
use Rattle.sonic_text.specs.declared.stop.Stop.{Stop}
use Rattle.sonic_text.specs.Strings.{strict, IsString, IsEscapedString}
use Rattle.sonic_text.specs.Faults.{code_after_item}
use Rattle.sonic_parser.specs.Honest.{IsHonest}
use Rattle.sonic_lazy.specs.declared.lazyvalue.LazyValue.{LazyValue}
use Rattle.sonic_lazy.specs.Items.{Item, ItemsReach, IsItemAt, code_of_start, code_before_item, closed, stopped, EndsItems}
use Rattle.sonic_lazy.specs.LazyValues.{raw_bytes}
use Rattle.sonic_find.specs.Answers.{span_text}

-- an iterator: the kind of its container, the text that this begins, whether that came as bytes whose UTF-8 is looked at first, whether the iterator looks
-- at what it passes, how many items it gave, and whether it has ended
pub record IteratorState : Type 0 where
  pub kind : Kind
  pub text : List ℕ
  pub is_bytes : Bool
  pub checks : Bool
  pub given : ℕ
  pub ended : Bool

-- one that has given nothing
abbrev pub iterator_over : Kind → List ℕ → Bool → Bool → IteratorState
iterator_over kind t is_bytes checks = record { kind = kind; text = t; is_bytes = is_bytes; checks = checks; given = 0; ended = false }

-- the key of the member after n others has a backslash
pub record IsEscapedKey (t : List ℕ) (n : ℕ) : Type 0 where
  pub start : ℕ
  pub end : ℕ
  pub bytes : List ℕ
  pub before : ItemsReach t Object n start
  pub string : IsString strict t start end bytes
  pub escaped : IsEscapedString t start end

-- the value shows the element after n others
pub record ShowsElement (t : List ℕ) (n : ℕ) (value : LazyValue) : Type 0 where
  pub item : Item
  pub is : IsItemAt t Array n item
  pub shown : raw_bytes value ≡ span_text t item.span

-- the key and the value show the member after n others, and the key is borrowed exactly where it has no backslash
pub record ShowsMember {Z : Type 0} (t : List ℕ) (n : ℕ) (member : CowStr Z × LazyValue) : Type 0 where
  pub item : Item
  pub is : IsItemAt t Object n item
  pub key : item.label ≡ Some (cow_str_bytes member.0)
  pub borrowed : IsBorrowedStr member.0 ↔ ¬ IsEscapedKey t n
  pub shown : raw_bytes member.1 ≡ span_text t item.span

-- memory may run out at the next item: the iterator looks at what it passes, or the item's key has a backslash
abbrev pub TakesMemory : IteratorState → Type 0
TakesMemory it = IsTrue it.checks ⊎ (it.kind ≡ Object) × IsEscapedKey it.text it.given

-- there is a next item, of a text in UTF-8 where that is looked at
pub record HasNext (it : IteratorState) : Type 0 where
  pub going : IsFalse it.ended
  pub utf8 : IsTrue it.is_bytes → IsUtf8 it.text
  pub item : Item
  pub is : IsItemAt it.text it.kind it.given item

-- the error says why there is no next item, or memory ran out
pub data IsNextError (it : IteratorState) (e : Error) : Type 0 where
  out_of_memory : IsPlainError e NoMemory → TakesMemory it → IsNextError it e
  no_next_item : {s : Stop} → EndsItems it.text it.is_bytes it.kind it.given (stopped s) → IsErrorAt e s.code it.text s.place → IsNextError it e

-- the next item was given, of a text in UTF-8 where that is looked at
pub record IsGiven {V : Type 0} (Shows : List ℕ → ℕ → V → Type 0) (before now : IteratorState) (item : V) : Type 0 where
  pub going : IsFalse before.ended
  pub utf8 : IsTrue before.is_bytes → IsUtf8 before.text
  pub shown : Shows before.text before.given item
  pub within : before.given < length before.text
  pub moved : now ≡ record before { given = before.given + 1 }

-- an error was given, and the iterator has ended
pub record IsStuck (before now : IteratorState) (e : Error) : Type 0 where
  pub going : IsFalse before.ended
  pub error : IsNextError before e
  pub ended : now ≡ record before { given = now.given; ended = true }

-- nothing was given: the iterator had ended, or it has now come to the closing bracket
pub record IsOver (before now : IteratorState) : Type 0 where
  pub reason : IsTrue before.ended ⊎ EndsItems before.text before.is_bytes before.kind before.given closed
  pub ended : now ≡ record before { ended = true }

-- what a call of `next` gives of an iterator, and the iterator after it
pub record IsNext {V : Type 0} (Shows : List ℕ → ℕ → V → Type 0) (before now : IteratorState) (result : Option (Result V Error)) : Type 0 where
  pub item : IfSome result (λ r. IfOk r (IsGiven Shows before now))
  pub error : IfSome result (λ r. IfErr r (IsStuck before now))
  pub none : IfNone result (IsOver before now)
  -- an item that is there is given, unless memory runs out
  pub complete : HasNext before → IsSome result × IfSome result (λ r. IfErr r (λ e. IsPlainError e NoMemory))

-- a code for what a container of this kind itself lacks, which an iterator gives at the end of the text too
abbrev pub IsOwnCode : Kind → ErrorCode → Type 0
IsOwnCode kind code = (code ≡ code_of_start kind) ⊎ (code ≡ code_after_item kind) ⊎ (n : ℕ) × (code ≡ code_before_item kind n)

-- where the code is none of these, the error is honest
abbrev pub IsHonestNext : IteratorState → Error → Type 0
IsHonestNext it e = ¬ IsOwnCode it.kind (error_code e) → IsHonest strict it.text 0 e
