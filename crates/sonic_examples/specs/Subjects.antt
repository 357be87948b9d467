-- What the gateway answers of a request's body.
use Rattle.std.specs.Prelude.{◌≡◌, ◌≢◌, ℕ, true, List, [], ◌∷◌, codes}
use Rattle.std.specs.declared.borrow.CowStr.{CowStr}
use Rattle.sonic_error.specs.Codes.{category_of}
use Rattle.sonic_error.specs.Errors.{error_code, error_line, error_column}
use Rattle.sonic_error.specs.declared.code.Category.{Category}
use Rattle.sonic_error.specs.declared.code.Category.TheVariants.{Io, Syntax, TypeUnmatched, NotFound, Eof, Memory}
use Rattle.sonic_error.specs.declared.error.Error.{Error}
use Rattle.sonic_text.specs.Paths.{Path, key}
use Rattle.sonic_lazy.specs.declared.lazyvalue.LazyValue.{LazyValue}
use Rattle.sonic_find.specs.Causes.{IsGetRefusal}
use Rattle.sonic_lazy.specs.LazyValues.{raw_bytes}
use Rattle.sonic_lazy.specs.Scalars.{text, scalar_of}
use Rattle.sonic_lazy.specs.Shown.{IsValueOf}
use Rattle.sonic_lazy.specs.StringTexts.{IsTextOf}
use Rattle.sonic_examples.specs.declared.gateway.Rejection.{Rejection}
use Rattle.sonic_examples.specs.declared.gateway.Rejection.TheVariants.{Missing, WrongType, Broken, OutOfMemory}

-- where the subject is
abbrev pub subject_path : Path
subject_path = key (codes "token") ∷ key (codes "sub") ∷ []

-- how an error of a family at this line and column turns a request away
abbrev pub rejection_for : Category → ℕ → ℕ → Rejection
rejection_for NotFound line column = Missing
rejection_for TypeUnmatched line column = WrongType
rejection_for Memory line column = OutOfMemory
rejection_for Syntax line column = Broken line column
rejection_for Eof line column = Broken line column
rejection_for Io line column = Broken line column

abbrev pub rejection_of : Error → Rejection
rejection_of error = rejection_for (category_of (error_code error)) (error_line error) (error_column error)

-- the text is what the string at the path denotes, borrowed where that has no backslash
pub record IsSubject {Z : Type 0} (body : List ℕ) (subject : CowStr Z) : Type 0 where
  pub value : LazyValue
  pub found : IsValueOf body true subject_path value
  pub denoted : IsTextOf (raw_bytes value) subject

-- why there is none
pub data IsRejection (body : List ℕ) (r : Rejection) : Type 0 where
  not_found : {error : Error} → IsGetRefusal body true subject_path error → r ≡ rejection_of error → IsRejection body r
  no_string : {value : LazyValue} → IsValueOf body true subject_path value → scalar_of (raw_bytes value) ≢ text → r ≡ WrongType → IsRejection body r
  no_memory : r ≡ OutOfMemory → IsRejection body r
